-- The first operation of a session that a search of scripts finds: by client, item and operation.
use Rattle.std.specs.Prelude.{ℕ, List, Option, None, option_map, slice_get}
use Rattle.std.specs.List.{enumerate_from, filter_map, flat_map}
use Rattle.txn_model.specs.declared.op.Op.{Op}
use Rattle.catalogue.specs.Plan.{PlainItem, Run, Lose}
use Rattle.session_reader.specs.declared.fault.OpAt.{OpAt}

-- what is found in an item; a loss of the switch has no operation
abbrev pub first_in_item : (List Op → Option ℕ) → PlainItem → Option ℕ
first_in_item find (Run ops) = find ops
first_in_item find Lose = None

-- what is found in an item of the client, with its number in front
abbrev pub found_in : (List Op → Option ℕ) → ℕ → ℕ × PlainItem → Option OpAt
found_in find client item = option_map (λ op. record { client = client; seq = item.0; op = op }) (first_in_item find item.1)

-- what is found in each item of the client, whose items are counted from 1
abbrev pub found_of : (List Op → Option ℕ) → ℕ → List PlainItem → List OpAt
found_of find client items = filter_map (found_in find client) (enumerate_from 1 items)

-- what is found in all items, client by client
abbrev pub all_found : (List Op → Option ℕ) → List (List PlainItem) → List OpAt
all_found find clients = flat_map (λ c. found_of find c.0 c.1) (enumerate_from 0 clients)

-- the first of it
abbrev pub first_place : (List Op → Option ℕ) → List (List PlainItem) → Option OpAt
first_place find clients = slice_get (all_found find clients) 0
