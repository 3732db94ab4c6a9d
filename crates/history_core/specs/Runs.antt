-- Which items of a session can have an entry.
use Rattle.std.specs.Prelude.{ℕ, ◌-◌, ◌==◌, List, [], map, length, slice_get, slice_index_or, Option, Some, None, option_and_then, if◌then◌else◌}
use Rattle.catalogue.specs.Plan.{Plan, PlainItem, Run, Lose}

-- for each client, how many operations each of its items has; None where that is no transaction
abbrev pub Runs : Type 0
Runs = List (List (Option ℕ))

abbrev pub ops_of : PlainItem → Option ℕ
ops_of (Run ops) = Some (length ops)
ops_of Lose = None

-- those of a session
abbrev pub runs_of : Plan → Runs
runs_of plan = map (map ops_of) plan.clients

-- the number of operations of a client's item, counted from 1; None where there is no such item
abbrev pub ops_in : List (Option ℕ) → ℕ → Option ℕ
ops_in ops seq = if seq == 0 then None else option_and_then (λ n. n) (slice_get ops (seq - 1))

-- the number of operations of the transaction that is this item of the client; None where there is none
abbrev pub ops_at : Runs → ℕ → ℕ → Option ℕ
ops_at runs client seq = ops_in (slice_index_or runs client []) seq
