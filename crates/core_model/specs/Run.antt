-- The clients and the store of a session before its first move.
use Rattle.std.specs.Prelude.{ℤ, List, [], ◌∷◌, map, length}
use Rattle.std.specs.FinMap as fin
use Rattle.txn_model.specs.declared.op.TupleId.{TupleId}
use Rattle.catalogue.specs.Plan.{PlainItem}
use Rattle.core_model.specs.State.{ClientState, Store, at_item, first_seen, zero_stamp}

-- each tuple with its first value and the stamp 0.0
abbrev pub first_rows : List (TupleId × ℤ) → Store
first_rows [] = fin.empty
first_rows (row ∷ rows) = fin.insert (first_rows rows) row.0 (first_seen row.1)

-- each client at its first item
abbrev pub first_clients : List (List PlainItem) → List ClientState
first_clients lists = map (λ items. at_item (length items) 1 zero_stamp) lists
