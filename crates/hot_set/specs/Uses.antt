-- The tuples that a session's transactions use. A use is one operation of one transaction.
use Rattle.std.specs.Prelude.{ℕ, List, [], map}
use Rattle.std.specs.List.{count_by, flat_map}
use Rattle.txn_model.specs.declared.op.TupleId.{TupleId}
use Rattle.stage_layout.specs.Layout.{same_tuple}
use Rattle.catalogue.specs.Plan.{Plan, PlainItem, Run, Lose}

-- the tuple of each operation of an item; a loss has no operation
abbrev pub tuples_in : PlainItem → List TupleId
tuples_in (Run ops) = map (λ op. op.tuple) ops
tuples_in Lose = []

-- the tuple of each operation of each transaction: each tuple as often as it is used
abbrev pub used_tuples : Plan → List TupleId
used_tuples plan = flat_map (λ items. flat_map tuples_in items) plan.clients

-- how often a tuple is among these
abbrev pub times : List TupleId → TupleId → ℕ
times used t = count_by (λ u. same_tuple u t) used
