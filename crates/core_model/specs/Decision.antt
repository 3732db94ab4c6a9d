-- How a transaction on hosts is decided: its reply, its stamp and its place in the history.
use Rattle.std.specs.Prelude.{◌+◌, List, [], ◌∷◌, filter, not}
use Rattle.txn_model.specs.declared.op.Op.{Op}
use Rattle.txn_model.specs.declared.pairs.Pair.{Pair}
use Rattle.txn_model.specs.declared.stamp.Seen.{Seen}
use Rattle.txn_model.specs.declared.stamp.Stamp.{Stamp}
use Rattle.history_model.specs.History.{greater}
use Rattle.history_model.specs.Chain.{Step, steps_of}
use Rattle.stage_layout.specs.Late.{is_hot}
use Rattle.stage_layout.specs.declared.layout.LayoutRow.{LayoutRow}

-- the greatest of a stamp and of those that were read
abbrev pub greatest : Stamp → List Seen → Stamp
greatest stamp [] = stamp
greatest stamp (seen ∷ others) = greatest (greater stamp seen.stamp) others

-- the next stamp with the same number
abbrev pub next_sub : Stamp → Stamp
next_sub stamp = record { number = stamp.number; sub = stamp.sub + 1 }

-- the stamp of a transaction: above the client's last one and above all that it read
abbrev pub decision_stamp : Stamp → List Seen → Stamp
decision_stamp last noted = next_sub (greatest last noted)

-- the operations on tuples of hosts with their pairs
abbrev pub cold_steps : List LayoutRow → List Op → List Pair → List Step
cold_steps rows ops reply = filter (λ s. not (is_hot rows s.0.tuple)) (steps_of ops reply)
