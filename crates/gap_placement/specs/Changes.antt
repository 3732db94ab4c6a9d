-- What answered packets change: each operation with its logged pair.
use Rattle.std.specs.Prelude.{ℕ, nat_lt, List, [], ◌∷◌, ◌++◌, Option, None, Some, if◌then◌else◌}
use Rattle.std.specs.FinMap as fin
use Rattle.std.specs.Option.{option_map}
use Rattle.std.specs.Ordering.{int_eq}
use Rattle.txn_model.specs.Needs.{needs_list}
use Rattle.txn_model.specs.Places.{Places}
use Rattle.txn_model.specs.Serial.{operand, effect}
use Rattle.txn_model.specs.declared.pairs.Pair.{Pair}
use Rattle.switch_packet.specs.declared.packet.PacketOp.{PacketOp}
use Rattle.switch_packet.specs.Packets.{PlainOutcome}
use Rattle.switch_packet.specs.Replay.{register_at}
use Rattle.placement_model.specs.Placements.{Task}
use Rattle.gap_placement.specs.declared.change.Change.{Change}

-- the map behind the changes, each of which finds its number at its place and leaves another; None where one finds another number
abbrev pub walk : List Change → Places → Option Places
walk [] m = Some m
walk (c ∷ cs) m = if int_eq (register_at m c.place) c.was then walk cs (fin.insert m c.place c.now) else None

-- the changes of operations with these pairs, behind those in done; None where a pair doesn't follow from what its packet's operations found
abbrev pub changes_from : List Pair → List PacketOp → List Pair → Option (List Change)
changes_from done [] [] = Some []
changes_from done [] (p ∷ ps) = None
changes_from done (op ∷ ops) [] = None
changes_from done (op ∷ ops) (p ∷ ps) =
    if int_eq p.now (effect op.act p.was (operand (needs_list op.needs) op.bias done))
    then option_map (λ cs. record { place = op.place; was = p.was; now = p.now } ∷ cs) (changes_from (done ++ p ∷ []) ops ps)
    else None

-- those of a task that is answered so and has this number; None where it can't have it
abbrev pub changes_answered : Task → ℕ → Option PlainOutcome → Option (List Change)
changes_answered task number None = None
changes_answered task number (Some outcome) = if nat_lt task.intent.floor number then changes_from [] task.intent.packet.ops outcome.pairs else None

abbrev pub changes_of : Task → ℕ → Option (List Change)
changes_of task number = changes_answered task number task.outcome
