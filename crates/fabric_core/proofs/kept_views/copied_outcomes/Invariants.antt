use Rattle.std.proofs.Common.{◌≡◌, map, take}
use Rattle.switch_packet.specs.Packets.{plain_outcome}
use Rattle.fabric_core.proofs.kept_views.copied_outcomes.Given as goal

abbrev pub invariant-loop-outcome : goal.invariant-loop-outcome
invariant-loop-outcome l = map plain_outcome l.copies.items ≡ map plain_outcome (take l.outcome-index l.outcomes)
