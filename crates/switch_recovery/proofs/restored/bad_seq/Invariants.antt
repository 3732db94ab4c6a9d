use Rattle.std.proofs.Common.{◌≡◌, drop, map}
use Rattle.switch_packet.specs.Packets.{plain_intent}
use Rattle.switch_recovery.specs.Restoring.{bad_item}
use Rattle.switch_recovery.proofs.restored.bad_seq.Given as goal

abbrev pub invariant-loop-intent : goal.invariant-loop-intent
invariant-loop-intent l = bad_item l.cells (map plain_intent (drop l.intent-index l.intents)) ≡ bad_item l.cells (map plain_intent l.intents)
