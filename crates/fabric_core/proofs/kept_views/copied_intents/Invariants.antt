use Rattle.std.proofs.Common.{◌≡◌, map, take}
use Rattle.switch_packet.specs.Packets.{plain_intent}
use Rattle.fabric_core.proofs.kept_views.copied_intents.Given as goal

abbrev pub invariant-loop-intent : goal.invariant-loop-intent
invariant-loop-intent l = map plain_intent l.copies.items ≡ map plain_intent (take l.intent-index l.intents)
