use Rattle.std.proofs.Common.{◌≡◌, drop, map}
use Rattle.switch_packet.specs.Packets.{plain_log}
use Rattle.switch_recovery.specs.Restoring.{bad_from}
use Rattle.switch_recovery.proofs.restored.bad_intent.Given as goal

abbrev pub invariant-loop-client : goal.invariant-loop-client
invariant-loop-client l = bad_from l.cells l.client (map plain_log (drop l.client l.views)) ≡ bad_from l.cells 0 (map plain_log l.views)
