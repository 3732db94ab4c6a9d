use Rattle.std.proofs.Common.{◌≡◌, map, take}
use Rattle.switch_packet.specs.Packets.{plain_log}
use Rattle.fabric_core.specs.Recovering.{view_of}
use Rattle.fabric_core.proofs.kept_views.views_of.Given as goal

abbrev pub invariant-loop-log : goal.invariant-loop-log
invariant-loop-log l = map plain_log l.views.items ≡ map view_of (take l.log-index l.logs)
