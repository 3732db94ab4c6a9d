use Rattle.std.proofs.Common.{◌≡◌, ◌-◌, drop, map}
use Rattle.switch_packet.specs.Packets.{plain_log}
use Rattle.switch_recovery.specs.Recovering.{torn_bits}
use Rattle.switch_recovery.proofs.recovered.torn_of.Given as goal

abbrev pub invariant-loop-behind : goal.invariant-loop-behind
invariant-loop-behind l = l.bits ≡ torn_bits (map plain_log (drop (l.clients - l.behind) l.views))
