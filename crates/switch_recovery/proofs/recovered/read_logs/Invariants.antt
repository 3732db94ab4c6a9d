use Rattle.std.proofs.Common.{◌≡◌, ◌≤◌, length, map, vec_capacity}
use Rattle.std.specs.Prelude.{IsTrue}
use Rattle.port_io.specs.LogRack.{AllStay}
use Rattle.switch_packet.specs.Packets.{plain_log}
use Rattle.switch_recovery.specs.Recovering.{AreRead}
use Rattle.switch_recovery.proofs.recovered.read_logs.Given as goal

abbrev pub invariant-loop-client : goal.invariant-loop-client
invariant-loop-client g l = record {
  count : length l.views.items ≡ l.client;
  room : l.clients ≤ vec_capacity l.views;
  read : AreRead (g.L.LogRack.told l.initial.rack) 0 (map plain_log l.views.items);
  stay : AllStay (g.L.LogRack.told l.initial.rack) (g.L.LogRack.told l.rack);
  keeps_on : IsTrue (g.L.LogRack.keeps l.initial.rack) → IsTrue (g.L.LogRack.keeps l.rack);
  still : g.L.LogRack.faults l.rack ≡ g.L.LogRack.faults l.initial.rack;
}
