use Rattle.std.proofs.Common.{◌≡◌, map, vec_capacity}
use Rattle.std.specs.Prelude.{IsTrue}
use Rattle.port_io.specs.LogRack.{AllStay}
use Rattle.switch_packet.specs.Packets.{plain_log}
use Rattle.fabric_core.specs.Recovering.{SayTheirs}
use Rattle.fabric_core.proofs.recovery.compare_logs.Given as goal

abbrev pub invariant-loop-c : goal.invariant-loop-c
invariant-loop-c g l = record {
  said : SayTheirs (g.L.LogRack.told l.initial.rack) (map plain_log l.views) l.c;
  stay : AllStay (g.L.LogRack.told l.initial.rack) (g.L.LogRack.told l.rack);
  keeps_on : IsTrue (g.L.LogRack.keeps l.initial.rack) → IsTrue (g.L.LogRack.keeps l.rack);
  still : g.L.LogRack.faults l.rack ≡ g.L.LogRack.faults l.initial.rack;
  text : vec_capacity l.text ≡ vec_capacity l.initial.text;
}
