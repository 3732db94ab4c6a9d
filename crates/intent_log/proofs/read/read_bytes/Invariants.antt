use Rattle.std.proofs.Common.{◌≡◌, ◌-◌, ◌≤◌, vec_len}
use Rattle.std.specs.Prelude.{IsTrue}
use Rattle.port_io.specs.LogRack.{AllStay}
use Rattle.intent_log.specs.Checking.{Begins}
use Rattle.intent_log.proofs.read.read_bytes.Given as goal

-- what was found is the front of what the rack tells, no more than the limit, and the count stands still
abbrev pub invariant-loop-count : goal.invariant-loop-count
invariant-loop-count g l = record {
  room : vec_len l.buf ≡ 65536;
  within : vec_len l.bytes ≤ 16777216;
  found : Begins (g.L.LogRack.told l.initial.rack l.client) l.bytes.items;
  stay : AllStay (g.L.LogRack.told l.initial.rack) (g.L.LogRack.told l.rack);
  keeps_on : IsTrue (g.L.LogRack.keeps l.initial.rack) → IsTrue (g.L.LogRack.keeps l.rack);
  still : g.L.LogRack.faults l.rack ≡ g.L.LogRack.faults l.initial.rack;
}

abbrev pub decreases-loop-count : goal.decreases-loop-count
decreases-loop-count g l = 16777216 - vec_len l.bytes
