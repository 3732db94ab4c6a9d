use Rattle.std.proofs.Common.{◌≡◌, ◌-◌, ◌≤◌, vec_len}
use Rattle.std.specs.Io.KnownBytes.{Consumes}
use Rattle.port_io.proofs.whole.read_all.Given as goal

-- what was found is what was taken, no more than the limit, and the count stands still
abbrev pub invariant-loop-count : goal.invariant-loop-count
invariant-loop-count g l = record {
  room : vec_len l.buf ≡ 65536;
  within : vec_len l.bytes ≤ l.most;
  taken : Consumes (g.S.Source.left l.initial.source) (g.S.Source.left l.source) l.bytes.items;
  still : g.S.Source.faults l.source ≡ g.S.Source.faults l.initial.source;
}

abbrev pub decreases-loop-count : goal.decreases-loop-count
decreases-loop-count g l = l.most - vec_len l.bytes
