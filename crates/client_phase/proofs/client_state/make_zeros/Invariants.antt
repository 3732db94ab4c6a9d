use Rattle.std.proofs.Common.{◌≡◌, ◌+◌, length, replicate}
use Rattle.client_phase.specs.Shown.{zero_pair}
use Rattle.client_phase.proofs.client_state.make_zeros.Given as goal

abbrev pub invariant-loop : goal.invariant-loop
invariant-loop l = record {
  zeros : l.pairs.items ≡ replicate l.counter zero_pair;
  room : length l.pairs.items + l.pairs.spare ≡ length l.fn.pairs.items + l.fn.pairs.spare;
}
