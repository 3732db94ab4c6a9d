use Rattle.declust.specs.Columns.{has_room, touching}
use Rattle.declust.proofs.Choices.{IsBest, IsPriced}
use Rattle.declust.proofs.columns.Columns.best.Given as goal

-- the best of the arrays so far, each of which shares something
abbrev pub invariant-loop-array : goal.invariant-loop-array
invariant-loop-array l = record {
  best : IsBest (has_room l.self l.cells) (touching l.self l.uses) l.array l.best;
  priced : IsPriced l.best;
}
