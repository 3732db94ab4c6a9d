use Rattle.std.proofs.Common.{◌≡◌, ◌≤◌, ◌-◌, ◌++◌}
use Rattle.catalogue.specs.PlanOf.{plan_of}
use Rattle.schedule.specs.Dice.{seeded, words_of}
use Rattle.schedule.specs.Drawn.{drawn}
use Rattle.schedule.proofs.actors.drawn.Given as goal

-- the actors so far, and those that are still to be drawn, are all
abbrev pub invariant-loop : goal.invariant-loop
invariant-loop l = record {
  bound : l.counter ≤ l.count;
  rest : l.actors.items ++ drawn (plan_of l.session) (l.count - l.counter) (words_of l.dice) ≡ drawn (plan_of l.session) l.count (words_of (seeded l.number));
}
