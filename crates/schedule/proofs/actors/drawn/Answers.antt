use Rattle.std.proofs.Common.{◌+◌, ◌-◌, ◌++◌, ap, sym, subst, ◌∙◌, arith}
use Rattle.std.specs.List.{All}
use Rattle.catalogue.specs.PlanOf.{plan_of}
use Rattle.catalogue.specs.Sound.{IsActor}
use Rattle.schedule.specs.Dice.{seeded, words_of}
use Rattle.schedule.specs.Drawn.{drawn}
use Rattle.schedule.proofs.DrawnPlaces.{one_more, all_drawn, drawn_are_its_own}
use Rattle.schedule.proofs.actors.drawn.Goals as goal

pub loop-preserved : goal.loop-preserved
loop-preserved c = record {
  bound = omega arith;
  rest =
      ap (λ items. items ++ drawn (plan_of c.args.session.now) (c.args.count - (c.loop.counter + 1)) (words_of c.draw-place.new.self)) c.in_ok-push.ensures.items
      ∙ one_more (plan_of c.args.session.now) c.loop.actors.items c.actor_at.result _ c.draw-place.result (c.args.count - (c.loop.counter + 1)) (c.args.count - c.loop.counter) (words_of c.loop.dice) (words_of c.draw-place.new.self) (omega arith) c.draw-place.ensures.value c.actor_at.ensures (omega arith)
      ∙ c.loop.invariant.rest;
}

pub returns-clause-of_session : goal.returns-clause-of_session
returns-clause-of_session c =
    let plan = plan_of c.args.session.now in
    let all = all_drawn plan c.loop.actors.items (drawn plan c.args.count (words_of (seeded c.args.number))) (c.args.count - c.loop.counter) (words_of c.loop.dice) (omega arith) c.loop.invariant.rest in
    subst (All (IsActor plan)) (sym (c.of.ensures.items ∙ all)) (drawn_are_its_own plan c.args.count (words_of (seeded c.args.number)))
