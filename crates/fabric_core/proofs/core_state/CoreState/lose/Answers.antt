use Rattle.std.proofs.Common.{refl, arith}
use Rattle.client_phase.specs.declared.action.Met.TheVariants.{Done}
use Rattle.fabric_core.proofs.core_state.CoreState.lose.Goals as goal
use Rattle.fabric_core.proofs.Losing as losing
use Rattle.fabric_core.proofs.Present as present

pub returns-then-not-self-clause-turn : goal.returns-then-not-self-clause-turn
returns-then-not-self-clause-turn c s at a = (losing.stays a c.if-not-self.true, refl)

pub drop_unanswered-requires : goal.drop_unanswered-requires
drop_unanswered-requires c = losing.only_last_open c.requires.2 c.if-not-self.false

pub index_mut-requires : goal.index_mut-requires
index_mut-requires c = omega (arith, present.within_kept c.requires.2.turn, c.args.self.now.runners.ok.0)

pub step-requires-clause-item : goal.step-requires-clause-item
step-requires-clause-item c = present.item_kept c.requires.2 c.index_mut.ensures.value

pub step-requires-clause-step : goal.step-requires-clause-step
step-requires-clause-step c = present.can_step c.requires.2 c.index_mut.ensures.value Done refl

pub returns-clause-turn : goal.returns-clause-turn
returns-clause-turn c s at a = losing.follows a c.if-not-self.false c.index_mut.ensures.value c.step.ensures c.erase.new.self c.erase.ensures c.drop_unanswered.new.self c.drop_unanswered.ensures
