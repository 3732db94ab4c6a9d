use Rattle.std.proofs.Common.{arith, refl}
use Rattle.fabric_core.proofs.core_state.CoreState.decide.Goals as goal
use Rattle.fabric_core.proofs.Decides as decides
use Rattle.fabric_core.proofs.Present as present
use Rattle.client_phase.specs.declared.action.Met.TheVariants.{Done}

pub index_mut-runner-requires : goal.index_mut-runner-requires
index_mut-runner-requires c = omega (arith, present.within_kept c.requires.2.turn, c.args.self.now.runners.ok.0)

pub step-requires-clause-item : goal.step-requires-clause-item
step-requires-clause-item c = present.item_kept c.requires.2 c.index_mut-runner.ensures.value

pub step-requires-clause-step : goal.step-requires-clause-step
step-requires-clause-step c = present.can_step c.requires.2 c.index_mut-runner.ensures.value Done refl

pub insert-requires-clause-transaction : goal.insert-requires-clause-transaction
insert-requires-clause-transaction c = decides.is_transaction c.requires.2 c.index_mut-runner.ensures.value c.step.ensures

pub insert-requires-clause-above : goal.insert-requires-clause-above
insert-requires-clause-above c = decides.is_above c.requires.2 c.index_mut-runner.ensures.value c.step.ensures

pub answer-requires-clause-last : goal.answer-requires-clause-last
answer-requires-clause-last c = decides.is_last c.requires.2 c.index_mut-runner.ensures.value c.step.ensures c.insert.ensures

pub answer-requires-clause-pairs : goal.answer-requires-clause-pairs
answer-requires-clause-pairs c = decides.has_pairs c.requires.2 c.index_mut-runner.ensures.value c.step.ensures c.insert.ensures

pub returns-clause-follows : goal.returns-clause-follows
returns-clause-follows c s at a = decides.follows a c.index_mut-runner.ensures.value c.step.ensures c.insert.ensures c.answer.ensures
