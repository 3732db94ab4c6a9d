use Rattle.std.proofs.Common.{arith, refl}
use Rattle.fabric_core.proofs.core_state.CoreState.release.Goals as goal
use Rattle.fabric_core.proofs.Present as present
use Rattle.fabric_core.proofs.Releases as releases
use Rattle.client_phase.specs.declared.action.Met.TheVariants.{Done}

pub index_mut-runner-requires : goal.index_mut-runner-requires
index_mut-runner-requires c = omega (arith, present.within_kept c.requires.action.2.turn, c.args.self.now.runners.ok.0)

pub op-op-requires : goal.op-op-requires
op-op-requires c = releases.within c.requires.action.2 c.requires.item c.index_mut-runner.ensures.value

pub unlock-requires : goal.unlock-requires
unlock-requires c = releases.is_held c.requires.action.2 c.requires.item c.index_mut-runner.ensures.value c.op-op.ensures

pub step-requires-clause-item : goal.step-requires-clause-item
step-requires-clause-item c = present.item_kept c.requires.action.2 c.index_mut-runner.ensures.value

pub step-requires-clause-step : goal.step-requires-clause-step
step-requires-clause-step c = present.can_step c.requires.action.2 c.index_mut-runner.ensures.value Done refl

pub returns-clause-follows : goal.returns-clause-follows
returns-clause-follows c s at a = releases.follows a c.requires.item c.index_mut-runner.ensures.value c.op-op.ensures c.unlock.ensures c.step.ensures
