use Rattle.std.proofs.Common.{arith}
use Rattle.fabric_core.proofs.core_state.CoreState.ask.Goals as goal
use Rattle.fabric_core.proofs.Asks as asks
use Rattle.fabric_core.proofs.Present as present
use Rattle.host_locks.specs.declared.mode.Grant.TheVariants.{Granted, HeldBy}
use Rattle.client_phase.specs.declared.action.Met.TheVariants as Met

pub index_mut-runner-requires : goal.index_mut-runner-requires
index_mut-runner-requires c = omega (arith, present.within_kept c.requires.action.1.turn, c.args.self.now.runners.ok.0)

pub op-op-requires : goal.op-op-requires
op-op-requires c = asks.within c.requires.action.1 c.requires.item c.index_mut-runner.ensures.value

pub try_lock-requires-clause-there : goal.try_lock-requires-clause-there
try_lock-requires-clause-there c = asks.in_table c.requires.action.1 c.requires.item c.index_mut-runner.ensures.value c.op-op.ensures

pub try_lock-requires-clause-free : goal.try_lock-requires-clause-free
try_lock-requires-clause-free c = asks.free c.requires.action.1 c.requires.item c.index_mut-runner.ensures.value c.op-op.ensures

pub read-seen-requires : goal.read-seen-requires
read-seen-requires c = asks.in_store c.requires.action.1 c.requires.item c.index_mut-runner.ensures.value c.op-op.ensures

pub push-requires : goal.push-requires
push-requires c =
    let tried = asks.tried_as c.args.self.now.locks c.try_lock.new.self c.op-op.result c.args.client c.mode_of.result c.try_lock.result (HeldBy c.in-HeldBy.holder) c.mode_of.ensures c.in-HeldBy.is c.try_lock.ensures in
    asks.refusal_room c.requires.action.1 c.requires.item c.index_mut-runner.ensures.value c.op-op.ensures tried

pub step-requires-clause-item : goal.step-requires-clause-item
step-requires-clause-item c = present.item_kept c.requires.action.1 c.index_mut-runner.ensures.value

pub step-requires-clause-step : goal.step-requires-clause-step
step-requires-clause-step c = present.can_step c.requires.action.1 c.index_mut-runner.ensures.value (Met.Granted c.read-seen.result) tt

pub returns-in-Granted-clause-follows : goal.returns-in-Granted-clause-follows
returns-in-Granted-clause-follows c s a =
    let tried = asks.tried_as c.args.self.now.locks c.try_lock.new.self c.op-op.result c.args.client c.mode_of.result c.try_lock.result Granted c.mode_of.ensures c.in-Granted.is c.try_lock.ensures in
    let here = c.index_mut-runner.ensures.value in
    record {
      next = _;
      step = asks.granted_step a c.requires.item here c.op-op.ensures tried c.read-seen.ensures;
      stands = asks.granted_stands a c.requires.item here c.op-op.ensures tried c.read-seen.ensures c.step.ensures;
    }

pub returns-in-HeldBy-clause-follows : goal.returns-in-HeldBy-clause-follows
returns-in-HeldBy-clause-follows c s a =
    let tried = asks.tried_as c.args.self.now.locks c.try_lock.new.self c.op-op.result c.args.client c.mode_of.result c.try_lock.result (HeldBy c.in-HeldBy.holder) c.mode_of.ensures c.in-HeldBy.is c.try_lock.ensures in
    let here = c.index_mut-runner.ensures.value in
    record {
      next = _;
      step = asks.refused_step a c.requires.item here c.op-op.ensures tried;
      stands = asks.refused_stands a c.requires.item here c.op-op.ensures tried (present.seq_kept a.turn here) c.push.ensures.items c.push.ensures.spare c.step-in-HeldBy.ensures;
    }

pub step-requires-in-HeldBy-clause-item : goal.step-requires-in-HeldBy-clause-item
step-requires-in-HeldBy-clause-item c = present.item_kept c.requires.action.1 c.index_mut-runner.ensures.value

pub step-requires-in-HeldBy-clause-step : goal.step-requires-in-HeldBy-clause-step
step-requires-in-HeldBy-clause-step c = present.can_step c.requires.action.1 c.index_mut-runner.ensures.value (Met.HeldBy c.in-HeldBy.holder) tt
