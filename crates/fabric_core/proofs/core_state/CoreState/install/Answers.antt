use Rattle.std.proofs.Common.{ℤ, SFits, w64, arith, refl, ap, ◌∙◌, rules}
use Rattle.std.proofs.lemmas.Int.{to_z-of_z}
use Rattle.host_store.specs.Store.{installed}
use Rattle.fabric_core.proofs.core_state.CoreState.install.Goals as goal
use Rattle.fabric_core.proofs.Installs as installs
use Rattle.fabric_core.proofs.Present as present
use Rattle.client_phase.specs.declared.action.Met.TheVariants.{Done}

pub index_mut-runner-requires : goal.index_mut-runner-requires
index_mut-runner-requires c = omega (arith, present.within_kept c.requires.action.2.turn, c.args.self.now.runners.ok.0)

pub op-op-requires : goal.op-op-requires
op-op-requires c = installs.within c.requires.action.2 c.requires.item c.index_mut-runner.ensures.value

pub get-pair-requires : goal.get-pair-requires
get-pair-requires c = installs.within_pairs c.requires.action.2 c.requires.item c.index_mut-runner.ensures.value

pub install-requires : goal.install-requires
install-requires c = installs.is_stored c.requires.action.2 c.requires.item c.index_mut-runner.ensures.value c.op-op.ensures c.get-pair.ensures

pub unlock-requires : goal.unlock-requires
unlock-requires c = installs.is_held c.requires.action.2 c.requires.item c.index_mut-runner.ensures.value c.op-op.ensures c.get-pair.ensures

pub step-requires-clause-item : goal.step-requires-clause-item
step-requires-clause-item c = present.item_kept c.requires.action.2 c.index_mut-runner.ensures.value

pub step-requires-clause-step : goal.step-requires-clause-step
step-requires-clause-step c = present.can_step c.requires.action.2 c.index_mut-runner.ensures.value Done refl

pub returns-clause-follows : goal.returns-clause-follows
returns-clause-follows c s at a =
    let fits : SFits w64 c.get-pair.result.now = search rules in
    let put = ap (λ (v : ℤ). installed c.args.self.now.store c.op-op.result.tuple v c.index_mut-runner.result.now.state.last) (to_z-of_z w64 c.get-pair.result.now fits) in
    installs.follows a c.requires.item c.index_mut-runner.ensures.value c.op-op.ensures c.get-pair.ensures c.unlock.ensures (c.install.ensures ∙ put) c.step.ensures
