use Rattle.std.proofs.Common.{subst}
use Rattle.std.proofs.lemmas.Result.{err_from_is_err_and}
use Rattle.fabric_core.specs.Running.{Running}
use Rattle.fabric_core.proofs.Takes as takes
use Rattle.fabric_core.proofs.Worlds.{IsRun, is_run}
use Rattle.fabric_core.proofs.world.World.take_rotas.Goals as goal

pub rounds-init : goal.rounds-init
rounds-init g c = takes.driving_begins c.args.self.now _ (subst (λ (r : Running _). IsRun r) c.self.view_is (is_run c.self.invariant c.self.inside.stop c.self.inside.rack)) c.requires

pub take_rota-requires : goal.take_rota-requires
take_rota-requires g c = c.rounds.invariant.goes

pub rounds-smaller : goal.rounds-smaller
rounds-smaller g c = takes.driving_lessens c.args.self.now c.rounds.self c.take_rota.new.self _ _ _ c.finished.result c.rounds.invariant c.finished.ensures c.rounds-test.true c.in_ok-take_rota.ensures

pub rounds-preserved : goal.rounds-preserved
rounds-preserved g c = takes.driving_round c.args.self.now c.rounds.self c.take_rota.new.self _ _ _ c.finished.result c.rounds.invariant c.finished.ensures c.rounds-test.true c.in_ok-take_rota.ensures

pub returns-in_err-take_rota : goal.returns-in_err-take_rota
returns-in_err-take_rota g c =
    let p = err_from_is_err_and c.from_residual.result c.from_residual.ensures.1 in
    rw (p.1, p.2)
    (takes.driving_stops c.args.self.now c.rounds.self c.take_rota.new.self _ _ _ c.finished.result c.rounds.invariant c.finished.ensures c.rounds-test.true c.in_err-take_rota.field-0.0 c.in_err-take_rota.ensures)

pub returns : goal.returns
returns g c = takes.driving_ends c.args.self.now c.rounds.self _ _ c.finished.result c.rounds.invariant c.finished.ensures c.rounds-test.false
