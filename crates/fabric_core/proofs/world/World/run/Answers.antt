use Rattle.std.proofs.Common.{ap, sym, subst, ◌∙◌}
use Rattle.fabric_core.specs.Running.{Running}
use Rattle.fabric_core.proofs.Takes as takes
use Rattle.fabric_core.proofs.Worlds.{IsRun, is_run}
use Rattle.fabric_core.proofs.world.World.run.Goals as goal

pub returns-in-Some : goal.returns-in-Some
returns-in-Some g c = takes.ended_before c.args.self.now _ _ c.in-Some.stop c.end.result (sym (ap (λ (r : Running _). r.stop) c.self.view_is) ∙ c.in-Some.is) c.end.ensures

pub take_all-requires-clause-goes_on : goal.take_all-requires-clause-goes_on
take_all-requires-clause-goes_on g c = (sym (ap (λ (r : Running _). r.stop) c.self.view_is) ∙ c.in_default.is)

pub returns-in-Ok : goal.returns-in-Ok
returns-in-Ok g c =
    takes.finished_then c.args.self.now c.take_all.new.self _ _ c.args.actors.now (subst (λ (r : Running _). IsRun r) c.self.view_is (is_run c.self.invariant c.self.inside.stop c.self.inside.rack)) (sym (ap (λ (r : Running _). r.stop) c.self.view_is) ∙ c.in_default.is) c.finish.new.self _ c.finish.result c.in-Ok.ensures c.finish.ensures

pub returns-in-Err : goal.returns-in-Err
returns-in-Err g c =
    takes.halted_first c.args.self.now c.take_all.new.self _ _ c.args.actors.now (subst (λ (r : Running _). IsRun r) c.self.view_is (is_run c.self.invariant c.self.inside.stop c.self.inside.rack)) (sym (ap (λ (r : Running _). r.stop) c.self.view_is) ∙ c.in_default.is) c.in-Err.halt c.end-in-Err.result c.end-in-Err.ensures c.in-Err.ensures
