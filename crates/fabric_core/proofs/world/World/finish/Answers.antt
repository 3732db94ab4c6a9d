use Rattle.std.proofs.Common.{ap, sym, ◌∙◌}
use Rattle.fabric_core.specs.Running.{Running}
use Rattle.fabric_core.proofs.Takes as takes
use Rattle.fabric_core.proofs.world.World.finish.Goals as goal

pub returns-in-Some : goal.returns-in-Some
returns-in-Some g c = takes.ended_before c.args.self.now _ _ c.in-Some.stop c.end.result (sym (ap (λ (r : Running _). r.stop) c.self.view_is) ∙ c.in-Some.is) c.end.ensures

pub take_rotas-requires : goal.take_rotas-requires
take_rotas-requires g c = (sym (ap (λ (r : Running _). r.stop) c.self.view_is) ∙ c.in_default.is)

pub returns-in-Ok : goal.returns-in-Ok
returns-in-Ok g c = takes.ended_on c.args.self.now c.take_rotas.new.self _ _ (sym (ap (λ (r : Running _). r.stop) c.self.view_is) ∙ c.in_default.is) c.in-Ok.ensures

pub returns-in-Err : goal.returns-in-Err
returns-in-Err g c = takes.halted_on c.args.self.now c.take_rotas.new.self _ _ c.in-Err.halt c.end-in-Err.result (sym (ap (λ (r : Running _). r.stop) c.self.view_is) ∙ c.in_default.is) c.end-in-Err.ensures c.in-Err.ensures
