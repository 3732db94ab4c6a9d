use Rattle.std.proofs.Common.{◌∙◌, ◌++◌, ◌∷◌, [], ap, refl, subst, sym}
use Rattle.std.proofs.lemmas.Result.{err_from_is_err_and}
use Rattle.catalogue.specs.declared.actor.Actor.TheVariants.{Recover}
use Rattle.core_model.specs.Rota.{rota}
use Rattle.gap_placement.proofs.Seeking.{is_nothing}
use Rattle.fabric_core.specs.Running.{Running}
use Rattle.fabric_core.proofs.Takes as takes
use Rattle.fabric_core.proofs.Worlds.{IsRun, is_run}
use Rattle.fabric_core.proofs.world.World.take_rota.Goals as goal

pub returns-in_err-take : goal.returns-in_err-take
returns-in_err-take g c =
    let p = err_from_is_err_and c.from_residual.result c.from_residual.ensures.1 in
    rw (p.1, p.2) (takes.taking_ends (Recover ∷ []) (takes.clients_in c.args.self.now.plan ++ (takes.ports_in c.args.self.now.plan ++ takes.stages_in c.args.self.now.plan)) _ (rota c.args.self.now.plan) c.args.self.now c.args.self.now c.take.new.self _ _ _ refl (takes.taking_begins (rota c.args.self.now.plan) (rota c.args.self.now.plan) c.args.self.now _ refl (subst (λ (r : Running _). IsRun r) c.self.view_is (is_run c.self.invariant c.self.inside.stop c.self.inside.rack)) c.requires) c.in_err-take.field-0.0 c.in_err-take.ensures)

pub take_clients-requires : goal.take_clients-requires
take_clients-requires g c = (takes.taking_next (Recover ∷ []) (takes.clients_in c.args.self.now.plan ++ (takes.ports_in c.args.self.now.plan ++ takes.stages_in c.args.self.now.plan)) _ (rota c.args.self.now.plan) c.args.self.now c.args.self.now c.take.new.self _ _ _ refl (takes.taking_begins (rota c.args.self.now.plan) (rota c.args.self.now.plan) c.args.self.now _ refl (subst (λ (r : Running _). IsRun r) c.self.view_is (is_run c.self.invariant c.self.inside.stop c.self.inside.rack)) c.requires) c.in_ok-take.ensures).goes

pub returns-in_err-take_clients : goal.returns-in_err-take_clients
returns-in_err-take_clients g c =
    let p = err_from_is_err_and c.from_residual-in_err-take_clients.result c.from_residual-in_err-take_clients.ensures.1 in
    rw (p.1, p.2) (takes.rota_ends takes.clients_in (λ plan. takes.ports_in plan ++ takes.stages_in plan) (rota c.args.self.now.plan) c.args.self.now c.take.new.self c.take_clients.new.self _ _ _ (takes.taking_next (Recover ∷ []) (takes.clients_in c.args.self.now.plan ++ (takes.ports_in c.args.self.now.plan ++ takes.stages_in c.args.self.now.plan)) _ (rota c.args.self.now.plan) c.args.self.now c.args.self.now c.take.new.self _ _ _ refl (takes.taking_begins (rota c.args.self.now.plan) (rota c.args.self.now.plan) c.args.self.now _ refl (subst (λ (r : Running _). IsRun r) c.self.view_is (is_run c.self.invariant c.self.inside.stop c.self.inside.rack)) c.requires) c.in_ok-take.ensures) c.in_err-take_clients.field-0.0 c.in_err-take_clients.ensures)

pub returns-then-is_empty : goal.returns-then-is_empty
returns-then-is_empty g c = takes.taking_unused (rota c.args.self.now.plan) c.args.self.now c.take_clients.new.self _ _ (ap (λ (r : Running _). r.plan.layout) (sym c.self-2.view_is) ∙ sym c.as_slice.ensures.rows ∙ is_nothing c.as_slice.result.now (sym c.is_empty.ensures ∙ c.if-is_empty.true)) (takes.rota_next takes.clients_in (λ plan. takes.ports_in plan ++ takes.stages_in plan) (rota c.args.self.now.plan) c.args.self.now c.take.new.self c.take_clients.new.self _ _ _ (takes.taking_next (Recover ∷ []) (takes.clients_in c.args.self.now.plan ++ (takes.ports_in c.args.self.now.plan ++ takes.stages_in c.args.self.now.plan)) _ (rota c.args.self.now.plan) c.args.self.now c.args.self.now c.take.new.self _ _ _ refl (takes.taking_begins (rota c.args.self.now.plan) (rota c.args.self.now.plan) c.args.self.now _ refl (subst (λ (r : Running _). IsRun r) c.self.view_is (is_run c.self.invariant c.self.inside.stop c.self.inside.rack)) c.requires) c.in_ok-take.ensures) c.in_ok-take_clients.ensures)

pub take_ports-requires : goal.take_ports-requires
take_ports-requires g c = (takes.rota_next takes.clients_in (λ plan. takes.ports_in plan ++ takes.stages_in plan) (rota c.args.self.now.plan) c.args.self.now c.take.new.self c.take_clients.new.self _ _ _ (takes.taking_next (Recover ∷ []) (takes.clients_in c.args.self.now.plan ++ (takes.ports_in c.args.self.now.plan ++ takes.stages_in c.args.self.now.plan)) _ (rota c.args.self.now.plan) c.args.self.now c.args.self.now c.take.new.self _ _ _ refl (takes.taking_begins (rota c.args.self.now.plan) (rota c.args.self.now.plan) c.args.self.now _ refl (subst (λ (r : Running _). IsRun r) c.self.view_is (is_run c.self.invariant c.self.inside.stop c.self.inside.rack)) c.requires) c.in_ok-take.ensures) c.in_ok-take_clients.ensures).goes

pub returns-in_err-take_ports : goal.returns-in_err-take_ports
returns-in_err-take_ports g c =
    let p = err_from_is_err_and c.from_residual-in_err-take_ports.result c.from_residual-in_err-take_ports.ensures.1 in
    rw (p.1, p.2) (takes.rota_ends takes.ports_in takes.stages_in (rota c.args.self.now.plan) c.args.self.now c.take_clients.new.self c.take_ports.new.self _ _ _ (takes.rota_next takes.clients_in (λ plan. takes.ports_in plan ++ takes.stages_in plan) (rota c.args.self.now.plan) c.args.self.now c.take.new.self c.take_clients.new.self _ _ _ (takes.taking_next (Recover ∷ []) (takes.clients_in c.args.self.now.plan ++ (takes.ports_in c.args.self.now.plan ++ takes.stages_in c.args.self.now.plan)) _ (rota c.args.self.now.plan) c.args.self.now c.args.self.now c.take.new.self _ _ _ refl (takes.taking_begins (rota c.args.self.now.plan) (rota c.args.self.now.plan) c.args.self.now _ refl (subst (λ (r : Running _). IsRun r) c.self.view_is (is_run c.self.invariant c.self.inside.stop c.self.inside.rack)) c.requires) c.in_ok-take.ensures) c.in_ok-take_clients.ensures) c.in_err-take_ports.field-0.0 c.in_err-take_ports.ensures)

pub take_stages-requires : goal.take_stages-requires
take_stages-requires g c = (takes.rota_next takes.ports_in takes.stages_in (rota c.args.self.now.plan) c.args.self.now c.take_clients.new.self c.take_ports.new.self _ _ _ (takes.rota_next takes.clients_in (λ plan. takes.ports_in plan ++ takes.stages_in plan) (rota c.args.self.now.plan) c.args.self.now c.take.new.self c.take_clients.new.self _ _ _ (takes.taking_next (Recover ∷ []) (takes.clients_in c.args.self.now.plan ++ (takes.ports_in c.args.self.now.plan ++ takes.stages_in c.args.self.now.plan)) _ (rota c.args.self.now.plan) c.args.self.now c.args.self.now c.take.new.self _ _ _ refl (takes.taking_begins (rota c.args.self.now.plan) (rota c.args.self.now.plan) c.args.self.now _ refl (subst (λ (r : Running _). IsRun r) c.self.view_is (is_run c.self.invariant c.self.inside.stop c.self.inside.rack)) c.requires) c.in_ok-take.ensures) c.in_ok-take_clients.ensures) c.in_ok-take_ports.ensures).goes

pub returns : goal.returns
returns g c = takes.rota_whole (rota c.args.self.now.plan) c.args.self.now c.take_ports.new.self c.take_stages.new.self _ _ _ (takes.rota_next takes.ports_in takes.stages_in (rota c.args.self.now.plan) c.args.self.now c.take_clients.new.self c.take_ports.new.self _ _ _ (takes.rota_next takes.clients_in (λ plan. takes.ports_in plan ++ takes.stages_in plan) (rota c.args.self.now.plan) c.args.self.now c.take.new.self c.take_clients.new.self _ _ _ (takes.taking_next (Recover ∷ []) (takes.clients_in c.args.self.now.plan ++ (takes.ports_in c.args.self.now.plan ++ takes.stages_in c.args.self.now.plan)) _ (rota c.args.self.now.plan) c.args.self.now c.args.self.now c.take.new.self _ _ _ refl (takes.taking_begins (rota c.args.self.now.plan) (rota c.args.self.now.plan) c.args.self.now _ refl (subst (λ (r : Running _). IsRun r) c.self.view_is (is_run c.self.invariant c.self.inside.stop c.self.inside.rack)) c.requires) c.in_ok-take.ensures) c.in_ok-take_clients.ensures) c.in_ok-take_ports.ensures) c.take_stages.result c.take_stages.ensures
