use Rattle.std.proofs.Common.{◌≡◌, Some, sym, ap, ◌∙◌, arith}
use Rattle.catalogue.specs.Items.{plain_item}
use Rattle.catalogue.specs.Plan as session
use Rattle.catalogue.specs.PlanOf.{plan_of}
use Rattle.catalogue.specs.declared.item.Item.{Item}
use Rattle.fabric_core.specs.declared.runner.Runner.{Runner}
use Rattle.fabric_model.specs.Run.{state_now}
use Rattle.fabric_core.proofs.Phases.{is_client, is_kept, seq_kept, run_end, loss_end}
use Rattle.fabric_core.proofs.Worlds.{is_reached}
use Rattle.fabric_core.proofs.world.World.item_end.Goals as goal

pub index-requires : goal.index-requires
index-requires g c =
    let plan = plan_of c.self.inside.session in
    let s = state_now plan c.self.inside.trace.items in
    let there = rw (← c.self.view_is) at c.requires in
    omega (arith, is_kept plan s c.self.inside.core c.args.client (is_reached c.self.invariant) c.self.invariant.stands (is_client plan.clients c.args.client c.args.seq there), c.self.inside.core.runners.ok.0)

pub returns-in-Some-Run : goal.returns-in-Some-Run
returns-in-Some-Run g c =
    let plan = plan_of c.self.inside.session in
    let s = state_now plan c.self.inside.trace.items in
    let there = rw (← c.self.view_is) at c.requires in
    let item : session.item_of plan c.args.client c.args.seq ≡ Some (session.Run c.in-Some-Run.field-0-0.items) = sym c.in-Some-Run.ensures ∙ ap (λ (i : Item). Some (plain_item i)) c.in-Some-Run.field-0-is in
    let present = ap (λ (x : Runner). x.state.seq) c.index.ensures
    ∙ seq_kept plan s c.self.inside.core c.args.client c.index.result.now (is_reached c.self.invariant) c.self.invariant.stands (is_client plan.clients c.args.client c.args.seq there) in
    rw (← c.self.view_is) (c.script_end.ensures ∙ run_end plan s c.args.client c.args.seq c.index.result.now.state.seq c.in-Some-Run.field-0-0.items c.self.inside.core.history.items item c.self.invariant.stands.history present)

pub returns-in-Some-Lose : goal.returns-in-Some-Lose
returns-in-Some-Lose g c =
    let plan = plan_of c.self.inside.session in
    let s = state_now plan c.self.inside.trace.items in
    let there = rw (← c.self.view_is) at c.requires in
    let item : session.item_of plan c.args.client c.args.seq ≡ Some session.Lose = sym c.in-Some-Lose.ensures ∙ ap (λ (i : Item). Some (plain_item i)) c.in-Some-Lose.field-0-is in
    let present = ap (λ (x : Runner). x.state.seq) c.index.ensures
    ∙ seq_kept plan s c.self.inside.core c.args.client c.index.result.now (is_reached c.self.invariant) c.self.invariant.stands (is_client plan.clients c.args.client c.args.seq there) in
    rw (← c.self.view_is) (c.loss_end.ensures ∙ loss_end plan s c.args.client c.args.seq c.index.result.now.state.seq item present)
