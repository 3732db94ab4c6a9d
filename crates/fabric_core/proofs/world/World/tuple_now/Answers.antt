use Rattle.std.proofs.Common.{rules, w64, SFits, sym, ◌∙◌}
use Rattle.std.proofs.lemmas.Int.{to_z-of_z}
use Rattle.catalogue.specs.PlanOf.{plan_of}
use Rattle.fabric_model.specs.Run.{state_now}
use Rattle.fabric_core.proofs.SwitchSeen.{place_there, register_shown, stored_there, value_shown}
use Rattle.fabric_core.proofs.Worlds.{is_reached}
use Rattle.fabric_core.proofs.world.World.tuple_now.Goals as goal

pub register-requires : goal.register-requires
register-requires g c =
    let plan = plan_of c.self.inside.session in
    place_there plan (state_now plan c.self.inside.trace.items) c.self.inside.core (is_reached c.self.invariant) c.self.invariant.stands c.args.tuple c.in-Some.place (sym c.in-Some.ensures)

pub returns-in-Some : goal.returns-in-Some
returns-in-Some g c =
    let plan = plan_of c.self.inside.session in
    let shown = register_shown plan (state_now plan c.self.inside.trace.items) c.self.inside.core (is_reached c.self.invariant) c.self.invariant.stands c.args.tuple c.in-Some.place (sym c.in-Some.ensures) in
    let fits : SFits w64 c.register.result = search rules in
    rw (← c.self.view_is) (to_z-of_z w64 c.register.result fits ∙ c.register.ensures ∙ shown)

pub read-requires : goal.read-requires
read-requires g c =
    let plan = plan_of c.self.inside.session in
    let there = rw (← c.self.view_is) at c.requires in
    stored_there plan (state_now plan c.self.inside.trace.items) c.self.inside.core (is_reached c.self.invariant) c.self.invariant.stands c.args.tuple (sym c.in-None.ensures) there

pub returns-in-None : goal.returns-in-None
returns-in-None g c =
    let plan = plan_of c.self.inside.session in
    let shown = value_shown plan (state_now plan c.self.inside.trace.items) c.self.inside.core (is_reached c.self.invariant) c.self.invariant.stands c.args.tuple (sym c.in-None.ensures) c.read.result c.read.ensures in
    let fits : SFits w64 c.read.result.value = search rules in
    rw (← c.self.view_is) (to_z-of_z w64 c.read.result.value fits ∙ shown)
