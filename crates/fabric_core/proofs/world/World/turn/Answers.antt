use Rattle.std.proofs.Common.{ap, ◌∙◌, arith}
use Rattle.catalogue.specs.PlanOf.{plan_of}
use Rattle.fabric_model.specs.Run.{state_now}
use Rattle.fabric_core.specs.Racks.{seen}
use Rattle.fabric_core.specs.Running.{Running}
use Rattle.fabric_core.proofs.Worlds as worlds
use Rattle.fabric_core.proofs.world.World.turn.Goals as goal

pub overflow_cast-at : goal.overflow_cast-at
overflow_cast-at g c = omega (arith, c.len-at.ensures, worlds.is_short c.self.invariant)

pub turn-turn-requires : goal.turn-turn-requires
turn-turn-requires g c =
    let within = rw (← c.self.view_is) at c.requires.actor in
    (state_now (plan_of c.self.inside.session) c.self.inside.trace.items, worlds.its_turn c.self.invariant c.args.actor c.len-at.result within c.len-at.ensures)

pub push-requires : goal.push-requires
push-requires g c =
    let within = rw (← c.self.view_is) at c.requires.actor in
    let turn = c.turn-turn.ensures.turn (state_now (plan_of c.self.inside.session) c.self.inside.trace.items) (worlds.its_turn c.self.invariant c.args.actor c.len-at.result within c.len-at.ensures) in
    worlds.has_room c.self.invariant c.args.actor c.turn-turn.new.self _ (worlds.moves c.self.invariant c.self.inside.rack c.turn-turn.new.rack c.args.actor c.turn-turn.new.self _ c.turn-turn.result turn c.in-Moved.is)

pub invariant_of-self : goal.invariant_of-self
invariant_of-self g c =
    let within = rw (← c.self.view_is) at c.requires.actor in
    let goes = ap (λ (r : Running _). r.stop) c.self.view_is ∙ c.requires.goes_on in
    let turn = c.turn-turn.ensures.turn (state_now (plan_of c.self.inside.session) c.self.inside.trace.items) (worlds.its_turn c.self.invariant c.args.actor c.len-at.result within c.len-at.ensures) in
    worlds.kept_moved c.self.invariant goes c.args.actor c.turn-turn.new.self c.push.new.self _ (worlds.moves c.self.invariant c.self.inside.rack c.turn-turn.new.rack c.args.actor c.turn-turn.new.self _ c.turn-turn.result turn c.in-Moved.is)
    c.push.ensures.items c.push.ensures.spare

pub invariant_of-self-in-LogFault : goal.invariant_of-self-in-LogFault
invariant_of-self-in-LogFault g c =
    let within = rw (← c.self.view_is) at c.requires.actor in
    let goes = ap (λ (r : Running _). r.stop) c.self.view_is ∙ c.requires.goes_on in
    let turn = c.turn-turn.ensures.turn (state_now (plan_of c.self.inside.session) c.self.inside.trace.items) (worlds.its_turn c.self.invariant c.args.actor c.len-at.result within c.len-at.ensures) in
    let fails = worlds.fails c.self.invariant c.self.inside.rack c.turn-turn.new.rack c.args.actor c.turn-turn.new.self _ c.turn-turn.result turn c.in-LogFault.client c.in-LogFault.is in
    worlds.kept_failed c.self.invariant goes c.args.actor c.in-LogFault.client c.turn-turn.new.self _ fails

pub invariant_of-self-in-LogChanged : goal.invariant_of-self-in-LogChanged
invariant_of-self-in-LogChanged g c =
    let within = rw (← c.self.view_is) at c.requires.actor in
    let goes = ap (λ (r : Running _). r.stop) c.self.view_is ∙ c.requires.goes_on in
    let turn = c.turn-turn.ensures.turn (state_now (plan_of c.self.inside.session) c.self.inside.trace.items) (worlds.its_turn c.self.invariant c.args.actor c.len-at.result within c.len-at.ensures) in
    let changes = worlds.changes c.self.invariant c.self.inside.rack c.turn-turn.new.rack c.args.actor c.turn-turn.new.self _ c.turn-turn.result turn c.in-LogChanged.client c.in-LogChanged.at c.in-LogChanged.is in
    worlds.kept_changed c.self.invariant goes c.in-LogChanged.client c.in-LogChanged.at c.turn-turn.new.self _ changes.1

pub invariant_of-self-in-Idle : goal.invariant_of-self-in-Idle
invariant_of-self-in-Idle g c =
    let within = rw (← c.self.view_is) at c.requires.actor in
    let goes = ap (λ (r : Running _). r.stop) c.self.view_is ∙ c.requires.goes_on in
    let turn = c.turn-turn.ensures.turn (state_now (plan_of c.self.inside.session) c.self.inside.trace.items) (worlds.its_turn c.self.invariant c.args.actor c.len-at.result within c.len-at.ensures) in
    worlds.kept_rest c.self.invariant goes c.args.actor c.turn-turn.new.self _ c.turn-turn.result turn c.in-Idle.is
    (λ idle. ap (λ r. seen (g.L.LogRack.told r) (g.L.LogRack.keeps r) (g.L.LogRack.faults r)) (c.turn-turn.ensures.idle idle))

pub returns-in-Moved : goal.returns-in-Moved
returns-in-Moved g c =
    let within = rw (← c.self.view_is) at c.requires.actor in
    let turn = c.turn-turn.ensures.turn (state_now (plan_of c.self.inside.session) c.self.inside.trace.items) (worlds.its_turn c.self.invariant c.args.actor c.len-at.result within c.len-at.ensures) in
    rw (← c.self.view_is) (worlds.says_moved c.self.invariant c.self.inside.rack c.turn-turn.new.rack c.args.actor c.turn-turn.new.self _ c.turn-turn.result turn c.in-Moved.is c.push.new.self.items c.push.ensures.items)

pub returns-in-LogFault : goal.returns-in-LogFault
returns-in-LogFault g c =
    let within = rw (← c.self.view_is) at c.requires.actor in
    let turn = c.turn-turn.ensures.turn (state_now (plan_of c.self.inside.session) c.self.inside.trace.items) (worlds.its_turn c.self.invariant c.args.actor c.len-at.result within c.len-at.ensures) in
    rw (← c.self.view_is) (worlds.says_failed c.self.invariant c.self.inside.rack c.turn-turn.new.rack c.args.actor c.turn-turn.new.self _ c.turn-turn.result turn c.in-LogFault.client c.in-LogFault.is)

pub returns-in-LogChanged : goal.returns-in-LogChanged
returns-in-LogChanged g c =
    let within = rw (← c.self.view_is) at c.requires.actor in
    let turn = c.turn-turn.ensures.turn (state_now (plan_of c.self.inside.session) c.self.inside.trace.items) (worlds.its_turn c.self.invariant c.args.actor c.len-at.result within c.len-at.ensures) in
    rw (← c.self.view_is) (worlds.says_changed c.self.invariant c.self.inside.rack c.turn-turn.new.rack c.args.actor c.turn-turn.new.self _ c.turn-turn.result turn c.in-LogChanged.client c.in-LogChanged.at c.in-LogChanged.is)

pub returns-in-Idle : goal.returns-in-Idle
returns-in-Idle g c =
    let within = rw (← c.self.view_is) at c.requires.actor in
    let turn = c.turn-turn.ensures.turn (state_now (plan_of c.self.inside.session) c.self.inside.trace.items) (worlds.its_turn c.self.invariant c.args.actor c.len-at.result within c.len-at.ensures) in
    rw (← c.self.view_is) (worlds.says_rest c.self.invariant c.self.inside.rack c.turn-turn.new.rack c.args.actor c.turn-turn.new.self _ c.turn-turn.result turn c.in-Idle.is c.turn-turn.ensures.idle)
