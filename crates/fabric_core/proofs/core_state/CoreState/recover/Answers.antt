use Rattle.std.proofs.Common.{map, ap, refl, sym, subst, ◌∙◌}
use Rattle.catalogue.specs.PlanOf.{plan_of}
use Rattle.catalogue.specs.declared.actor.Actor.TheVariants.{Recover}
use Rattle.switch_packet.specs.Packets.{plain_log}
use Rattle.fabric_core.specs.CoreTurns.{IsTurnOf}
use Rattle.fabric_core.specs.Racks.{seen}
use Rattle.fabric_core.specs.Recovering.{view_of}
use Rattle.fabric_core.proofs.LogTexts.{recover_rests}
use Rattle.fabric_core.proofs.Rebuilding as rebuilding
use Rattle.fabric_core.proofs.core_state.CoreState.recover.Goals as goal

pub returns-then-self-clause-turn : goal.returns-then-self-clause-turn
returns-then-self-clause-turn g c s at turn = let is = turn.stands.switch.up c.if-self.true in (recover_rests (plan_of c.args.session.now) s is.now is.up, refl)

pub compare_logs-requires-clause-few : goal.compare_logs-requires-clause-few
compare_logs-requires-clause-few g c = rebuilding.few c.requires.2 c.if-self.false c.as_slice-2.result.now (ap (map plain_log) c.as_slice-2.ensures.value ∙ c.in-Ok.ensures ∙ ap (map view_of) c.as_slice.ensures.value)

pub compare_logs-requires-clause-expected : goal.compare_logs-requires-clause-expected
compare_logs-requires-clause-expected g c = rebuilding.expected c.requires.2 c.if-self.false c.as_slice-2.result.now (ap (map plain_log) c.as_slice-2.ensures.value ∙ c.in-Ok.ensures ∙ ap (map view_of) c.as_slice.ensures.value)

pub returns-in-Some-clause-turn : goal.returns-in-Some-clause-turn
returns-in-Some-clause-turn g c s at turn =
    subst (IsTurnOf (plan_of c.args.session.now) s Recover c.args.self.now _ (seen (g.L.LogRack.told c.args.rack.now) (g.L.LogRack.keeps c.args.rack.now) (g.L.LogRack.faults c.args.rack.now)) (seen (g.L.LogRack.told c.compare_logs.new.rack) (g.L.LogRack.keeps c.compare_logs.new.rack) (g.L.LogRack.faults c.compare_logs.new.rack))) (sym c.turn_of.ensures)
    (rebuilding.stops turn c.if-self.false c.as_slice-2.result.now (ap (map plain_log) c.as_slice-2.ensures.value ∙ c.in-Ok.ensures ∙ ap (map view_of) c.as_slice.ensures.value) (seen (g.L.LogRack.told c.args.rack.now) (g.L.LogRack.keeps c.args.rack.now) (g.L.LogRack.faults c.args.rack.now)) (seen (g.L.LogRack.told c.compare_logs.new.rack) (g.L.LogRack.keeps c.compare_logs.new.rack) (g.L.LogRack.faults c.compare_logs.new.rack)) c.compare_logs.result c.compare_logs.ensures.compared c.compare_logs.ensures.unchanged c.compare_logs.ensures.keeps_on c.compare_logs.ensures.cause _ (rebuilding.retexted turn c.compare_logs.new.text c.compare_logs.ensures.text) c.in-Some.stop c.in-Some.is)

pub first_placement-requires-clause-few : goal.first_placement-requires-clause-few
first_placement-requires-clause-few g c = rebuilding.few c.requires.2 c.if-self.false c.as_slice-3.result.now (ap (map plain_log) c.as_slice-3.ensures.value ∙ c.in-Ok.ensures ∙ ap (map view_of) c.as_slice.ensures.value)

pub first_placement-requires-clause-read : goal.first_placement-requires-clause-read
first_placement-requires-clause-read g c = rebuilding.readable c.requires.2 c.if-self.false c.as_slice-3.result.now (ap (map plain_log) c.as_slice-3.ensures.value ∙ c.in-Ok.ensures ∙ ap (map view_of) c.as_slice.ensures.value)

pub first_placement-requires-clause-there : goal.first_placement-requires-clause-there
first_placement-requires-clause-there g c = rebuilding.have_places c.requires.2 c.if-self.false c.as_slice-3.result.now (ap (map plain_log) c.as_slice-3.ensures.value ∙ c.in-Ok.ensures ∙ ap (map view_of) c.as_slice.ensures.value)

pub first_placement-requires-clause-order : goal.first_placement-requires-clause-order
first_placement-requires-clause-order g c = rebuilding.some_order c.requires.2 c.if-self.false c.as_slice-3.result.now (ap (map plain_log) c.as_slice-3.ensures.value ∙ c.in-Ok.ensures ∙ ap (map view_of) c.as_slice.ensures.value)

pub rebuild-requires-clause-places : goal.rebuild-requires-clause-places
rebuild-requires-clause-places g c = rebuilding.registers_there c.requires.2 c.if-self.false c.as_slice-3.result.now (ap (map plain_log) c.as_slice-3.ensures.value ∙ c.in-Ok.ensures ∙ ap (map view_of) c.as_slice.ensures.value) c.in-Ok-first_placement.placed c.in-Ok-first_placement.ensures.rows c.in-Ok-first_placement.ensures.registers

pub rebuild-requires-clause-open : goal.rebuild-requires-clause-open
rebuild-requires-clause-open g c = rebuilding.can_place c.requires.2 c.if-self.false c.as_slice-3.result.now (ap (map plain_log) c.as_slice-3.ensures.value ∙ c.in-Ok.ensures ∙ ap (map view_of) c.as_slice.ensures.value) c.in-Ok-first_placement.placed c.in-Ok-first_placement.ensures.rows c.in-Ok-first_placement.ensures.registers _

pub returns-clause-turn : goal.returns-clause-turn
returns-clause-turn g c s at turn =
    rebuilding.goes_on turn c.if-self.false c.as_slice-2.result.now (ap (map plain_log) c.as_slice-2.ensures.value ∙ c.in-Ok.ensures ∙ ap (map view_of) c.as_slice.ensures.value) (seen (g.L.LogRack.told c.args.rack.now) (g.L.LogRack.keeps c.args.rack.now) (g.L.LogRack.faults c.args.rack.now)) (seen (g.L.LogRack.told c.compare_logs.new.rack) (g.L.LogRack.keeps c.compare_logs.new.rack) (g.L.LogRack.faults c.compare_logs.new.rack)) c.compare_logs.result c.compare_logs.ensures.compared c.compare_logs.ensures.unchanged c.compare_logs.ensures.keeps_on c.compare_logs.ensures.cause c.rebuild.new.self
    (rebuilding.follows turn c.if-self.false c.as_slice-3.result.now (ap (map plain_log) c.as_slice-3.ensures.value ∙ c.in-Ok.ensures ∙ ap (map view_of) c.as_slice.ensures.value) c.in-Ok-first_placement.placed c.in-Ok-first_placement.ensures.rows c.in-Ok-first_placement.ensures.registers _ c.rebuild.new.self c.if-self.false (rebuilding.retexted turn c.compare_logs.new.text c.compare_logs.ensures.text) c.rebuild.ensures)
    (rebuilding.none_of c.compare_logs.result c.in_default-compare_logs.not-Some)
