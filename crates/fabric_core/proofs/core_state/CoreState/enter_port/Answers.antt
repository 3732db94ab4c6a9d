use Rattle.std.proofs.Common.{ap, refl, arith}
use Rattle.catalogue.specs.PlanOf.{plan_of}
use Rattle.pipeline.specs.Plain.{PlainPipeline}
use Rattle.pipeline.specs.Rows.{entered}
use Rattle.fabric_core.proofs.PacketMoves.{enters_nowhere}
use Rattle.fabric_core.proofs.SwitchShown as shown
use Rattle.fabric_core.proofs.core_state.CoreState.enter_port.Goals as goal

pub returns-then-not-self-clause-turn : goal.returns-then-not-self-clause-turn
returns-then-not-self-clause-turn c s at turn = (enters_nowhere (plan_of c.args.session.now) s c.args.client (turn.stands.switch.lost c.if-not-self.true).lost, refl)

pub returns-in-Idle-clause-turn : goal.returns-in-Idle-clause-turn
returns-in-Idle-clause-turn c s at turn =
    let core = c.args.self.now in
    let idle = shown.was_idle (entered core.pipeline c.args.client) core.pipeline c.enter.new.self c.enter.result c.enter.ensures (shown.idle_is_not c.enter.result c.in-Idle.is) in
    (shown.keeps_out (plan_of c.args.session.now) s core c.if-not-self.false turn.stands turn.reached c.args.client idle.0, ap (λ (p : PlainPipeline). record core { pipeline = p }) idle.1)

pub index-requires : goal.index-requires
index-requires c = let t = c.requires.2 in omega (arith, shown.within_runners (plan_of c.args.session.now) c.requires.0 c.args.self.now c.if-not-self.false t.stands t.reached c.args.client t.within, c.args.self.now.runners.ok.0)

pub insert-requires-clause-transaction : goal.insert-requires-clause-transaction
insert-requires-clause-transaction c =
    let t = c.requires.2 in
    shown.is_transaction (plan_of c.args.session.now) c.requires.0 c.args.self.now c.if-not-self.false t.stands t.reached c.args.client t.within (shown.pass_is_one c.waits_for-pass.result _ c.eq.result c.waits_for-pass.ensures c.eq.ensures c.if-eq.true) c.index.result.now c.index.ensures

pub insert-requires-clause-above : goal.insert-requires-clause-above
insert-requires-clause-above c =
    let t = c.requires.2 in
    shown.is_above (plan_of c.args.session.now) c.requires.0 c.args.self.now c.if-not-self.false t.stands t.reached c.args.client t.within (shown.pass_is_one c.waits_for-pass.result _ c.eq.result c.waits_for-pass.ensures c.eq.ensures c.if-eq.true)
    c.index.result.now c.index.ensures c.next_number-number.result c.next_number-number.ensures

pub returns-then-eq-clause-turn : goal.returns-then-eq-clause-turn
returns-then-eq-clause-turn c s at turn =
    let core = c.args.self.now in
    shown.enters_first (plan_of c.args.session.now) s core c.if-not-self.false turn.stands turn.reached c.args.client turn.within (shown.pass_is_one c.waits_for-pass.result _ c.eq.result c.waits_for-pass.ensures c.eq.ensures c.if-eq.true)
    c.index.result.now c.index.ensures c.next_number-number.result c.next_number-number.ensures c.enter.new.self
    (shown.was_made (entered core.pipeline c.args.client) core.pipeline c.enter.new.self c.enter.result c.enter.ensures c.in_default.is) c.insert.new.self c.insert.ensures

pub returns-else-eq-clause-turn : goal.returns-else-eq-clause-turn
returns-else-eq-clause-turn c s at turn =
    let core = c.args.self.now in
    shown.enters_later (plan_of c.args.session.now) s core c.if-not-self.false turn.stands turn.reached c.args.client c.enter.new.self
    (shown.was_made (entered core.pipeline c.args.client) core.pipeline c.enter.new.self c.enter.result c.enter.ensures c.in_default.is) (shown.pass_is_not_one c.waits_for-pass.result _ c.eq.result c.waits_for-pass.ensures c.eq.ensures c.if-eq.false)
