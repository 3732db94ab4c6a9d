use Rattle.std.proofs.Common.{ap, refl}
use Rattle.catalogue.specs.PlanOf.{plan_of}
use Rattle.pipeline.specs.Plain.{PlainPipeline}
use Rattle.pipeline.specs.Rows.{advanced}
use Rattle.fabric_core.proofs.PacketMoves.{stage_rests}
use Rattle.fabric_core.proofs.SwitchShown.{advances, stays, was_idle, was_made}
use Rattle.fabric_core.proofs.core_state.CoreState.advance.Goals as goal

pub returns-then-not-self-clause-turn : goal.returns-then-not-self-clause-turn
returns-then-not-self-clause-turn c s at turn = (stage_rests (plan_of c.args.session.now) s 0 (turn.stands.switch.lost c.if-not-self.true).lost c.args.stage, refl)

pub returns-in-Moved-clause-turn : goal.returns-in-Moved-clause-turn
returns-in-Moved-clause-turn c s at turn =
    let core = c.args.self.now in
    advances (plan_of c.args.session.now) s core c.if-not-self.false turn.stands turn.reached c.args.stage c.advance.new.self (was_made (advanced core.pipeline c.args.stage) core.pipeline c.advance.new.self c.advance.result c.advance.ensures c.in-Moved.is)

pub returns-in_default-clause-turn : goal.returns-in_default-clause-turn
returns-in_default-clause-turn c s at turn =
    let core = c.args.self.now in
    let idle = was_idle (advanced core.pipeline c.args.stage) core.pipeline c.advance.new.self c.advance.result c.advance.ensures c.in_default.not-Moved in
    (stays (plan_of c.args.session.now) s core c.if-not-self.false turn.stands turn.reached c.args.stage idle.0, ap (λ (p : PlainPipeline). record core { pipeline = p }) idle.1)
