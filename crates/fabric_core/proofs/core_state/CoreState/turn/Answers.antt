use Rattle.std.proofs.Common.{sym, subst}
use Rattle.catalogue.specs.PlanOf.{plan_of}
use Rattle.catalogue.specs.declared.actor.Actor.{Actor}
use Rattle.fabric_core.specs.Racks.{seen}
use Rattle.fabric_core.specs.Standing.{IsTurnIn}
use Rattle.fabric_core.specs.CoreTurns.{IsTurnOf}
use Rattle.fabric_core.proofs.LogTexts.{turned_beside}
use Rattle.fabric_core.proofs.core_state.CoreState.turn.Goals as goal

pub step-requires : goal.step-requires
step-requires g c = (c.requires.0, subst (λ (a : Actor). IsTurnIn (plan_of c.args.session.now) c.args.self.now a c.args.at c.requires.0) c.in-Client.is c.requires.1)

pub enter_port-requires : goal.enter_port-requires
enter_port-requires g c = (c.requires.0, c.args.at, subst (λ (a : Actor). IsTurnIn (plan_of c.args.session.now) c.args.self.now a c.args.at c.requires.0) c.in-Port.is c.requires.1)

pub advance-requires : goal.advance-requires
advance-requires g c = (c.requires.0, c.args.at, subst (λ (a : Actor). IsTurnIn (plan_of c.args.session.now) c.args.self.now a c.args.at c.requires.0) c.in-Stage.is c.requires.1)

pub returns-in-Port-clause-turn : goal.returns-in-Port-clause-turn
returns-in-Port-clause-turn g c s turn =
    turned_beside _ s _ _ c.args.self.now c.enter_port.new.self _ c.enter_port.result c.turn_if.result c.in-Port.is (λ e. cc) turn.reached turn.stands c.enter_port.ensures.logs
    (c.enter_port.ensures.turn s c.args.at (subst (λ (a : Actor). IsTurnIn (plan_of c.args.session.now) c.args.self.now a c.args.at s) c.in-Port.is turn)) c.turn_if.ensures

pub returns-in-Stage-clause-turn : goal.returns-in-Stage-clause-turn
returns-in-Stage-clause-turn g c s turn =
    turned_beside _ s _ _ c.args.self.now c.advance.new.self _ c.advance.result c.turn_if-in-Stage.result c.in-Stage.is (λ e. cc) turn.reached turn.stands c.advance.ensures.logs
    (c.advance.ensures.turn s c.args.at (subst (λ (a : Actor). IsTurnIn (plan_of c.args.session.now) c.args.self.now a c.args.at s) c.in-Stage.is turn)) c.turn_if-in-Stage.ensures

pub recover-requires : goal.recover-requires
recover-requires g c = (c.requires.0, c.args.at, subst (λ (a : Actor). IsTurnIn (plan_of c.args.session.now) c.args.self.now a c.args.at c.requires.0) c.in-Recover.is c.requires.1)

pub returns-in-Recover-clause-turn : goal.returns-in-Recover-clause-turn
returns-in-Recover-clause-turn g c s turn =
    subst (λ (a : Actor). IsTurnOf (plan_of c.args.session.now) s a c.args.self.now c.recover.new.self (seen (g.L.LogRack.told c.args.rack.now) (g.L.LogRack.keeps c.args.rack.now) (g.L.LogRack.faults c.args.rack.now)) (seen (g.L.LogRack.told c.recover.new.rack) (g.L.LogRack.keeps c.recover.new.rack) (g.L.LogRack.faults c.recover.new.rack)) c.recover.result) (sym c.in-Recover.is)
    (c.recover.ensures.turn s c.args.at (subst (λ (a : Actor). IsTurnIn (plan_of c.args.session.now) c.args.self.now a c.args.at s) c.in-Recover.is turn))
