use Rattle.std.proofs.Common.{ap, refl, arith}
use Rattle.catalogue.specs.Items.{plain_item}
use Rattle.fabric_core.proofs.LogTexts.{moved_beside, turned_beside}
use Rattle.fabric_core.proofs.Present as present
use Rattle.fabric_core.proofs.Stepping as stepping
use Rattle.fabric_core.proofs.core_state.CoreState.step.Goals as goal

pub index-runner-requires : goal.index-runner-requires
index-runner-requires g c = omega (arith, present.within_kept c.requires.1, c.args.self.now.runners.ok.0)

pub returns-in_default-clause-turn : goal.returns-in_default-clause-turn
returns-in_default-clause-turn g c s turn = (stepping.rests_behind turn c.index-runner.ensures c.in_default.ensures, refl)

pub lose-requires : goal.lose-requires
lose-requires g c = (c.requires.0, c.args.at, stepping.loses_here c.requires.1 c.index-runner.ensures c.in-Some.ensures (ap plain_item c.in_default-item.is))

pub returns-in_default-item-clause-turn : goal.returns-in_default-item-clause-turn
returns-in_default-item-clause-turn g c s turn =
    turned_beside _ s _ _ c.args.self.now c.lose.new.self _ c.lose.result c.turn_if.result refl (λ e. cc) turn.reached turn.stands c.lose.ensures.logs
    (c.lose.ensures.turn s c.args.at (stepping.loses_here turn c.index-runner.ensures c.in-Some.ensures (ap plain_item c.in_default-item.is))) c.turn_if.ensures

pub action-requires-clause-fault : goal.action-requires-clause-fault
action-requires-clause-fault g c = stepping.has_no_fault c.requires.1 c.index-runner.ensures c.in-Some.ensures

pub action-requires-clause-fits : goal.action-requires-clause-fits
action-requires-clause-fits g c = stepping.fits c.requires.1 c.index-runner.ensures c.in-Some.ensures

pub ask-requires-clause-action : goal.ask-requires-clause-action
ask-requires-clause-action g c = (c.requires.0, stepping.acts c.requires.1 c.index-runner.ensures c.in-Some.ensures c.action.ensures c.in-Lock.is)

pub returns-in-Lock-clause-turn : goal.returns-in-Lock-clause-turn
returns-in-Lock-clause-turn g c s turn = moved_beside _ s _ c.args.self.now c.ask.new.self _ (λ e. cc) turn.reached turn.stands (c.ask.ensures.follows s (stepping.acts turn c.index-runner.ensures c.in-Some.ensures c.action.ensures c.in-Lock.is)) c.ask.ensures.logs

pub release-requires-clause-action : goal.release-requires-clause-action
release-requires-clause-action g c = (c.requires.0, c.args.at, stepping.acts c.requires.1 c.index-runner.ensures c.in-Some.ensures c.action.ensures c.in-Release.is)

pub returns-in-Release-clause-turn : goal.returns-in-Release-clause-turn
returns-in-Release-clause-turn g c s turn = moved_beside _ s _ c.args.self.now c.release.new.self _ (λ e. cc) turn.reached turn.stands (c.release.ensures.follows s c.args.at (stepping.acts turn c.index-runner.ensures c.in-Some.ensures c.action.ensures c.in-Release.is)) c.release.ensures.logs

pub decide-requires : goal.decide-requires
decide-requires g c = (c.requires.0, c.args.at, stepping.acts c.requires.1 c.index-runner.ensures c.in-Some.ensures c.action.ensures c.in-Decide.is)

pub returns-in-Decide-clause-turn : goal.returns-in-Decide-clause-turn
returns-in-Decide-clause-turn g c s turn = moved_beside _ s _ c.args.self.now c.decide.new.self _ (λ e. cc) turn.reached turn.stands (c.decide.ensures.follows s c.args.at (stepping.acts turn c.index-runner.ensures c.in-Some.ensures c.action.ensures c.in-Decide.is)) c.decide.ensures.logs

pub log_intent-requires-clause-action : goal.log_intent-requires-clause-action
log_intent-requires-clause-action g c = (c.requires.0, c.args.at, stepping.acts c.requires.1 c.index-runner.ensures c.in-Some.ensures c.action.ensures c.in-LogIntent.is)

pub returns-in-LogIntent-clause-turn : goal.returns-in-LogIntent-clause-turn
returns-in-LogIntent-clause-turn g c s turn = c.log_intent.ensures.turn s c.args.at (stepping.acts turn c.index-runner.ensures c.in-Some.ensures c.action.ensures c.in-LogIntent.is)

pub post-requires : goal.post-requires
post-requires g c = record { action = (c.requires.0, c.args.at, stepping.acts c.requires.1 c.index-runner.ensures c.in-Some.ensures c.action.ensures c.in-Post.is) }

pub returns-in-Post-clause-turn : goal.returns-in-Post-clause-turn
returns-in-Post-clause-turn g c s turn =
    turned_beside _ s _ _ c.args.self.now c.post.new.self _ c.post.result c.turn_if-in-Post.result refl (λ e. cc) turn.reached turn.stands c.post.ensures.logs
    (c.post.ensures.turn s c.args.at (stepping.acts turn c.index-runner.ensures c.in-Some.ensures c.action.ensures c.in-Post.is)) c.turn_if-in-Post.ensures

pub take_answer-requires-clause-action : goal.take_answer-requires-clause-action
take_answer-requires-clause-action g c = (c.requires.0, c.args.at, stepping.acts c.requires.1 c.index-runner.ensures c.in-Some.ensures c.action.ensures c.in-LogOutcome.is)

pub returns-in-LogOutcome-clause-turn : goal.returns-in-LogOutcome-clause-turn
returns-in-LogOutcome-clause-turn g c s turn = c.take_answer.ensures.turn s c.args.at (stepping.acts turn c.index-runner.ensures c.in-Some.ensures c.action.ensures c.in-LogOutcome.is)

pub install-requires-clause-action : goal.install-requires-clause-action
install-requires-clause-action g c = (c.requires.0, c.args.at, stepping.acts c.requires.1 c.index-runner.ensures c.in-Some.ensures c.action.ensures c.in-Install.is)

pub returns-in-Install-clause-turn : goal.returns-in-Install-clause-turn
returns-in-Install-clause-turn g c s turn = moved_beside _ s _ c.args.self.now c.install.new.self _ (λ e. cc) turn.reached turn.stands (c.install.ensures.follows s c.args.at (stepping.acts turn c.index-runner.ensures c.in-Some.ensures c.action.ensures c.in-Install.is)) c.install.ensures.logs

pub returns-in-Lose-clause-turn : goal.returns-in-Lose-clause-turn
returns-in-Lose-clause-turn g c s turn = (stepping.rests turn c.index-runner.ensures c.in-Some.ensures (ap plain_item c.in-Run.is) c.action.ensures c.in-Lose.is, refl)

pub returns-in-LogIntent-clause-idle : goal.returns-in-LogIntent-clause-idle
returns-in-LogIntent-clause-idle g c = λ idle. absurd (c.log_intent.ensures.moves idle)
