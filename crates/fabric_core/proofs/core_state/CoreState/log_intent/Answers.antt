use Rattle.std.proofs.Common.{ap, refl, arith}
use Rattle.txn_model.specs.declared.stamp.Stamp.{Stamp}
use Rattle.switch_packet.specs.Packets.{plain}
use Rattle.client_phase.specs.declared.action.Met.TheVariants.{Done}
use Rattle.fabric_core.proofs.core_state.CoreState.log_intent.Goals as goal
use Rattle.fabric_core.proofs.Intents as intents
use Rattle.fabric_core.proofs.LogTexts.{intent_short}
use Rattle.fabric_core.proofs.Present as present

pub index-runner-requires : goal.index-runner-requires
index-runner-requires g c = omega (arith, present.within_kept c.requires.action.2.turn, c.args.self.now.runners.ok.0)

pub resolve-requires-clause-visit : goal.resolve-requires-clause-visit
resolve-requires-clause-visit g c = intents.visit c.requires.action.2 c.requires.item c.index-runner.ensures

pub resolve-requires-clause-sets : goal.resolve-requires-clause-sets
resolve-requires-clause-sets g c = intents.sets c.requires.action.2 c.requires.item c.index-runner.ensures

pub resolve-requires-clause-hot : goal.resolve-requires-clause-hot
resolve-requires-clause-hot g c = intents.some_hot c.requires.action.2 c.requires.item c.index-runner.ensures

pub resolve-requires-clause-places : goal.resolve-requires-clause-places
resolve-requires-clause-places g c = intents.places c.requires.action.2 c.requires.item c.index-runner.ensures

pub resolve-requires-clause-filled : goal.resolve-requires-clause-filled
resolve-requires-clause-filled g c = intents.filled c.requires.action.2 c.requires.item c.index-runner.ensures

pub resolve-requires-clause-zeros : goal.resolve-requires-clause-zeros
resolve-requires-clause-zeros g c = c.requires.action.2.turn.stands.draft.zeros

pub resolve-requires-clause-room : goal.resolve-requires-clause-room
resolve-requires-clause-room g c = c.requires.action.2.turn.stands.draft.packet

pub resolve-requires-clause-few : goal.resolve-requires-clause-few
resolve-requires-clause-few g c = intents.few_ops c.requires.action.2 c.requires.item c.index-runner.ensures

pub append_intent-requires-clause-client : goal.append_intent-requires-clause-client
append_intent-requires-clause-client g c = present.few_clients c.requires.action.2.turn

pub append_intent-requires-clause-fits : goal.append_intent-requires-clause-fits
append_intent-requires-clause-fits g c =
    intents.fits c.requires.action.2 c.requires.item c.index-runner.ensures (record { floor = c.greater.result.number; packet = plain c.resolve.new.to }) (intents.intent_made c.requires.action.2 c.requires.item c.index-runner.ensures (record { floor = c.greater.result.number; packet = plain c.resolve.new.to }) (ap (λ (t : Stamp). t.number) c.greater.ensures) c.resolve.ensures.packet)

pub append_intent-requires-clause-room : goal.append_intent-requires-clause-room
append_intent-requires-clause-room g c =
    let fits = intents.fits c.requires.action.2 c.requires.item c.index-runner.ensures (record { floor = c.greater.result.number; packet = plain c.resolve.new.to }) (intents.intent_made c.requires.action.2 c.requires.item c.index-runner.ensures (record { floor = c.greater.result.number; packet = plain c.resolve.new.to }) (ap (λ (t : Stamp). t.number) c.greater.ensures) c.resolve.ensures.packet) in
    omega (arith, intent_short (record { floor = c.greater.result.number; packet = plain c.resolve.new.to }) fits, c.requires.action.2.turn.stands.draft.text)

pub returns-in-Err-clause-turn : goal.returns-in-Err-clause-turn
returns-in-Err-clause-turn g c s at a =
    intents.failed a c.requires.item c.index-runner.ensures
    (record c.args.self.now.draft { intent = record { floor = c.greater.result.number; packet = c.resolve.new.to }; zeros = c.resolve.new.zeros; text = c.append_intent.new.buf })
    (record { packet = omega (arith, a.turn.stands.draft.packet, c.resolve.ensures.room); outcome = a.turn.stands.draft.outcome; zeros = omega (arith, a.turn.stands.draft.zeros, c.resolve.ensures.zeros); text = omega (arith, a.turn.stands.draft.text, c.append_intent.ensures.buf) })
    (record { floor = c.greater.result.number; packet = plain c.resolve.new.to }) (intents.intent_made a c.requires.item c.index-runner.ensures (record { floor = c.greater.result.number; packet = plain c.resolve.new.to }) (ap (λ (t : Stamp). t.number) c.greater.ensures) c.resolve.ensures.packet)
    (record { appended = c.append_intent.ensures.appended; front = c.append_intent.ensures.front; keeps_on = c.append_intent.ensures.keeps_on; no_memory = c.append_intent.ensures.no_memory; others = c.append_intent.ensures.others; cause = c.append_intent.ensures.cause })
    c.in-Err.fault c.in-Err.is c.turn_after.result c.turn_after.ensures

pub index_mut-requires : goal.index_mut-requires
index_mut-requires g c = omega (arith, present.within_kept c.requires.action.2.turn, c.args.self.now.runners.ok.0)

pub step-requires-clause-item : goal.step-requires-clause-item
step-requires-clause-item g c = present.item_kept c.requires.action.2 c.index_mut.ensures.value

pub step-requires-clause-step : goal.step-requires-clause-step
step-requires-clause-step g c = present.can_step c.requires.action.2 c.index_mut.ensures.value Done refl

pub index_mut-requires-2 : goal.index_mut-requires-2
index_mut-requires-2 g c = omega (arith, intents.within_kept_logs c.requires.action.2 c.requires.item c.index-runner.ensures, c.args.self.now.logs.ok.0)

pub push_intent-requires : goal.push_intent-requires
push_intent-requires g c = intents.has_room c.requires.action.2 c.requires.item c.index-runner.ensures c.index_mut-2.ensures.value

pub returns-clause-turn : goal.returns-clause-turn
returns-clause-turn g c s at a =
    intents.moved a c.requires.item c.index_mut.ensures.value
    (record c.args.self.now.draft { intent = record { floor = c.greater.result.number; packet = c.resolve.new.to }; zeros = c.resolve.new.zeros; text = c.append_intent.new.buf })
    (record { packet = omega (arith, a.turn.stands.draft.packet, c.resolve.ensures.room); outcome = a.turn.stands.draft.outcome; zeros = omega (arith, a.turn.stands.draft.zeros, c.resolve.ensures.zeros); text = omega (arith, a.turn.stands.draft.text, c.append_intent.ensures.buf) })
    (record { floor = c.greater.result.number; packet = plain c.resolve.new.to }) (intents.intent_made a c.requires.item c.index-runner.ensures (record { floor = c.greater.result.number; packet = plain c.resolve.new.to }) (ap (λ (t : Stamp). t.number) c.greater.ensures) c.resolve.ensures.packet)
    (record { appended = c.append_intent.ensures.appended; front = c.append_intent.ensures.front; keeps_on = c.append_intent.ensures.keeps_on; no_memory = c.append_intent.ensures.no_memory; others = c.append_intent.ensures.others; cause = c.append_intent.ensures.cause })
    _ c.in_default.is c.step.ensures c.index_mut-2.ensures.value c.push_intent.new.self c.push_intent.new.packet c.push_intent.ensures.pushed c.push_intent.ensures.room
