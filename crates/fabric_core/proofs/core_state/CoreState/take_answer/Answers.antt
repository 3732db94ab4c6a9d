use Rattle.std.proofs.Common.{refl, sym, arith, ◌∙◌}
use Rattle.switch_packet.specs.Packets.{plain_outcome}
use Rattle.fabric_core.proofs.core_state.CoreState.take_answer.Goals as goal
use Rattle.fabric_core.proofs.LogTexts.{outcome_short}
use Rattle.fabric_core.proofs.Outcomes as outcomes
use Rattle.fabric_core.proofs.Present as present

pub returns-then-not-self-clause-turn : goal.returns-then-not-self-clause-turn
returns-then-not-self-clause-turn g c s at a = (outcomes.stays_lost a c.if-not-self.true c.requires.item, refl)

pub index-requires : goal.index-requires
index-requires g c = omega (arith, present.within_kept c.requires.action.2.turn, c.args.self.now.runners.ok.0)

pub returns-in_default-clause-turn : goal.returns-in_default-clause-turn
returns-in_default-clause-turn g c s at a = (outcomes.stays a c.if-not-self.false c.requires.item c.index.ensures c.answer_number.result c.answer_number.ensures c.in_default.is, refl)

pub note_outcome-requires-clause-room : goal.note_outcome-requires-clause-room
note_outcome-requires-clause-room g c = c.requires.action.2.turn.stands.draft.outcome

pub note_outcome-requires-clause-short : goal.note_outcome-requires-clause-short
note_outcome-requires-clause-short g c = outcomes.few c.requires.action.2 c.if-not-self.false c.requires.item c.index.ensures c.answer_number.ensures c.in-Some.is c.answer_pairs-hot.ensures

pub append_outcome-requires-clause-client : goal.append_outcome-requires-clause-client
append_outcome-requires-clause-client g c = present.few_clients c.requires.action.2.turn

pub append_outcome-requires-clause-pairs : goal.append_outcome-requires-clause-pairs
append_outcome-requires-clause-pairs g c =
    outcomes.some_pairs c.requires.action.2 c.if-not-self.false c.requires.item c.index.ensures c.answer_number.ensures c.in-Some.is c.answer_pairs-hot.ensures (plain_outcome c.note_outcome.new.to) c.index.result.now.state.seq refl c.note_outcome.ensures.outcome

pub append_outcome-requires-clause-room : goal.append_outcome-requires-clause-room
append_outcome-requires-clause-room g c =
    let some = outcomes.some_pairs c.requires.action.2 c.if-not-self.false c.requires.item c.index.ensures c.answer_number.ensures c.in-Some.is c.answer_pairs-hot.ensures (plain_outcome c.note_outcome.new.to) c.index.result.now.state.seq refl c.note_outcome.ensures.outcome in
    omega (arith, outcome_short (plain_outcome c.note_outcome.new.to) some.1, c.requires.action.2.turn.stands.draft.text)

pub returns-in-Err-clause-turn : goal.returns-in-Err-clause-turn
returns-in-Err-clause-turn g c s at a =
    outcomes.failed a c.if-not-self.false c.requires.item c.index.ensures c.answer_number.ensures c.in-Some.is c.answer_pairs-hot.ensures
    (record c.args.self.now.draft { outcome = c.note_outcome.new.to; text = c.append_outcome.new.buf })
    (record { packet = a.turn.stands.draft.packet; outcome = omega (arith, a.turn.stands.draft.outcome, c.note_outcome.ensures.room); zeros = a.turn.stands.draft.zeros; text = omega (arith, a.turn.stands.draft.text, c.append_outcome.ensures.buf) })
    (plain_outcome c.note_outcome.new.to) c.index.result.now.state.seq refl c.note_outcome.ensures.outcome
    (record { appended = c.append_outcome.ensures.appended; front = c.append_outcome.ensures.front; keeps_on = c.append_outcome.ensures.keeps_on; no_memory = c.append_outcome.ensures.no_memory; others = c.append_outcome.ensures.others; cause = c.append_outcome.ensures.cause })
    c.in-Err.fault c.in-Err.is c.turn_after.result c.turn_after.ensures

pub returns-in-Err-clause-idle : goal.returns-in-Err-clause-idle
returns-in-Err-clause-idle g c = λ idle. absurd (outcomes.fault_moves c.args.client c.in-Err.fault (sym c.turn_after.ensures ∙ idle))

pub index_mut-runner-requires : goal.index_mut-runner-requires
index_mut-runner-requires g c = omega (arith, present.within_kept c.requires.action.2.turn, c.args.self.now.runners.ok.0)

pub join_pairs-requires-clause-fit : goal.join_pairs-requires-clause-fit
join_pairs-requires-clause-fit g c = outcomes.fit c.requires.action.2 c.if-not-self.false c.requires.item c.index_mut-runner.ensures.value

pub join_pairs-requires-clause-hot : goal.join_pairs-requires-clause-hot
join_pairs-requires-clause-hot g c = outcomes.hot_count c.requires.action.2 c.if-not-self.false c.requires.item c.index_mut-runner.ensures.value c.answer_number.ensures c.in-Some.is c.answer_pairs-hot.ensures

pub join_pairs-requires-clause-filled : goal.join_pairs-requires-clause-filled
join_pairs-requires-clause-filled g c = outcomes.filled_now c.requires.action.2 c.if-not-self.false c.requires.item c.index_mut-runner.ensures.value

pub index_mut-requires : goal.index_mut-requires
index_mut-requires g c = omega (arith, outcomes.within_kept_logs c.requires.action.2 c.if-not-self.false c.requires.item c.index_mut-runner.ensures.value, c.args.self.now.logs.ok.0)

pub push_outcome-requires-clause-room : goal.push_outcome-requires-clause-room
push_outcome-requires-clause-room g c = outcomes.has_room c.requires.action.2 c.if-not-self.false c.requires.item c.index_mut-runner.ensures.value c.answer_number.ensures c.in-Some.is c.answer_pairs-hot.ensures c.index_mut.ensures.value

pub push_outcome-requires-clause-short : goal.push_outcome-requires-clause-short
push_outcome-requires-clause-short g c = outcomes.few c.requires.action.2 c.if-not-self.false c.requires.item c.index_mut-runner.ensures.value c.answer_number.ensures c.in-Some.is c.answer_pairs-hot.ensures

pub answer-requires-clause-last : goal.answer-requires-clause-last
answer-requires-clause-last g c =
    outcomes.is_open c.requires.action.2 c.if-not-self.false c.requires.item c.index_mut-runner.ensures.value c.answer_number.ensures c.in-Some.is c.answer_pairs-hot.ensures c.join_pairs.new.pairs c.join_pairs.ensures.items c.index.result.now.state.seq
    (present.seq_kept c.requires.action.2.turn c.index.ensures ∙ sym (present.seq_kept c.requires.action.2.turn c.index_mut-runner.ensures.value))

pub answer-requires-clause-pairs : goal.answer-requires-clause-pairs
answer-requires-clause-pairs g c =
    outcomes.has_pairs c.requires.action.2 c.if-not-self.false c.requires.item c.index_mut-runner.ensures.value c.answer_number.ensures c.in-Some.is c.answer_pairs-hot.ensures c.join_pairs.new.pairs c.join_pairs.ensures.items c.index.result.now.state.seq
    (present.seq_kept c.requires.action.2.turn c.index.ensures ∙ sym (present.seq_kept c.requires.action.2.turn c.index_mut-runner.ensures.value))

pub step-requires-clause-item : goal.step-requires-clause-item
step-requires-clause-item g c = present.item_kept c.requires.action.2 c.index_mut-runner.ensures.value

pub step-requires-clause-step : goal.step-requires-clause-step
step-requires-clause-step g c =
    outcomes.can_step c.requires.action.2 c.if-not-self.false c.requires.item c.index_mut-runner.ensures.value c.answer_number.ensures c.in-Some.is c.answer_pairs-hot.ensures c.join_pairs.new.pairs c.join_pairs.ensures.items c.join_pairs.ensures.spare

pub returns-clause-turn : goal.returns-clause-turn
returns-clause-turn g c s at a =
    outcomes.moved a c.if-not-self.false c.requires.item c.index_mut-runner.ensures.value c.answer_number.ensures c.in-Some.is c.answer_pairs-hot.ensures
    (record c.args.self.now.draft { outcome = c.note_outcome.new.to; text = c.append_outcome.new.buf })
    (record { packet = a.turn.stands.draft.packet; outcome = omega (arith, a.turn.stands.draft.outcome, c.note_outcome.ensures.room); zeros = a.turn.stands.draft.zeros; text = omega (arith, a.turn.stands.draft.text, c.append_outcome.ensures.buf) })
    (plain_outcome c.note_outcome.new.to) c.index.result.now.state.seq (present.seq_kept a.turn c.index.ensures ∙ sym (present.seq_kept a.turn c.index_mut-runner.ensures.value)) c.note_outcome.ensures.outcome
    (record { appended = c.append_outcome.ensures.appended; front = c.append_outcome.ensures.front; keeps_on = c.append_outcome.ensures.keeps_on; no_memory = c.append_outcome.ensures.no_memory; others = c.append_outcome.ensures.others; cause = c.append_outcome.ensures.cause })
    _ c.in_default-append_outcome.is c.join_pairs.new.pairs c.join_pairs.ensures.items c.step.ensures c.join_pairs.ensures.spare c.index_mut.ensures.value
    c.push_outcome.new.self c.push_outcome.ensures c.answer.new.self c.answer.ensures c.drop_answer.new.self c.drop_answer.ensures
