use Rattle.std.proofs.Common.{◌≡◌, ℕ, ◌≤◌, List, length, map, Ok, refl, sym, ap, subst, ◌∙◌, vec_capacity, arith}
use Rattle.std.specs.Prelude.{Option, slice_get}
use Rattle.std.specs.Option.{option_map}
use Rattle.std.proofs.lemmas.List.{length-map}
use Rattle.std.proofs.lemmas.Option.{slice_get-map}
use Rattle.std.proofs.lemmas.Result.{err_from_is_err_and}
use Rattle.port_io.proofs.Causes.{ok_is_no_failure}
use Rattle.switch_packet.specs.Packets.{plain_intent, plain_outcome}
use Rattle.switch_packet.specs.Ranges.{Fits}
use Rattle.intent_log.specs.Ahead.{IsPieceOf}
use Rattle.intent_log.specs.Checking.{GoesOn, text_if}
use Rattle.intent_log.specs.LogText.{intent_text, outcome_text}
use Rattle.intent_log.specs.Records.{HasPairs}
use Rattle.intent_log.proofs.TextLaws.{compared_more, intent_changed, outcome_changed, end_checked, all_get, all_if, if_fits, place_behind}
use Rattle.intent_log.proofs.check.check_log.Goals as goal

pub check_intent-requires-clause-intent : goal.check_intent-requires-clause-intent
check_intent-requires-clause-intent g c =
    let here = slice_get-map plain_intent c.args.want.now.intents.items c.loop-k.k ∙ ap (option_map plain_intent) c.get.ensures in
    all_get (λ i. Fits i.packet) _ c.loop-k.k _ c.requires.written.intents here

pub check_intent-requires-clause-fits : goal.check_intent-requires-clause-fits
check_intent-requires-clause-fits g c =
    let here = slice_get-map plain_intent c.args.want.now.intents.items c.loop-k.k ∙ ap (option_map plain_intent) c.get.ensures in
    omega (arith, place_behind _ _ _ c.loop-k.k _ _ _ c.loop-k.invariant.compared here refl, c.requires.written.places)

pub check_intent-requires-clause-room : goal.check_intent-requires-clause-room
check_intent-requires-clause-room g c =
    let here = slice_get-map plain_intent c.args.want.now.intents.items c.loop-k.k ∙ ap (option_map plain_intent) c.get.ensures in
    omega (arith, all_get (λ i. length (intent_text i) ≤ vec_capacity c.args.buf.now) _ c.loop-k.k _ c.requires.room.intents here, c.loop-k.invariant.room)

pub returns-in_err-at-clause-checked : goal.returns-in_err-at-clause-checked
returns-in_err-at-clause-checked g c =
    let here = slice_get-map plain_intent c.args.want.now.intents.items c.loop-k.k ∙ ap (option_map plain_intent) c.get.ensures in
    let fault = err_from_is_err_and c.from_residual.result c.from_residual.ensures.1 in
    rw (fault.1, fault.2) (intent_changed _ _ _ _ c.loop-k.k c.loop-k.at _ _ c.loop-k.invariant.compared (c.loop-k.invariant.stay c.args.client) here c.in_err-at.ensures.goes_on)

pub check_outcome-requires-clause-outcome : goal.check_outcome-requires-clause-outcome
check_outcome-requires-clause-outcome g c = rw c.outcome_at.ensures (all_if HasPairs _ c.loop-k.k c.requires.written.outcomes)

pub check_outcome-requires-clause-fits : goal.check_outcome-requires-clause-fits
check_outcome-requires-clause-fits g c =
    let here = slice_get-map plain_intent c.args.want.now.intents.items c.loop-k.k ∙ ap (option_map plain_intent) c.get.ensures in
    let outcomes = map plain_outcome c.args.want.now.outcomes.items in
    let behind = place_behind _ _ _ c.loop-k.k _ _ _ c.loop-k.invariant.compared here refl in
    rw c.outcome_at.ensures (if_fits (slice_get outcomes c.loop-k.k) c.in_ok-at.at (omega (arith, behind, c.requires.written.places, c.in_ok-at.ensures.goes_on.0)))

pub check_outcome-requires-clause-room : goal.check_outcome-requires-clause-room
check_outcome-requires-clause-room g c =
    let same : vec_capacity c.check_intent.new.buf ≡ vec_capacity c.args.buf.now = omega (arith, c.in_ok-at.ensures.buf, c.loop-k.invariant.room) in
    rw (c.outcome_at.ensures, same) (all_if (λ o. length (outcome_text o) ≤ vec_capacity c.args.buf.now) _ c.loop-k.k c.requires.room.outcomes)

pub returns-in_err-at-2-clause-checked : goal.returns-in_err-at-2-clause-checked
returns-in_err-at-2-clause-checked g c =
    let here = slice_get-map plain_intent c.args.want.now.intents.items c.loop-k.k ∙ ap (option_map plain_intent) c.get.ensures in
    let first = subst (λ (t : Option (List ℕ)). GoesOn t c.loop-k.at (intent_text (plain_intent c.get.result.now)) (Ok c.in_ok-at.at)) (c.loop-k.invariant.stay c.args.client) c.in_ok-at.ensures.goes_on in
    let fault = err_from_is_err_and c.from_residual-in_err-at-2.result c.from_residual-in_err-at-2.ensures.1 in
    rw (fault.1, fault.2) (
    outcome_changed _ _ _ _ c.loop-k.k c.loop-k.at c.in_ok-at.at _ _ _ c.loop-k.invariant.compared (c.in_ok-at.ensures.unchanged c.args.client ∙ c.loop-k.invariant.stay c.args.client) here
    (sym c.outcome_at.ensures) first c.in_err-at-2.ensures.goes_on
    )

pub loop-k-preserved : goal.loop-k-preserved
loop-k-preserved g c =
    let here = slice_get-map plain_intent c.args.want.now.intents.items c.loop-k.k ∙ ap (option_map plain_intent) c.get.ensures in
    let stay = c.in_ok-at.ensures.unchanged c.args.client ∙ c.loop-k.invariant.stay c.args.client in
    let first = subst (λ (t : Option (List ℕ)). GoesOn t c.loop-k.at (intent_text (plain_intent c.get.result.now)) (Ok c.in_ok-at.at)) (c.loop-k.invariant.stay c.args.client) c.in_ok-at.ensures.goes_on in
    let there = c.outcome_at.ensures in
    let goes = rw there at c.in_ok-at-2.ensures.goes_on in
    let outcomes = map plain_outcome c.args.want.now.outcomes.items in
    let second = subst (λ (t : Option (List ℕ)). GoesOn t c.in_ok-at.at (text_if (slice_get outcomes c.loop-k.k)) (Ok c.in_ok-at-2.at)) stay goes in
    record {
      compared = compared_more _ _ _ c.loop-k.k c.loop-k.at _ _ c.in_ok-at.at c.in_ok-at-2.at c.loop-k.invariant.compared here refl first.0 second.0 first.1 second.1;
      ahead = subst (λ (t : Option (List ℕ)). IsPieceOf t c.check_outcome.new.ahead) stay c.in_ok-at-2.ensures.ahead;
      room = c.in_ok-at-2.ensures.buf ∙ c.in_ok-at.ensures.buf ∙ c.loop-k.invariant.room;
      stay = λ client. c.in_ok-at-2.ensures.unchanged client ∙ c.in_ok-at.ensures.unchanged client ∙ c.loop-k.invariant.stay client;
      keeps_on = λ k. c.in_ok-at-2.ensures.keeps_on (c.in_ok-at.ensures.keeps_on (c.loop-k.invariant.keeps_on k));
      still = c.in_ok-at-2.ensures.cause.still (ok_is_no_failure _ _) ∙ c.in_ok-at.ensures.cause.still (ok_is_no_failure _ _) ∙ c.loop-k.invariant.still;
    }

pub returns-clause-checked : goal.returns-clause-checked
returns-clause-checked g c =
    end_checked _ _ _ _ c.loop-k.k c.loop-k.at c.check_end.result c.loop-k.invariant.compared (c.loop-k.invariant.stay c.args.client) (omega (arith, length-map c.args.want.now.intents.items plain_intent)) c.check_end.ensures.ends
