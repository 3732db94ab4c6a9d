-- Histories of reached states are legal, and when all clients have finished each tuple has the value of the serial run.
use Rattle.std.proofs.Common.{◌≡◌, ◌≢◌, ◌⊎◌, ℕ, zero, suc, ◌+◌, ◌≤◌, Bool, true, false, List, [], ◌∷◌, length, get_or, is_some, Option, Some, None, IsSome, inl, inr, refl, sym, ap, subst, ◌∙◌, if◌then◌else◌}
use Rattle.std.specs.List.{AllByRecursion}
use Rattle.txn_model.specs.Places.{Places}
use Rattle.txn_model.specs.Serial.{serial_run}
use Rattle.txn_model.specs.Tuples.{value_at}
use Rattle.txn_model.specs.declared.op.Op.{Op}
use Rattle.txn_model.specs.declared.op.TupleId.{TupleId}
use Rattle.txn_model.specs.declared.pairs.Pair.{Pair}
use Rattle.txn_model.specs.declared.place.Place.{Place}
use Rattle.stage_layout.specs.Layout.{place_of}
use Rattle.history_model.specs.Chain.{all_steps, last_value}
use Rattle.history_model.specs.History.{HistoryEntry, History, AllAnswered}
use Rattle.history_model.specs.Legal.{scripts_of}
use Rattle.history_model.specs.declared.entry.Entry.{Entry}
use Rattle.switch_packet.specs.Packets.{PlainPacket}
use Rattle.switch_packet.specs.Replay.{register_at, replay}
use Rattle.switch_model.specs.Laws.{IsQuiet}
use Rattle.switch_model.specs.Switch.{Switch, Desk, desk_at, entered}
use Rattle.switch_model.proofs.Replayed.{registers_replayed}
use Rattle.warm_split.specs.Laws.{HavePlacesOfTheirOwn}
use Rattle.catalogue.specs.Plan.{Plan, script_at, hot_cells}
use Rattle.catalogue.specs.Sound.{IsSound}
use Rattle.core_model.specs.declared.phase.Phase.TheVariants.{Waiting, Installing, Finished}
use Rattle.core_model.specs.Facts.{Clients, script_of_entry, answered}
use Rattle.core_model.specs.State.{ClientState, at_item, zero_stamp, script_now}
use Rattle.core_model.proofs.Legal.{all_distinct}
use Rattle.fabric_model.specs.Carried.{is_carried, carried, AreCarriedBy, FitsDesk}
use Rattle.fabric_model.specs.Holds.{Holds, HoldsNow}
use Rattle.fabric_model.specs.Recorded.{HasRecords}
use Rattle.fabric_model.specs.Laws.{IsReached, HasLegalHistory, HasSerialValues, AllFinished, tuple_now, value_in, register_in}
use Rattle.fabric_model.specs.State.{State, client_at, answered_ones}
use Rattle.fabric_model.proofs.Completed.{Completed, Fills, IsOpenWell, AreOpenWell, complete}
use Rattle.fabric_model.proofs.Fitting.{packets_fit}
use Rattle.fabric_model.proofs.EntriesKept.{unanswered_wait}
use Rattle.fabric_model.proofs.AnsweredRecords.{records_kept}
use Rattle.fabric_model.proofs.Either.{FactsOf, facts_of, up_of}
use Rattle.fabric_model.proofs.Keeping.{Stands, stands_step, stands_at_opening}
use Rattle.fabric_model.proofs.Kept.{visit_of, some_hot}
use Rattle.fabric_model.proofs.Layouts.{places_of_their_own, first_registers}
use Rattle.fabric_model.proofs.LegalHistory.{all_answered_ones, same_scripts, legal, whole_run, hot_last}
use Rattle.fabric_model.proofs.Runs.{of_reached}

pub stands : (plan : Plan) (s : State) → IsReached plan s → Stands plan s
stands plan s reached = of_reached plan (Stands plan) (stands_at_opening plan reached.sound) (λ z next actor r h is. stands_step plan r.sound (packets_fit plan r.sound) z next actor r h is) s reached

pub holds_now : (plan : Plan) (s : State) → IsReached plan s → HoldsNow plan s
holds_now plan s reached = (stands plan s reached).now

pub holds_up : (plan : Plan) (s : State) → IsReached plan s → (now : Switch) → s.switch ≡ Some now → Holds plan s
holds_up plan s reached now up = up_of plan s (holds_now plan s reached) now up

pub facts_now : (plan : Plan) (s : State) → IsReached plan s → FactsOf plan s
facts_now plan s reached = facts_of plan s (holds_now plan s reached)

pub records_answer : (plan : Plan) (s : State) → IsReached plan s → (c : ℕ) → HasRecords plan s c
records_answer plan s reached c = records_kept plan s (stands plan s reached).kept c

-- a pending entry's client waits at its item
pending_at_item : (plan : Plan) (at : Clients) (desks : ℕ → Desk) (k : ℕ) (m : Places) (es : History) (ps : List PlainPacket) → AreCarriedBy plan at desks k m es ps
    → AllByRecursion (λ e. e.pairs ≡ None → ((at e.entry.client).phase ≡ Waiting) × ((at e.entry.client).seq ≡ e.entry.seq)) es
pending_at_item plan at desks k m [] ps all = tt
pending_at_item plan at desks k m (e ∷ es) [] all = absurd all
pending_at_item plan at desks k m (e ∷ es) (p ∷ ps) all = (λ none. ((all.0.pending none).phase, (all.0.pending none).seq), pending_at_item plan at desks (k + 1) (replay p m).after es ps all.1)

-- each unanswered entry is that of a transaction whose script needs one visit
open_well : (plan : Plan) (s : State) → IsSound plan → Holds plan s → (l : History) → AllByRecursion (λ e. e.pairs ≡ None → is_carried e ≡ true) l
    → AllByRecursion (λ e. e.pairs ≡ None → ((client_at s e.entry.client).phase ≡ Waiting) × ((client_at s e.entry.client).seq ≡ e.entry.seq)) (carried l) → AreOpenWell plan l
open_well plan s sound h [] hosts all = tt
open_well plan s sound h (e ∷ l) hosts all = by (is_carried e) refl all (open_well plan s sound h l hosts.1)
  where
    Waits : HistoryEntry → Type 0
    Waits f = f.pairs ≡ None → ((client_at s f.entry.client).phase ≡ Waiting) × ((client_at s f.entry.client).seq ≡ f.entry.seq)

    by : (b : Bool) → is_carried e ≡ b → AllByRecursion Waits (if b then e ∷ carried l else carried l) → (AllByRecursion Waits (carried l) → AreOpenWell plan l) → IsOpenWell plan e × AreOpenWell plan l
    by true is a rest = (
      λ none.
          let w = a.0 none in
          let script : script_now plan e.entry.client (client_at s e.entry.client) ≡ script_of_entry plan e = ap (script_at plan e.entry.client) w.1 in
          (is, visit_of plan e.entry.client e.entry.seq sound (subst (λ (ops : List Op). 1 ≤ length ops) script (some_hot plan (script_now plan e.entry.client (client_at s e.entry.client)) (h.ties.hot_ones e.entry.client (inr w.0))))),
      rest a.1,
    )
    by false is a rest = (λ none. let clash : true ≡ false = sym (hosts.0 none) ∙ is in cc, rest a)

-- where all have finished, so has each
pub each_finished : (clients : List ClientState) (d : ℕ) → AllByRecursion (λ client. client.phase ≡ Finished) clients → (get_or clients d (at_item 0 1 zero_stamp)).phase ≡ Finished
each_finished [] d all = refl
each_finished (x ∷ clients) zero all = all.0
each_finished (x ∷ clients) (suc d) all = each_finished clients d all.1

-- where no entry waits, all are answered
answered_all : (at : Clients) → ((d : ℕ) → (at d).phase ≢ Waiting) → (l : History) → AllByRecursion (λ e. e.pairs ≡ None → (at e.entry.client).phase ≡ Waiting) l → AllAnswered l
answered_all at none [] all = tt
answered_all at none (e ∷ l) all = (one e.pairs refl, answered_all at none l all.1)
  where
    one : (o : Option (List Pair)) → e.pairs ≡ o → IsSome e.pairs
    one (Some pairs) is = subst IsSome (sym is) refl
    one None is = absurd (none e.entry.client (all.0 is))

-- a history that is answered is filled by itself alone
fills_same : (l whole : History) → AllAnswered l → Fills l whole → whole ≡ l
fills_same [] [] all fills = refl
fills_same [] (f ∷ whole) all fills = absurd fills
fills_same (e ∷ l) [] all fills = absurd fills
fills_same (e ∷ l) (f ∷ whole) all fills =
    ap (λ (x : Entry). record { entry = x; pairs = f.pairs } ∷ whole) fills.0 ∙ ap (λ (o : Option (List Pair)). record { entry = e.entry; pairs = o } ∷ whole) (same fills.1) ∙ ap (λ (r : History). e ∷ r) (fills_same l whole all.1 fills.2)
  where
    unanswered : (o : Option (List Pair)) → o ≡ None → IsSome o → ⊥
    unanswered None e i = cc
    unanswered (Some p) e i = cc

    same : (e.pairs ≡ None) ⊎ (f.pairs ≡ e.pairs) → f.pairs ≡ e.pairs
    same (inl none) = absurd (unanswered e.pairs none all.0)
    same (inr is) = is

module _ (plan : Plan) (s : State) (sound : IsSound plan) (h : Holds plan s) where
  done : Completed plan s.store (entered h.now) (hot_cells plan) s.history
  done = complete plan s.store (entered h.now) (hot_cells plan) (all_distinct plan sound) [] s.history (client_at s) (desk_at h.now) tt
      (open_well plan s sound h s.history h.ties.unanswered (pending_at_item plan (client_at s) (desk_at h.now) 0 (hot_cells plan) (carried s.history) (entered h.now) h.ties.carried_ones)) h.ties.cold h.ties.sorted h.ties.carried_ones

  own : HavePlacesOfTheirOwn plan.layout
  own = places_of_their_own plan.shape plan.tuples plan.layout sound.layout

  cells : (t : TupleId) (place : Place) → place_of plan.layout t ≡ Some place → register_at (hot_cells plan) place ≡ value_at plan.tuples t
  cells = first_registers plan.shape plan.tuples plan.layout sound.layout

  pub legal_now : HasLegalHistory plan s
  legal_now = record { sorted = h.ties.sorted; legal = legal plan own s.store (entered h.now) (hot_cells plan) cells s.history h.ties.hosts done }

  -- when all have finished, no client waits for an answer
  none_waits : AllFinished s → (d : ℕ) → (client_at s d).phase ≢ Waiting
  none_waits finished d e = let clash : Finished ≡ Waiting = sym (each_finished s.clients d finished) ∙ e in cc

  none_installs : AllFinished s → (d : ℕ) → (client_at s d).phase ≢ Installing
  none_installs finished d e = let clash : Finished ≡ Installing = sym (each_finished s.clients d finished) ∙ e in cc

  pub all_answered : AllFinished s → AllAnswered s.history
  all_answered finished = answered_all (client_at s) (none_waits finished) s.history (unanswered_wait plan (client_at s) (desk_at h.now) (hot_cells plan) s.history (entered h.now) h.ties.unanswered h.ties.carried_ones)

  quiet : AllFinished s → IsQuiet h.now
  quiet finished c k is = absurd (none_waits finished c (subst (FitsDesk plan s.history c (client_at s c)) is (h.ties.under_way c)).0)

  serial : (t : TupleId) → last_value t (value_at plan.tuples t) (all_steps (answered plan done.whole)) ≡ value_at (serial_run (scripts_of (script_at plan) s.history) plan.tuples).after t
  serial t =
      sym ((whole_run plan own s.store (entered h.now) (hot_cells plan) cells s.history h.ties.hosts done).last t)
      ∙ ap (λ (l : List (List Op)). value_at (serial_run l plan.tuples).after t) (same_scripts plan s.history done.whole done.fills)

  whole_same : AllFinished s → answered_ones s.history ≡ done.whole
  whole_same finished = all_answered_ones s.history (all_answered finished) ∙ sym (fills_same s.history done.whole (all_answered finished) done.fills)

  pub values_now : AllFinished s → HasSerialValues plan s
  values_now finished = record { answered = all_answered finished; values = λ t. by t (place_of plan.layout t) refl }
    where
      by : (t : TupleId) (o : Option Place) → place_of plan.layout t ≡ o → tuple_now plan s t ≡ value_at (serial_run (scripts_of (script_at plan) s.history) plan.tuples).after t
      by t (Some place) is =
          ap (value_in s t) is ∙ ap (λ (o : Option Switch). register_in o place) h.up ∙ ap (λ (m : Places). register_at m place) (registers_replayed plan.shape (hot_cells plan) h.now h.reached (quiet finished))
          ∙ sym (hot_last plan own s.store (entered h.now) (hot_cells plan) cells s.history h.ties.hosts done t place is) ∙ serial t
      by t None is =
          ap (value_in s t) is
          ∙ sym (h.ties.cold.unchanged t (ap is_some is) (λ d k op st i on. absurd (none_installs finished d i)))
          ∙ ap (λ (l : History). last_value t (value_at plan.tuples t) (all_steps (answered plan l))) (whole_same finished) ∙ serial t

when_up : {Q : Type 0} (o : Option Switch) → IsSome o → ((now : Switch) → o ≡ Some now → Q) → Q
when_up None up go = let clash = up in cc
when_up (Some now) up go = go now refl

pub legal_when_up : (plan : Plan) (s : State) → IsReached plan s → IsSome s.switch → HasLegalHistory plan s
legal_when_up plan s reached up = when_up s.switch up (λ now is. legal_now plan s reached.sound (holds_up plan s reached now is))

pub values_when_up : (plan : Plan) (s : State) → IsReached plan s → IsSome s.switch → AllFinished s → HasSerialValues plan s
values_when_up plan s reached up finished = when_up s.switch up (λ now is. values_now plan s reached.sound (holds_up plan s reached now is) finished)
