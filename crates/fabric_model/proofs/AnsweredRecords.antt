-- Each outcome of a client's log answers the intent at its place, and the intent of its present item is open until then.
use Rattle.std.proofs.Common.{◌≡◌, ◌≢◌, ◌⊎◌, ℕ, zero, suc, ◌+◌, ◌-◌, ◌<◌, ◌≤◌, ◌==◌, nat_le, Bool, true, false, List, [], ◌∷◌, ◌++◌, append-nil, map, length, take, set, get_or, slice_get, Option, Some, None, IsSome, inl, inr, refl, sym, ap, subst, ◌∙◌, arith, if◌then◌else◌}
use Rattle.std.specs.List.{AllByRecursion}
use Rattle.std.proofs.lemmas.Bool.Decides.{nat_tests}
use Rattle.std.proofs.lemmas.List.{map-append}
use Rattle.txn_model.specs.declared.pairs.Pair.{Pair}
use Rattle.txn_model.specs.declared.stamp.Seen.{Seen}
use Rattle.txn_model.specs.declared.stamp.Stamp.{Stamp}
use Rattle.txn_model.proofs.SerialLaws.{item_of_all}
use Rattle.history_model.specs.History.{HistoryEntry, History, with_entry}
use Rattle.host_store.specs.Store.{seen_at}
use Rattle.warm_split.specs.Joined.{joined}
use Rattle.switch_packet.specs.Packets.{PlainPacket, PlainIntent, PlainOutcome}
use Rattle.switch_packet.specs.Replay.{replay_all}
use Rattle.placement_model.specs.Placements.{Task, IsPlacement, packets_of}
use Rattle.switch_model.specs.Switch.{Switch, restored, Answer, Desk, Vacant, Posted, Entered, desk_at, next_number, entered, answer_of}
use Rattle.warm_split.specs.Resolved.{packet_from}
use Rattle.catalogue.specs.Plan.{Plan, PlainItem, items_of, hot_cells}
use Rattle.catalogue.specs.declared.actor.Actor.{Actor}
use Rattle.core_model.specs.declared.phase.Phase.{Phase}
use Rattle.core_model.specs.declared.phase.Phase.TheVariants.{Ready, Locking, Aborting, Logged, Waiting, Installing, Finished}
use Rattle.core_model.specs.Asking.{IsAsking}
use Rattle.core_model.specs.Decision.{greatest, decision_stamp}
use Rattle.core_model.specs.Facts.{steps_now}
use Rattle.core_model.specs.Laws.{IsAscending}
use Rattle.core_model.specs.Run.{first_clients}
use Rattle.core_model.specs.State.{ClientState, at_item, script_now, zero_stamp}
use Rattle.core_model.specs.Step.{aborting, try_ended, next_item, installed_one}
use Rattle.core_model.proofs.Decide.{all-with_entry}
use Rattle.core_model.proofs.Fewer.{same_or_not}
use Rattle.core_model.proofs.StepsOf.{all_append}
use Rattle.fabric_model.specs.Carried.{is_carried, pending_entry}
use Rattle.fabric_model.specs.Holds.{Holds}
use Rattle.fabric_model.specs.Intents.{values_of, packet_now, intent_now, with_intent, with_outcome}
use Rattle.fabric_model.specs.Laws.{IsReached, HasEntry, AnswersStand}
use Rattle.fabric_model.specs.Recorded.{has_open, open_intent, IsAnswer, AreAnswers, IsTold, seqs_in, HasRecords}
use Rattle.fabric_model.specs.Run.{opening}
use Rattle.fabric_model.specs.Recovery.{plain_logs, desks_from, waits_again, resumed, filled}
use Rattle.fabric_model.specs.State.{Records, State, client_at, log_at, no_records, answered_ones}
use Rattle.fabric_model.specs.Step.{lost, recovered, order_now, granted, refused, released, decided, logged, posted, taken, installed, switched, replied, behind_entry, with_reply, step}
use Rattle.fabric_model.specs.Step as fabric
use Rattle.fabric_model.proofs.Assembled.{open_entry, all_filled}
use Rattle.fabric_model.proofs.CarriedLaws.{with_reply-split}
use Rattle.fabric_model.proofs.FromCore.{ascending_last}
use Rattle.fabric_model.proofs.Growing.{Grows, grows_of, still_at, still_replayed}
use Rattle.fabric_model.proofs.KeptByDecision.{number_of_greatest}
use Rattle.fabric_model.proofs.MoveKinds.{Move, Loses, Grants, Refuses, Releases, Decides, Logs, Posts, Takes, Installs, Moved, ByClient, AtPort, AtStage, Recovers}
use Rattle.fabric_model.proofs.MovesLeft.{same_switch}
use Rattle.fabric_model.proofs.Numbers.{front}
use Rattle.fabric_model.proofs.PerClient.{LogBecomes, client_now, client_then, log_now, log_then, logs_stay, logs_at_port, logs_at_stage, on_aborting}
use Rattle.fabric_model.proofs.Present.{reply_to, stamp_of, clients_at_port, clients_at_stage}
use Rattle.fabric_model.proofs.Losing.{kept_answered}
use Rattle.fabric_model.proofs.RecordsRecovered.{answers_recovered}
use Rattle.fabric_model.proofs.Resumed.{client_again}
use Rattle.fabric_model.proofs.Stand.{answers_stand}
use Rattle.fabric_model.proofs.TakenAnswer.{taken_answer}

-- ---- what is kept

-- the item is before the client's present one, or it is that one and its answer has come
abbrev pub IsBefore : ClientState → ℕ → Type 0
IsBefore x q = (q < x.seq) ⊎ ((q ≡ x.seq) × (x.phase ≡ Installing))

pub record Kept (plan : Plan) (h : History) (switch : Option Switch) (c : ℕ) (x : ClientState) (log : Records) : Type 0 where
  pub answered : List PlainIntent
  pub intents : log.intents ≡ answered ++ open_intent plan c x
  pub outcomes : AreAnswers plan h switch c answered log.outcomes
  pub ascending : IsAscending (seqs_in answered)
  pub before : AllByRecursion (IsBefore x) (seqs_in answered)
  pub told : AllByRecursion (IsTold c log.outcomes) h

each_one : (P Q : ℕ → Type 0) (l : List ℕ) → ((q : ℕ) → P q → Q q) → AllByRecursion P l → AllByRecursion Q l
each_one P Q [] f all = tt
each_one P Q (q ∷ l) f all = (f q all.0, each_one P Q l f all.1)

-- ---- answers stay answers

entry_stays : (h new : History) (e : HistoryEntry) → AnswersStand h new → IsSome e.pairs → HasEntry h e → HasEntry new e
entry_stays h new e stand some there = item_of_all (λ (f : HistoryEntry). IsSome f.pairs → HasEntry new f) h there.0 e stand there.1 some

answer_stays : (plan : Plan) (h new : History) (before after : Option Switch) (c : ℕ) (intent : PlainIntent) (outcome : PlainOutcome) → AnswersStand h new → Grows before after → IsAnswer plan h before c intent outcome → IsAnswer plan new after c intent outcome
answer_stays plan h new before after c intent outcome stand grows a = record {
  seq = a.seq;
  above = a.above;
  hot = a.hot;
  values = a.values;
  packet = a.packet;
  entry = entry_stays h new _ stand refl a.entry;
  place = a.place;
  number = a.number;
  there = λ next up.
      let g = grows next up in
      let was = a.there g.now g.up in (
        ap (λ (l : List PlainPacket). slice_get l a.place) g.is ∙ still_at (entered g.now) g.more a.place intent.packet was.0,
        ap (λ (l : List PlainPacket). slice_get (replay_all l (hot_cells plan)).pairs a.place) g.is ∙ still_replayed (entered g.now) g.more (hot_cells plan) a.place outcome.pairs was.1,
      );
}

answers_stay : (plan : Plan) (h new : History) (before after : Option Switch) (c : ℕ) (intents : List PlainIntent) (outcomes : List PlainOutcome) → AnswersStand h new → Grows before after → AreAnswers plan h before c intents outcomes → AreAnswers plan new after c intents outcomes
answers_stay plan h new before after c [] [] stand grows all = tt
answers_stay plan h new before after c [] (o ∷ os) stand grows all = absurd all
answers_stay plan h new before after c (i ∷ is) [] stand grows all = absurd all
answers_stay plan h new before after c (i ∷ is) (o ∷ os) stand grows all = (answer_stays plan h new before after c i o stand grows all.0, answers_stay plan h new before after c is os stand grows all.1)

one_more_answer : (plan : Plan) (h : History) (switch : Option Switch) (c : ℕ) (intents : List PlainIntent) (outcomes : List PlainOutcome) (intent : PlainIntent) (outcome : PlainOutcome)
    → AreAnswers plan h switch c intents outcomes → IsAnswer plan h switch c intent outcome → AreAnswers plan h switch c (intents ++ intent ∷ []) (outcomes ++ outcome ∷ [])
one_more_answer plan h switch c [] [] intent outcome all new = (new, tt)
one_more_answer plan h switch c [] (o ∷ os) intent outcome all new = absurd all
one_more_answer plan h switch c (i ∷ is) [] intent outcome all new = absurd all
one_more_answer plan h switch c (i ∷ is) (o ∷ os) intent outcome all new = (all.0, one_more_answer plan h switch c is os intent outcome all.1 new)

-- what is told of entries stays told
told_more : (c : ℕ) (outcomes more : List PlainOutcome) (h : History) → AllByRecursion (IsTold c outcomes) h → AllByRecursion (IsTold c (outcomes ++ more)) h
told_more c outcomes more [] all = tt
told_more c outcomes more (e ∷ h) all = ((λ own carried some. let t = all.0 own carried some in (t.0, t.1, still_at outcomes more t.0 t.1 t.2, t.3, t.4)), told_more c outcomes more h all.1)

-- ---- what a move makes of the history, unless an answer is taken

data Changes (s : State) (after : State) : Type 0 where
  Stays : after.history ≡ s.history → Changes s after
  Drops : after.history ≡ answered_ones s.history → Changes s after
  Adds : (e : HistoryEntry) → after.history ≡ with_entry e s.history → (is_carried e ≡ true → IsSome e.pairs → ⊥) → Changes s after

told_changed : (s after : State) (d : ℕ) (outcomes : List PlainOutcome) → Changes s after → AllByRecursion (IsTold d outcomes) s.history → AllByRecursion (IsTold d outcomes) after.history
told_changed s after d outcomes (Stays same) all = subst (AllByRecursion (IsTold d outcomes)) (sym same) all
told_changed s after d outcomes (Drops is) all = subst (AllByRecursion (IsTold d outcomes)) (sym is) (kept_answered (IsTold d outcomes) s.history all)
told_changed s after d outcomes (Adds e is none) all = subst (AllByRecursion (IsTold d outcomes)) (sym is) (all-with_entry (IsTold d outcomes) e s.history all (λ own carried some. absurd (none carried some)))

split_told : (P : HistoryEntry → Type 0) (before : History) (e f : HistoryEntry) (behind : History) → AllByRecursion P (before ++ e ∷ behind) → P f → AllByRecursion P (before ++ f ∷ behind)
split_told P [] e f behind all new = (new, all.1)
split_told P (g ∷ before) e f behind all new = (all.0, split_told P before e f behind all.1 new)

-- ---- clients that have nothing open

asking_closed : (x : ClientState) → IsAsking x → (has_open x.phase ≡ false) × (x.phase ≢ Installing)
asking_closed x (inl is) = (ap has_open is, λ i. let clash : Ready ≡ Installing = sym is ∙ i in cc)
asking_closed x (inr is) = (ap has_open is, λ i. let clash : Locking ≡ Installing = sym is ∙ i in cc)

item_closed : (items seq : ℕ) (last : Stamp) → has_open (at_item items seq last).phase ≡ false
item_closed items seq last = by (nat_le seq items)
  where
    by : (b : Bool) → has_open (if b then Ready else Finished) ≡ false
    by true = refl
    by false = refl

try_closed : (plan : Plan) (c : ℕ) (x : ClientState) → has_open (try_ended plan c x).phase ≡ false
try_closed plan c x = by (x.refused + 1 == plan.tries)
  where
    by : (b : Bool) → has_open (if b then next_item plan c x else record { phase = Ready; seq = x.seq; refused = x.refused + 1; noted = []; installed = 0; last = x.last; reply = [] }).phase ≡ false
    by true = item_closed (length (items_of plan c)) (x.seq + 1) x.last
    by false = refl

abort_closed : (plan : Plan) (c : ℕ) (x : ClientState) (front : List Seen) → has_open (aborting plan c x front).phase ≡ false
abort_closed plan c x [] = try_closed plan c x
abort_closed plan c x (seen ∷ others) = refl

none_open : (plan : Plan) (c : ℕ) (x : ClientState) → has_open x.phase ≡ false → open_intent plan c x ≡ []
none_open plan c x closed = ap (λ (b : Bool). if b then intent_now plan c x ∷ [] else []) closed

-- items before a client's present one stay before it
still_before : (x y : ClientState) → x.phase ≢ Installing → x.seq ≤ y.seq → (q : ℕ) → IsBefore x q → IsBefore y q
still_before x y n on q (inl lt) = inl (omega (arith, lt, on))
still_before x y n on q (inr p) = absurd (n p.1)

install_closed : (plan : Plan) (c : ℕ) (x : ClientState) (all : ℕ) → x.phase ≡ Installing → (has_open (installed_one plan c x all).phase ≡ false) × ((q : ℕ) → IsBefore x q → IsBefore (installed_one plan c x all) q)
install_closed plan c x all phase = by (x.installed + 1 == all)
  where
    later : (q : ℕ) → IsBefore x q → q < x.seq + 1
    later q (inl lt) = omega (arith, lt)
    later q (inr p) = omega (arith, p.0)

    by : (b : Bool) → (has_open (if b then next_item plan c x else record x { installed = x.installed + 1 }).phase ≡ false) × ((q : ℕ) → IsBefore x q → IsBefore (if b then next_item plan c x else record x { installed = x.installed + 1 }) q)
    by true = (item_closed (length (items_of plan c)) (x.seq + 1) x.last, λ q b. inl (later q b))
    by false = (ap has_open phase, λ q b. b)

reply_closed : (plan : Plan) (c : ℕ) (x : ClientState) (stamp : Stamp) (reply : List Pair) → (has_open (replied plan c x stamp reply).phase ≡ false) × ((q : ℕ) → q ≤ x.seq → IsBefore (replied plan c x stamp reply) q)
reply_closed plan c x stamp reply = by (length x.noted == 0)
  where
    split : (q n : ℕ) → q ≤ n → (q < n) ⊎ (q ≡ n)
    split q n le = grind arith

    by : (b : Bool) → (has_open (if b then next_item plan c (record x { phase = Installing; last = stamp; reply = reply }) else record x { phase = Installing; last = stamp; reply = reply }).phase ≡ false)
        × ((q : ℕ) → q ≤ x.seq → IsBefore (if b then next_item plan c (record x { phase = Installing; last = stamp; reply = reply }) else record x { phase = Installing; last = stamp; reply = reply }) q)
    by true = (item_closed (length (items_of plan c)) (x.seq + 1) stamp, λ q le. inl (omega (arith, le)))
    by false = (refl, λ q le. elim (split q x.seq le) [ inl lt ↦ inl lt | inr e ↦ inr (e, refl) ])

-- ---- a client's moves

module _ (plan : Plan) (s : State) (up_holds : (now : Switch) → s.switch ≡ Some now → Holds plan s) (c : ℕ) (lt : c < length s.clients) (as_many : length s.logs ≡ length s.clients) (kept : (d : ℕ) → Kept plan s.history s.switch d (client_at s d) (log_at s d)) where
  abbrev x : ClientState
  x = client_at s c

  abbrev log : Records
  log = log_at s c

  abbrev AllKept : State → Type 0
  AllKept after = (d : ℕ) → Kept plan after.history after.switch d (client_at after d) (log_at after d)

  -- the others, when one client moved
  other_kept : (after : State) (y : ClientState) (new : Records) (d : ℕ) → after.clients ≡ set s.clients c y → LogBecomes s c after new → AnswersStand s.history after.history → Grows s.switch after.switch → d ≢ c
      → AllByRecursion (IsTold d (log_at s d).outcomes) after.history → Kept plan after.history after.switch d (client_at after d) (log_at after d)
  other_kept after y new d is becomes stand grows n told =
      subst (λ (z : ClientState). Kept plan after.history after.switch d z (log_at after d)) (sym (client_then s after c y d is n))
      (subst (Kept plan after.history after.switch d (client_at s d)) (sym (log_then s after c new d becomes n)) (record {
        answered = (kept d).answered;
        intents = (kept d).intents;
        outcomes = answers_stay plan s.history after.history s.switch after.switch d (kept d).answered (log_at s d).outcomes stand grows (kept d).outcomes;
        ascending = (kept d).ascending;
        before = (kept d).before;
        told = told;
      }))

  all_kept : (after : State) (y : ClientState) (new : Records) → after.clients ≡ set s.clients c y → LogBecomes s c after new → AnswersStand s.history after.history → Grows s.switch after.switch
      → ((d : ℕ) → d ≢ c → AllByRecursion (IsTold d (log_at s d).outcomes) after.history) → Kept plan after.history after.switch c y new → AllKept after
  all_kept after y new is becomes stand grows told mine d = elim (same_or_not d c) [
    | inl e ↦ subst (λ (n : ℕ). Kept plan after.history after.switch n (client_at after n) (log_at after n)) (sym e)
        (subst (λ (z : ClientState). Kept plan after.history after.switch c z (log_at after c)) (sym (client_now s after c y lt is))
        (subst (Kept plan after.history after.switch c y) (sym (log_now s after c new (omega (arith, lt, as_many)) becomes)) mine))
    | inr n ↦ other_kept after y new d is becomes stand grows n (told d n)
  ]

  -- a client whose log stays, and that goes on with nothing open where it had nothing open
  same_log : (after : State) (y : ClientState) → after.clients ≡ set s.clients c y → after.logs ≡ s.logs → AnswersStand s.history after.history → Grows s.switch after.switch → Changes s after
      → open_intent plan c y ≡ open_intent plan c x → ((q : ℕ) → IsBefore x q → IsBefore y q) → AllKept after
  same_log after y is logs stand grows change opened before = all_kept after y log is (inl (logs, refl)) stand grows (λ d n. told_changed s after d (log_at s d).outcomes change (kept d).told) (record {
    answered = (kept c).answered;
    intents = (kept c).intents ∙ ap (λ (l : List PlainIntent). (kept c).answered ++ l) (sym opened);
    outcomes = answers_stay plan s.history after.history s.switch after.switch c (kept c).answered log.outcomes stand grows (kept c).outcomes;
    ascending = (kept c).ascending;
    before = each_one (IsBefore x) (IsBefore y) (seqs_in (kept c).answered) before (kept c).before;
    told = told_changed s after c log.outcomes change (kept c).told;
  })

  closed_same : (y : ClientState) → has_open x.phase ≡ false → has_open y.phase ≡ false → open_intent plan c y ≡ open_intent plan c x
  closed_same y was is = none_open plan c y is ∙ sym (none_open plan c x was)

  logs_intent : (after : State) → IsAsking x → after ≡ logged plan s c x → AnswersStand s.history after.history → Grows s.switch after.switch → AllKept after
  unfolding logged
  logs_intent after asks is stand grows =
      let closed = asking_closed x asks in
      let change : Changes s after = Stays (ap (λ (z : State). z.history) is) in
      all_kept after _ (with_intent (intent_now plan c x) log) (ap (λ (z : State). z.clients) is) (inr (ap (λ (z : State). z.logs) is)) stand grows (λ d n. told_changed s after d (log_at s d).outcomes change (kept d).told) (record {
        answered = (kept c).answered;
        intents = ap (λ (l : List PlainIntent). l ++ intent_now plan c x ∷ []) ((kept c).intents ∙ ap (λ (l : List PlainIntent). (kept c).answered ++ l) (none_open plan c x closed.0) ∙ append-nil (kept c).answered);
        outcomes = answers_stay plan s.history after.history s.switch after.switch c (kept c).answered log.outcomes stand grows (kept c).outcomes;
        ascending = (kept c).ascending;
        before = each_one (IsBefore x) (IsBefore (record x { phase = Logged })) (seqs_in (kept c).answered) (still_before x (record x { phase = Logged }) closed.1 (omega arith)) (kept c).before;
        told = told_changed s after c log.outcomes change (kept c).told;
      })

  -- ---- an answer

  packet_of_item : ((packet_now plan c x).client ≡ c) × ((packet_now plan c x).seq ≡ x.seq)
  unfolding packet_from
  packet_of_item = (refl, refl)

  floor_below : (n : ℕ) → x.last.number < n → AllByRecursion (λ seen. seen.stamp.number < n) x.noted → (greatest x.last x.noted).number < n
  floor_below zero low all = absurd (omega (arith, low))
  floor_below (suc n) low all = omega (arith, number_of_greatest n x.last x.noted (omega (arith, low)) (each_most x.noted all))
    where
      each_most : (l : List Seen) → AllByRecursion (λ seen. seen.stamp.number < suc n) l → AllByRecursion (λ seen. seen.stamp.number ≤ n) l
      each_most [] a = tt
      each_most (seen ∷ l) a = (omega (arith, a.0), each_most l a.1)

  takes_answer : (after : State) (now next : Switch) (answer : Answer) → x.phase ≡ Waiting → s.switch ≡ Some now → answer_of now c ≡ Some answer → after ≡ taken plan s c x answer next → AnswersStand s.history after.history → Grows s.switch after.switch → AllKept after
  unfolding taken
  takes_answer after now next answer phase up has is stand grows =
      let h = up_holds now up in
      let t = taken_answer plan s h c answer (subst (λ (n : Switch). answer_of n c ≡ Some answer) (same_switch up h.up) has) in
      let reply = reply_to plan c x answer in
      let outcome : PlainOutcome = record { seq = x.seq; number = answer.number; pairs = answer.pairs } in
      let entry : HistoryEntry = record (pending_entry c x answer.number) { pairs = Some reply } in
      let history : after.history ≡ t.split.before ++ record t.split.entry { pairs = Some reply } ∷ t.split.behind = ap (λ (z : State). z.history) is ∙ with_reply-split answer.number reply s.history t.split in
      let there : after.history ≡ t.split.before ++ entry ∷ t.split.behind = history ∙ ap (λ (e : HistoryEntry). t.split.before ++ record e { pairs = Some reply } ∷ t.split.behind) t.entry in
      let y = replied plan c x (stamp_of answer) reply in
      let closed = reply_closed plan c x (stamp_of answer) reply in
      let waiting : open_intent plan c x ≡ intent_now plan c x ∷ [] = ap (λ (b : Bool). if b then intent_now plan c x ∷ [] else []) (ap has_open phase) in
      let own : seqs_in (intent_now plan c x ∷ []) ≡ x.seq ∷ [] = ap (λ (q : ℕ). q ∷ []) packet_of_item.1 in
      let seqs : seqs_in ((kept c).answered ++ intent_now plan c x ∷ []) ≡ seqs_in (kept c).answered ++ x.seq ∷ [] = map-append (λ (i : PlainIntent). i.packet.seq) (kept c).answered (intent_now plan c x ∷ []) ∙ ap (λ (l : List ℕ). seqs_in (kept c).answered ++ l) own in
      all_kept after y (with_outcome outcome log) (ap (λ (z : State). z.clients) is) (inr (ap (λ (z : State). z.logs) is)) stand grows
      (λ d n. subst (AllByRecursion (IsTold d (log_at s d).outcomes)) (sym there)
      (split_told (IsTold d (log_at s d).outcomes) t.split.before t.split.entry entry t.split.behind (subst (AllByRecursion (IsTold d (log_at s d).outcomes)) t.split.whole (kept d).told) (λ mine carried some. absurd (n (sym mine)))))
      (record {
        answered = (kept c).answered ++ intent_now plan c x ∷ [];
        intents = (kept c).intents ∙ ap (λ (l : List PlainIntent). (kept c).answered ++ l) waiting ∙ sym (append-nil ((kept c).answered ++ intent_now plan c x ∷ []))
            ∙ ap (λ (l : List PlainIntent). ((kept c).answered ++ intent_now plan c x ∷ []) ++ l) (sym (none_open plan c y closed.0));
        outcomes = one_more_answer plan after.history after.switch c (kept c).answered log.outcomes (intent_now plan c x) outcome
            (answers_stay plan s.history after.history s.switch after.switch c (kept c).answered log.outcomes stand grows (kept c).outcomes)
            (record {
              seq = packet_of_item.1;
              above = floor_below answer.number t.last t.above;
              hot = h.ties.hot_ones c (inr phase);
              values = values_of x.noted;
              packet = refl;
              entry = (length t.split.before, ap (λ (l : History). slice_get l (length t.split.before)) there ∙ front t.split.before entry t.split.behind);
              place = t.place;
              number = t.number;
              there = λ other upward.
                  let g = grows other upward in
                  let same : g.now ≡ h.now = same_switch g.up h.up in (
                    ap (λ (l : List PlainPacket). slice_get l t.place) g.is ∙ still_at (entered g.now) g.more t.place (packet_now plan c x) (ap (λ (n : Switch). slice_get (entered n) t.place) same ∙ t.packet),
                    ap (λ (l : List PlainPacket). slice_get (replay_all l (hot_cells plan)).pairs t.place) g.is
                        ∙ still_replayed (entered g.now) g.more (hot_cells plan) t.place answer.pairs (ap (λ (n : Switch). slice_get (replay_all (entered n) (hot_cells plan)).pairs t.place) same ∙ t.pairs),
                  );
            });
        ascending = subst IsAscending (sym seqs) (ascending_last (seqs_in (kept c).answered) x.seq (kept c).ascending (each_one (IsBefore x) (λ q. q < x.seq) (seqs_in (kept c).answered) earlier (kept c).before));
        before = subst (AllByRecursion (IsBefore y)) (sym seqs)
            (all_append (IsBefore y) (seqs_in (kept c).answered) (x.seq ∷ []) (each_one (IsBefore x) (IsBefore y) (seqs_in (kept c).answered) (λ q b. closed.1 q (low q (earlier q b))) (kept c).before) (closed.1 x.seq (omega arith), tt));
        told = subst (AllByRecursion (IsTold c (log.outcomes ++ outcome ∷ []))) (sym there)
            (split_told (IsTold c (log.outcomes ++ outcome ∷ [])) t.split.before t.split.entry entry t.split.behind
            (subst (AllByRecursion (IsTold c (log.outcomes ++ outcome ∷ []))) t.split.whole (told_more c log.outcomes (outcome ∷ []) s.history (kept c).told))
            (λ mine carried some. (length log.outcomes, outcome, last_there log.outcomes outcome, refl, refl)));
      })
    where
      earlier : (q : ℕ) → IsBefore x q → q < x.seq
      earlier q (inl low_q) = low_q
      earlier q (inr p) = let clash : Waiting ≡ Installing = sym phase ∙ p.1 in cc

      low : (q : ℕ) → q < x.seq → q ≤ x.seq
      low q l = omega (arith, l)

      last_there : (l : List PlainOutcome) (o : PlainOutcome) → slice_get (l ++ o ∷ []) (length l) ≡ Some o
      last_there [] o = refl
      last_there (p ∷ l) o = last_there l o

  carried_never : (stamp : Stamp) → (stamp.sub + 1 == 0) ≡ true → ⊥
  carried_never stamp e = risen stamp.sub e
    where
      risen : (n : ℕ) → (n + 1 == 0) ≡ true → ⊥
      risen n i = grind (arith, nat_tests)

  kept_by_client : (after : State) → Move plan s c after → AnswersStand s.history after.history → Grows s.switch after.switch → AllKept after
  unfolding lost granted refused released decided posted installed
  kept_by_client after (Loses now phase item up is) stand grows =
      let y = next_item plan c x in
      same_log after y (ap (λ (z : State). z.clients) is) (ap (λ (z : State). z.logs) is) stand grows (Drops (ap (λ (z : State). z.history) is)) (closed_same y (ap has_open phase) (item_closed (length (items_of plan c)) (x.seq + 1) x.last))
      (still_before x y (λ i. let clash : Ready ≡ Installing = sym phase ∙ i in cc) (omega arith))
  kept_by_client after (Grants op asks next free is) stand grows =
      let closed = asking_closed x asks in
      let y : ClientState = record x { phase = Locking; noted = x.noted ++ seen_at s.store op.tuple ∷ [] } in
      same_log after y (ap (λ (z : State). z.clients) is) (ap (λ (z : State). z.logs) is) stand grows (Stays (ap (λ (z : State). z.history) is)) (closed_same y closed.0 refl) (still_before x y closed.1 (omega arith))
  kept_by_client after (Refuses op by asks next held is) stand grows =
      let closed = asking_closed x asks in
      let y = aborting plan c x x.noted in
      same_log after y (ap (λ (z : State). z.clients) is) (ap (λ (z : State). z.logs) is) stand grows (Stays (ap (λ (z : State). z.history) is)) (closed_same y closed.0 (abort_closed plan c x x.noted)) (still_before x y closed.1 (on_aborting plan c x x.noted).0)
  kept_by_client after (Releases phase is) stand grows =
      let front = take (length x.noted - 1) x.noted in
      let y = aborting plan c x front in
      same_log after y (ap (λ (z : State). z.clients) is) (ap (λ (z : State). z.logs) is) stand grows (Stays (ap (λ (z : State). z.history) is)) (closed_same y (ap has_open phase) (abort_closed plan c x front))
      (still_before x y (λ i. let clash : Aborting ≡ Installing = sym phase ∙ i in cc) (on_aborting plan c x front).0)
  kept_by_client after (Decides asks next cold some is) stand grows =
      let closed = asking_closed x asks in
      let y : ClientState = record x { phase = Installing; last = decision_stamp x.last x.noted; reply = joined plan.layout (script_now plan c x) (values_of x.noted) [] } in
      same_log after y (ap (λ (z : State). z.clients) is) (ap (λ (z : State). z.logs) is) stand grows (Adds _ (ap (λ (z : State). z.history) is) (λ carried none. carried_never (greatest x.last x.noted) carried)) (closed_same y closed.0 refl) (still_before x y closed.1 (omega arith))
  kept_by_client after (Logs asks next hot is) stand grows = logs_intent after asks is stand grows
  kept_by_client after (Posts now next phase up to is) stand grows =
      let y : ClientState = record x { phase = Waiting } in
      same_log after y (ap (λ (z : State). z.clients) is) (ap (λ (z : State). z.logs) is) stand grows (Stays (ap (λ (z : State). z.history) is)) (sym (ap (λ (b : Bool). if b then intent_now plan c x ∷ [] else []) (ap has_open phase)))
      (still_before x y (λ i. let clash : Logged ≡ Installing = sym phase ∙ i in cc) (omega arith))
  kept_by_client after (Takes now next answer phase up has to is) stand grows = takes_answer after now next answer phase up has is stand grows
  kept_by_client after (Installs p phase at is) stand grows =
      let y = installed_one plan c x (length (steps_now plan c x)) in
      let closed = install_closed plan c x (length (steps_now plan c x)) phase in
      same_log after y (ap (λ (z : State). z.clients) is) (ap (λ (z : State). z.logs) is) stand grows (Stays (ap (λ (z : State). z.history) is)) (closed_same y (ap has_open phase) closed.0) closed.1

-- ---- moves at the switch

changes_at_port : (s : State) (c : ℕ) (desk : Desk) (number : ℕ) (next : Switch) → Changes s (behind_entry s c desk number next)
unfolding fabric.entered switched
changes_at_port s c Vacant number next = Stays refl
changes_at_port s c (Posted p) number next = Adds _ refl (λ carried some. let clash = some in cc)
changes_at_port s c (Entered k) number next = Stays refl

changes_at_stage : (s : State) (next : Switch) → Changes s (switched s next)
unfolding switched
changes_at_stage s next = Stays refl

packet_seq : (plan : Plan) (c : ℕ) (x : ClientState) → (packet_now plan c x).seq ≡ x.seq
unfolding packet_from
packet_seq plan c x = refl

module _ (plan : Plan) where
  abbrev pub AreKept : State → Type 0
  AreKept s = (d : ℕ) → Kept plan s.history s.switch d (client_at s d) (log_at s d)

  kept_still : (s after : State) → after.clients ≡ s.clients → after.logs ≡ s.logs → AnswersStand s.history after.history → Grows s.switch after.switch → Changes s after → AreKept s → AreKept after
  kept_still s after clients logs stand grows change kept d =
      subst (λ (l : List ClientState). Kept plan after.history after.switch d (get_or l d (at_item 0 1 zero_stamp)) (log_at after d)) (sym clients)
      (subst (λ (l : List Records). Kept plan after.history after.switch d (client_at s d) (get_or l d no_records)) (sym logs) (record {
        answered = (kept d).answered;
        intents = (kept d).intents;
        outcomes = answers_stay plan s.history after.history s.switch after.switch d (kept d).answered (log_at s d).outcomes stand grows (kept d).outcomes;
        ascending = (kept d).ascending;
        before = (kept d).before;
        told = told_changed s after d (log_at s d).outcomes change (kept d).told;
      }))

  -- ---- recovery

  abbrev same_open : Phase → Type 0
  same_open p = has_open (waits_again p) ≡ has_open p

  opens_again : (p : Phase) → same_open p
  opens_again Ready = refl
  opens_again Locking = refl
  opens_again Aborting = refl
  opens_again Logged = refl
  opens_again Waiting = refl
  opens_again Installing = refl
  opens_again Finished = refl

  before_again : (x : ClientState) (q : ℕ) → IsBefore x q → IsBefore (resumed x) q
  before_again x q (inl lt) = inl lt
  before_again x q (inr p) = inr (p.0, ap waits_again p.1)

  none_answered : (c : ℕ) (outcomes : List PlainOutcome) (k : ℕ) (t : Task) → IsTold c outcomes (open_entry k t)
  none_answered c outcomes k t own carried some = absurd (no_pairs some)
    where
      no_pairs : IsSome {T = List Pair} None → ⊥
      no_pairs e = cc

  recovered_kept : (s after : State) (order : List Task) → IsPlacement (plain_logs s.logs) (hot_cells plan) order → after ≡ recovered plan s order → AnswersStand s.history after.history → AreKept s → AreKept after
  unfolding recovered
  recovered_kept s after order placed is stand kept d =
      subst (λ (z : State). Kept plan z.history z.switch d (client_at z d) (log_at z d)) (sym is)
      (subst (λ (y : ClientState). Kept plan (filled order s.history) (Some now) d y (log_at s d)) (sym (client_again s.clients d)) (record {
        answered = (kept d).answered;
        intents = (kept d).intents ∙ ap (λ (b : Bool). (kept d).answered ++ (if b then intent_now plan d x ∷ [] else [])) (sym (opens_again x.phase));
        outcomes = answers_recovered plan s.history (filled order s.history) s.switch s.logs order placed (desks_from order 0 (length s.clients)) d (kept d).answered (open_intent plan d x) (kept d).intents
            (subst (AnswersStand s.history) (ap (λ (z : State). z.history) is) stand) (kept d).outcomes;
        ascending = (kept d).ascending;
        before = each_one (IsBefore x) (IsBefore (resumed x)) (seqs_in (kept d).answered) (before_again x) (kept d).before;
        told = all_filled (IsTold d (log_at s d).outcomes) 1 order s.history (kept d).told (λ k t e none. none_answered d (log_at s d).outcomes (1 + k) t);
      }))
    where
      x : ClientState
      x = client_at s d

      now : Switch
      now = restored (hot_cells plan) (packets_of order) (desks_from order 0 (length s.clients))

  pub kept_step : (s after : State) (actor : Actor) → IsReached plan s → ((now : Switch) → s.switch ≡ Some now → Holds plan s)
      → ((order : List Task) → s.switch ≡ None → order_now plan s ≡ Some order → IsPlacement (plain_logs s.logs) (hot_cells plan) order) → AreKept s → step plan s actor ≡ Some after → Moved plan s after actor → AreKept after
  kept_step s after actor reached up_holds first kept is (ByClient c within move) =
      kept_by_client plan s up_holds c within (logs_stay plan s reached) kept after move (answers_stand plan s after actor up_holds is) (grows_of plan s after actor (λ e. cc) (ByClient c within move))
  kept_step s after actor reached up_holds first kept is (AtPort c now next up to same) =
      kept_still s after (ap (λ (z : State). z.clients) same ∙ clients_at_port s c (desk_at now c) (next_number now) next) (ap (λ (z : State). z.logs) same ∙ logs_at_port s c (desk_at now c) (next_number now) next)
      (answers_stand plan s after actor up_holds is) (grows_of plan s after actor (λ e. cc) (AtPort c now next up to same)) (subst (Changes s) (sym same) (changes_at_port s c (desk_at now c) (next_number now) next)) kept
  kept_step s after actor reached up_holds first kept is (AtStage k now next up to same) =
      kept_still s after (ap (λ (z : State). z.clients) same ∙ clients_at_stage s next) (ap (λ (z : State). z.logs) same ∙ logs_at_stage s next)
      (answers_stand plan s after actor up_holds is) (grows_of plan s after actor (λ e. cc) (AtStage k now next up to same)) (subst (Changes s) (sym same) (changes_at_stage s next)) kept
  kept_step s after actor reached up_holds first kept is (Recovers order down found same) = recovered_kept s after order (first order down found) same (answers_stand plan s after actor up_holds is) kept

  pub kept_at_opening : AreKept (opening plan)
  unfolding opening
  kept_at_opening c = first plan.clients c
    where
      log_none : (lists : List (List PlainItem)) (d : ℕ) → get_or (map (λ items. no_records) lists) d no_records ≡ no_records
      log_none [] d = refl
      log_none (items ∷ lists) zero = refl
      log_none (items ∷ lists) (suc d) = log_none lists d

      client_closed : (lists : List (List PlainItem)) (d : ℕ) → has_open (get_or (first_clients lists) d (at_item 0 1 zero_stamp)).phase ≡ false
      client_closed [] d = refl
      client_closed (items ∷ lists) zero = item_closed (length items) 1 zero_stamp
      client_closed (items ∷ lists) (suc d) = client_closed lists d

      none : (switch : Option Switch) (x : ClientState) → has_open x.phase ≡ false → Kept plan [] switch c x no_records
      none switch x closed = record { answered = []; intents = sym (none_open plan c x closed); outcomes = tt; ascending = tt; before = tt; told = tt }

      first : (lists : List (List PlainItem)) (d : ℕ) → Kept plan [] (opening plan).switch c (get_or (first_clients lists) d (at_item 0 1 zero_stamp)) (get_or (map (λ items. no_records) plan.clients) c no_records)
      first lists d = subst (Kept plan [] (opening plan).switch c (get_or (first_clients lists) d (at_item 0 1 zero_stamp))) (sym (log_none plan.clients c)) (none (opening plan).switch (get_or (first_clients lists) d (at_item 0 1 zero_stamp)) (client_closed lists d))

  pub records_kept : (s : State) → AreKept s → (c : ℕ) → HasRecords plan s c
  records_kept s all c =
      let kept = all c in
      record {
        answered = kept.answered;
        intents = kept.intents;
        outcomes = kept.outcomes;
        ascending = subst (λ (l : List PlainIntent). IsAscending (seqs_in l)) (sym kept.intents) (whole (client_at s c) kept.answered kept.ascending kept.before);
        told = kept.told;
      }
    where
      seq_of : (x : ClientState) → (packet_now plan c x).seq ≡ x.seq
      seq_of x = packet_seq plan c x

      whole : (x : ClientState) (answered : List PlainIntent) → IsAscending (seqs_in answered) → AllByRecursion (IsBefore x) (seqs_in answered) → IsAscending (seqs_in (answered ++ open_intent plan c x))
      whole x answered up before = by x.phase refl
        where
          opened : x.phase ≢ Installing → IsAscending (seqs_in (answered ++ intent_now plan c x ∷ []))
          opened n = subst IsAscending (sym (map-append (λ (i : PlainIntent). i.packet.seq) answered (intent_now plan c x ∷ []) ∙ ap (λ (q : ℕ). seqs_in answered ++ q ∷ []) (seq_of x)))
              (ascending_last (seqs_in answered) x.seq up (each_one (IsBefore x) (λ q. q < x.seq) (seqs_in answered) (λ q b. elim b [ inl low ↦ low | inr p ↦ absurd (n p.1) ]) before))

          shut : IsAscending (seqs_in (answered ++ []))
          shut = subst (λ (l : List PlainIntent). IsAscending (seqs_in l)) (sym (append-nil answered)) up

          by : (p : Phase) → x.phase ≡ p → IsAscending (seqs_in (answered ++ (if has_open p then intent_now plan c x ∷ [] else [])))
          by Ready is = shut
          by Locking is = shut
          by Aborting is = shut
          by Logged is = opened (λ i. let clash : Logged ≡ Installing = sym is ∙ i in cc)
          by Waiting is = opened (λ i. let clash : Waiting ≡ Installing = sym is ∙ i in cc)
          by Installing is = shut
          by Finished is = shut
