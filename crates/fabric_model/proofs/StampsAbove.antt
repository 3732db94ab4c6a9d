-- The stamp of each entry was fixed by a move, above all that its client had seen then.
use Rattle.std.proofs.Common.{◌≡◌, ◌≢◌, ◌⊎◌, ℕ, ◌+◌, ◌<◌, ◌≤◌, List, [], ◌∷◌, ◌++◌, length, append_assoc, Bool, true, false, is_some, if◌then◌else◌, Option, Some, None, IsSome, inl, inr, refl, sym, ap, subst, ◌∙◌, arith}
use Rattle.std.specs.Prelude.{Contains}
use Rattle.std.specs.List.{AllByRecursion}
use Rattle.std.proofs.lemmas.List.{length-map}
use Rattle.std.proofs.lemmas.List.Elements.{Contains-append_right}
use Rattle.txn_model.specs.declared.pairs.Pair.{Pair}
use Rattle.txn_model.specs.declared.stamp.Seen.{Seen}
use Rattle.txn_model.specs.declared.stamp.Stamp.{Stamp}
use Rattle.txn_model.specs.Places.{Places}
use Rattle.history_model.specs.History.{HistoryEntry, History, AllAnswered, with_entry}
use Rattle.history_model.specs.declared.entry.Entry.{Entry}
use Rattle.switch_packet.specs.Packets.{PlainPacket}
use Rattle.switch_packet.specs.Replay.{replay}
use Rattle.placement_model.specs.Placements.{Task}
use Rattle.switch_model.specs.Flight.{Flight}
use Rattle.switch_model.specs.Switch as machine
use Rattle.switch_model.specs.Switch.{Switch, Desk, Posted, Entered, desk_at, next_number}
use Rattle.switch_model.specs.Event as switch
use Rattle.switch_model.proofs.Effects.{enter_effect, FirstEffect}
use Rattle.warm_split.specs.Resolved.{packet_from}
use Rattle.catalogue.specs.Plan.{Plan, hot_cells}
use Rattle.catalogue.specs.declared.actor.Actor.{Actor}
use Rattle.catalogue.specs.declared.actor.Actor.TheVariants.{Recover}
use Rattle.core_model.specs.Decision.{decision_stamp}
use Rattle.core_model.specs.StampOrder.{Below, AtMost}
use Rattle.core_model.specs.Facts.{Clients}
use Rattle.core_model.specs.State.{ClientState}
use Rattle.core_model.proofs.Decide.{all-with_entry}
use Rattle.core_model.proofs.Entries.{placed}
use Rattle.core_model.proofs.Fewer.{each_entry}
use Rattle.core_model.proofs.Refusals.{at_front, taken_front}
use Rattle.core_model.proofs.Stamps.{above_all, below_of, AtMost-refl, Below-from_AtMost}
use Rattle.fabric_model.specs.Carried.{is_carried, carried, AreCarriedBy, FitsDesk}
use Rattle.fabric_model.specs.Fixed.{IsFixed, HasStampsAbove}
use Rattle.fabric_model.specs.Holds.{Holds, HoldsLost, HoldsNow, WhileUp, WhileLost}
use Rattle.fabric_model.specs.Intents.{packet_now}
use Rattle.fabric_model.specs.Laws.{IsReached}
use Rattle.fabric_model.specs.Recovery.{resumed}
use Rattle.fabric_model.specs.Run.{opening, state_behind, state_of}
use Rattle.fabric_model.specs.State.{State, client_at, is_answered, answered_ones}
use Rattle.fabric_model.specs.Step.{lost, granted, refused, released, decided, logged, posted, taken, installed, switched, entered, behind_entry, recovered, with_reply, step}
use Rattle.fabric_model.proofs.Either.{facts_of, up_of, lost_of}
use Rattle.fabric_model.proofs.InOrder.{own_lower}
use Rattle.fabric_model.proofs.KeptByReply.{each_replied}
use Rattle.fabric_model.proofs.Legal.{holds_now}
use Rattle.fabric_model.proofs.MoveKinds.{Move, Loses, Grants, Refuses, Releases, Decides, Logs, Posts, Takes, Installs, Moved, ByClient, AtPort, AtStage, Recovers, move_of}
use Rattle.fabric_model.proofs.MovesLeft.{same_switch}
use Rattle.fabric_model.proofs.OwnEntries.{from_filter, all_answered, ones_recovered}
use Rattle.fabric_model.proofs.Present.{reply_to, client_recovered, up_recovered}
use Rattle.fabric_model.proofs.Runs.{first_move, one_more, reached_step}

-- an entry that was put in, of its client's present item, with a stamp above all that this client knows and that no entry has
record IsEntered (s : State) (after : State) : Type 0 where
  pub entry : HistoryEntry
  pub history : after.history ≡ with_entry entry s.history
  pub new : AllByRecursion (λ e. e.entry ≢ entry.entry) s.history
  pub seq : (client_at s entry.entry.client).seq ≡ entry.entry.seq
  pub last : Below (client_at s entry.entry.client).last entry.entry.stamp
  pub noted : AllByRecursion (λ seen. Below seen.stamp entry.entry.stamp) (client_at s entry.entry.client).noted

-- what a move makes of the history
data Changes (s : State) (after : State) : Type 0 where
  Stays : after.history ≡ s.history → Changes s after
  Leaves : after.history ≡ answered_ones s.history → Changes s after
  Answers : (number : ℕ) (reply : List Pair) → after.history ≡ with_reply number reply s.history → Changes s after
  Adds : IsEntered s after → Changes s after

never_below : (a : Stamp) → Below a a → ⊥
never_below a low = AtMost-refl a low

module _ (plan : Plan) (s : State) (h : HoldsNow plan s) where
  adds_decision : (c : ℕ) (after : State) → Move plan s c after → Changes s after
  unfolding lost granted refused released decided logged posted taken installed
  adds_decision c after (Loses now phase item up is) = Leaves (ap (λ (z : State). z.history) is)
  adds_decision c after (Grants op asks next free is) = Stays (ap (λ (z : State). z.history) is)
  adds_decision c after (Refuses op by asks next held is) = Stays (ap (λ (z : State). z.history) is)
  adds_decision c after (Releases phase is) = Stays (ap (λ (z : State). z.history) is)
  adds_decision c after (Decides asks next cold some is) =
      let above = above_all (client_at s c).last (client_at s c).noted in
      Adds (record {
        entry = _;
        history = ap (λ (z : State). z.history) is;
        new = each_entry s.history (λ e low same. never_below (decision_stamp (client_at s c).last (client_at s c).noted)
            (subst (λ (t : Stamp). Below t (decision_stamp (client_at s c).last (client_at s c).noted)) (ap (λ (a : Entry). a.stamp) same) (low (ap (λ (a : Entry). a.client) same)))) (own_lower plan s h c asks);
        seq = refl;
        last = above.0;
        noted = above.1;
      })
  adds_decision c after (Logs asks next hot is) = Stays (ap (λ (z : State). z.history) is)
  adds_decision c after (Posts now next phase up to is) = Stays (ap (λ (z : State). z.history) is)
  adds_decision c after (Takes now next answer phase up has to is) = Answers answer.number (reply_to plan c (client_at s c) answer) (ap (λ (z : State). z.history) is)
  adds_decision c after (Installs p phase at is) = Stays (ap (λ (z : State). z.history) is)

module _ (plan : Plan) (s : State) (h : Holds plan s) where
  all_below : (most number : ℕ) (l : List Seen) → most < number → AllByRecursion (λ seen. seen.stamp.number ≤ most) l → AllByRecursion (λ seen. Below seen.stamp (record { number = number; sub = 0 })) l
  all_below most number [] lt all = tt
  all_below most number (seen ∷ l) lt all = (below_of seen.stamp (record { number = number; sub = 0 }) (inl (omega (arith, lt, all.0))), all_below most number l lt all.1)

  fresh_number : (most number : ℕ) (entry : Entry) → most < number → entry.stamp ≡ record { number = number; sub = 0 } → (l : List HistoryEntry) → AllByRecursion (λ e. e.entry.stamp.number ≤ most) l → AllByRecursion (λ e. e.entry ≢ entry) l
  fresh_number most number entry lt is [] all = tt
  fresh_number most number entry lt is (e ∷ l) all =
      ((λ same. apart e.entry.stamp.number all.0 (ap (λ (a : Entry). a.stamp.number) same ∙ ap (λ (t : Stamp). t.number) is)), fresh_number most number entry lt is l all.1)
    where
      apart : (n : ℕ) → n ≤ most → n ≡ number → ⊥
      apart n le e = omega (arith, lt, le, e)

  same_seq : (c : ℕ) (x : ClientState) (p : PlainPacket) → p ≡ packet_now plan c x → x.seq ≡ p.seq
  unfolding packet_from
  same_seq c x p is = ap (λ (q : PlainPacket). q.seq) (sym is)

  most_below : length (machine.entered h.now) < next_number h.now
  most_below = above (length-map h.now.flights (λ (g : Flight). g.packet))
    where
      above : {a b : ℕ} → a ≡ b → a < b + 1
      above e = omega (arith, e)

  adds_entry : (c : ℕ) (next : Switch) (f : FirstEffect h.now next c) → Changes s (entered s c f.packet (next_number h.now) next)
  unfolding entered switched
  adds_entry c next f =
      let fits : FitsDesk plan s.history c (client_at s c) (Posted f.packet) = subst (λ (k : Desk). FitsDesk plan s.history c (client_at s c) k) f.posted (h.ties.under_way c) in
      let most = length (machine.entered h.now) in
      Adds (record {
        entry = record { entry = record { stamp = record { number = next_number h.now; sub = 0 }; client = c; seq = f.packet.seq }; pairs = None };
        history = refl;
        new = fresh_number most (next_number h.now) (record { stamp = record { number = next_number h.now; sub = 0 }; client = c; seq = f.packet.seq }) most_below refl s.history h.ties.covered.entries;
        seq = same_seq c (client_at s c) f.packet fits.1;
        last = below_of (client_at s c).last (record { number = next_number h.now; sub = 0 }) (inl (omega (arith, most_below, h.ties.covered.last c)));
        noted = all_below most (next_number h.now) (client_at s c).noted most_below (h.ties.covered.noted c);
      })

  switched_stays : (next : Switch) → Changes s (switched s next)
  unfolding switched
  switched_stays next = Stays refl

  adds_at_port : (c : ℕ) (next : Switch) → switch.enter plan.shape h.now c ≡ Some next → Changes s (behind_entry s c (desk_at h.now c) (next_number h.now) next)
  adds_at_port c next at = elim (enter_effect plan.shape h.now next c at) [
    | inl f ↦ subst (λ (k : Desk). Changes s (behind_entry s c k (next_number h.now) next)) (sym f.posted) (adds_entry c next f)
    | inr l ↦ subst (λ (k : Desk). Changes s (behind_entry s c k (next_number h.now) next)) (sym l.desk) (switched_stays next)
  ]

-- but for a recovery
changes_of : (plan : Plan) (s after : State) (actor : Actor) → HoldsNow plan s → actor ≢ Recover → Moved plan s after actor → Changes s after
changes_of plan s after actor h other (ByClient c within move) = adds_decision plan s h c after move
changes_of plan s after actor h other (AtPort c now next up at is) =
    let g = up_of plan s h now up in
    let same : now ≡ g.now = same_switch up g.up in
    subst (Changes s) (sym (is ∙ ap (λ (n : Switch). behind_entry s c (desk_at n c) (next_number n) next) same)) (adds_at_port plan s g c next (subst (λ (n : Switch). switch.enter plan.shape n c ≡ Some next) same at))
changes_of plan s after actor h other (AtStage x now next up at is) = subst (Changes s) (sym is) (switched_stays plan s (up_of plan s h now up) next)
changes_of plan s after actor h other (Recovers order down found is) = absurd (other refl)

-- ---- recovery

-- what an unanswered entry is above, and whose it is
record IsAbove (at : Clients) (e : HistoryEntry) : Type 0 where
  pub seq : (at e.entry.client).seq ≡ e.entry.seq
  pub last : Below (at e.entry.client).last e.entry.stamp
  pub noted : AllByRecursion (λ seen. Below seen.stamp e.entry.stamp) (at e.entry.client).noted

open_ones : (plan : Plan) (at : Clients) (desks : ℕ → Desk) (k : ℕ) (m : Places) (es : History) (ps : List PlainPacket) → AreCarriedBy plan at desks k m es ps → AllByRecursion (λ e. e.pairs ≡ None → IsAbove at e) es
open_ones plan at desks k m [] ps all = tt
open_ones plan at desks k m (e ∷ es) [] all = absurd all
open_ones plan at desks k m (e ∷ es) (p ∷ ps) all = (λ none. one none, open_ones plan at desks (k + 1) (replay p m).after es ps all.1)
  where
    low : (l : List Seen) → AllByRecursion (λ seen. seen.stamp.number < k + 1) l → AllByRecursion (λ seen. Below seen.stamp (record { number = k + 1; sub = 0 })) l
    low [] every = tt
    low (seen ∷ l) every = (below_of seen.stamp (record { number = k + 1; sub = 0 }) (inl every.0), low l every.1)

    one : e.pairs ≡ None → IsAbove at e
    one none =
        let p = all.0.pending none in
        record {
          seq = p.seq;
          last = subst (λ (t : Stamp). Below (at e.entry.client).last t) (sym all.0.stamp) (below_of (at e.entry.client).last (record { number = k + 1; sub = 0 }) (inl p.last));
          noted = subst (λ (t : Stamp). AllByRecursion (λ seen. Below seen.stamp t) (at e.entry.client).noted) (sym all.0.stamp) (low (at e.entry.client).noted p.above);
        }

-- each entry was there before, or stands above what its client knew, and no entry was it
abbrev IsOldOrNew : State → HistoryEntry → Type 0
IsOldOrNew s e = IsSome e.pairs ⊎ (IsAbove (client_at s) e × AllByRecursion (λ f. f.entry ≢ e.entry) s.history)

old_or_new : (plan : Plan) (s after : State) (order : List Task) → HoldsLost plan s → HoldsNow plan after → after ≡ recovered plan s order → AllByRecursion (IsOldOrNew s) after.history
old_or_new plan s after order lost (WhileLost down) is = absurd (clash (sym (up_recovered plan s order) ∙ ap (λ (z : State). z.switch) (sym is) ∙ down.lost))
  where
    clash : {now : Switch} → Some now ≡ None → ⊥
    clash e = cc
old_or_new plan s after order lost (WhileUp h) is =
    each after.history (from_filter is_carried (λ e. e.pairs ≡ None → IsAbove (client_at after) e) after.history (open_ones plan (client_at after) (desk_at h.now) 0 (hot_cells plan) (carried after.history) (machine.entered h.now) h.ties.carried_ones)) h.ties.unanswered
  where
    before : (e : HistoryEntry) → IsAbove (client_at after) e → IsAbove (client_at s) e
    before e a =
        let same : client_at after e.entry.client ≡ resumed (client_at s e.entry.client) = client_recovered plan s after order is e.entry.client in
        record {
          seq = sym (ap (λ (x : ClientState). x.seq) same) ∙ a.seq;
          last = subst (λ (t : Stamp). Below t e.entry.stamp) (ap (λ (x : ClientState). x.last) same) a.last;
          noted = subst (λ (l : List Seen). AllByRecursion (λ seen. Below seen.stamp e.entry.stamp) l) (ap (λ (x : ClientState). x.noted) same) a.noted;
        }

    -- an answered entry of the client isn't above its last stamp
    apart : (e : HistoryEntry) → Below (client_at s e.entry.client).last e.entry.stamp → (l : History) → AllAnswered l → AllByRecursion (λ f. is_answered f ≡ true → f.entry.client ≡ e.entry.client → AtMost f.entry.stamp (client_at s e.entry.client).last) l → AllByRecursion (λ f. f.entry ≢ e.entry) l
    apart e above [] answered own = tt
    apart e above (f ∷ l) answered own = (λ same. never_below e.entry.stamp (subst (λ (t : Stamp). Below t e.entry.stamp) (ap (λ (a : Entry). a.stamp) same) (low same)), apart e above l answered.1 own.1)
      where
        tested : (o : Option (List Pair)) → IsSome o → is_some o ≡ true
        tested (Some p) i = refl
        tested None i = cc

        low : f.entry ≡ e.entry → Below f.entry.stamp e.entry.stamp
        low same = Below-from_AtMost f.entry.stamp (client_at s e.entry.client).last e.entry.stamp (own.0 (tested f.pairs answered.0) (ap (λ (a : Entry). a.client) same)) above

    one : (e : HistoryEntry) → (is_carried e ≡ true → e.pairs ≡ None → IsAbove (client_at after) e) → (e.pairs ≡ None → is_carried e ≡ true) → (o : Option (List Pair)) → e.pairs ≡ o → IsOldOrNew s e
    one e above carries (Some p) at = inl (subst IsSome (sym at) refl)
    one e above carries None at =
        let a = before e (above (carries at) at) in
        inr (a, apart e a.last s.history lost.answered (from_filter is_answered (λ f. f.entry.client ≡ e.entry.client → AtMost f.entry.stamp (client_at s e.entry.client).last) s.history (lost.facts.cold.own e.entry.client)))

    each : (l : History) → AllByRecursion (λ e. is_carried e ≡ true → e.pairs ≡ None → IsAbove (client_at after) e) l → AllByRecursion (λ e. e.pairs ≡ None → is_carried e ≡ true) l → AllByRecursion (IsOldOrNew s) l
    each [] above carries = tt
    each (e ∷ l) above carries = (one e above.0 carries.0 e.pairs refl, each l above.1 carries.1)

-- what holds of all entries holds of the answered ones
of_ones : (P : HistoryEntry → Type 0) (h : History) → AllByRecursion P h → AllByRecursion P (answered_ones h)
of_ones P [] all = tt
of_ones P (e ∷ h) all = by (is_answered e) (of_ones P h all.1)
  where
    by : (b : Bool) → AllByRecursion P (answered_ones h) → AllByRecursion P (if b then e ∷ answered_ones h else answered_ones h)
    by true rest = (all.0, rest)
    by false rest = rest

-- an entry that is put into a history is there
there : (e : HistoryEntry) (before behind : History) → Contains (before ++ e ∷ behind) e
there e before behind = Contains-append_right before (e ∷ behind) e (0, omega arith, refl)

module _ (plan : Plan) (done rest : List Actor) (actor : Actor) (s next : State) (run : state_of plan done ≡ Some s) (is : step plan s actor ≡ Some next) (h : HoldsNow plan s) (later : HoldsNow plan next) where
  abbrev trace : List Actor
  trace = done ++ actor ∷ rest

  fixed_now : (m : IsEntered s next) → IsFixed plan trace m.entry.entry
  fixed_now m =
      let at = placed m.entry s.history (facts_of plan s h).facts.sorted in
      record {
        at = length done;
        actor = actor;
        before = s;
        after = next;
        run = ap (state_of plan) (taken_front done (actor ∷ rest)) ∙ run;
        moves = at_front done rest actor;
        makes = is;
        new = m.new;
        pairs = m.entry.pairs;
        there = subst (λ (l : History). Contains l m.entry) (sym (m.history ∙ at.new)) (there m.entry at.before at.behind);
        item = m.seq;
        last = m.last;
        noted = m.noted;
      }

  all_fixed : Changes s next → AllByRecursion (λ e. IsFixed plan trace e.entry) s.history → AllByRecursion (λ e. IsFixed plan trace e.entry) next.history
  all_fixed (Stays same) all = subst (AllByRecursion (λ e. IsFixed plan trace e.entry)) (sym same) all
  all_fixed (Leaves same) all = subst (AllByRecursion (λ e. IsFixed plan trace e.entry)) (sym same) (of_ones (λ e. IsFixed plan trace e.entry) s.history all)
  all_fixed (Answers number reply same) all = subst (AllByRecursion (λ e. IsFixed plan trace e.entry)) (sym same) (each_replied (λ e. IsFixed plan trace e.entry) number reply s.history (λ e f. f) all)
  all_fixed (Adds m) all = subst (AllByRecursion (λ e. IsFixed plan trace e.entry)) (sym m.history) (all-with_entry (λ e. IsFixed plan trace e.entry) m.entry s.history all (fixed_now m))

  -- at a recovery
  new_fixed : (e : HistoryEntry) → Contains next.history e → IsAbove (client_at s) e → AllByRecursion (λ f. f.entry ≢ e.entry) s.history → IsFixed plan trace e.entry
  new_fixed e there a new = record {
    at = length done;
    actor = actor;
    before = s;
    after = next;
    run = ap (state_of plan) (taken_front done (actor ∷ rest)) ∙ run;
    moves = at_front done rest actor;
    makes = is;
    new = new;
    pairs = e.pairs;
    there = there;
    item = a.seq;
    last = a.last;
    noted = a.noted;
  }

  recovery_fixed : (order : List Task) → s.switch ≡ None → next ≡ recovered plan s order → AllByRecursion (λ e. IsFixed plan trace e.entry) s.history → AllByRecursion (λ e. IsFixed plan trace e.entry) next.history
  recovery_fixed order down same all = each next.history [] refl (old_or_new plan s next order (lost_of plan s h down) later same) (subst (AllByRecursion (λ e. IsFixed plan trace e.entry)) (sym whole) all)
    where
      whole : answered_ones next.history ≡ s.history
      whole = ap (λ (z : State). answered_ones z.history) same ∙ ones_recovered plan s order ∙ all_answered s.history (lost_of plan s h down).answered

      tested : (o : Option (List Pair)) → IsSome o → is_some o ≡ true
      tested (Some p) i = refl
      tested None i = cc

      each : (l front : History) → next.history ≡ front ++ l → AllByRecursion (IsOldOrNew s) l → AllByRecursion (λ e. IsFixed plan trace e.entry) (answered_ones l) → AllByRecursion (λ e. IsFixed plan trace e.entry) l
      each [] front is_whole old fixed = tt
      each (e ∷ l) front is_whole old fixed = (now old.0, each l (front ++ e ∷ []) (is_whole ∙ sym (append_assoc front (e ∷ []) l)) old.1 (behind (is_some e.pairs) fixed))
        where
          first : (b : Bool) → b ≡ true → AllByRecursion (λ f. IsFixed plan trace f.entry) (if b then e ∷ answered_ones l else answered_ones l) → IsFixed plan trace e.entry
          first true i all_of = all_of.0
          first false i all_of = cc

          behind : (b : Bool) → AllByRecursion (λ f. IsFixed plan trace f.entry) (if b then e ∷ answered_ones l else answered_ones l) → AllByRecursion (λ f. IsFixed plan trace f.entry) (answered_ones l)
          behind true all_of = all_of.1
          behind false all_of = all_of

          now : IsOldOrNew s e → IsFixed plan trace e.entry
          now (inl some) = first (is_some e.pairs) (tested e.pairs some) fixed
          now (inr n) = new_fixed e (subst (λ (h : History). Contains h e) (sym is_whole) (there e front l)) n.0 n.1

fixed_next : (plan : Plan) (done rest : List Actor) (actor : Actor) (s next : State) → state_of plan done ≡ Some s → step plan s actor ≡ Some next → HoldsNow plan s → HoldsNow plan next → Moved plan s next actor
    → AllByRecursion (λ e. IsFixed plan (done ++ actor ∷ rest) e.entry) s.history → AllByRecursion (λ e. IsFixed plan (done ++ actor ∷ rest) e.entry) next.history
fixed_next plan done rest actor s next run is h later (ByClient c within move) all = all_fixed plan done rest actor s next run is h later (changes_of plan s next actor h (λ e. cc) (ByClient c within move)) all
fixed_next plan done rest actor s next run is h later (AtPort c now after up at same) all = all_fixed plan done rest actor s next run is h later (changes_of plan s next actor h (λ e. cc) (AtPort c now after up at same)) all
fixed_next plan done rest actor s next run is h later (AtStage x now after up at same) all = all_fixed plan done rest actor s next run is h later (changes_of plan s next actor h (λ e. cc) (AtStage x now after up at same)) all
fixed_next plan done rest actor s next run is h later (Recovers order down found same) all = recovery_fixed plan done rest actor s next run is h later order down same all

-- what is kept along a trace
fixed_by_moves : (plan : Plan) (rest done : List Actor) (s after : State) → IsReached plan s → state_of plan done ≡ Some s → HasStampsAbove plan (done ++ rest) s → state_behind plan s rest ≡ Some after → HasStampsAbove plan (done ++ rest) after
fixed_by_moves plan [] done s after reached run all e = subst (λ (z : State). HasStampsAbove plan (done ++ []) z) (same e) all
  where
    same : {a b : State} → Some a ≡ Some b → a ≡ b
    same e = cc
fixed_by_moves plan (actor ∷ rest) done s after reached run all e =
    first_move plan s after actor rest (HasStampsAbove plan (done ++ actor ∷ rest) after) e (λ next is g.
    let h = holds_now plan s reached in
    let later = holds_now plan next (reached_step plan s next actor reached is) in
    let longer = append_assoc done (actor ∷ []) rest in
    subst (λ (l : List Actor). HasStampsAbove plan l after) longer
    (fixed_by_moves plan rest (done ++ actor ∷ []) next after (reached_step plan s next actor reached is) (one_more plan done actor s next run is)
    (subst (λ (l : List Actor). HasStampsAbove plan l next) (sym longer) (fixed_next plan done rest actor s next run is h later (move_of plan s actor next is) all)) g))

pub stamps_above : (plan : Plan) (s : State) (reached : IsReached plan s) → HasStampsAbove plan reached.trace s
unfolding state_of opening
stamps_above plan s reached = fixed_by_moves plan reached.trace [] (opening plan) s (record { sound = reached.sound; trace = []; run = refl }) refl tt reached.run
