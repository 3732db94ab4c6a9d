-- A client that takes the answer to its packet keeps what holds: its entry is answered.
use Rattle.std.proofs.Common.{◌≡◌, ◌≢◌, ◌⊎◌, ℕ, zero, suc, ◌+◌, ◌<◌, ◌≤◌, ◌==◌, ◌&&◌, Bool, true, false, List, [], ◌∷◌, ◌++◌, map, length, length-set, set, get_or, slice_get, Some, None, inl, inr, refl, sym, ap, subst, ◌∙◌, arith, if◌then◌else◌}
use Rattle.std.specs.Prelude.{Contains, slice_index_or}
use Rattle.std.specs.List.{AllByRecursion}
use Rattle.std.proofs.lemmas.Bool.Decides.{nat_tests}
use Rattle.txn_model.specs.declared.pairs.Pair.{Pair}
use Rattle.history_model.specs.History.{HistoryEntry, History, IsInStampOrder}
use Rattle.switch_packet.specs.Packets.{blank_packet}
use Rattle.switch_packet.specs.Replay.{replay_all}
use Rattle.switch_model.specs.Reached.{IsReached}
use Rattle.switch_model.specs.Switch.{Switch, Desk, Vacant, Posted, Entered, desk_at, entered}
use Rattle.switch_model.proofs.Effects.{TakeEffect, entered_desk}
use Rattle.warm_split.specs.Joined.{joined}
use Rattle.warm_split.specs.Laws.{IsOneVisit}
use Rattle.catalogue.specs.Plan.{Plan, script_at, items_of, hot_cells}
use Rattle.core_model.specs.declared.phase.Phase.{Phase}
use Rattle.core_model.specs.declared.phase.Phase.TheVariants.{Logged, Waiting, Installing}
use Rattle.core_model.specs.Facts.{Clients, Stands, script_of_entry}
use Rattle.core_model.specs.State.{ClientState, at_item, zero_stamp, script_now}
use Rattle.core_model.specs.Step.{next_item}
use Rattle.core_model.proofs.Decided.{IsDistinct}
use Rattle.core_model.proofs.Fewer.{OthersStay, KeepsLocks, same_or_not}
use Rattle.core_model.proofs.Moves.{moved_client, others_stay}
use Rattle.fabric_model.specs.Carried.{is_carried, carried, AreCarriedBy, FitsDesk, pending_entry}
use Rattle.fabric_model.specs.ColdFacts.{FitsPhase, ColdFacts}
use Rattle.fabric_model.specs.Holds.{Ties, Holds}
use Rattle.fabric_model.specs.Intents.{values_of}
use Rattle.fabric_model.specs.State.{State, client_at, answered_ones}
use Rattle.fabric_model.specs.Step.{taken, with_reply, answered_entry, has_hot}
use Rattle.fabric_model.proofs.AnswerOne.{sorted-with_reply, cold_now, carried_now}
use Rattle.fabric_model.proofs.CarriedLaws.{carried_stays}
use Rattle.fabric_model.proofs.EndsItem.{kept_by_end}
use Rattle.fabric_model.proofs.NextClient.{at_beginning}
use Rattle.fabric_model.proofs.TiesKept.{pending_stays}
use Rattle.fabric_model.proofs.Numbers.{Pending, pending_at}

-- what an entry says of its client's item doesn't change when it is answered, and no answer is taken back
pub each_replied : (P : HistoryEntry → Type 0) (number : ℕ) (reply : List Pair) (h : History) → ((e : HistoryEntry) → P e → P (record e { pairs = Some reply })) → AllByRecursion P h → AllByRecursion P (with_reply number reply h)
each_replied P number reply [] keeps all = tt
each_replied P number reply (e ∷ h) keeps all = (by (e.entry.stamp.number == number && e.entry.stamp.sub == 0), each_replied P number reply h keeps all.1)
  where
    by : (b : Bool) → P (if b then record e { pairs = Some reply } else e)
    by true = keeps e all.0
    by false = all.0

contains_map : (f : HistoryEntry → HistoryEntry) (h : History) (e : HistoryEntry) (k : ℕ) → k < length h → slice_index_or h k e ≡ e → Contains (map f h) (f e)
contains_map f [] e k lt is = absurd (omega arith)
contains_map f (g ∷ h) e zero lt is = (0, omega arith, ap f is)
contains_map f (g ∷ h) e (suc k) lt is = let rest = contains_map f h e k (omega arith) is in (suc rest.0, omega (arith, rest.1), rest.2)

-- another entry is still there
pub others_there : (number : ℕ) (reply : List Pair) (h : History) (f : HistoryEntry) → (f.entry.stamp.number == number && f.entry.stamp.sub == 0) ≡ false → Contains h f → Contains (with_reply number reply h) f
others_there number reply h f other there = subst (Contains (with_reply number reply h)) (ap (λ (b : Bool). if b then record f { pairs = Some reply } else f) other) (contains_map (answered_entry number reply) h f there.0 there.1 there.2)

-- the packet's entry among those of a history: it is the client's, and no other one's client is this one's while it is pending
module _ (plan : Plan) (distinct : (c seq : ℕ) → IsDistinct (script_at plan c seq)) (s : State) (c : ℕ) (lt : c < length s.clients) (holds : Holds plan s)
    (k : ℕ) (desk : desk_at holds.now c ≡ Entered k) (visit : IsOneVisit plan.layout (script_now plan c (client_at s c)))
    (hot : List Pair) (hot_is : slice_get (replay_all (entered holds.now) (hot_cells plan)).pairs k ≡ Some hot) (next : Switch) (reached : IsReached plan.shape (hot_cells plan) next) (size : length next.desks ≡ length holds.now.desks)
    (effect : TakeEffect holds.now next c) where
  abbrev at : Clients
  at = client_at s

  abbrev x : ClientState
  x = at c

  abbrev desks : ℕ → Desk
  desks = desk_at holds.now

  waits : FitsDesk plan s.history c x (Entered k)
  waits = subst (FitsDesk plan s.history c x) desk (holds.ties.under_way c)

  abbrev entry : HistoryEntry
  entry = pending_entry c x (k + 1)

  -- the history around the entry
  around : (h : History) (i : ℕ) → i < length h → slice_index_or h i entry ≡ entry → (before : History) × (behind : History) × (h ≡ before ++ entry ∷ behind)
  around [] i below is = absurd (omega arith)
  around (f ∷ h) zero below is = ([], h, ap (λ (g : HistoryEntry). g ∷ h) is)
  around (f ∷ h) (suc i) below is = let rest = around h i (omega arith) is in (f ∷ rest.0, rest.1, ap (λ (l : History). f ∷ l) rest.2)

  split : (before : History) × (behind : History) × (s.history ≡ before ++ entry ∷ behind)
  split = around s.history waits.1.0 waits.1.1 waits.1.2

  abbrev h : History
  h = split.0 ++ entry ∷ split.1

  carried_h : AreCarriedBy plan at desks 0 (hot_cells plan) (carried h) (entered holds.now)
  carried_h = subst (λ (l : History). AreCarriedBy plan at desks 0 (hot_cells plan) (carried l) (entered holds.now)) split.2 holds.ties.carried_ones

  abbrev pend : Pending plan at desks (hot_cells plan) h (entered holds.now)
  pend = pending_at plan at desks (hot_cells plan) split.0 entry split.1 (entered holds.now) refl refl carried_h

  entered_same : (a b : ℕ) → Entered a ≡ Entered b → a ≡ b
  entered_same a b e = cc

  place : pend.k ≡ k
  place = entered_same pend.k k (sym (pend.by.pending refl).desk ∙ desk)

  abbrev reply_of : List Pair → List Pair
  reply_of = joined plan.layout (script_now plan c x) (values_of x.noted)

  abbrev number : ℕ
  number = pend.k + 1

  abbrev reply : List Pair
  reply = reply_of hot

  -- the client that is answered
  abbrev w : ClientState
  w = record x { phase = Installing; last = record { number = number; sub = 0 }; reply = reply }

  abbrev with_client : ClientState → Clients
  with_client y d = get_or (set s.clients c y) d (at_item 0 1 zero_stamp)

  abbrev after : History
  after = with_reply number reply s.history

  others_of : (y : ClientState) → OthersStay c at (with_client y)
  others_of y = others_stay s.clients c y

  mine_of : (y : ClientState) → with_client y c ≡ y
  mine_of y = moved_client s.clients c y lt

  hot_here : slice_get (replay_all (entered holds.now) (hot_cells plan)).pairs pend.k ≡ Some hot
  hot_here = ap (slice_get (replay_all (entered holds.now) (hot_cells plan)).pairs) place ∙ hot_is

  cold_h : ColdFacts plan at s.store (answered_ones h)
  cold_h = subst (λ (l : History). ColdFacts plan at s.store (answered_ones l)) split.2 holds.ties.cold

  sorted_h : IsInStampOrder h
  sorted_h = subst IsInStampOrder split.2 holds.ties.sorted

  cold_w : ColdFacts plan (with_client w) s.store (answered_ones after)
  cold_w = subst (λ (l : History). ColdFacts plan (with_client w) s.store (answered_ones (with_reply number reply l))) (sym split.2)
      (cold_now plan at (with_client w) desks (desk_at next) s.store h (entered holds.now) (hot_cells plan) (λ d. distinct d (at d).seq) cold_h sorted_h carried_h pend visit hot hot_here (others_of w) effect.desk.others (mine_of w))

  carried_w : AreCarriedBy plan (with_client w) (desk_at next) 0 (hot_cells plan) (carried after) (entered holds.now)
  carried_w = subst (λ (l : History). AreCarriedBy plan (with_client w) (desk_at next) 0 (hot_cells plan) (carried (with_reply number reply l)) (entered holds.now)) (sym split.2)
      (carried_now plan at (with_client w) desks (desk_at next) s.store h (entered holds.now) (hot_cells plan) (λ d. distinct d (at d).seq) cold_h sorted_h carried_h pend visit hot hot_here (others_of w) effect.desk.others (mine_of w))

  -- what is asked of the client that goes on
  record GoesOn (y : ClientState) : Type 0 where
    pub cold : ColdFacts plan (with_client y) s.store (answered_ones after)
    pub quiet : (y.phase ≢ Waiting) × (y.phase ≢ Logged)
    pub installs : y.phase ≡ Installing → y.installed < length y.noted
    pub last : y.last.number ≤ length (entered holds.now)
    pub noted : AllByRecursion (λ seen. seen.stamp.number ≤ length (entered holds.now)) y.noted

  entered_at : (d j : ℕ) → desks d ≡ Entered j → (get_or (entered holds.now) j blank_packet).client ≡ d
  entered_at d j is = (entered_desk plan.shape (hot_cells plan) holds.now d j holds.reached is).client

  -- another client's desk
  other_desk : (d : ℕ) → d ≢ c → (desk_d : Desk) → desks d ≡ desk_d → FitsDesk plan s.history d (at d) desk_d → FitsDesk plan after d (at d) desk_d
  other_desk d n Vacant is fits = fits
  other_desk d n (Posted p) is fits = fits
  other_desk d n (Entered j) is fits = (fits.0, others_there number reply s.history (pending_entry d (at d) (j + 1)) (apart (j + 1) number (λ same. n (sym (entered_at d j is) ∙ ap (λ (i : ℕ). (get_or (entered holds.now) i blank_packet).client) {x = j} {y = k} (omega (arith, same, place)) ∙ entered_at c k desk))) fits.1)
    where
      apart : (a b : ℕ) → a ≢ b → (a == b && 0 == 0) ≡ false
      apart a b ne = grind (arith, nat_tests)

  ties_behind : (y : ClientState) → GoesOn y → Ties plan (with_client y) s.store after (desk_at next) (entered holds.now)
  ties_behind y on = record {
    cold = on.cold;
    installs = λ d. elim (same_or_not d c) [
      | inl e ↦ subst (λ (i : ℕ). (with_client y i).phase ≡ Installing → (with_client y i).installed < length (with_client y i).noted) (sym e) (subst (λ (z : ClientState). z.phase ≡ Installing → z.installed < length z.noted) (sym (mine_of y)) on.installs)
      | inr n ↦ subst (λ (z : ClientState). z.phase ≡ Installing → z.installed < length z.noted) (sym (others_of y d n)) (holds.ties.installs d)
    ];
    hot_ones = λ d. elim (same_or_not d c) [
      | inl e ↦ subst (λ (i : ℕ). ((with_client y i).phase ≡ Logged) ⊎ ((with_client y i).phase ≡ Waiting) → has_hot plan (script_now plan i (with_client y i)) ≡ true) (sym e) (subst (λ (z : ClientState). (z.phase ≡ Logged) ⊎ (z.phase ≡ Waiting) → has_hot plan (script_now plan c z) ≡ true) (sym (mine_of y)) (λ i. absurd (neither i)))
      | inr n ↦ subst (λ (z : ClientState). (z.phase ≡ Logged) ⊎ (z.phase ≡ Waiting) → has_hot plan (script_now plan d z) ≡ true) (sym (others_of y d n)) (holds.ties.hot_ones d)
    ];
    sorted = sorted-with_reply number reply s.history holds.ties.sorted;
    unanswered = each_replied (λ e. e.pairs ≡ None → is_carried e ≡ true) number reply s.history (λ e p none. absurd (some_none none)) holds.ties.unanswered;
    hosts = each_replied (λ e. is_carried e ≡ false → has_hot plan (script_of_entry plan e) ≡ false) number reply s.history (λ e p. p) holds.ties.hosts;
    carried_ones = carried_stays plan (with_client w) (with_client y) (desk_at next) (desk_at next) 0 (hot_cells plan) (carried after) (entered holds.now)
        (λ j e values p. let n = (λ (same : e.entry.client ≡ c). not_waiting (ap (λ (z : ClientState). z.phase) (sym (mine_of w)) ∙ subst (λ (i : ℕ). (with_client w i).phase ≡ Waiting) same p.phase)) in
        pending_stays plan (with_client w) (with_client y) (desk_at next) (desk_at next) j e values (others_of y e.entry.client n ∙ sym (others_of w e.entry.client n)) refl p) carried_w;
    under_way = λ d. elim (same_or_not d c) [
      | inl e ↦ subst (λ (i : ℕ). FitsDesk plan after i (with_client y i) (desk_at next i)) (sym e) (subst (λ (z : ClientState). FitsDesk plan after c z (desk_at next c)) (sym (mine_of y)) (subst (FitsDesk plan after c y) (sym effect.desk.this) on.quiet.0))
      | inr n ↦ subst (λ (z : ClientState). FitsDesk plan after d z (desk_at next d)) (sym (others_of y d n)) (subst (FitsDesk plan after d (at d)) (sym (effect.desk.others d n)) (other_desk d n (desks d) refl (holds.ties.under_way d)))
    ];
    covered = record {
      last = λ d. elim (same_or_not d c) [
        | inl e ↦ subst (λ (i : ℕ). (with_client y i).last.number ≤ length (entered holds.now)) (sym e) (subst (λ (z : ClientState). z.last.number ≤ length (entered holds.now)) (sym (mine_of y)) on.last)
        | inr n ↦ subst (λ (z : ClientState). z.last.number ≤ length (entered holds.now)) (sym (others_of y d n)) (holds.ties.covered.last d)
      ];
      noted = λ d. elim (same_or_not d c) [
        | inl e ↦ subst (λ (i : ℕ). AllByRecursion (λ seen. seen.stamp.number ≤ length (entered holds.now)) (with_client y i).noted) (sym e) (subst (λ (z : ClientState). AllByRecursion (λ seen. seen.stamp.number ≤ length (entered holds.now)) z.noted) (sym (mine_of y)) on.noted)
        | inr n ↦ subst (λ (z : ClientState). AllByRecursion (λ seen. seen.stamp.number ≤ length (entered holds.now)) z.noted) (sym (others_of y d n)) (holds.ties.covered.noted d)
      ];
      store_has = holds.ties.covered.store_has;
      entries = each_replied (λ e. e.entry.stamp.number ≤ length (entered holds.now)) number reply s.history (λ e p. p) holds.ties.covered.entries;
    };
  }
    where
      neither : (y.phase ≡ Logged) ⊎ (y.phase ≡ Waiting) → ⊥
      neither (inl e) = on.quiet.1 e
      neither (inr e) = on.quiet.0 e

      some_none : {pairs : List Pair} → Some pairs ≡ None → ⊥
      some_none e = cc

      not_waiting : Installing ≡ Waiting → ⊥
      not_waiting e = cc

  within : number ≤ length (entered holds.now)
  within = omega (arith, (entered_desk plan.shape (hot_cells plan) holds.now c k holds.reached desk).there, place)

  fit : FitsPhase plan c x Waiting
  fit = subst (λ (q : Phase). FitsPhase plan c x q) waits.0 (holds.ties.cold.fits c)

  goes_on : (b : Bool) → (length x.noted == 0) ≡ b → GoesOn (if b then next_item plan c w else w)
  goes_on false some = record {
    cold = cold_w;
    quiet = (λ e. let clash : Installing ≡ Waiting = e in cc, λ e. let clash : Installing ≡ Logged = e in cc);
    installs = λ i. has_some x.installed (length x.noted) fit.1 some;
    last = within;
    noted = holds.ties.covered.noted c;
  }
    where
      has_some : (i n : ℕ) → i ≡ 0 → (n == 0) ≡ false → i < n
      has_some i n zero_i not_zero = grind (arith, nat_tests)
  goes_on true nothing =
      let begins = at_beginning plan c (length (items_of plan c)) (w.seq + 1) w in
      let y = next_item plan c w in
      let mine = mine_of y in
      let old : with_client w c ≡ w = mine_of w in
      record {
        cold = kept_by_end plan (with_client w) (with_client y) s.store (answered_ones after) c (λ d n. others_of y d n ∙ sym (others_of w d n))
            (subst (λ (z : ClientState). KeepsLocks plan c z (with_client y c)) (sym old) (subst (KeepsLocks plan c w) (sym mine) begins.keeps))
            (λ j op st. no_locks j (subst (λ (z : ClientState). Stands plan c z j op) old st).to)
            (λ i. begins.quiet.installing (ap (λ (z : ClientState). z.phase) (sym mine) ∙ i))
            (subst (λ (z : ClientState). FitsPhase plan c z z.phase) (sym mine) begins.fit)
            (ap (λ (z : ClientState). z.last) mine ∙ ap (λ (z : ClientState). z.last) (sym old)) cold_w;
        quiet = (begins.quiet.waiting, begins.quiet.logged);
        installs = λ i. absurd (begins.quiet.installing i);
        last = within;
        noted = tt;
      }
    where
      no_locks : (j : ℕ) → j < length x.noted → ⊥
      no_locks j below = let none : length x.noted ≡ 0 = grind (arith, nat_tests, nothing) in omega arith

  taken_at : Holds plan (taken plan s c x (record { number = number; pairs = hot }) next)
  unfolding taken
  taken_at =
      let y = (if length x.noted == 0 then next_item plan c w else w) in
      record {
        now = next;
        up = refl;
        reached = reached;
        desks = size ∙ holds.desks ∙ sym (length-set s.clients c y);
        ties = subst (Ties plan (with_client y) s.store after (desk_at next)) (sym effect.entered) (ties_behind y (goes_on (length x.noted == 0) refl));
      }

  pub taken_holds : (n : ℕ) → n ≡ k + 1 → Holds plan (taken plan s c x (record { number = n; pairs = hot }) next)
  taken_holds n is = subst (λ (m : ℕ). Holds plan (taken plan s c x (record { number = m; pairs = hot }) next)) (ap (λ (i : ℕ). i + 1) place ∙ sym is) taken_at
