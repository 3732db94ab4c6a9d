-- The decision of a transaction on hosts keeps what holds.
use Rattle.std.proofs.Common.{◌≡◌, ◌≢◌, ◌⊎◌, ℕ, ◌+◌, ◌<◌, ◌≤◌, ◌==◌, Bool, true, false, List, [], ◌∷◌, length, length-set, set, get_or, option_map, Some, None, inl, inr, refl, sym, ap, subst, ◌∙◌, arith, if◌then◌else◌, Ordering, Less, Equal, Greater, is_lt}
use Rattle.std.specs.Prelude.{Contains}
use Rattle.std.specs.List.{AllByRecursion, list_any}
use Rattle.std.specs.Ordering.{ordering_then, ordering_reverse}
use Rattle.std.specs.FinMap.{nat_cmp-IsAntisymmetric}
use Rattle.std.proofs.lemmas.Bool.Decides.{nat_tests}
use Rattle.std.proofs.lemmas.Option.{slice_get-map}
use Rattle.std.proofs.lemmas.List.Elements.{Contains-append_left, Contains-append_right, Contains-append_cases}
use Rattle.txn_model.specs.Local.{IsLocalFrom}
use Rattle.txn_model.specs.declared.op.Op.{Op}
use Rattle.txn_model.specs.declared.pairs.Pair.{Pair}
use Rattle.txn_model.specs.declared.stamp.Seen.{Seen}
use Rattle.txn_model.specs.declared.stamp.Stamp.{Stamp}
use Rattle.stage_layout.specs.Late.{is_hot}
use Rattle.history_model.specs.History.{HistoryEntry, History, greater, stamp_cmp, entry_cmp, with_entry, IsInStampOrder}
use Rattle.switch_packet.specs.Replay.{replay}
use Rattle.switch_packet.proofs.ReplayLaws.{length-replay}
use Rattle.switch_model.specs.Switch.{Desk, Vacant, Posted, Entered, desk_at, entered}
use Rattle.warm_split.specs.Joined.{joined}
use Rattle.warm_split.specs.Laws.{IsOneVisit}
use Rattle.warm_split.specs.Resolved.{packet_of}
use Rattle.warm_split.specs.Sides.{hot_ops}
use Rattle.catalogue.specs.Plan.{Plan, script_at, hot_cells}
use Rattle.core_model.specs.declared.phase.Phase.{Phase}
use Rattle.core_model.specs.declared.phase.Phase.TheVariants.{Ready, Locking, Logged, Waiting, Installing}
use Rattle.core_model.specs.Asking.{IsAsking}
use Rattle.core_model.specs.Decision.{decision_stamp, greatest}
use Rattle.core_model.specs.Facts.{Clients}
use Rattle.core_model.specs.Locks.{cold_ops}
use Rattle.core_model.specs.State.{ClientState, at_item, zero_stamp, script_now}
use Rattle.core_model.specs.StampOrder.{AtMost, Below}
use Rattle.core_model.proofs.Decide.{all-with_entry}
use Rattle.core_model.proofs.Decided.{IsDistinct, or_false}
use Rattle.core_model.proofs.Entries.{sorted-with_entry, placed, entry_cmp_total}
use Rattle.core_model.proofs.Fewer.{OthersStay, same_or_not, each_entry}
use Rattle.core_model.proofs.Kept.{past_none}
use Rattle.core_model.proofs.Moves.{moved_client, others_stay}
use Rattle.core_model.proofs.Stamps.{above_all, Below-from_AtMost, entry_cmp-Below}
use Rattle.fabric_model.specs.Carried.{is_carried, carried, AreCarriedBy, FitsDesk, pending_entry}
use Rattle.fabric_model.specs.ColdFacts.{FitsPhase, ColdFacts}
use Rattle.fabric_model.specs.Holds.{HostFacts, Holds}
use Rattle.fabric_model.specs.Intents.{values_of}
use Rattle.fabric_model.specs.State.{State, client_at, answered_ones}
use Rattle.fabric_model.specs.Step.{decided, has_hot, next_op}
use Rattle.fabric_model.proofs.Answering.{kept_by_answer}
use Rattle.fabric_model.proofs.CarriedLaws.{carried_stays, carried-with_entry}
use Rattle.fabric_model.proofs.EntriesKept.{answered_ones-with_entry, own_of_all}
use Rattle.fabric_model.proofs.JoinedSteps.{length-joined_from, joined_finds, local-joined, length-packet}
use Rattle.fabric_model.proofs.TiesKept.{pending_stays, host_facts, tied}

-- the greatest of stamps has the number of one of them
pub number_of_greatest : (most : ℕ) (last : Stamp) (noted : List Seen) → last.number ≤ most → AllByRecursion (λ seen. seen.stamp.number ≤ most) noted → (greatest last noted).number ≤ most
number_of_greatest most last [] low all = low
number_of_greatest most last (seen ∷ noted) low all = number_of_greatest most (greater last seen.stamp) noted (by (is_lt (stamp_cmp last seen.stamp))) all.1
  where
    by : (b : Bool) → (if b then seen.stamp else last).number ≤ most
    by true = all.0
    by false = low

second : (a b : Ordering) → ordering_then a b ≡ Equal → b ≡ Equal
second Less b e = cc
second Equal b e = e
second Greater b e = cc

-- an entry of a client that is above all its others ties with none
pub ties_with_none : (e : HistoryEntry) (last : Stamp) (h : History) → Below last e.entry.stamp → AllByRecursion (λ f. f.entry.client ≡ e.entry.client → AtMost f.entry.stamp last) h → AllByRecursion (λ f. entry_cmp e.entry f.entry ≢ Equal) h
ties_with_none e last h above own = each_entry h (λ f low tie.
    let client = nat_cmp-IsAntisymmetric e.entry.client f.entry.client (second _ _ tie) in
    let below = Below-from_AtMost f.entry.stamp last e.entry.stamp (low (sym client)) above in
    let less = entry_cmp-Below f.entry e.entry below in
    let greater = entry_cmp_total.antisymm e.entry f.entry ∙ ap ordering_reverse less in
    clash (sym tie ∙ greater)) own
  where
    clash : Equal ≡ Greater → ⊥
    clash e = cc

-- an entry that is there is still there when another one is put in
pub still_there : (e f : HistoryEntry) (h : History) → IsInStampOrder h → Contains h f → Contains (with_entry e h) f
still_there e f h sorted there =
    let at = placed e h sorted in
    subst (λ (l : History). Contains l f) (sym at.new)
    (elim (Contains-append_cases at.before at.behind f (subst (λ (l : History). Contains l f) at.whole there)) [
      | inl b ↦ Contains-append_left at.before (e ∷ at.behind) f b
      | inr b ↦ Contains-append_right at.before (e ∷ at.behind) f (Contains-append_right (e ∷ []) at.behind f b)
    ])

pub desk_stays : (plan : Plan) (h new : History) (c : ℕ) (x : ClientState) (desk : Desk) → ((f : HistoryEntry) → Contains h f → Contains new f) → FitsDesk plan h c x desk → FitsDesk plan new c x desk
desk_stays plan h new c x Vacant there fits = fits
desk_stays plan h new c x (Posted p) there fits = fits
desk_stays plan h new c x (Entered k) there fits = (fits.0, there (pending_entry c x (k + 1)) fits.1)

none_hot : (plan : Plan) (ops : List Op) → has_hot plan ops ≡ false → hot_ops plan.layout ops ≡ []
none_hot plan [] none = refl
none_hot plan (op ∷ ops) none =
    let parts = or_false (is_hot plan.layout op.tuple) (list_any (λ (o : Op). is_hot plan.layout o.tuple) ops) none in
    ap (λ (b : Bool). if b then op ∷ hot_ops plan.layout ops else hot_ops plan.layout ops) parts.0 ∙ none_hot plan ops parts.1

risen : (n : ℕ) → (n + 1 == 0) ≡ false
risen n = grind (arith, nat_tests)

no_pairs : (l : List Pair) → length l ≡ 0 → l ≡ []
no_pairs [] e = refl
no_pairs (p ∷ l) e = absurd (omega (arith, e))

module _ (plan : Plan) (distinct : (c seq : ℕ) → IsDistinct (script_at plan c seq)) (s : State) (c : ℕ) (lt : c < length s.clients) (most : ℕ) (facts : HostFacts plan most (client_at s) s.store s.history)
    (own : (client_at s c).phase ≢ Waiting → AllByRecursion (λ f. f.entry.client ≡ c → AtMost f.entry.stamp (client_at s c).last) s.history) (visit : IsOneVisit plan.layout (script_now plan c (client_at s c))) where
  abbrev x : ClientState
  x = client_at s c

  abbrev reply : List Pair
  reply = joined plan.layout (script_now plan c x) (values_of x.noted) []

  abbrev stamp : Stamp
  stamp = decision_stamp x.last x.noted

  abbrev entry : HistoryEntry
  entry = record { entry = record { stamp = stamp; client = c; seq = x.seq }; pairs = Some reply }

  abbrev y : ClientState
  y = record x { phase = Installing; last = stamp; reply = reply }

  abbrev at : Clients
  at = client_at s

  abbrev new : Clients
  new d = get_or (set s.clients c y) d (at_item 0 1 zero_stamp)

  others : OthersStay c at new
  others = others_stay s.clients c y

  mine : new c ≡ y
  mine = moved_client s.clients c y lt

  local : has_hot plan (script_now plan c x) ≡ false → IsLocalFrom [] (script_now plan c x) reply
  local cold =
      let ops = script_now plan c x in
      let p = packet_of plan.shape plan.layout c x.seq ops (values_of x.noted) in
      let empty = no_pairs (replay p (hot_cells plan)).pairs (length-replay p (hot_cells plan) ∙ length-packet plan.shape plan.layout c x.seq ops (values_of x.noted) ∙ ap length (none_hot plan ops cold)) in
      subst (λ (l : List Pair). IsLocalFrom [] ops (joined plan.layout ops (values_of x.noted) l)) empty (local-joined plan.shape plan.layout c x.seq ops (values_of x.noted) (hot_cells plan) visit)

  asks_fit : IsAsking x → (x.installed ≡ 0) × (length x.noted ≤ length (cold_ops plan.layout (script_now plan c x)))
  asks_fit (inl is) = let fit : FitsPhase plan c x Ready = subst (λ (p : Phase). FitsPhase plan c x p) is (facts.cold.fits c) in (fit.1, omega (arith, ap length fit.0))
  asks_fit (inr is) = let fit : FitsPhase plan c x Locking = subst (λ (p : Phase). FitsPhase plan c x p) is (facts.cold.fits c) in (fit.1, fit.0)

  not_in : (p : Phase) → (Ready ≡ p → ⊥) → (Locking ≡ p → ⊥) → IsAsking x → x.phase ≢ p
  not_in p ready locking (inl is) e = ready (sym is ∙ e)
  not_in p ready locking (inr is) e = locking (sym is ∙ e)

  pub decided_facts : IsAsking x → next_op plan c x ≡ None → has_hot plan (script_now plan c x) ≡ false → 0 < length x.noted → HostFacts plan most (client_at (decided plan s c x)) s.store (with_entry entry s.history)
  unfolding decided
  decided_facts asks next cold some = record {
    cold = subst (ColdFacts plan new s.store) (sym (answered_ones-with_entry entry s.history refl facts.sorted))
        (kept_by_answer plan at new s.store (answered_ones s.history) c stamp reply others undecided (asks_fit asks).0 all_locked (λ d. distinct d (at d).seq) facts.cold above.0 above.1
        (length-joined_from plan.layout [] (script_now plan c x) (values_of x.noted) []) (local cold)
        (λ k op p seen is noted. joined_finds plan.layout [] (script_now plan c x) (values_of x.noted) [] k op p seen.value is (slice_get-map (λ (z : Seen). z.value) x.noted k ∙ ap (option_map (λ (z : Seen). z.value)) noted)) mine);
    installs = λ d. elim (same_or_not d c) [
      | inl e ↦ subst (λ (i : ℕ). (new i).phase ≡ Installing → (new i).installed < length (new i).noted) (sym e) (subst (λ (z : ClientState). z.phase ≡ Installing → z.installed < length z.noted) (sym mine) (λ i. omega (arith, some, (asks_fit asks).0)))
      | inr n ↦ subst (λ (z : ClientState). z.phase ≡ Installing → z.installed < length z.noted) (sym (others d n)) (facts.installs d)
    ];
    hot_ones = λ d. elim (same_or_not d c) [
      | inl e ↦ subst (λ (i : ℕ). ((new i).phase ≡ Logged) ⊎ ((new i).phase ≡ Waiting) → has_hot plan (script_now plan i (new i)) ≡ true) (sym e) (subst (λ (z : ClientState). (z.phase ≡ Logged) ⊎ (z.phase ≡ Waiting) → has_hot plan (script_now plan c z) ≡ true) (sym mine) (λ i. absurd (neither i)))
      | inr n ↦ subst (λ (z : ClientState). (z.phase ≡ Logged) ⊎ (z.phase ≡ Waiting) → has_hot plan (script_now plan d z) ≡ true) (sym (others d n)) (facts.hot_ones d)
    ];
    sorted = sorted-with_entry entry s.history facts.sorted (ties_with_none entry x.last s.history above.0
        (own not_waiting));
    unanswered = all-with_entry (λ e. e.pairs ≡ None → is_carried e ≡ true) entry s.history facts.unanswered (λ none. absurd (some_none none));
    hosts = all-with_entry (λ e. is_carried e ≡ false → has_hot plan (script_at plan e.entry.client e.entry.seq) ≡ false) entry s.history facts.hosts (λ _. cold);
    covered = record {
      last = λ d. elim (same_or_not d c) [
        | inl e ↦ subst (λ (i : ℕ). (new i).last.number ≤ most) (sym e) (subst (λ (z : ClientState). z.last.number ≤ most) (sym mine) stamp_covered)
        | inr n ↦ subst (λ (z : ClientState). z.last.number ≤ most) (sym (others d n)) (facts.covered.last d)
      ];
      noted = λ d. elim (same_or_not d c) [
        | inl e ↦ subst (λ (i : ℕ). AllByRecursion (λ seen. seen.stamp.number ≤ most) (new i).noted) (sym e) (subst (λ (z : ClientState). AllByRecursion (λ seen. seen.stamp.number ≤ most) z.noted) (sym mine) (facts.covered.noted c))
        | inr n ↦ subst (λ (z : ClientState). AllByRecursion (λ seen. seen.stamp.number ≤ most) z.noted) (sym (others d n)) (facts.covered.noted d)
      ];
      store_has = facts.covered.store_has;
      entries = all-with_entry (λ e. e.entry.stamp.number ≤ most) entry s.history facts.covered.entries stamp_covered;
    };
  }
    where
      undecided : x.phase ≢ Installing
      undecided = not_in Installing (λ e. cc) (λ e. cc) asks

      not_waiting : x.phase ≢ Waiting
      not_waiting = not_in Waiting (λ e. cc) (λ e. cc) asks

      all_locked : length x.noted ≡ length (cold_ops plan.layout (script_now plan c x))
      all_locked = omega (arith, (asks_fit asks).1, past_none (cold_ops plan.layout (script_now plan c x)) (length x.noted) next)

      above : Below x.last stamp × AllByRecursion (λ seen. Below seen.stamp stamp) x.noted
      above = above_all x.last x.noted

      stamp_covered : stamp.number ≤ most
      stamp_covered = number_of_greatest most x.last x.noted (facts.covered.last c) (facts.covered.noted c)

      some_none : Some reply ≡ None → ⊥
      some_none e = cc

      neither : (Installing ≡ Logged) ⊎ (Installing ≡ Waiting) → ⊥
      neither (inl e) = cc
      neither (inr e) = cc

module _ (plan : Plan) (distinct : (c seq : ℕ) → IsDistinct (script_at plan c seq)) (s : State) (c : ℕ) (lt : c < length s.clients) (holds : Holds plan s) (visit : IsOneVisit plan.layout (script_now plan c (client_at s c))) where
  abbrev x_now : ClientState
  x_now = client_at s c

  abbrev decided_entry : HistoryEntry
  decided_entry = record {
    entry = record { stamp = decision_stamp x_now.last x_now.noted; client = c; seq = x_now.seq };
    pairs = Some (joined plan.layout (script_now plan c x_now) (values_of x_now.noted) []);
  }

  abbrev decided_client : ClientState
  decided_client = record x_now { phase = Installing; last = decision_stamp x_now.last x_now.noted; reply = joined plan.layout (script_now plan c x_now) (values_of x_now.noted) [] }

  abbrev all_now : Clients
  all_now d = get_or (set s.clients c decided_client) d (at_item 0 1 zero_stamp)

  pub decided_holds : IsAsking x_now → next_op plan c x_now ≡ None → has_hot plan (script_now plan c x_now) ≡ false → 0 < length x_now.noted → Holds plan (decided plan s c x_now)
  unfolding decided
  decided_holds asks next cold some = record {
    now = holds.now;
    up = holds.up;
    reached = holds.reached;
    desks = holds.desks ∙ sym (length-set s.clients c decided_client);
    ties = tied plan all_now s.store (with_entry decided_entry s.history) (desk_at holds.now) (entered holds.now)
        (decided_facts plan distinct s c lt (length (entered holds.now)) (host_facts plan (client_at s) s.store s.history (desk_at holds.now) (entered holds.now) holds.ties)
        (λ waits. own_of_all plan (client_at s) (desk_at holds.now) (hot_cells plan) s.history (entered holds.now) c waits holds.ties.unanswered holds.ties.carried_ones (holds.ties.cold.own c)) visit asks next cold some)
        (subst (λ (l : History). AreCarriedBy plan all_now (desk_at holds.now) 0 (hot_cells plan) l (entered holds.now)) (sym (carried-with_entry decided_entry s.history (risen (greatest x_now.last x_now.noted).sub)))
        (carried_stays plan (client_at s) all_now (desk_at holds.now) (desk_at holds.now) 0 (hot_cells plan) (carried s.history) (entered holds.now)
        (λ j e values p. pending_stays plan (client_at s) all_now (desk_at holds.now) (desk_at holds.now) j e values (stay e.entry.client (λ same. not_waiting (subst (λ (i : ℕ). (client_at s i).phase ≡ Waiting) same p.phase))) refl p) holds.ties.carried_ones))
        (λ d. desk_stays plan s.history (with_entry decided_entry s.history) d (all_now d) (desk_at holds.now d) (λ f. still_there decided_entry f s.history holds.ties.sorted) (elim (same_or_not d c) [
          | inl e ↦ subst (λ (i : ℕ). FitsDesk plan s.history i (all_now i) (desk_at holds.now i)) (sym e) (subst (λ (z : ClientState). FitsDesk plan s.history c z (desk_at holds.now c)) (sym (moved_client s.clients c decided_client lt)) (vacant (desk_at holds.now c) (holds.ties.under_way c)))
          | inr n ↦ subst (λ (z : ClientState). FitsDesk plan s.history d z (desk_at holds.now d)) (sym (stay d n)) (holds.ties.under_way d)
        ]));
  }
    where
      stay : OthersStay c (client_at s) all_now
      stay = others_stay s.clients c decided_client

      not_waiting : x_now.phase ≢ Waiting
      not_waiting = elim asks [ inl is ↦ (λ e. let clash : Ready ≡ Waiting = sym is ∙ e in cc) | inr is ↦ (λ e. let clash : Locking ≡ Waiting = sym is ∙ e in cc) ]

      vacant : (desk : Desk) → FitsDesk plan s.history c x_now desk → FitsDesk plan s.history c decided_client desk
      vacant Vacant fits = λ e. let clash : Installing ≡ Waiting = e in cc
      vacant (Posted p) fits = absurd (not_waiting fits.0)
      vacant (Entered k) fits = absurd (not_waiting fits.0)
