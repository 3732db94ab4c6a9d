-- Each item before a client's present one is committed, or each of its tries was refused.
use Rattle.std.proofs.Common.{◌≡◌, ◌≢◌, ◌⊎◌, ℕ, zero, suc, ◌+◌, ◌-◌, ◌<◌, ◌≤◌, ◌==◌, ◌&&◌, ◌||◌, nat_lt, Bool, true, false, cond, List, [], ◌∷◌, ◌++◌, map, filter, find, length, take, set, get_or, slice_get, is_some, unwrap_or, Option, Some, None, IsSome, Contains, inl, inr, refl, sym, ap, subst, ◌∙◌, arith, if◌then◌else◌}
use Rattle.std.specs.List.{list_any, AllByRecursion}
use Rattle.std.specs.Option.{option_and_then}
use Rattle.std.proofs.lemmas.Bool.Decides.{nat_tests}
use Rattle.std.proofs.lemmas.Option.{slice_get_within}
use Rattle.txn_model.specs.Places.{Places}
use Rattle.txn_model.specs.declared.op.Op.{Op}
use Rattle.txn_model.specs.declared.pairs.Pair.{Pair}
use Rattle.txn_model.specs.declared.stamp.Stamp.{Stamp}
use Rattle.history_model.specs.History.{HistoryEntry, History, AllAnswered}
use Rattle.history_model.specs.InOrder.{seqs_of}
use Rattle.switch_packet.specs.Packets.{PlainPacket}
use Rattle.switch_packet.specs.Replay.{replay}
use Rattle.placement_model.specs.Placements.{Task}
use Rattle.switch_model.specs.Switch as machine
use Rattle.switch_model.specs.Switch.{Switch, Answer, Desk, Vacant, Posted, Entered, desk_at, next_number, answer_on, answer_of}
use Rattle.catalogue.specs.Plan.{Plan, PlainItem, Run, Lose, items_of, item_of, script_in, hot_cells}
use Rattle.catalogue.specs.declared.actor.Actor.{Actor}
use Rattle.core_model.specs.declared.item_end.ItemEnd.TheVariants.{Pending, Aborted, Lost}
use Rattle.core_model.specs.declared.phase.Phase.{Phase}
use Rattle.core_model.specs.declared.phase.Phase.TheVariants.{Ready, Locking, Aborting, Logged, Waiting, Installing, Finished}
use Rattle.core_model.specs.declared.refusal.Refusal.{Refusal}
use Rattle.core_model.specs.Asking.{IsAsking}
use Rattle.core_model.specs.Ends.{where_answered, answered_entry, script_end, refused_times}
use Rattle.core_model.specs.Facts.{Clients, steps_now}
use Rattle.core_model.specs.Locks.{cold_ops}
use Rattle.core_model.specs.Run.{first_clients}
use Rattle.core_model.specs.State.{ClientState, at_item, script_now, zero_stamp}
use Rattle.core_model.specs.Step.{aborting, next_item}
use Rattle.core_model.proofs.Ended.{Ends, begun, has_entry, in_abort}
use Rattle.core_model.proofs.Fewer.{same_or_not}
use Rattle.core_model.proofs.Moves.{moved_client, others_stay}
use Rattle.fabric_model.specs.Carried.{is_carried, carried, AreCarriedBy, pending_entry, FitsDesk}
use Rattle.fabric_model.specs.Ends.{entry_of, end_of, item_end, IsEnded, HasEnds}
use Rattle.fabric_model.specs.ColdFacts.{FitsPhase}
use Rattle.fabric_model.specs.Holds.{Holds, HoldsNow, WhileUp, WhileLost}
use Rattle.fabric_model.specs.Laws.{IsReached}
use Rattle.fabric_model.specs.Recovery.{waits_again, resumed}
use Rattle.fabric_model.specs.Run.{opening}
use Rattle.fabric_model.specs.State.{State, client_at}
use Rattle.fabric_model.specs.Step.{lost, granted, refused, released, decided, logged, posted, taken, installed, switched, entered, replied, behind_entry, recovered}
use Rattle.fabric_model.proofs.Either.{facts_of, up_of}
use Rattle.fabric_model.proofs.FromCore.{seqs_of-append, seqs_of-own, next_ends, abort_ends, install_ends, ends_as, times_own, times_other, any_last}
use Rattle.fabric_model.proofs.InOrder.{IsPastAt, desk_in, Ordered, Goes, Stays, Passes, Leaves, Adds, GoesAll, below_present, has_none, seqs-with_reply, from_filter, decided_last, goes_of, ordered}
use Rattle.fabric_model.proofs.MoveKinds.{Move, Loses, Grants, Refuses, Releases, Decides, Logs, Posts, Takes, Installs, Moved, ByClient, AtPort, AtStage, Recovers, move_of, not_decided}
use Rattle.fabric_model.proofs.MovesLeft.{same_switch}
use Rattle.fabric_model.proofs.Present.{reply_to, stamp_of, clients_at_port, clients_at_stage, client_recovered}
use Rattle.fabric_model.proofs.Resumed.{installs_before}
use Rattle.fabric_model.proofs.Runs.{of_reached, reached_step}
use Rattle.fabric_model.proofs.Stand.{parts_at}

-- whether an item loses the switch
abbrev is_loss : Option PlainItem → Bool
is_loss None = false
is_loss (Some (Run ops)) = false
is_loss (Some Lose) = true

abbrev losses : Plan → ℕ → (ℕ → Bool)
losses plan d = λ q. is_loss (item_of plan d q)

-- whether an item is such a one, or among those with entries
abbrev any_of : (ℕ → Bool) → List ℕ → (ℕ → Bool)
any_of f l = λ q. f q || list_any (λ p. p == q) l

abbrev times_of : ℕ → List Refusal → (ℕ → ℕ)
times_of d rs = λ q. refused_times d q rs

-- what holds of the items of all clients
abbrev pub EndsAll : Plan → State → Type 0
EndsAll plan s = (d : ℕ) → Ends plan.tries (client_at s d) (any_of (losses plan d) (seqs_of d s.history)) (times_of d s.refusals)

same_number : (n : ℕ) → (n == n) ≡ true
same_number n = grind arith

above_differs : (a b : ℕ) → a < b → (b == a) ≡ false
above_differs a b lt = grind (arith, nat_tests)

or_true : (b : Bool) → (b || true) ≡ true
or_true true = refl
or_true false = refl

or_both : (a b c : Bool) → (a || (b || c)) ≡ ((a || b) || c)
or_both true b c = refl
or_both false b c = refl

-- the present item has an entry more
added : (tries : ℕ) (x : ClientState) (f : ℕ → Bool) (l l_new : List ℕ) (times times_now : ℕ → ℕ) → l_new ≡ l ++ x.seq ∷ [] → ((q : ℕ) → times_now q ≡ times q) → Ends tries x (any_of f l) times → Ends tries x (any_of f l_new) times_now
added tries x f l l_new times times_now is same ends = record {
  past = λ q one lt. elim (ends.past q one lt) [
    | inl e ↦ inl (has_now q ∙ ap (λ (b : Bool). b || x.seq == q) e)
    | inr p ↦ inr (same q ∙ p.0, has_now q ∙ ap (λ (b : Bool). b || x.seq == q) p.1 ∙ above_differs q x.seq lt)
  ];
  later = λ q lt. same q ∙ ends.later q lt;
  now = λ n. same x.seq ∙ ends.now n;
  decided = λ i. has_now x.seq ∙ ap (λ (b : Bool). b || x.seq == x.seq) (ends.decided i);
}
  where
    has_now : (q : ℕ) → (f q || list_any (λ p. p == q) l_new) ≡ ((f q || list_any (λ p. p == q) l) || x.seq == q)
    has_now q = ap (λ (m : List ℕ). f q || list_any (λ p. p == q) m) is ∙ ap (λ (b : Bool). f q || b) (any_last l x.seq q) ∙ or_both (f q) (list_any (λ p. p == q) l) (x.seq == q)

-- the present item has an entry less
taken_away : (tries : ℕ) (x : ClientState) (f : ℕ → Bool) (l l_new : List ℕ) (times times_now : ℕ → ℕ) → l ≡ l_new ++ x.seq ∷ [] → x.phase ≢ Installing → ((q : ℕ) → times_now q ≡ times q) → Ends tries x (any_of f l) times → Ends tries x (any_of f l_new) times_now
taken_away tries x f l l_new times times_now is undecided same ends = record {
  past = λ q one lt. elim (ends.past q one lt) [
    | inl e ↦ inl (before q lt ∙ e)
    | inr p ↦ inr (same q ∙ p.0, before q lt ∙ p.1)
  ];
  later = λ q lt. same q ∙ ends.later q lt;
  now = λ n. same x.seq ∙ ends.now n;
  decided = λ i. absurd (undecided i);
}
  where
    or_nothing : (b c : Bool) → c ≡ false → b ≡ (b || c)
    or_nothing true c e = refl
    or_nothing false c e = sym e

    before : (q : ℕ) → q < x.seq → any_of f l_new q ≡ any_of f l q
    before q lt = ap (λ (b : Bool). f q || b) (or_nothing (list_any (λ p. p == q) l_new) (x.seq == q) (above_differs q x.seq lt) ∙ sym (ap (λ (m : List ℕ). list_any (λ p. p == q) m) is ∙ any_last l_new x.seq q))

-- of a client that doesn't move
still_ends : (tries : ℕ) (x : ClientState) (f : ℕ → Bool) (desk : Desk) (y : ClientState) (desk_new : Desk) (l l_new : List ℕ) (times times_now : ℕ → ℕ) → Goes x desk y desk_new l l_new → ((q : ℕ) → times_now q ≡ times q)
    → (y.phase ≡ Waiting → x.phase ≢ Installing) → Ends tries x (any_of f l) times → Ends tries x (any_of f l_new) times_now
still_ends tries x f desk y desk_new l l_new times times_now (Stays is same on) same_times undecided ends = ends_as tries x (any_of f l) (any_of f l_new) times times_now (λ q. ap (λ (m : List ℕ). any_of f m q) is) same_times ends
still_ends tries x f desk y desk_new l l_new times times_now (Passes is later) same_times undecided ends = ends_as tries x (any_of f l) (any_of f l_new) times times_now (λ q. ap (λ (m : List ℕ). any_of f m q) is) same_times ends
still_ends tries x f desk y desk_new l l_new times times_now (Leaves is same waits) same_times undecided ends = taken_away tries x f l l_new times times_now is (undecided waits) same_times ends
still_ends tries x f desk y desk_new l l_new times times_now (Adds is none same its) same_times undecided ends = added tries x f l l_new times times_now is same_times ends

-- a script with locks to take is no loss
runs : (plan : Plan) (c : ℕ) (x : ClientState) → 1 ≤ length (cold_ops plan.layout (script_now plan c x)) → losses plan c x.seq ≡ false
runs plan c x some = by (item_of plan c x.seq) some
  where
    by : (o : Option PlainItem) → 1 ≤ length (cold_ops plan.layout (unwrap_or (option_and_then script_in o) [])) → is_loss o ≡ false
    by None one = refl
    by (Some (Run ops)) one = refl
    by (Some Lose) one = absurd (omega (arith, one))

-- a client that waits has decided nothing
waits_undecided : (x y : ClientState) → y ≡ x → y.phase ≡ Waiting → x.phase ≢ Installing
waits_undecided x y same waits i = let clash : Waiting ≡ Installing = sym waits ∙ ap (λ (z : ClientState). z.phase) same ∙ i in cc

-- where all are below it, an item isn't among them
none_at : (n : ℕ) (l : List ℕ) → AllByRecursion (λ q. q < n) l → list_any (λ q. q == n) l ≡ false
none_at n [] all = refl
none_at n (q ∷ l) all = ap (λ (b : Bool). b || list_any (λ p. p == n) l) (less q n all.0) ∙ none_at n l all.1
  where
    less : (a b : ℕ) → a < b → (a == b) ≡ false
    less a b lt = grind (arith, nat_tests)

each_below : (P : ℕ → Type 0) (n : ℕ) (l : List ℕ) → ((q : ℕ) → P q → q < n) → AllByRecursion P l → AllByRecursion (λ q. q < n) l
each_below P n [] f all = tt
each_below P n (q ∷ l) f all = (f q all.0, each_below P n l f all.1)

any_middle : (a : List ℕ) (n : ℕ) (b : List ℕ) → list_any (λ p. p == n) (a ++ n ∷ b) ≡ true
any_middle [] n b = ap (λ (t : Bool). t || list_any (λ p. p == n) b) (same_number n)
any_middle (m ∷ a) n b = ap (λ (t : Bool). m == n || t) (any_middle a n b) ∙ or_true (m == n)

module _ (plan : Plan) (s : State) (c : ℕ) (lt : c < length s.clients) (known : HoldsNow plan s) (o : Ordered s) (ends : EndsAll plan s) where
  abbrev x : ClientState
  x = client_at s c

  abbrev l : List ℕ
  l = seqs_of c s.history

  -- where this client moved
  all_end : (after : State) (y : ClientState) → after.clients ≡ set s.clients c y → GoesAll s after → ((d q : ℕ) → d ≢ c → refused_times d q after.refusals ≡ refused_times d q s.refusals)
      → Ends plan.tries y (any_of (losses plan c) (seqs_of c after.history)) (times_of c after.refusals) → EndsAll plan after
  all_end after y is goes times mine d = elim (same_or_not d c) [
    | inl e ↦ subst (λ (n : ℕ). Ends plan.tries (client_at after n) (any_of (losses plan n) (seqs_of n after.history)) (times_of n after.refusals)) (sym e)
        (subst (λ (z : ClientState). Ends plan.tries z (any_of (losses plan c) (seqs_of c after.history)) (times_of c after.refusals)) (sym (ap (λ (m : List ClientState). get_or m c (at_item 0 1 zero_stamp)) is ∙ moved_client s.clients c y lt)) mine)
    | inr n ↦ subst (λ (z : ClientState). Ends plan.tries z (any_of (losses plan d) (seqs_of d after.history)) (times_of d after.refusals)) (sym (ap (λ (m : List ClientState). get_or m d (at_item 0 1 zero_stamp)) is ∙ others_stay s.clients c y d n))
        (still_ends plan.tries (client_at s d) (losses plan d) (desk_in s.switch d) (client_at after d) (desk_in after.switch d) (seqs_of d s.history) (seqs_of d after.history) (times_of d s.refusals) (times_of d after.refusals) (goes d) (λ q. times d q n) (waits_undecided (client_at s d) (client_at after d) (ap (λ (m : List ClientState). get_or m d (at_item 0 1 zero_stamp)) is ∙ others_stay s.clients c y d n)) (ends d))
  ]

  -- and was refused nothing
  quiet_ends : (after : State) (y : ClientState) → after.clients ≡ set s.clients c y → GoesAll s after → after.refusals ≡ s.refusals → seqs_of c after.history ≡ l → Ends plan.tries y (any_of (losses plan c) l) (times_of c s.refusals) → EndsAll plan after
  quiet_ends after y is goes refusals same mine = all_end after y is goes (λ d q n. ap (refused_times d q) refusals)
      (ends_as plan.tries y (any_of (losses plan c) l) (any_of (losses plan c) (seqs_of c after.history)) (times_of c s.refusals) (times_of c after.refusals) (λ q. ap (λ (m : List ℕ). any_of (losses plan c) m q) same) (λ q. ap (refused_times c q) refusals) mine)

  count_now : IsAsking x → refused_times c x.seq s.refusals ≡ x.refused
  count_now asks = (ends c).now (not_decided x asks) ∙ none asks
    where
      plus : (a b : ℕ) → b ≡ 0 → a + b ≡ a
      plus a b e = omega (arith, e)

      none : IsAsking x → x.refused + in_abort x.phase ≡ x.refused
      none (inl e) = plus x.refused (in_abort x.phase) (ap in_abort e)
      none (inr e) = plus x.refused (in_abort x.phase) (ap in_abort e)

  none_now : x.phase ≢ Waiting → x.phase ≢ Installing → losses plan c x.seq ≡ false → any_of (losses plan c) l x.seq ≡ false
  none_now w i run =
      ap (λ (b : Bool). b || list_any (λ p. p == x.seq) l) run ∙ none_at x.seq l (each_below (IsPastAt x (desk_in s.switch c)) x.seq l (below_present x (desk_in s.switch c) x (desk_in s.switch c) l l (has_none x (desk_in s.switch c) w i)) (o.past c))

  -- a client that goes on at its item without having been refused
  goes_on : (y : ClientState) → y.seq ≡ x.seq → y.refused ≡ x.refused → y.phase ≢ Installing → in_abort y.phase ≡ 0 → refused_times c x.seq s.refusals ≡ x.refused → Ends plan.tries y (any_of (losses plan c) l) (times_of c s.refusals)
  goes_on y seq same not quiet count = record {
    past = λ q one low. (ends c).past q one (omega (arith, low, seq));
    later = λ q low. (ends c).later q (omega (arith, low, seq));
    now = λ _. ap (λ (n : ℕ). refused_times c n s.refusals) seq ∙ count ∙ sym (total y.refused (in_abort y.phase) same quiet);
    decided = λ i. absurd (not i);
  }
    where
      total : (a b : ℕ) → a ≡ x.refused → b ≡ 0 → a + b ≡ x.refused
      total a b e f = omega (arith, e, f)

  -- the client whose answer is taken has an entry of its item
  has_its : (h : Holds plan s) (answer : Answer) → answer_of h.now c ≡ Some answer → list_any (λ q. q == x.seq) l ≡ true
  has_its h answer has = by (desk_at h.now c) has (h.ties.under_way c)
    where
      among : (k : ℕ) → Contains s.history (pending_entry c x (k + 1)) → list_any (λ q. q == x.seq) l ≡ true
      among k there =
          let e = pending_entry c x (k + 1) in
          let parts = parts_at s.history e there.0 there.1 there.2 in
          ap (λ (m : List ℕ). list_any (λ q. q == x.seq) m) (ap (seqs_of c) parts.whole ∙ seqs_of-append c parts.before (e ∷ parts.behind) ∙ ap (λ (m : List ℕ). seqs_of c parts.before ++ m) (seqs_of-own c e parts.behind refl)) ∙ any_middle (seqs_of c parts.before) x.seq (seqs_of c parts.behind)

      by : (desk : Desk) → answer_on h.now.flights desk ≡ Some answer → FitsDesk plan s.history c x desk → list_any (λ q. q == x.seq) l ≡ true
      by Vacant e fits = cc
      by (Posted p) e fits = cc
      by (Entered k) e fits = among k fits.1

  or_there : (a : Bool) {b : Bool} → b ≡ true → (a || b) ≡ true
  or_there a e = ap (λ (b : Bool). a || b) e ∙ or_true a

  answered_ends : (stamp : Stamp) (reply : List Pair) → list_any (λ q. q == x.seq) l ≡ true → Ends plan.tries (replied plan c x stamp reply) (any_of (losses plan c) l) (times_of c s.refusals)
  answered_ends stamp reply has = by (length x.noted == 0)
    where
      by : (b : Bool) → Ends plan.tries (if b then next_item plan c (record x { phase = Installing; last = stamp; reply = reply }) else record x { phase = Installing; last = stamp; reply = reply }) (any_of (losses plan c) l) (times_of c s.refusals)
      by true = next_ends plan c (record x { phase = Installing; last = stamp; reply = reply }) (any_of (losses plan c) l) (times_of c s.refusals) (ends c).past (ends c).later (inl (or_there (losses plan c x.seq) has))
      by false = record { past = (ends c).past; later = (ends c).later; now = λ n. absurd (n refl); decided = λ _. or_there (losses plan c x.seq) has }

  decided_ends : (y : ClientState) (after : State) → y.seq ≡ x.seq → y.phase ≡ Installing → seqs_of c after.history ≡ l ++ x.seq ∷ [] → after.refusals ≡ s.refusals → Ends plan.tries y (any_of (losses plan c) (seqs_of c after.history)) (times_of c after.refusals)
  decided_ends y after seq phase is refusals =
      let grown = added plan.tries x (losses plan c) l (seqs_of c after.history) (times_of c s.refusals) (times_of c after.refusals) is (λ q. ap (refused_times c q) refusals) (ends c) in
      record {
        past = λ q one low. grown.past q one (omega (arith, low, seq));
        later = λ q low. grown.later q (omega (arith, low, seq));
        now = λ n. absurd (n phase);
        decided = λ _. or_there (losses plan c y.seq) (ap (λ (n : ℕ). list_any (λ p. p == n) (seqs_of c after.history)) seq ∙ ap (λ (m : List ℕ). list_any (λ p. p == x.seq) m) is ∙ any_middle l x.seq []);
      }

  abbrev refusal_of : Op → ℕ → Refusal
  refusal_of op by = record { client = c; seq = x.seq; tuple = op.tuple; holder = by; at = s.moves }

  refused_ends : (op : Op) (by : ℕ) → IsAsking x → losses plan c x.seq ≡ false → Ends plan.tries (aborting plan c x x.noted) (any_of (losses plan c) l) (times_of c (s.refusals ++ refusal_of op by ∷ []))
  refused_ends op by asks run = abort_ends plan c x x.noted (any_of (losses plan c) l) (times_of c (s.refusals ++ refusal_of op by ∷ []))
      (λ q one low. elim ((ends c).past q one low) [
        | inl e ↦ inl e
        | inr p ↦ inr (times_other c q s.refusals (refusal_of op by) (inr (λ e. above q low e)) ∙ p.0, p.1)
      ])
      (λ q low. times_other c q s.refusals (refusal_of op by) (inr (λ e. below q low e)) ∙ (ends c).later q low)
      (times_own c x.seq s.refusals (refusal_of op by) refl refl ∙ ap (λ (n : ℕ). n + 1) (count_now asks))
      (none_now (still asks) (not_decided x asks) run)
    where
      above : (q : ℕ) → q < x.seq → x.seq ≡ q → ⊥
      above q low e = omega (arith, low, e)

      below : (q : ℕ) → x.seq < q → x.seq ≡ q → ⊥
      below q low e = omega (arith, low, e)

      still : IsAsking x → x.phase ≢ Waiting
      still (inl e) w = let clash : Ready ≡ Waiting = sym e ∙ w in cc
      still (inr e) w = let clash : Locking ≡ Waiting = sym e ∙ w in cc

  ends_moved : (after : State) → Move plan s c after → GoesAll s after → EndsAll plan after
  unfolding lost granted refused released logged posted taken installed decided
  ends_moved after (Loses now phase item up is) goes =
      all_end after (next_item plan c x) (ap (λ (z : State). z.clients) is) goes (λ d q n. ap (λ (z : State). refused_times d q z.refusals) is)
      (ends_as plan.tries (next_item plan c x) (any_of (losses plan c) l) (any_of (losses plan c) (seqs_of c after.history)) (times_of c s.refusals) (times_of c after.refusals)
      (λ q. ap (λ (m : List ℕ). any_of (losses plan c) m q) (lost_seqs after (ap (λ (z : State). z.clients) is) (goes c)))
      (λ q. ap (λ (z : State). refused_times c q z.refusals) is) lost_ends)
    where
      ready : x.phase ≢ Installing
      ready i = let clash : Ready ≡ Installing = sym phase ∙ i in cc

      next_seq : (after.clients ≡ set s.clients c (next_item plan c x)) → (client_at after c).seq ≡ x.seq + 1
      next_seq clients = ap (λ (z : ClientState). z.seq) (ap (λ (m : List ClientState). get_or m c (at_item 0 1 zero_stamp)) clients ∙ moved_client s.clients c (next_item plan c x) lt)

      -- the client of the loss had no open entry
      lost_seqs : (a : State) → a.clients ≡ set s.clients c (next_item plan c x) → Goes x (desk_in s.switch c) (client_at a c) (desk_in a.switch c) l (seqs_of c a.history) → seqs_of c a.history ≡ l
      lost_seqs a clients (Stays same seq on) = same
      lost_seqs a clients (Passes same later) = same
      lost_seqs a clients (Leaves same seq waits) = absurd (at_another seq (ap (λ (z : ClientState). z.seq) (ap (λ (m : List ClientState). get_or m c (at_item 0 1 zero_stamp)) clients ∙ moved_client s.clients c (next_item plan c x) lt)))
        where
          at_another : {p : ℕ} → p ≡ x.seq → p ≡ x.seq + 1 → ⊥
          at_another e f = omega (arith, e, f)
      lost_seqs a clients (Adds same none seq its) = absurd (at_another seq (ap (λ (z : ClientState). z.seq) (ap (λ (m : List ClientState). get_or m c (at_item 0 1 zero_stamp)) clients ∙ moved_client s.clients c (next_item plan c x) lt)))
        where
          at_another : {p : ℕ} → p ≡ x.seq → p ≡ x.seq + 1 → ⊥
          at_another e f = omega (arith, e, f)

      lost_ends : Ends plan.tries (next_item plan c x) (any_of (losses plan c) l) (times_of c s.refusals)
      lost_ends = next_ends plan c x (any_of (losses plan c) l) (times_of c s.refusals) (ends c).past (ends c).later (inl (ap (λ (o : Option PlainItem). is_loss o || list_any (λ p. p == x.seq) l) item))
  ends_moved after (Grants op asks next free is) goes = quiet_ends after _ (ap (λ (z : State). z.clients) is) goes (ap (λ (z : State). z.refusals) is) (ap (λ (z : State). seqs_of c z.history) is) (goes_on _ refl refl (λ i. cc) refl (count_now asks))
  ends_moved after (Refuses op by asks next held is) goes =
      let refusals : after.refusals ≡ s.refusals ++ refusal_of op by ∷ [] = ap (λ (z : State). z.refusals) is in
      all_end after (aborting plan c x x.noted) (ap (λ (z : State). z.clients) is) goes
      (λ d q n. ap (refused_times d q) refusals ∙ times_other d q s.refusals (refusal_of op by) (inl (λ e. n (sym e))))
      (ends_as plan.tries (aborting plan c x x.noted) (any_of (losses plan c) l) (any_of (losses plan c) (seqs_of c after.history)) (times_of c (s.refusals ++ refusal_of op by ∷ [])) (times_of c after.refusals)
      (λ q. ap (λ (z : State). any_of (losses plan c) (seqs_of c z.history) q) is) (λ q. ap (refused_times c q) refusals) (refused_ends op by asks (runs plan c x (omega (arith, slice_get_within (cold_ops plan.layout (script_now plan c x)) (length x.noted) op next)))))
  ends_moved after (Releases phase is) goes =
      quiet_ends after _ (ap (λ (z : State). z.clients) is) goes (ap (λ (z : State). z.refusals) is) (ap (λ (z : State). seqs_of c z.history) is)
      (abort_ends plan c x (take (length x.noted - 1) x.noted) (any_of (losses plan c) l) (times_of c s.refusals) (ends c).past (ends c).later
      ((ends c).now undecided ∙ ap (λ (p : Phase). x.refused + in_abort p) phase) (none_now still undecided (runs plan c x (omega (arith, fit.1, fit.2)))))
    where
      fit : FitsPhase plan c x Aborting
      fit = subst (λ (p : Phase). FitsPhase plan c x p) phase ((facts_of plan s known).facts.cold.fits c)

      undecided : x.phase ≢ Installing
      undecided i = let clash : Aborting ≡ Installing = sym phase ∙ i in cc

      still : x.phase ≢ Waiting
      still w = let clash : Aborting ≡ Waiting = sym phase ∙ w in cc
  ends_moved after (Decides asks next cold some is) goes =
      all_end after _ (ap (λ (z : State). z.clients) is) goes (λ d q n. ap (λ (z : State). refused_times d q z.refusals) is)
      (decided_ends _ after refl refl (ap (λ (z : State). seqs_of c z.history) is ∙ decided_last plan s known c asks) (ap (λ (z : State). z.refusals) is))
  ends_moved after (Logs asks next hot is) goes = quiet_ends after _ (ap (λ (z : State). z.clients) is) goes (ap (λ (z : State). z.refusals) is) (ap (λ (z : State). seqs_of c z.history) is) (goes_on _ refl refl (λ i. cc) refl (count_now asks))
  ends_moved after (Posts now next phase up to is) goes =
      quiet_ends after _ (ap (λ (z : State). z.clients) is) goes (ap (λ (z : State). z.refusals) is) (ap (λ (z : State). seqs_of c z.history) is)
      (goes_on _ refl refl (λ i. cc) refl ((ends c).now (λ i. clash (sym phase ∙ i)) ∙ ap (λ (p : Phase). x.refused + in_abort p) phase ∙ nothing x.refused))
    where
      clash : Logged ≡ Installing → ⊥
      clash e = cc

      nothing : (n : ℕ) → n + 0 ≡ n
      nothing n = omega arith
  ends_moved after (Takes now next answer phase up has to is) goes =
      quiet_ends after (replied plan c x (stamp_of answer) (reply_to plan c x answer)) (ap (λ (z : State). z.clients) is) goes (ap (λ (z : State). z.refusals) is)
      (ap (λ (z : State). seqs_of c z.history) is ∙ seqs-with_reply c answer.number (reply_to plan c x answer) s.history)
      (answered_ends (stamp_of answer) (reply_to plan c x answer) (has_its (up_of plan s known now up) answer (subst (λ (n : Switch). answer_of n c ≡ Some answer) (same_switch up (up_of plan s known now up).up) has)))
  ends_moved after (Installs p phase at is) goes =
      quiet_ends after _ (ap (λ (z : State). z.clients) is) goes (ap (λ (z : State). z.refusals) is) (ap (λ (z : State). seqs_of c z.history) is)
      (install_ends plan c x (length (steps_now plan c x)) (any_of (losses plan c) l) (times_of c s.refusals) phase (ends c))

-- ---- moves at the switch

refusals_at_port : (s : State) (c : ℕ) (desk : Desk) (number : ℕ) (next : Switch) → (behind_entry s c desk number next).refusals ≡ s.refusals
unfolding entered switched
refusals_at_port s c Vacant number next = refl
refusals_at_port s c (Posted p) number next = refl
refusals_at_port s c (Entered k) number next = refl

refusals_at_stage : (s : State) (next : Switch) → (switched s next).refusals ≡ s.refusals
unfolding switched
refusals_at_stage s next = refl

at_switch : (plan : Plan) (s after : State) → after.clients ≡ s.clients → after.refusals ≡ s.refusals → GoesAll s after → EndsAll plan s → EndsAll plan after
at_switch plan s after clients refusals goes ends d =
    subst (λ (m : List ClientState). Ends plan.tries (get_or m d (at_item 0 1 zero_stamp)) (any_of (losses plan d) (seqs_of d after.history)) (times_of d after.refusals)) (sym clients)
    (still_ends plan.tries (client_at s d) (losses plan d) (desk_in s.switch d) (client_at after d) (desk_in after.switch d) (seqs_of d s.history) (seqs_of d after.history) (times_of d s.refusals) (times_of d after.refusals) (goes d) (λ q. ap (refused_times d q) refusals)
    (waits_undecided (client_at s d) (client_at after d) (ap (λ (m : List ClientState). get_or m d (at_item 0 1 zero_stamp)) clients)) (ends d))

refusals_recovered : (plan : Plan) (s : State) (order : List Task) → (recovered plan s order).refusals ≡ s.refusals
unfolding recovered
refusals_recovered plan s order = refl

-- a client that waits again has ended as much
resumed_ends : (tries : ℕ) (x : ClientState) (has : ℕ → Bool) (times : ℕ → ℕ) → Ends tries x has times → Ends tries (resumed x) has times
resumed_ends tries x has times ends = record {
  past = ends.past;
  later = ends.later;
  now = λ n. ends.now (λ i. n (ap waits_again i)) ∙ ap (λ (m : ℕ). x.refused + m) (sym (same_abort x.phase));
  decided = λ i. ends.decided (installs_before x.phase i);
}
  where
    same_abort : (p : Phase) → in_abort (waits_again p) ≡ in_abort p
    same_abort Ready = refl
    same_abort Locking = refl
    same_abort Aborting = refl
    same_abort Logged = refl
    same_abort Waiting = refl
    same_abort Installing = refl
    same_abort Finished = refl

at_recovery : (plan : Plan) (s after : State) (order : List Task) → after ≡ recovered plan s order → GoesAll s after → EndsAll plan s → EndsAll plan after
at_recovery plan s after order is goes ends d =
    subst (λ (z : ClientState). Ends plan.tries z (any_of (losses plan d) (seqs_of d after.history)) (times_of d after.refusals)) (sym (client_recovered plan s after order is d))
    (resumed_ends plan.tries (client_at s d) (any_of (losses plan d) (seqs_of d after.history)) (times_of d after.refusals)
    (still_ends plan.tries (client_at s d) (losses plan d) (desk_in s.switch d) (client_at after d) (desk_in after.switch d) (seqs_of d s.history) (seqs_of d after.history) (times_of d s.refusals) (times_of d after.refusals) (goes d)
    (λ q. ap (refused_times d q) (ap (λ (z : State). z.refusals) is ∙ refusals_recovered plan s order)) undecided (ends d)))
  where
    undecided : (client_at after d).phase ≡ Waiting → (client_at s d).phase ≢ Installing
    undecided waits i = let clash : Waiting ≡ Installing = sym waits ∙ ap (λ (z : ClientState). z.phase) (client_recovered plan s after order is d) ∙ ap waits_again i in cc

ends_step : (plan : Plan) (s after : State) (actor : Actor) → HoldsNow plan s → HoldsNow plan after → Ordered s → EndsAll plan s → Moved plan s after actor → EndsAll plan after
ends_step plan s after actor h later o ends (ByClient c within move) = ends_moved plan s c within h o ends after move (goes_of plan s after actor h later (ByClient c within move))
ends_step plan s after actor h later o ends (AtPort c now next up to is) =
    at_switch plan s after (ap (λ (z : State). z.clients) is ∙ clients_at_port s c (desk_at now c) (next_number now) next) (ap (λ (z : State). z.refusals) is ∙ refusals_at_port s c (desk_at now c) (next_number now) next) (goes_of plan s after actor h later (AtPort c now next up to is)) ends
ends_step plan s after actor h later o ends (AtStage k now next up to is) =
    at_switch plan s after (ap (λ (z : State). z.clients) is ∙ clients_at_stage s next) (ap (λ (z : State). z.refusals) is ∙ refusals_at_stage s next) (goes_of plan s after actor h later (AtStage k now next up to is)) ends
ends_step plan s after actor h later o ends (Recovers order down found is) = at_recovery plan s after order is (goes_of plan s after actor h later (Recovers order down found is)) ends

first_all : (plan : Plan) → EndsAll plan (opening plan)
unfolding opening
first_all plan d = first plan.clients d
  where
    one : (items : ℕ) → Ends plan.tries (at_item items 1 zero_stamp) (any_of (losses plan d) []) (times_of d [])
    one items =
        let start = begun items 1 (at_item 0 1 zero_stamp) in
        record { past = λ q some lt. absurd (omega (arith, some, lt)); later = λ q lt. refl; now = λ _. omega (arith, start.1); decided = λ i. absurd (start.0 i) }

    first : (lists : List (List PlainItem)) (k : ℕ) → Ends plan.tries (get_or (first_clients lists) k (at_item 0 1 zero_stamp)) (any_of (losses plan d) []) (times_of d [])
    first [] k = one 0
    first (items ∷ lists) zero = one (length items)
    first (items ∷ lists) (suc k) = first lists k

-- ---- from entries to ends

-- whether an item has an entry among one more
has_entry-cons : (c seq : ℕ) (e : HistoryEntry) (h : History) → has_entry c seq (e ∷ h) ≡ cond (e.entry.client == c) ((e.entry.seq == seq) || has_entry c seq h) (has_entry c seq h)
has_entry-cons c seq e h = by (e.entry.client == c)
  where
    by : (a : Bool) → list_any (λ q. q == seq) (map (λ z. z.entry.seq) (cond a (e ∷ filter (λ z. z.entry.client == c) h) (filter (λ z. z.entry.client == c) h))) ≡ cond a ((e.entry.seq == seq) || has_entry c seq h) (has_entry c seq h)
    by true = refl
    by false = refl

equal : (a b : ℕ) → (a == b) ≡ true → a ≡ b
equal a b e = grind (arith, nat_tests)

-- where all entries of an item are answered and there is one, there is an answered one
entry_found : (c seq : ℕ) (h : History) → AllByRecursion (λ e. e.entry.client ≡ c → e.entry.seq ≡ seq → is_some e.pairs ≡ true) h → has_entry c seq h ≡ true → IsSome (answered_entry c seq h)
entry_found c seq [] all e = cc
entry_found c seq (f ∷ h) all e = by (f.entry.client == c) refl (f.entry.seq == seq) refl (entry_found c seq h all.1) (sym (has_entry-cons c seq f h) ∙ e)
  where
    own : (d : Bool) → d ≡ true → IsSome (if d then Some f else None)
    own true is = refl
    own false is = cc

    by : (a : Bool) → (f.entry.client == c) ≡ a → (b : Bool) → (f.entry.seq == seq) ≡ b → (has_entry c seq h ≡ true → IsSome (answered_entry c seq h)) → cond a (b || has_entry c seq h) (has_entry c seq h) ≡ true
        → IsSome (option_and_then where_answered (cond (a && b) (Some f) (find (λ z. (z.entry.client == c) && (z.entry.seq == seq)) h)))
    by true client true item rest i = own (is_some f.pairs) (all.0 (equal f.entry.client c client) (equal f.entry.seq seq item))
    by true client false item rest i = rest i
    by false client b item rest i = rest i

no_entry_found : (c seq : ℕ) (h : History) → has_entry c seq h ≡ false → entry_of c seq h ≡ None
no_entry_found c seq [] e = refl
no_entry_found c seq (f ∷ h) e = by (f.entry.client == c) (f.entry.seq == seq) (no_entry_found c seq h) (sym (has_entry-cons c seq f h) ∙ e)
  where
    by : (a b : Bool) → (has_entry c seq h ≡ false → entry_of c seq h ≡ None) → cond a (b || has_entry c seq h) (has_entry c seq h) ≡ false
        → cond (a && b) (Some f) (find (λ z. (z.entry.client == c) && (z.entry.seq == seq)) h) ≡ None
    by true true rest i = cc
    by true false rest i = rest i
    by false b rest i = rest i

-- unanswered carried entries are of their clients' present items
present_ones : (plan : Plan) (at : Clients) (desks : ℕ → Desk) (k : ℕ) (m : Places) (es : History) (ps : List PlainPacket) → AreCarriedBy plan at desks k m es ps → AllByRecursion (λ e. e.pairs ≡ None → (at e.entry.client).seq ≡ e.entry.seq) es
present_ones plan at desks k m [] ps all = tt
present_ones plan at desks k m (e ∷ es) [] all = absurd all
present_ones plan at desks k m (e ∷ es) (p ∷ ps) all = (λ none. (all.0.pending none).seq, present_ones plan at desks (k + 1) (replay p m).after es ps all.1)

-- so the entries of earlier ones are answered
earlier_answered : (at : Clients) (c seq : ℕ) (h : History) → seq < (at c).seq
    → AllByRecursion (λ e. is_carried e ≡ true → e.pairs ≡ None → (at e.entry.client).seq ≡ e.entry.seq) h → AllByRecursion (λ e. e.pairs ≡ None → is_carried e ≡ true) h
    → AllByRecursion (λ e. e.entry.client ≡ c → e.entry.seq ≡ seq → is_some e.pairs ≡ true) h
earlier_answered at c seq [] lt present unanswered = tt
earlier_answered at c seq (e ∷ h) lt present unanswered = (λ client item. by client item e.pairs refl, earlier_answered at c seq h lt present.1 unanswered.1)
  where
    by : e.entry.client ≡ c → e.entry.seq ≡ seq → (o : Option (List Pair)) → e.pairs ≡ o → is_some e.pairs ≡ true
    by client item (Some pairs) is = ap is_some is
    by client item None is =
        let same : (at c).seq ≡ seq = subst (λ (d : ℕ). (at d).seq ≡ e.entry.seq) client (present.0 (unanswered.0 is) is) ∙ item in
        absurd (omega (arith, same, lt))

-- so are those of a state whose entries are all answered
present_now : (plan : Plan) (s : State) → HoldsNow plan s → AllByRecursion (λ e. is_carried e ≡ true → e.pairs ≡ None → (client_at s e.entry.client).seq ≡ e.entry.seq) s.history
present_now plan s (WhileUp h) =
    from_filter is_carried (λ e. e.pairs ≡ None → (client_at s e.entry.client).seq ≡ e.entry.seq) s.history (present_ones plan (client_at s) (desk_at h.now) 0 (hot_cells plan) (carried s.history) (machine.entered h.now) h.ties.carried_ones)
present_now plan s (WhileLost h) = all s.history h.answered
  where
    nothing : {o : Option (List Pair)} → o ≡ None → IsSome o → ⊥
    nothing n i = let wrong = subst IsSome n i in cc

    all : (l : History) → AllAnswered l → AllByRecursion (λ e. is_carried e ≡ true → e.pairs ≡ None → (client_at s e.entry.client).seq ≡ e.entry.seq) l
    all [] answered = tt
    all (e ∷ l) answered = (λ carries none. absurd (nothing none answered.0), all l answered.1)

module _ (plan : Plan) (holds : (z : State) → IsReached plan z → HoldsNow plan z) where
  ends_of : (s : State) → IsReached plan s → EndsAll plan s
  ends_of s reached =
      of_reached plan (EndsAll plan) (first_all plan) (λ z next actor r ends is. ends_step plan z next actor (holds z r) (holds next (reached_step plan z next actor r is)) (ordered plan holds z r) ends (move_of plan z actor next is)) s reached

  -- a transaction that its client is behind is committed, or each of its tries was refused
  script_ended : (s : State) → IsReached plan s → (c seq : ℕ) → losses plan c seq ≡ false → 1 ≤ seq → seq < (client_at s c).seq
      → (IsSome (answered_entry c seq s.history)) ⊎ ((refused_times c seq s.refusals ≡ plan.tries) × (entry_of c seq s.history ≡ None))
  script_ended s reached c seq run one lt =
      let h = holds s reached in
      let alone : any_of (losses plan c) (seqs_of c s.history) seq ≡ has_entry c seq s.history = ap (λ (b : Bool). b || list_any (λ q. q == seq) (seqs_of c s.history)) run in
      elim ((ends_of s reached c).past seq one lt) [
        | inl has ↦ inl (entry_found c seq s.history (earlier_answered (client_at s) c seq s.history lt (present_now plan s h) (facts_of plan s h).facts.unanswered) (sym alone ∙ has))
        | inr none ↦ inr (none.0, no_entry_found c seq s.history (sym alone ∙ none.1))
      ]

  pub items_end : (s : State) → IsReached plan s → HasEnds plan s
  items_end s reached c seq some lt = by (item_of plan c seq) refl some
    where
      committed : (e : Option HistoryEntry) (q present : ℕ) → IsSome e → (script_end e q present ≢ Pending) × (script_end e q present ≡ Aborted → ⊥)
      committed (Some e) q present found = (λ i. cc, λ i. cc)
      committed None q present found = cc

      less : (a b : ℕ) → a < b → nat_lt a b ≡ true
      less a b low = grind (arith, nat_tests)

      aborted : (e : Option HistoryEntry) → e ≡ None → script_end e seq (client_at s c).seq ≡ Aborted
      aborted e none = ap (λ (p : Option HistoryEntry). script_end p seq (client_at s c).seq) none ∙ ap (λ (b : Bool). if b then Aborted else Pending) (less seq (client_at s c).seq lt)

      positive : (n : ℕ) → (n == 0) ≡ false → 1 ≤ n
      positive n e = grind (arith, nat_tests)

      lost_end : end_of s c seq (Some Lose) ≡ Lost
      lost_end = ap (λ (b : Bool). if b then Lost else Pending) (less seq (client_at s c).seq lt)

      apart : Aborted ≡ Pending → ⊥
      apart e = cc

      lost_apart : (Lost ≡ Pending → ⊥) × (Lost ≡ Aborted → ⊥)
      lost_apart = (λ e. cc, λ e. cc)

      by : (i : Option PlainItem) → item_of plan c seq ≡ i → IsSome i → IsEnded plan s c seq
      by None is there = cc
      by (Some Lose) is there =
          let whole : item_end plan s c seq ≡ Lost = ap (end_of s c seq) is ∙ lost_end in
          record { ended = λ i. lost_apart.0 (sym whole ∙ i); tries = λ i. absurd (lost_apart.1 (sym whole ∙ i)); none = λ i. absurd (lost_apart.1 (sym whole ∙ i)) }
      by (Some (Run ops)) is there = ending (script_ended s reached c seq (ap is_loss is) (one (seq == 0) refl is) lt)
        where
          one : (b : Bool) → (seq == 0) ≡ b → (if b then None else slice_get (items_of plan c) (seq - 1)) ≡ Some (Run ops) → 1 ≤ seq
          one true e found = cc
          one false e found = positive seq e

          whole : item_end plan s c seq ≡ script_end (answered_entry c seq s.history) seq (client_at s c).seq
          whole = ap (end_of s c seq) is

          ending : (IsSome (answered_entry c seq s.history)) ⊎ ((refused_times c seq s.refusals ≡ plan.tries) × (entry_of c seq s.history ≡ None)) → IsEnded plan s c seq
          ending (inl found) =
              let end = committed (answered_entry c seq s.history) seq (client_at s c).seq found in
              record { ended = λ i. end.0 (sym whole ∙ i); tries = λ i. absurd (end.1 (sym whole ∙ i)); none = λ i. absurd (end.1 (sym whole ∙ i)) }
          ending (inr none) =
              let empty : answered_entry c seq s.history ≡ None = ap (option_and_then where_answered) none.1 in
              record { ended = λ i. apart (sym (whole ∙ aborted (answered_entry c seq s.history) empty) ∙ i); tries = λ i. none.0; none = λ i. none.1 }
