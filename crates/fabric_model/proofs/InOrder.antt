-- Each client's entries stand in its own order, and each item has at most one.
use Rattle.std.proofs.Common.{◌≡◌, ◌≢◌, ◌⊎◌, ℕ, ◌+◌, ◌-◌, ◌<◌, ◌≤◌, ◌==◌, ◌&&◌, Bool, true, false, List, [], ◌∷◌, ◌++◌, map, filter, length, is_some, IsSome, take, set, get_or, Option, Some, None, inl, inr, refl, sym, ap, subst, ◌∙◌, arith, if◌then◌else◌}
use Rattle.std.specs.List.{AllByRecursion}
use Rattle.std.proofs.lemmas.List.{length-map}
use Rattle.txn_model.specs.Places.{Places}
use Rattle.txn_model.specs.declared.pairs.Pair.{Pair}
use Rattle.txn_model.specs.declared.stamp.Seen.{Seen}
use Rattle.txn_model.specs.declared.stamp.Stamp.{Stamp}
use Rattle.history_model.specs.History.{HistoryEntry, History, AllAnswered, with_entry}
use Rattle.history_model.specs.InOrder.{seqs_of}
use Rattle.history_model.specs.declared.entry.Entry.{Entry}
use Rattle.switch_packet.specs.Packets.{PlainPacket}
use Rattle.switch_packet.specs.Replay.{replay}
use Rattle.placement_model.specs.Placements.{Task}
use Rattle.switch_model.specs.Event as switch
use Rattle.switch_model.specs.Flight.{Flight}
use Rattle.switch_model.specs.Switch as machine
use Rattle.switch_model.specs.Switch.{Switch, Answer, Desk, Vacant, Posted, desk_at, next_number}
use Rattle.switch_model.proofs.Effects.{post_effect, take_effect, enter_effect, advance_effect, FirstEffect}
use Rattle.warm_split.specs.Resolved.{packet_from}
use Rattle.catalogue.specs.Plan.{Plan, hot_cells}
use Rattle.catalogue.specs.declared.actor.Actor.{Actor}
use Rattle.core_model.specs.declared.phase.Phase.{Phase}
use Rattle.core_model.specs.declared.phase.Phase.TheVariants.{Ready, Locking, Aborting, Logged, Waiting, Installing, Finished}
use Rattle.core_model.specs.Asking.{IsAsking}
use Rattle.core_model.specs.Decision.{greatest, next_sub}
use Rattle.core_model.specs.Facts.{Clients, steps_now}
use Rattle.core_model.specs.Laws.{IsAscending}
use Rattle.core_model.specs.StampOrder.{Below, AtMost}
use Rattle.core_model.specs.State.{ClientState, at_item, zero_stamp}
use Rattle.core_model.specs.Step.{aborting, try_ended, next_item, installed_one}
use Rattle.core_model.proofs.Fewer.{same_or_not}
use Rattle.core_model.proofs.Moves.{moved_client, others_stay}
use Rattle.core_model.proofs.Stamps.{AtMost-trans, AtMost-greatest, Below-from_AtMost, Below-next_sub, below_of}
use Rattle.core_model.proofs.StepsOf.{all_append}
use Rattle.fabric_model.specs.Carried.{is_carried, carried, AreCarriedBy, FitsDesk}
use Rattle.fabric_model.specs.Holds.{Holds, HoldsLost, HoldsNow, WhileUp, WhileLost}
use Rattle.fabric_model.specs.Intents.{packet_now}
use Rattle.fabric_model.specs.Laws.{IsReached, IsPast, HasItemsInOrder}
use Rattle.fabric_model.specs.Recovery.{waits_again, resumed}
use Rattle.fabric_model.specs.Run.{opening}
use Rattle.fabric_model.specs.State.{State, client_at, is_answered, answered_ones}
use Rattle.fabric_model.specs.Step.{lost, granted, refused, released, decided, logged, posted, taken, installed, switched, entered, replied, behind_entry, recovered, answered_entry, with_reply}
use Rattle.fabric_model.proofs.Either.{FactsOf, facts_of, up_of, lost_of}
use Rattle.fabric_model.proofs.FromCore.{own_last, others_same, ascending_last}
use Rattle.fabric_model.proofs.MoveKinds.{Move, Loses, Grants, Refuses, Releases, Decides, Logs, Posts, Takes, Installs, Moved, ByClient, AtPort, AtStage, Recovers, move_of}
use Rattle.fabric_model.proofs.MovesLeft.{same_switch}
pub use Rattle.fabric_model.proofs.OwnEntries.{IsNumbered, from_filter}
use Rattle.fabric_model.proofs.OwnEntries.{ones_of, numbered_or_not, all_answered, ones_recovered}
use Rattle.fabric_model.proofs.Present.{reply_to, stamp_of, client_recovered, up_recovered}
use Rattle.fabric_model.proofs.Runs.{of_reached, reached_step}

-- ---- what is kept

-- the client's present item has an entry: it is decided or answered, or its packet has entered the switch
abbrev pub HasIts : ClientState → Desk → Type 0
HasIts x desk = (x.phase ≡ Installing) ⊎ ((x.phase ≡ Waiting) × IsNumbered desk)

-- the item is before the client's present one, or it is that one and may have an entry
abbrev pub IsPastAt : ClientState → Desk → ℕ → Type 0
IsPastAt x desk q = (q < x.seq) ⊎ ((q ≡ x.seq) × HasIts x desk)

abbrev pub desk_in : Option Switch → ℕ → Desk
desk_in None c = Vacant
desk_in (Some now) c = desk_at now c

pub record Ordered (s : State) : Type 0 where
  pub ascending : (c : ℕ) → IsAscending (seqs_of c s.history)
  pub past : (c : ℕ) → AllByRecursion (IsPastAt (client_at s c) (desk_in s.switch c)) (seqs_of c s.history)

-- what a move makes of a client, of its desk, and of the items with entries: these stay, or the present item is one more, or it is
-- one no more
pub data Goes (x : ClientState) (desk : Desk) (y : ClientState) (desk_new : Desk) (l l_new : List ℕ) : Type 0 where
  Stays : l_new ≡ l → y.seq ≡ x.seq → (HasIts x desk → HasIts y desk_new) → Goes x desk y desk_new l l_new
  Passes : l_new ≡ l → x.seq < y.seq → Goes x desk y desk_new l l_new
  Leaves : l ≡ l_new ++ x.seq ∷ [] → y.seq ≡ x.seq → y.phase ≡ Waiting → Goes x desk y desk_new l l_new
  Adds : l_new ≡ l ++ x.seq ∷ [] → (HasIts x desk → ⊥) → y.seq ≡ x.seq → HasIts y desk_new → Goes x desk y desk_new l l_new

abbrev pub GoesAll : State → State → Type 0
GoesAll s after = (c : ℕ) → Goes (client_at s c) (desk_in s.switch c) (client_at after c) (desk_in after.switch c) (seqs_of c s.history) (seqs_of c after.history)

each_one : (P Q : ℕ → Type 0) (l : List ℕ) → ((q : ℕ) → P q → Q q) → AllByRecursion P l → AllByRecursion Q l
each_one P Q [] f all = tt
each_one P Q (q ∷ l) f all = (f q all.0, each_one P Q l f all.1)

-- but the last of rising numbers
front_ascending : (l : List ℕ) (n : ℕ) → IsAscending (l ++ n ∷ []) → IsAscending l
front_ascending [] n up = tt
front_ascending (m ∷ l) n up = (front_all (λ q. m < q) l (n ∷ []) up.0, front_ascending l n up.1)
  where
    front_all : (P : ℕ → Type 0) (a b : List ℕ) → AllByRecursion P (a ++ b) → AllByRecursion P a
    front_all P [] b all = tt
    front_all P (q ∷ a) b all = (all.0, front_all P a b all.1)

below_last : (l : List ℕ) (n : ℕ) → IsAscending (l ++ n ∷ []) → AllByRecursion (λ q. q < n) l
below_last [] n up = tt
below_last (m ∷ l) n up = (last l up.0, below_last l n up.1)
  where
    last : (a : List ℕ) → AllByRecursion (λ q. m < q) (a ++ n ∷ []) → m < n
    last [] all = all.0
    last (q ∷ a) all = last a all.1

module _ (x : ClientState) (desk : Desk) (y : ClientState) (desk_new : Desk) (l l_new : List ℕ) where
  stays_past : y.seq ≡ x.seq → (HasIts x desk → HasIts y desk_new) → (q : ℕ) → IsPastAt x desk q → IsPastAt y desk_new q
  stays_past same on q (inl lt) = inl (omega (arith, same, lt))
  stays_past same on q (inr p) = inr (p.0 ∙ sym same, on p.1)

  passes_past : x.seq < y.seq → (q : ℕ) → IsPastAt x desk q → IsPastAt y desk_new q
  passes_past later q (inl lt) = inl (omega (arith, later, lt))
  passes_past later q (inr p) = inl (omega (arith, later, p.0))

  pub below_present : (HasIts x desk → ⊥) → (q : ℕ) → IsPastAt x desk q → q < x.seq
  below_present none q (inl lt) = lt
  below_present none q (inr p) = absurd (none p.1)

  goes_ascending : Goes x desk y desk_new l l_new → IsAscending l → AllByRecursion (IsPastAt x desk) l → IsAscending l_new
  goes_ascending (Stays is same on) up past = subst IsAscending (sym is) up
  goes_ascending (Passes is later) up past = subst IsAscending (sym is) up
  goes_ascending (Leaves is same waits) up past = front_ascending l_new x.seq (subst IsAscending is up)
  goes_ascending (Adds is none same its) up past = subst IsAscending (sym is) (ascending_last l x.seq up (each_one (IsPastAt x desk) (λ q. q < x.seq) l (below_present none) past))

  goes_past : Goes x desk y desk_new l l_new → IsAscending l → AllByRecursion (IsPastAt x desk) l → AllByRecursion (IsPastAt y desk_new) l_new
  goes_past (Stays is same on) up past = subst (AllByRecursion (IsPastAt y desk_new)) (sym is) (each_one (IsPastAt x desk) (IsPastAt y desk_new) l (stays_past same on) past)
  goes_past (Passes is later) up past = subst (AllByRecursion (IsPastAt y desk_new)) (sym is) (each_one (IsPastAt x desk) (IsPastAt y desk_new) l (passes_past later) past)
  goes_past (Leaves is same waits) up past = each_one (λ q. q < x.seq) (IsPastAt y desk_new) l_new (λ q low. inl (omega (arith, low, same))) (below_last l_new x.seq (subst IsAscending is up))
  goes_past (Adds is none same its) up past =
      subst (AllByRecursion (IsPastAt y desk_new)) (sym is) (all_append (IsPastAt y desk_new) l (x.seq ∷ []) (each_one (IsPastAt x desk) (IsPastAt y desk_new) l (stays_past same (λ old. absurd (none old))) past) (inr (sym same, its), tt))

ordered_by : (s after : State) → GoesAll s after → Ordered s → Ordered after
ordered_by s after goes o = record {
  ascending = λ c. goes_ascending (client_at s c) (desk_in s.switch c) (client_at after c) (desk_in after.switch c) (seqs_of c s.history) (seqs_of c after.history) (goes c) (o.ascending c) (o.past c);
  past = λ c. goes_past (client_at s c) (desk_in s.switch c) (client_at after c) (desk_in after.switch c) (seqs_of c s.history) (seqs_of c after.history) (goes c) (o.ascending c) (o.past c);
}

-- ---- entries of a client that doesn't wait

-- unanswered carried entries are of clients that wait
waiting_ones : (plan : Plan) (at : Clients) (desks : ℕ → Desk) (k : ℕ) (m : Places) (es : History) (ps : List PlainPacket) → AreCarriedBy plan at desks k m es ps → AllByRecursion (λ e. e.pairs ≡ None → (at e.entry.client).phase ≡ Waiting) es
waiting_ones plan at desks k m [] ps all = tt
waiting_ones plan at desks k m (e ∷ es) [] all = absurd all
waiting_ones plan at desks k m (e ∷ es) (p ∷ ps) all = (λ none. (all.0.pending none).phase, waiting_ones plan at desks (k + 1) (replay p m).after es ps all.1)

-- the entries of a client that doesn't wait are answered, and so below its next stamp
own_below : (at : Clients) (c : ℕ) (stamp : Stamp) (h : History) → (at c).phase ≢ Waiting
    → ((f : HistoryEntry) → AtMost f.entry.stamp (at c).last → Below f.entry.stamp stamp)
    → AllByRecursion (λ e. is_answered e ≡ true → e.entry.client ≡ c → AtMost e.entry.stamp (at c).last) h
    → AllByRecursion (λ e. is_carried e ≡ true → e.pairs ≡ None → (at e.entry.client).phase ≡ Waiting) h
    → AllByRecursion (λ e. e.pairs ≡ None → is_carried e ≡ true) h
    → AllByRecursion (λ e. e.entry.client ≡ c → Below e.entry.stamp stamp) h
own_below at c stamp [] still lower answered waits unanswered = tt
own_below at c stamp (e ∷ h) still lower answered waits unanswered = (λ own. lower e (known own), own_below at c stamp h still lower answered.1 waits.1 unanswered.1)
  where
    known : e.entry.client ≡ c → AtMost e.entry.stamp (at c).last
    known own = by e.pairs refl
      where
        by : (o : Option (List Pair)) → e.pairs ≡ o → AtMost e.entry.stamp (at c).last
        by (Some pairs) is = answered.0 (ap is_some is) own
        by None is = absurd (still (subst (λ (d : ℕ). (at d).phase ≡ Waiting) own (waits.0 (unanswered.0 is) is)))

-- ---- an answer changes no item

pub seqs-with_reply : (d number : ℕ) (reply : List Pair) (h : History) → seqs_of d (with_reply number reply h) ≡ seqs_of d h
seqs-with_reply d number reply [] = refl
seqs-with_reply d number reply (e ∷ h) = first (answered_entry number reply e) (same_entry (e.entry.stamp.number == number && e.entry.stamp.sub == 0)) (filter (λ f. f.entry.client == d) (with_reply number reply h)) (filter (λ f. f.entry.client == d) h) (seqs-with_reply d number reply h)
  where
    same_entry : (b : Bool) → (if b then record e { pairs = Some reply } else e).entry ≡ e.entry
    same_entry true = refl
    same_entry false = refl

    first : (f : HistoryEntry) → f.entry ≡ e.entry → (x y : History) → map (λ g. g.entry.seq) x ≡ map (λ g. g.entry.seq) y
        → map (λ g. g.entry.seq) (if f.entry.client == d then f ∷ x else x) ≡ map (λ g. g.entry.seq) (if e.entry.client == d then e ∷ y else y)
    first f same x y rest = ap (λ (b : Bool). map (λ g. g.entry.seq) (if b then f ∷ x else x)) (ap (λ (g : Entry). g.client == d) same) ∙ by (e.entry.client == d)
      where
        by : (b : Bool) → map (λ g. g.entry.seq) (if b then f ∷ x else x) ≡ map (λ g. g.entry.seq) (if b then e ∷ y else y)
        by true = ap (λ (q : ℕ). q ∷ map (λ g. g.entry.seq) x) (ap (λ (g : Entry). g.seq) same) ∙ ap (λ (l : List ℕ). e.entry.seq ∷ l) rest
        by false = rest

-- ---- a client's moves

-- at the same item, or a later one
abbrev IsOn : ClientState → ClientState → Type 0
IsOn x y = (y.seq ≡ x.seq) ⊎ (x.seq < y.seq)

tries_on : (plan : Plan) (c : ℕ) (x : ClientState) → IsOn x (try_ended plan c x)
tries_on plan c x = by (x.refused + 1 == plan.tries)
  where
    by : (b : Bool) → IsOn x (if b then next_item plan c x else record { phase = Ready; seq = x.seq; refused = x.refused + 1; noted = []; installed = 0; last = x.last; reply = [] })
    by true = inr (omega arith)
    by false = inl refl

aborts_on : (plan : Plan) (c : ℕ) (x : ClientState) (front : List Seen) → IsOn x (aborting plan c x front)
aborts_on plan c x [] = tries_on plan c x
aborts_on plan c x (seen ∷ others) = inl refl

-- a client without an entry of its item that gets none
quiet : (x : ClientState) (desk : Desk) (y : ClientState) (desk_new : Desk) (l l_new : List ℕ) → (HasIts x desk → ⊥) → l_new ≡ l → IsOn x y → Goes x desk y desk_new l l_new
quiet x desk y desk_new l l_new none is (inl same) = Stays is same (λ its. absurd (none its))
quiet x desk y desk_new l l_new none is (inr later) = Passes is later

pub has_none : (x : ClientState) (desk : Desk) → x.phase ≢ Waiting → x.phase ≢ Installing → HasIts x desk → ⊥
has_none x desk w i (inl is) = i is
has_none x desk w i (inr is) = w is.0

asking_none : (x : ClientState) (desk : Desk) → IsAsking x → HasIts x desk → ⊥
asking_none x desk (inl e) = has_none x desk (λ w. let clash : Ready ≡ Waiting = sym e ∙ w in cc) (λ i. let clash : Ready ≡ Installing = sym e ∙ i in cc)
asking_none x desk (inr e) = has_none x desk (λ w. let clash : Locking ≡ Waiting = sym e ∙ w in cc) (λ i. let clash : Locking ≡ Installing = sym e ∙ i in cc)

pub asking_still : (x : ClientState) → IsAsking x → x.phase ≢ Waiting
asking_still x (inl e) w = let clash : Ready ≡ Waiting = sym e ∙ w in cc
asking_still x (inr e) w = let clash : Locking ≡ Waiting = sym e ∙ w in cc

-- unanswered entries are of clients that wait
waiting_now : (plan : Plan) (s : State) → HoldsNow plan s → AllByRecursion (λ e. is_carried e ≡ true → e.pairs ≡ None → (client_at s e.entry.client).phase ≡ Waiting) s.history
waiting_now plan s (WhileUp h) =
    from_filter is_carried (λ e. e.pairs ≡ None → (client_at s e.entry.client).phase ≡ Waiting) s.history (waiting_ones plan (client_at s) (desk_at h.now) 0 (hot_cells plan) (carried s.history) (machine.entered h.now) h.ties.carried_ones)
waiting_now plan s (WhileLost h) = all s.history h.answered
  where
    nothing : {o : Option (List Pair)} → o ≡ None → IsSome o → ⊥
    nothing n i = let wrong = subst IsSome n i in cc

    all : (l : History) → AllAnswered l → AllByRecursion (λ e. is_carried e ≡ true → e.pairs ≡ None → (client_at s e.entry.client).phase ≡ Waiting) l
    all [] answered = tt
    all (e ∷ l) answered = (λ carries none. absurd (nothing none answered.0), all l answered.1)

-- ---- the switch is lost, and rebuilt

waiting_or_not : (p : Phase) → (p ≡ Waiting) ⊎ (p ≢ Waiting)
waiting_or_not Ready = inr (λ e. cc)
waiting_or_not Locking = inr (λ e. cc)
waiting_or_not Aborting = inr (λ e. cc)
waiting_or_not Logged = inr (λ e. cc)
waiting_or_not Waiting = inl refl
waiting_or_not Installing = inr (λ e. cc)
waiting_or_not Finished = inr (λ e. cc)

-- a client whose packet has its number, or none
abbrev IsUnderWay : ClientState → Desk → Type 0
IsUnderWay x desk = (x.phase ≡ Waiting) × IsNumbered desk

under_way_or_not : (x : ClientState) (desk : Desk) → IsUnderWay x desk ⊎ (IsUnderWay x desk → ⊥)
under_way_or_not x desk = elim (waiting_or_not x.phase) [
  | inl w ↦ elim (numbered_or_not desk) [ inl n ↦ inl (w, n) | inr n ↦ inr (λ u. n u.1) ]
  | inr w ↦ inr (λ u. w u.0)
]

-- a client that stays where the switch is lost has its answered entries left
left_goes : (x y : ClientState) (desk : Desk) (l ones : List ℕ) → y ≡ x → (x.phase ≡ Waiting → IsNumbered desk → l ≡ ones ++ x.seq ∷ []) → ((x.phase ≡ Waiting → IsNumbered desk → ⊥) → l ≡ ones) → Goes x desk y Vacant l ones
left_goes x y desk l ones same waits others = elim (under_way_or_not x desk) [
  | inl u ↦ Leaves (waits u.0 u.1) (ap (λ (z : ClientState). z.seq) same) (ap (λ (z : ClientState). z.phase) same ∙ u.0)
  | inr n ↦ Stays (sym (others (λ w m. n (w, m)))) (ap (λ (z : ClientState). z.seq) same) (λ its. on its n)
]
  where
    on : HasIts x desk → (IsUnderWay x desk → ⊥) → HasIts y Vacant
    on (inl i) n = inl (ap (λ (z : ClientState). z.phase) same ∙ i)
    on (inr w) n = absurd (n w)

-- and one that goes on where it is rebuilt gets its open entry
again_goes : (x y : ClientState) (desk desk_new : Desk) (l ones l_new : List ℕ) → y ≡ resumed x → desk ≡ Vacant → l ≡ ones
    → (y.phase ≡ Waiting → IsNumbered desk_new → l_new ≡ ones ++ y.seq ∷ []) → ((y.phase ≡ Waiting → IsNumbered desk_new → ⊥) → l_new ≡ ones) → Goes x desk y desk_new l l_new
again_goes x y desk desk_new l ones l_new same vacant is waits others = elim (under_way_or_not y desk_new) [
  | inl u ↦ Adds (waits u.0 u.1 ∙ ap (λ (q : ℕ). ones ++ q ∷ []) (ap (λ (z : ClientState). z.seq) same) ∙ ap (λ (m : List ℕ). m ++ x.seq ∷ []) (sym is)) (λ its. none its u.0) (ap (λ (z : ClientState). z.seq) same) (inr u)
  | inr n ↦ Stays (others (λ w m. n (w, m)) ∙ sym is) (ap (λ (z : ClientState). z.seq) same) on
]
  where
    phase : y.phase ≡ waits_again x.phase
    phase = ap (λ (z : ClientState). z.phase) same

    none : HasIts x desk → y.phase ≡ Waiting → ⊥
    none (inl i) w = let clash : Installing ≡ Waiting = sym (ap waits_again i) ∙ sym phase ∙ w in cc
    none (inr u) w = subst IsNumbered vacant u.1

    on : HasIts x desk → HasIts y desk_new
    on (inl i) = inl (phase ∙ ap waits_again i)
    on (inr u) = absurd (subst IsNumbered vacant u.1)

module _ (plan : Plan) (s : State) (h : HoldsNow plan s) where
  abbrev f : FactsOf plan s
  f = facts_of plan s h

  -- one client moved, and neither the desks nor the items of the others changed
  all_go : (c : ℕ) (after : State) (y : ClientState) → c < length s.clients → after.clients ≡ set s.clients c y → Goes (client_at s c) (desk_in s.switch c) y (desk_in after.switch c) (seqs_of c s.history) (seqs_of c after.history)
      → ((d : ℕ) → d ≢ c → desk_in after.switch d ≡ desk_in s.switch d) → ((d : ℕ) → d ≢ c → seqs_of d after.history ≡ seqs_of d s.history) → GoesAll s after
  all_go c after y lt is mine desks seqs d = elim (same_or_not d c) [
    | inl e ↦ subst (λ (n : ℕ). Goes (client_at s n) (desk_in s.switch n) (client_at after n) (desk_in after.switch n) (seqs_of n s.history) (seqs_of n after.history)) (sym e)
        (subst (λ (z : ClientState). Goes (client_at s c) (desk_in s.switch c) z (desk_in after.switch c) (seqs_of c s.history) (seqs_of c after.history)) (sym this) mine)
    | inr n ↦ Stays (seqs d n) (ap (λ (z : ClientState). z.seq) (other d n)) (λ its. subst (λ (z : ClientState). HasIts z (desk_in after.switch d)) (sym (other d n)) (subst (λ (k : Desk). HasIts (client_at s d) k) (sym (desks d n)) its))
  ]
    where
      this : client_at after c ≡ y
      this = ap (λ (l : List ClientState). get_or l c (at_item 0 1 zero_stamp)) is ∙ moved_client s.clients c y lt

      other : (j : ℕ) → j ≢ c → client_at after j ≡ client_at s j
      other j n = ap (λ (l : List ClientState). get_or l j (at_item 0 1 zero_stamp)) is ∙ others_stay s.clients c y j n

  -- and nothing else did
  alone : (c : ℕ) (after : State) (y : ClientState) → c < length s.clients → after.clients ≡ set s.clients c y → after.switch ≡ s.switch → after.history ≡ s.history
      → Goes (client_at s c) (desk_in s.switch c) y (desk_in s.switch c) (seqs_of c s.history) (seqs_of c s.history) → GoesAll s after
  alone c after y lt is same_switch same mine = all_go c after y lt is
      (subst (λ (o : Option Switch). Goes (client_at s c) (desk_in s.switch c) y (desk_in o c) (seqs_of c s.history) (seqs_of c after.history)) (sym same_switch)
      (subst (λ (g : History). Goes (client_at s c) (desk_in s.switch c) y (desk_in s.switch c) (seqs_of c s.history) (seqs_of c g)) (sym same) mine))
      (λ d n. ap (λ (o : Option Switch). desk_in o d) same_switch) (λ d n. ap (seqs_of d) same)

  -- the stamp of a decision is above those of all the client's entries
  pub own_lower : (c : ℕ) → IsAsking (client_at s c) → AllByRecursion (λ e. e.entry.client ≡ c → Below e.entry.stamp (next_sub (greatest (client_at s c).last (client_at s c).noted))) s.history
  own_lower c asks =
      own_below (client_at s) c (next_sub (greatest (client_at s c).last (client_at s c).noted)) s.history (asking_still (client_at s c) asks)
      (λ g low. Below-from_AtMost g.entry.stamp (greatest (client_at s c).last (client_at s c).noted) (next_sub (greatest (client_at s c).last (client_at s c).noted))
      (AtMost-trans g.entry.stamp (client_at s c).last (greatest (client_at s c).last (client_at s c).noted) low (AtMost-greatest (client_at s c).noted (client_at s c).last)) (Below-next_sub (greatest (client_at s c).last (client_at s c).noted)))
      (from_filter is_answered (λ e. e.entry.client ≡ c → AtMost e.entry.stamp (client_at s c).last) s.history (f.facts.cold.own c))
      (waiting_now plan s h) f.facts.unanswered

  -- so it adds the client's entry behind its others
  pub decided_last : (c : ℕ) → IsAsking (client_at s c) → seqs_of c (decided plan s c (client_at s c)).history ≡ seqs_of c s.history ++ (client_at s c).seq ∷ []
  unfolding decided
  decided_last c asks = own_last c _ s.history f.facts.sorted refl (own_lower c asks)

  decided_others : (c d : ℕ) → d ≢ c → seqs_of d (decided plan s c (client_at s c)).history ≡ seqs_of d s.history
  unfolding decided
  decided_others c d n = others_same d _ s.history f.facts.sorted (λ e. n (sym e))

  decides : (c : ℕ) → c < length s.clients → IsAsking (client_at s c) → GoesAll s (decided plan s c (client_at s c))
  unfolding decided
  decides c lt asks = all_go c (decided plan s c (client_at s c)) _ lt refl (Adds (decided_last c asks) (asking_none (client_at s c) (desk_in s.switch c) asks) refl (inl refl)) (λ d n. refl) (decided_others c)

  posts : (c : ℕ) (now next : Switch) → c < length s.clients → (client_at s c).phase ≡ Logged → s.switch ≡ Some now → switch.post now c (packet_now plan c (client_at s c)) ≡ Some next → GoesAll s (posted s c (client_at s c) next)
  unfolding posted
  posts c now next lt phase up at =
      let effect = post_effect now next c (packet_now plan c (client_at s c)) at in
      all_go c (posted s c (client_at s c) next) _ lt refl
      (quiet (client_at s c) (desk_in s.switch c) _ (desk_at next c) (seqs_of c s.history) (seqs_of c s.history)
      (has_none (client_at s c) (desk_in s.switch c) (λ w. let clash : Logged ≡ Waiting = sym phase ∙ w in cc) (λ i. let clash : Logged ≡ Installing = sym phase ∙ i in cc)) refl (inl refl))
      (λ d n. effect.desk.others d n ∙ sym (ap (λ (o : Option Switch). desk_in o d) up)) (λ d n. refl)

  takes : (c : ℕ) (now next : Switch) (answer : Answer) → c < length s.clients → s.switch ≡ Some now → switch.take_answer now c ≡ Some next → GoesAll s (taken plan s c (client_at s c) answer next)
  unfolding taken
  takes c now next answer lt up at =
      let effect = take_effect now next c at in
      let reply = reply_to plan c (client_at s c) answer in
      all_go c (taken plan s c (client_at s c) answer next) (replied plan c (client_at s c) (stamp_of answer) reply) lt refl
      (goes (stamp_of answer) reply (seqs_of c s.history) (seqs_of c (with_reply answer.number reply s.history)) (seqs-with_reply c answer.number reply s.history))
      (λ d n. effect.desk.others d n ∙ sym (ap (λ (o : Option Switch). desk_in o d) up)) (λ d n. seqs-with_reply d answer.number reply s.history)
    where
      goes : (stamp : Stamp) (reply : List Pair) (l l_new : List ℕ) → l_new ≡ l → Goes (client_at s c) (desk_in s.switch c) (replied plan c (client_at s c) stamp reply) (desk_at next c) l l_new
      goes stamp reply l l_new is = by (length (client_at s c).noted == 0)
        where
          by : (b : Bool) → Goes (client_at s c) (desk_in s.switch c) (if b then next_item plan c (record (client_at s c) { phase = Installing; last = stamp; reply = reply }) else record (client_at s c) { phase = Installing; last = stamp; reply = reply }) (desk_at next c) l l_new
          by true = Passes is (omega arith)
          by false = Stays is refl (λ its. inl refl)

  loses : (c : ℕ) (now : Switch) → c < length s.clients → (client_at s c).phase ≡ Ready → s.switch ≡ Some now → GoesAll s (lost plan s c (client_at s c))
  unfolding lost
  loses c now lt phase up d =
      let g = up_of plan s h now up in
      let desk : desk_in s.switch d ≡ desk_at g.now d = ap (λ (o : Option Switch). desk_in o d) g.up in
      let ones = ones_of plan s g d in
      elim (same_or_not d c) [
        | inl e ↦ Passes (sym (ones.others (λ w n. let clash : Ready ≡ Waiting = sym phase ∙ subst (λ (k : ℕ). (client_at s k).phase ≡ Waiting) e w in cc))) (later (ap (λ (z : ClientState). z.seq) (here d e)) (ap (λ (k : ℕ). (client_at s k).seq) e))
        | inr n ↦ subst (λ (k : Desk). Goes (client_at s d) k (client_at (lost plan s c (client_at s c)) d) Vacant (seqs_of d s.history) (seqs_of d (answered_ones s.history))) (sym desk)
            (left_goes (client_at s d) (client_at (lost plan s c (client_at s c)) d) (desk_at g.now d) (seqs_of d s.history) (seqs_of d (answered_ones s.history)) (others_stay s.clients c (next_item plan c (client_at s c)) d n) ones.waits ones.others)
      ]
    where
      here : (k : ℕ) → k ≡ c → get_or (set s.clients c (next_item plan c (client_at s c))) k (at_item 0 1 zero_stamp) ≡ next_item plan c (client_at s c)
      here k e = ap (λ (j : ℕ). get_or (set s.clients c (next_item plan c (client_at s c))) j (at_item 0 1 zero_stamp)) e ∙ moved_client s.clients c (next_item plan c (client_at s c)) lt

      later : {a b n : ℕ} → a ≡ n + 1 → b ≡ n → b < a
      later e g = omega (arith, e, g)

  by_client : (c : ℕ) (after : State) → c < length s.clients → Move plan s c after → GoesAll s after
  unfolding granted refused released logged installed
  by_client c after lt (Loses now phase item up is) = subst (GoesAll s) (sym is) (loses c now lt phase up)
  by_client c after lt (Grants op asks next free is) =
      alone c after _ lt (ap (λ (z : State). z.clients) is) (ap (λ (z : State). z.switch) is) (ap (λ (z : State). z.history) is)
      (quiet (client_at s c) (desk_in s.switch c) _ (desk_in s.switch c) (seqs_of c s.history) (seqs_of c s.history) (asking_none (client_at s c) (desk_in s.switch c) asks) refl (inl refl))
  by_client c after lt (Refuses op by asks next held is) =
      alone c after _ lt (ap (λ (z : State). z.clients) is) (ap (λ (z : State). z.switch) is) (ap (λ (z : State). z.history) is)
      (quiet (client_at s c) (desk_in s.switch c) _ (desk_in s.switch c) (seqs_of c s.history) (seqs_of c s.history) (asking_none (client_at s c) (desk_in s.switch c) asks) refl (aborts_on plan c (client_at s c) (client_at s c).noted))
  by_client c after lt (Releases phase is) =
      alone c after _ lt (ap (λ (z : State). z.clients) is) (ap (λ (z : State). z.switch) is) (ap (λ (z : State). z.history) is)
      (quiet (client_at s c) (desk_in s.switch c) _ (desk_in s.switch c) (seqs_of c s.history) (seqs_of c s.history)
      (has_none (client_at s c) (desk_in s.switch c) (λ w. let clash : Aborting ≡ Waiting = sym phase ∙ w in cc) (λ i. let clash : Aborting ≡ Installing = sym phase ∙ i in cc)) refl
      (aborts_on plan c (client_at s c) (take (length (client_at s c).noted - 1) (client_at s c).noted)))
  by_client c after lt (Decides asks next cold some is) = subst (GoesAll s) (sym is) (decides c lt asks)
  by_client c after lt (Logs asks next hot is) =
      alone c after _ lt (ap (λ (z : State). z.clients) is) (ap (λ (z : State). z.switch) is) (ap (λ (z : State). z.history) is)
      (quiet (client_at s c) (desk_in s.switch c) _ (desk_in s.switch c) (seqs_of c s.history) (seqs_of c s.history) (asking_none (client_at s c) (desk_in s.switch c) asks) refl (inl refl))
  by_client c after lt (Posts now next phase up at is) = subst (GoesAll s) (sym is) (posts c now next lt phase up at)
  by_client c after lt (Takes now next answer phase up has at is) = subst (GoesAll s) (sym is) (takes c now next answer lt up at)
  by_client c after lt (Installs p phase at is) =
      alone c after _ lt (ap (λ (z : State). z.clients) is) (ap (λ (z : State). z.switch) is) (ap (λ (z : State). z.history) is) (goes (length (steps_now plan c (client_at s c))))
    where
      goes : (all : ℕ) → Goes (client_at s c) (desk_in s.switch c) (installed_one plan c (client_at s c) all) (desk_in s.switch c) (seqs_of c s.history) (seqs_of c s.history)
      goes all = by ((client_at s c).installed + 1 == all)
        where
          by : (b : Bool) → Goes (client_at s c) (desk_in s.switch c) (if b then next_item plan c (client_at s c) else record (client_at s c) { installed = (client_at s c).installed + 1 }) (desk_in s.switch c) (seqs_of c s.history) (seqs_of c s.history)
          by true = Passes refl (omega arith)
          by false = Stays refl refl (λ its. inl phase)

-- ---- moves at the switch

module _ (plan : Plan) (s : State) (h : Holds plan s) where
  -- no desk changed
  switches : (now next : Switch) → s.switch ≡ Some now → ((d : ℕ) → desk_at next d ≡ desk_at now d) → GoesAll s (switched s next)
  unfolding switched
  switches now next up desks d = Stays refl refl (λ its. subst (λ (k : Desk). HasIts (client_at s d) k) (ap (λ (o : Option Switch). desk_in o d) up ∙ sym (desks d)) its)

  same_seq : (c : ℕ) (x : ClientState) (p : PlainPacket) → p ≡ packet_now plan c x → p.seq ≡ x.seq
  unfolding packet_from
  same_seq c x p is = ap (λ (q : PlainPacket). q.seq) is

  all_lower : (most number : ℕ) (l : History) → most < number → AllByRecursion (λ e. e.entry.stamp.number ≤ most) l → AllByRecursion (λ e. Below e.entry.stamp (record { number = number; sub = 0 })) l
  all_lower most number [] lt all = tt
  all_lower most number (e ∷ l) lt all = (below_of e.entry.stamp (record { number = number; sub = 0 }) (inl (omega (arith, lt, all.0))), all_lower most number l lt all.1)

  each_own : (c : ℕ) (stamp : Stamp) (l : History) → AllByRecursion (λ e. Below e.entry.stamp stamp) l → AllByRecursion (λ e. e.entry.client ≡ c → Below e.entry.stamp stamp) l
  each_own c stamp [] all = tt
  each_own c stamp (e ∷ l) all = (λ own. all.0, each_own c stamp l all.1)

  -- a packet enters for its first pass: its client's present item gets its entry
  enters : (c : ℕ) (next : Switch) (f : FirstEffect h.now next c) → GoesAll s (entered s c f.packet (next_number h.now) next)
  unfolding entered switched
  enters c next f d = elim (same_or_not d c) [
    | inl e ↦ subst (λ (n : ℕ). Goes (client_at s n) (desk_in s.switch n) (client_at s n) (desk_at next n) (seqs_of n s.history) (seqs_of n (with_entry new s.history))) (sym e)
        (Adds (own_last c new s.history h.ties.sorted refl lower ∙ ap (λ (q : ℕ). seqs_of c s.history ++ q ∷ []) (same_seq c (client_at s c) f.packet fits.1)) none refl (inr (fits.0, subst IsNumbered (sym f.desk.this) tt)))
    | inr n ↦ Stays (others_same d new s.history h.ties.sorted (λ e. n (sym e))) refl (λ its. subst (λ (k : Desk). HasIts (client_at s d) k) (ap (λ (o : Option Switch). desk_in o d) h.up ∙ sym (f.desk.others d n)) its)
  ]
    where
      new : HistoryEntry
      new = record { entry = record { stamp = record { number = next_number h.now; sub = 0 }; client = c; seq = f.packet.seq }; pairs = None }

      fits : FitsDesk plan s.history c (client_at s c) (Posted f.packet)
      fits = subst (λ (k : Desk). FitsDesk plan s.history c (client_at s c) k) f.posted (h.ties.under_way c)

      none : HasIts (client_at s c) (desk_in s.switch c) → ⊥
      none its = by (subst (λ (k : Desk). HasIts (client_at s c) k) (ap (λ (o : Option Switch). desk_in o c) h.up ∙ f.posted) its)
        where
          by : HasIts (client_at s c) (Posted f.packet) → ⊥
          by (inl i) = let clash : Waiting ≡ Installing = sym fits.0 ∙ i in cc
          by (inr w) = w.1

      lower : AllByRecursion (λ e. e.entry.client ≡ c → Below e.entry.stamp (record { number = next_number h.now; sub = 0 })) s.history
      lower = each_own c (record { number = next_number h.now; sub = 0 }) s.history
          (all_lower (length (machine.entered h.now)) (next_number h.now) s.history (above (length-map h.now.flights (λ (g : Flight). g.packet))) h.ties.covered.entries)
        where
          above : {a b : ℕ} → a ≡ b → a < b + 1
          above e = omega (arith, e)

  at_port : (c : ℕ) (next : Switch) → switch.enter plan.shape h.now c ≡ Some next → GoesAll s (behind_entry s c (desk_at h.now c) (next_number h.now) next)
  at_port c next at = elim (enter_effect plan.shape h.now next c at) [
    | inl f ↦ subst (λ (k : Desk). GoesAll s (behind_entry s c k (next_number h.now) next)) (sym f.posted) (enters c next f)
    | inr l ↦ subst (λ (k : Desk). GoesAll s (behind_entry s c k (next_number h.now) next)) (sym l.desk) (switches h.now next h.up l.desks)
  ]

-- ---- recovery

recovers : (plan : Plan) (s after : State) (order : List Task) → HoldsLost plan s → HoldsNow plan after → after ≡ recovered plan s order → GoesAll s after
recovers plan s after order h next is d = by next
  where
    there : {o : Option Switch} → after.switch ≡ o → o ≡ None → ⊥
    there at none = clash (sym (up_recovered plan s order) ∙ ap (λ (z : State). z.switch) (sym is) ∙ at ∙ none)
      where
        clash : {now : Switch} → Some now ≡ None → ⊥
        clash e = cc

    whole : answered_ones after.history ≡ s.history
    whole = ap (λ (z : State). answered_ones z.history) is ∙ ones_recovered plan s order ∙ all_answered s.history h.answered

    by : HoldsNow plan after → Goes (client_at s d) (desk_in s.switch d) (client_at after d) (desk_in after.switch d) (seqs_of d s.history) (seqs_of d after.history)
    by (WhileLost lost) = absurd (there refl lost.lost)
    by (WhileUp g) =
        let ones = ones_of plan after g d in
        subst (λ (k : Desk). Goes (client_at s d) (desk_in s.switch d) (client_at after d) k (seqs_of d s.history) (seqs_of d after.history)) (sym (ap (λ (o : Option Switch). desk_in o d) g.up))
        (again_goes (client_at s d) (client_at after d) (desk_in s.switch d) (desk_at g.now d) (seqs_of d s.history) (seqs_of d (answered_ones after.history)) (seqs_of d after.history)
        (client_recovered plan s after order is d) (ap (λ (o : Option Switch). desk_in o d) h.lost) (ap (seqs_of d) (sym whole)) ones.waits ones.others)

pub goes_of : (plan : Plan) (s after : State) (actor : Actor) → HoldsNow plan s → HoldsNow plan after → Moved plan s after actor → GoesAll s after
goes_of plan s after actor h next (ByClient c within move) = by_client plan s h c after within move
goes_of plan s after actor h next (AtPort c now to up at is) =
    let g = up_of plan s h now up in
    let same : now ≡ g.now = same_switch up g.up in
    subst (GoesAll s) (sym (is ∙ ap (λ (n : Switch). behind_entry s c (desk_at n c) (next_number n) to) same)) (at_port plan s g c to (subst (λ (n : Switch). switch.enter plan.shape n c ≡ Some to) same at))
goes_of plan s after actor h next (AtStage x now to up at is) = subst (GoesAll s) (sym is) (switches plan s (up_of plan s h now up) now to up (advance_effect plan.shape now to x at).desks)
goes_of plan s after actor h next (Recovers order down found is) = recovers plan s after order (lost_of plan s h down) next is

-- ---- all states

first_ordered : (plan : Plan) → Ordered (opening plan)
unfolding opening
first_ordered plan = record { ascending = λ c. tt; past = λ c. tt }

past_of : (x : ClientState) (desk : Desk) (q : ℕ) → IsPastAt x desk q → IsPast x q
past_of x desk q (inl lt) = inl lt
past_of x desk q (inr p) = inr (p.0, by p.1)
  where
    by : HasIts x desk → (x.phase ≡ Waiting) ⊎ (x.phase ≡ Installing)
    by (inl i) = inr i
    by (inr w) = inl w.0

module _ (plan : Plan) (holds : (z : State) → IsReached plan z → HoldsNow plan z) where
  pub ordered : (s : State) → IsReached plan s → Ordered s
  ordered s reached = of_reached plan Ordered (first_ordered plan) (λ z next actor r o is. ordered_by z next (goes_of plan z next actor (holds z r) (holds next (reached_step plan z next actor r is)) (move_of plan z actor next is)) o) s reached

  pub items_in_order : (s : State) → IsReached plan s → HasItemsInOrder s
  items_in_order s reached =
      let o = ordered s reached in
      record { ascending = o.ascending; past = λ c. each_one (IsPastAt (client_at s c) (desk_in s.switch c)) (IsPast (client_at s c)) (seqs_of c s.history) (past_of (client_at s c) (desk_in s.switch c)) (o.past c) }
