-- What each move does to the locks.
use Rattle.std.proofs.Common.{◌≡◌, ◌≢◌, ◌⊎◌, ℕ, zero, suc, ◌+◌, ◌-◌, ◌<◌, ◌≤◌, ◌==◌, Bool, true, false, List, [], ◌∷◌, ◌++◌, length, length-append, take, drop, set, get_or, slice_get, Some, inl, inr, refl, sym, ap, subst, ◌∙◌, arith, if◌then◌else◌}
use Rattle.std.proofs.lemmas.Bool.Decides.{nat_tests}
use Rattle.txn_model.specs.declared.op.Op.{Op}
use Rattle.txn_model.specs.declared.pairs.Pair.{Pair}
use Rattle.txn_model.specs.declared.stamp.Seen.{Seen}
use Rattle.txn_model.specs.declared.stamp.Stamp.{Stamp}
use Rattle.host_store.specs.Store.{seen_at}
use Rattle.catalogue.specs.declared.actor.Actor.TheVariants.{Client}
use Rattle.core_model.specs.State.{at_item, zero_stamp}
use Rattle.catalogue.specs.Plan.{Plan}
use Rattle.catalogue.specs.declared.actor.Actor.{Actor}
use Rattle.core_model.specs.declared.phase.Phase.{Phase}
use Rattle.core_model.specs.declared.phase.Phase.TheVariants.{Ready, Locking, Aborting, Installing}
use Rattle.core_model.specs.Asking.{IsAsking}
use Rattle.core_model.specs.Facts.{steps_now}
use Rattle.core_model.specs.Locks.{cold_ops, held}
use Rattle.core_model.specs.State.{ClientState, script_now}
use Rattle.core_model.specs.Step.{aborting, try_ended, next_item, installed_one}
use Rattle.core_model.proofs.Fewer.{same_or_not}
use Rattle.core_model.proofs.Holders.{free_of_holder}
use Rattle.switch_model.specs.Switch.{desk_at, next_number}
use Rattle.fabric_model.specs.ColdFacts.{FitsPhase}
use Rattle.fabric_model.specs.Holds.{HostFacts}
use Rattle.fabric_model.specs.Laws.{IsReached}
use Rattle.fabric_model.specs.State.{State, client_at}
use Rattle.fabric_model.specs.Step.{lost, granted, refused, released, decided, logged, posted, taken, installed, replied, step}
use Rattle.fabric_model.specs.TwoPhases.{locks_at, IsTaken, IsReleased, IsInstalled, KeepsLocks}
use Rattle.fabric_model.proofs.ColdSteps.{cold_op_at}
use Rattle.fabric_model.proofs.Either.{facts_of}
use Rattle.fabric_model.proofs.Legal.{holds_now}
use Rattle.fabric_model.proofs.MoveKinds.{Move, Loses, Grants, Refuses, Releases, Decides, Logs, Posts, Takes, Installs, Moved, ByClient, AtPort, AtStage, Recovers, move_of}
use Rattle.fabric_model.proofs.PerClient.{client_now, client_then}
use Rattle.fabric_model.proofs.Present.{reply_to, stamp_of, clients_at_port, clients_at_stage, client_recovered}

-- one more of a list, the last of its front, and the first behind a place
one_more_taken : {X : Type 0} (xs : List X) (n : ℕ) (x : X) → slice_get xs n ≡ Some x → take (suc n) xs ≡ take n xs ++ x ∷ []
one_more_taken [] n x is = cc
one_more_taken (y ∷ xs) zero x is = let same : y ≡ x = cc in ap (λ z. z ∷ []) same
one_more_taken (y ∷ xs) (suc n) x is = ap (λ l. y ∷ l) (one_more_taken xs n x is)

first_dropped : {X : Type 0} (xs : List X) (n i : ℕ) (x : X) → slice_get xs i ≡ Some x → i < n → drop i (take n xs) ≡ x ∷ drop (suc i) (take n xs)
first_dropped xs zero i x is lt = absurd (omega arith)
first_dropped [] (suc n) i x is lt = cc
first_dropped (y ∷ xs) (suc n) zero x is lt = let same : y ≡ x = cc in ap (λ z. z ∷ take n xs) same
first_dropped (y ∷ xs) (suc n) (suc i) x is lt = first_dropped xs n i x is (omega arith)

none_dropped : {X : Type 0} (xs : List X) (n i : ℕ) → n ≤ i → drop i (take n xs) ≡ []
none_dropped xs zero zero le = refl
none_dropped xs zero (suc i) le = refl
none_dropped [] (suc n) zero le = refl
none_dropped [] (suc n) (suc i) le = refl
none_dropped (y ∷ xs) (suc n) zero le = absurd (omega arith)
none_dropped (y ∷ xs) (suc n) (suc i) le = none_dropped xs n i (omega arith)

item_within : {X : Type 0} (xs : List X) (k : ℕ) → k < length xs → (x : X) × (slice_get xs k ≡ Some x)
item_within [] k lt = absurd (omega arith)
item_within (x ∷ xs) zero lt = (x, refl)
item_within (x ∷ xs) (suc k) lt = item_within xs k (omega arith)

-- a client at the beginning of a try holds no lock
try_free : (plan : Plan) (c : ℕ) (x : ClientState) → held plan c (try_ended plan c x) ≡ []
try_free plan c x = by (x.refused + 1 == plan.tries)
  where
    by : (b : Bool) → held plan c (if b then next_item plan c x else record { phase = Ready; seq = x.seq; refused = x.refused + 1; noted = []; installed = 0; last = x.last; reply = [] }) ≡ []
    by true = refl
    by false = refl

-- a client that aborts with the first of its locks holds those
abort_holds : (plan : Plan) (c : ℕ) (x : ClientState) (front : List Seen) → x.installed ≡ 0 → held plan c (aborting plan c x front) ≡ take (length front) (cold_ops plan.layout (script_now plan c x))
abort_holds plan c x [] none = try_free plan c x
abort_holds plan c x (seen ∷ others) none = ap (λ (n : ℕ). drop n (take (length (seen ∷ others)) (cold_ops plan.layout (script_now plan c x)))) none

abort_until : (plan : Plan) (c : ℕ) (x : ClientState) (front : List Seen) → ((aborting plan c x front).phase ≡ Aborting) ⊎ (held plan c (aborting plan c x front) ≡ [])
abort_until plan c x [] = inr (try_free plan c x)
abort_until plan c x (seen ∷ others) = inl refl

-- a client behind an installation
install_holds : (plan : Plan) (c : ℕ) (x : ClientState) (all : ℕ) → x.phase ≡ Installing → all ≡ length x.noted
    → (held plan c (installed_one plan c x all) ≡ drop (x.installed + 1) (take (length x.noted) (cold_ops plan.layout (script_now plan c x)))) × (((installed_one plan c x all).phase ≡ Installing) ⊎ (held plan c (installed_one plan c x all) ≡ []))
install_holds plan c x all phase count = by (x.installed + 1 == all) refl
  where
    past : (i n m : ℕ) → (i + 1 == n) ≡ true → n ≡ m → m ≤ i + 1
    past i n m e same = grind (arith, nat_tests)

    by : (b : Bool) → (x.installed + 1 == all) ≡ b → (held plan c (if b then next_item plan c x else record x { installed = x.installed + 1 }) ≡ drop (x.installed + 1) (take (length x.noted) (cold_ops plan.layout (script_now plan c x))))
        × (((if b then next_item plan c x else record x { installed = x.installed + 1 }).phase ≡ Installing) ⊎ (held plan c (if b then next_item plan c x else record x { installed = x.installed + 1 }) ≡ []))
    by true e = (sym (none_dropped (cold_ops plan.layout (script_now plan c x)) (length x.noted) (x.installed + 1) (past x.installed all (length x.noted) e count)), inr refl)
    by false e = (refl, inl phase)

-- a client whose answer is taken holds what it held
reply_holds : (plan : Plan) (c : ℕ) (x : ClientState) (stamp : Stamp) (reply : List Pair) → held plan c (replied plan c x stamp reply) ≡ held plan c x
reply_holds plan c x stamp reply = by (length x.noted == 0) refl
  where
    equal : (a b : ℕ) → (a == b) ≡ true → a ≡ b
    equal a b e = grind (arith, nat_tests)

    by : (b : Bool) → (length x.noted == 0) ≡ b → held plan c (if b then next_item plan c (record x { phase = Installing; last = stamp; reply = reply }) else record x { phase = Installing; last = stamp; reply = reply }) ≡ held plan c x
    by true none = sym (none_dropped (cold_ops plan.layout (script_now plan c x)) (length x.noted) x.installed (omega (arith, equal (length x.noted) 0 none)))
    by false some = refl

module _ (plan : Plan) (s next : State) (c : ℕ) (lt : c < length s.clients) (most : ℕ) (facts : HostFacts plan most (client_at s) s.store s.history) where
  abbrev x : ClientState
  x = client_at s c

  abbrev ops : List Op
  ops = cold_ops plan.layout (script_now plan c x)

  mine : (y : ClientState) → next.clients ≡ set s.clients c y → client_at next c ≡ y
  mine y is = client_now s next c y lt is

  other : (y : ClientState) (d : ℕ) → next.clients ≡ set s.clients c y → d ≢ c → locks_at plan next d ≡ locks_at plan s d
  other y d is n = ap (held plan d) (client_then s next c y d is n)

  fits : (p : Phase) → x.phase ≡ p → FitsPhase plan c x p
  fits p is = subst (λ (q : Phase). FitsPhase plan c x q) is (facts.cold.fits c)

  asks_free : IsAsking x → x.installed ≡ 0
  asks_free (inl is) = (fits Ready is).1
  asks_free (inr is) = (fits Locking is).1

  at_start : x.installed ≡ 0 → held plan c x ≡ take (length x.noted) ops
  at_start none = ap (λ (n : ℕ). drop n (take (length x.noted) ops)) none

  -- what the move does to the locks of the client that moves, and to those of the others
  abbrev Locks : Type 0
  Locks = ((d : ℕ) → d ≢ c → locks_at plan next d ≡ locks_at plan s d)
      × ((locks_at plan next c ≡ locks_at plan s c) ⊎ (IsTaken plan s next c ⊎ (IsReleased plan s next c ⊎ IsInstalled plan s next c)))

  locks_moved : Move plan s c next → Locks
  unfolding lost granted refused released decided logged posted taken installed
  locks_moved (Loses now phase item up is) =
      let clients = ap (λ (z : State). z.clients) is in
      let none = fits Ready phase in
      (λ d n. other (next_item plan c x) d clients n, inl (ap (held plan c) (mine (next_item plan c x) clients) ∙ sym (ap (λ (l : List Seen). drop x.installed (take (length l) ops)) none.0 ∙ none_dropped ops 0 x.installed (omega arith))))
  locks_moved (Grants op asks asked free is) =
      let clients = ap (λ (z : State). z.clients) is in
      let y : ClientState = record x { phase = Locking; noted = x.noted ++ seen_at s.store op.tuple ∷ [] } in
      let more : length (x.noted ++ seen_at s.store op.tuple ∷ []) ≡ suc (length x.noted) = omega (arith, length-append x.noted (seen_at s.store op.tuple ∷ [])) in
      let none = asks_free asks in (
        λ d n. other y d clients n,
        inr (inl (record {
          op = op;
          phase = asks;
          asked = asked;
          free = free_of_holder plan s.clients c op free;
          locks = ap (held plan c) (mine y clients) ∙ ap (λ (n : ℕ). drop n (take (length (x.noted ++ seen_at s.store op.tuple ∷ [])) ops)) none ∙ ap (λ (n : ℕ). take n ops) more ∙ one_more_taken ops (length x.noted) op asked
              ∙ ap (λ (l : List Op). l ++ op ∷ []) (sym (at_start none));
        })),
      )
  locks_moved (Refuses op by asks asked held_by is) =
      let clients = ap (λ (z : State). z.clients) is in
      let none = asks_free asks in
      (λ d n. other (aborting plan c x x.noted) d clients n, inl (ap (held plan c) (mine (aborting plan c x x.noted) clients) ∙ abort_holds plan c x x.noted none ∙ sym (at_start none)))
  locks_moved (Releases phase is) =
      let clients = ap (λ (z : State). z.clients) is in
      let fit = fits Aborting phase in
      let front = take (length x.noted - 1) x.noted in
      let y = aborting plan c x front in
      let last = item_within ops (length x.noted - 1) (omega (arith, fit.1, fit.2)) in
      let fewer : length front ≡ length x.noted - 1 = front_length x.noted (length x.noted - 1) (omega arith) in
      let all : suc (length x.noted - 1) ≡ length x.noted = omega (arith, fit.1) in (
        λ d n. other y d clients n,
        inr (inr (inl (record {
          op = last.0;
          phase = phase;
          locks = at_start fit.0 ∙ ap (λ (n : ℕ). take n ops) (sym all) ∙ one_more_taken ops (length x.noted - 1) last.0 last.1
              ∙ ap (λ (l : List Op). l ++ last.0 ∷ []) (sym (ap (held plan c) (mine y clients) ∙ abort_holds plan c x front fit.0 ∙ ap (λ (n : ℕ). take n ops) fewer));
          until = subst (λ (z : ClientState). (z.phase ≡ Aborting) ⊎ (held plan c z ≡ [])) (sym (mine y clients)) (abort_until plan c x front);
        }))),
      )
    where
      front_length : (l : List Seen) (n : ℕ) → n ≤ length l → length (take n l) ≡ n
      front_length l zero le = refl
      front_length [] (suc n) le = absurd (omega arith)
      front_length (seen ∷ l) (suc n) le = ap suc (front_length l n (omega arith))
  locks_moved (Decides asks asked cold some is) =
      let clients = ap (λ (z : State). z.clients) is in
      (λ d n. other _ d clients n, inl (ap (held plan c) (mine _ clients)))
  locks_moved (Logs asks asked hot is) =
      let clients = ap (λ (z : State). z.clients) is in
      (λ d n. other _ d clients n, inl (ap (held plan c) (mine _ clients)))
  locks_moved (Posts now after phase up to is) =
      let clients = ap (λ (z : State). z.clients) is in
      (λ d n. other _ d clients n, inl (ap (held plan c) (mine _ clients)))
  locks_moved (Takes now after answer phase up has to is) =
      let clients = ap (λ (z : State). z.clients) is in
      let y = replied plan c x (stamp_of answer) (reply_to plan c x answer) in
      (λ d n. other y d clients n, inl (ap (held plan c) (mine y clients) ∙ reply_holds plan c x (stamp_of answer) (reply_to plan c x answer)))
  locks_moved (Installs p phase at is) =
      let clients = ap (λ (z : State). z.clients) is in
      let fit = fits Installing phase in
      let y = installed_one plan c x (length (steps_now plan c x)) in
      let behind = install_holds plan c x (length (steps_now plan c x)) phase fit.1 in
      let after : suc x.installed ≡ x.installed + 1 = omega arith in (
        λ d n. other y d clients n,
        inr (inr (inr (record {
          op = p.0;
          pair = p.1;
          phase = phase;
          locks = first_dropped ops (length x.noted) x.installed p.0 (cold_op_at plan.layout (script_now plan c x) x.reply x.installed p.0 p.1 at) (facts.installs c phase) ∙ ap (λ (n : ℕ). p.0 ∷ drop n (take (length x.noted) ops)) after ∙ ap (λ (l : List Op). p.0 ∷ l) (sym (ap (held plan c) (mine y clients) ∙ behind.0));
          store = ap (λ (z : State). z.store) is;
          until = subst (λ (z : ClientState). (z.phase ≡ Installing) ⊎ (held plan c z ≡ [])) (sym (mine y clients)) behind.1;
        }))),
      )

-- moves at the switch change no lock
still : (plan : Plan) (s next : State) (actor : Actor) (c : ℕ) → next.clients ≡ s.clients → KeepsLocks plan s next actor c
still plan s next actor c same = inl (ap (λ (l : List ClientState). held plan c (get_or l c (at_item 0 1 zero_stamp))) same)

two_phases_of : (plan : Plan) (s next : State) (actor : Actor) → IsReached plan s → Moved plan s next actor → (c : ℕ) → KeepsLocks plan s next actor c
two_phases_of plan s next actor reached (ByClient d within move) c =
    let f = facts_of plan s (holds_now plan s reached) in
    let changed = locks_moved plan s next d within f.most f.facts move in
    elim (same_or_not c d) [
      | inr n ↦ inl (changed.0 c n)
      | inl e ↦ subst (λ (m : ℕ). KeepsLocks plan s next (Client d) m) (sym e) (elim changed.1 [ inl same ↦ inl same | inr how ↦ inr (refl, how) ])
    ]
two_phases_of plan s next actor reached (AtPort d now after up to is) c = still plan s next actor c (ap (λ (z : State). z.clients) is ∙ clients_at_port s d (desk_at now d) (next_number now) after)
two_phases_of plan s next actor reached (AtStage x now after up to is) c = still plan s next actor c (ap (λ (z : State). z.clients) is ∙ clients_at_stage s after)
two_phases_of plan s next actor reached (Recovers order down found is) c = inl (ap (held plan c) (client_recovered plan s next order is c))

pub two_phases : (plan : Plan) (s next : State) (actor : Actor) → IsReached plan s → step plan s actor ≡ Some next → (c : ℕ) → KeepsLocks plan s next actor c
two_phases plan s next actor reached is c = two_phases_of plan s next actor reached (move_of plan s actor next is) c
