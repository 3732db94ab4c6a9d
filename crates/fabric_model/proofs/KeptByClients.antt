-- Each move of a client that changes neither the history nor the switch keeps what holds, also while the switch is lost: locks granted, refused and released,
-- intents, installations.
use Rattle.std.proofs.Common.{◌≡◌, ◌≢◌, ◌⊎◌, ℕ, ℤ, ◌+◌, ◌-◌, ◌<◌, ◌≤◌, ◌==◌, not, Bool, true, false, List, [], ◌∷◌, ◌++◌, length, length-set, take, set, get_or, slice_get, Some, None, inl, inr, refl, sym, ap, subst, ◌∙◌, arith, if◌then◌else◌, is_lt}
use Rattle.std.specs.List.{AllByRecursion}
use Rattle.txn_model.specs.ScriptCheck.{is_read}
use Rattle.txn_model.specs.declared.op.Op.{Op}
use Rattle.txn_model.specs.declared.op.TupleId.{TupleId}
use Rattle.txn_model.specs.declared.stamp.Seen.{Seen}
use Rattle.txn_model.specs.declared.stamp.Stamp.{Stamp}
use Rattle.host_store.specs.Store as hosts
use Rattle.host_store.specs.Store.{Store, seen_at}
use Rattle.stage_layout.specs.Late.{is_hot}
use Rattle.history_model.specs.Chain.{Step}
use Rattle.history_model.specs.History.{History, greater, stamp_cmp}
use Rattle.switch_model.specs.Switch.{desk_at, entered}
use Rattle.catalogue.specs.Plan.{Plan, script_at, items_of}
use Rattle.core_model.specs.declared.phase.Phase.{Phase}
use Rattle.core_model.specs.declared.phase.Phase.TheVariants.{Ready, Locking, Aborting, Logged, Waiting, Installing}
use Rattle.core_model.specs.Asking.{IsAsking}
use Rattle.core_model.specs.Facts.{Stands, steps_now, writes}
use Rattle.core_model.specs.Locks.{cold_ops, clashes}
use Rattle.core_model.specs.State.{ClientState, at_item, zero_stamp, script_now}
use Rattle.core_model.specs.Step.{next_item, aborting, installed_one}
use Rattle.core_model.proofs.Decide.{item_at_place}
use Rattle.core_model.proofs.Decided.{IsDistinct}
use Rattle.core_model.proofs.Fewer.{OthersStay, KeepsLocks}
use Rattle.core_model.proofs.Granted.{writes_by}
use Rattle.core_model.proofs.Install.{seen_at-insert}
use Rattle.core_model.proofs.Kept.{past_none}
use Rattle.core_model.proofs.Moves.{moved_client, others_stay, free_from, whole_front, front_taken}
use Rattle.core_model.proofs.StepsOf.{all_append}
use Rattle.fabric_model.specs.ColdFacts.{FitsPhase, ColdFacts}
use Rattle.fabric_model.specs.Holds.{HostFacts, Ties, Holds}
use Rattle.fabric_model.specs.State.{State, client_at, answered_ones}
use Rattle.fabric_model.specs.Step.{moved, granted, refused, holder, released, logged, installed, has_hot, next_op}
use Rattle.fabric_model.proofs.ColdSteps.{among, cold_op_at, distinct_on_hosts}
use Rattle.fabric_model.proofs.Fewer.{kept_by_fewer}
use Rattle.fabric_model.proofs.Granted.{kept_by_grant}
use Rattle.fabric_model.proofs.Install.{kept_by_installation}
use Rattle.fabric_model.proofs.NextClient.{Fewer, IsInstalled, at_beginning, aborts, all_taken, installs}
use Rattle.fabric_model.proofs.Places.{distinct_places}
use Rattle.fabric_model.proofs.TiesKept.{IsWell, host_facts, facts_by_client, ties_by_client}

-- a move of one client that changes neither the history nor the switch
pub record IsMoveOf (plan : Plan) (s : State) (most : ℕ) (c : ℕ) (z : State) : Type 0 where
  pub client : ClientState
  pub clients : z.clients ≡ set s.clients c client
  pub switch : z.switch ≡ s.switch
  pub history : z.history ≡ s.history
  pub before : (client_at s c).phase ≢ Waiting
  pub after : client.phase ≢ Waiting
  pub well : IsWell plan most c client
  pub covered : (t : TupleId) → (seen_at z.store t).stamp.number ≤ most
  pub cold : ColdFacts plan (client_at z) z.store (answered_ones s.history)

module _ (plan : Plan) (s : State) (most : ℕ) (c : ℕ) (lt : c < length s.clients) (z : State) (move : IsMoveOf plan s most c z) where
  now_there : client_at z c ≡ move.client
  now_there = ap (λ (l : List ClientState). get_or l c (at_item 0 1 zero_stamp)) move.clients ∙ moved_client s.clients c move.client lt

  stays : OthersStay c (client_at s) (client_at z)
  stays d n = ap (λ (l : List ClientState). get_or l d (at_item 0 1 zero_stamp)) move.clients ∙ others_stay s.clients c move.client d n

  pub facts_moved : HostFacts plan most (client_at s) s.store s.history → HostFacts plan most (client_at z) z.store z.history
  facts_moved facts = subst (HostFacts plan most (client_at z) z.store) (sym move.history)
      (facts_by_client plan (client_at s) (client_at z) s.store z.store s.history most c stays (subst (IsWell plan most c) (sym now_there) move.well) move.covered move.cold facts)

  pub holds_moved : (holds : Holds plan s) → most ≡ length (entered holds.now) → Holds plan z
  holds_moved holds count = record {
    now = holds.now;
    up = move.switch ∙ holds.up;
    reached = holds.reached;
    desks = holds.desks ∙ sym (ap length move.clients ∙ length-set s.clients c move.client);
    ties =
        let facts = host_facts plan (client_at s) s.store s.history (desk_at holds.now) (entered holds.now) holds.ties in
        let moved = facts_by_client plan (client_at s) (client_at z) s.store z.store s.history most c stays (subst (IsWell plan most c) (sym now_there) move.well) move.covered move.cold
        (subst (λ (n : ℕ). HostFacts plan n (client_at s) s.store s.history) (sym count) facts) in
        subst (λ (h : History). Ties plan (client_at z) z.store h (desk_at holds.now) (entered holds.now)) (sym move.history)
        (ties_by_client plan (client_at s) (client_at z) s.store z.store s.history (desk_at holds.now) (entered holds.now) c stays move.before
        (λ e. move.after (ap (λ (w : ClientState). w.phase) (sym now_there) ∙ e)) holds.ties (subst (λ (n : ℕ). HostFacts plan n (client_at z) z.store s.history) count moved));
  }

module _ (plan : Plan) (distinct : (c seq : ℕ) → IsDistinct (script_at plan c seq)) (s : State) (c : ℕ) (lt : c < length s.clients) (most : ℕ) (facts : HostFacts plan most (client_at s) s.store s.history) where
  abbrev x : ClientState
  x = client_at s c

  cold_before : ColdFacts plan (client_at s) s.store (answered_ones s.history)
  cold_before = facts.cold

  mine : (z : State) (y : ClientState) → z.clients ≡ set s.clients c y → client_at z c ≡ y
  mine z y clients = ap (λ (l : List ClientState). get_or l c (at_item 0 1 zero_stamp)) clients ∙ moved_client s.clients c y lt

  others : (z : State) (y : ClientState) → z.clients ≡ set s.clients c y → OthersStay c (client_at s) (client_at z)
  others z y clients d n = ap (λ (l : List ClientState). get_or l d (at_item 0 1 zero_stamp)) clients ∙ others_stay s.clients c y d n

  moves_by_client : (z : State) (y : ClientState) → z.clients ≡ set s.clients c y → z.switch ≡ s.switch → z.history ≡ s.history → x.phase ≢ Waiting → y.phase ≢ Waiting → IsWell plan most c y
      → ((t : TupleId) → (seen_at z.store t).stamp.number ≤ most) → ColdFacts plan (client_at z) z.store (answered_ones s.history) → IsMoveOf plan s most c z
  moves_by_client z y clients switch history before after well covered cold =
      record { client = y; clients = clients; switch = switch; history = history; before = before; after = after; well = well; covered = covered; cold = cold }

  noted_covered : AllByRecursion (λ seen. seen.stamp.number ≤ most) x.noted
  noted_covered = facts.covered.noted c

  -- an operation on a host is on no tuple in the switch
  host_of : (k : ℕ) (op : Op) → slice_get (cold_ops plan.layout (script_now plan c x)) k ≡ Some op → is_hot plan.layout op.tuple ≡ false
  host_of k op is = not_hot (is_hot plan.layout op.tuple) (among (λ (o : Op). not (is_hot plan.layout o.tuple)) (script_now plan c x) k op is).passes
    where
      not_hot : (b : Bool) → not b ≡ true → b ≡ false
      not_hot true e = sym e
      not_hot false e = refl

  -- a client that asks has installed nothing and waits for nothing
  asks_fit : IsAsking x → (x.installed ≡ 0) × (length x.noted ≤ length (cold_ops plan.layout (script_now plan c x)))
  asks_fit (inl is) = let fit : FitsPhase plan c x Ready = subst (λ (p : Phase). FitsPhase plan c x p) is (cold_before.fits c) in (fit.1, omega (arith, ap length fit.0))
  asks_fit (inr is) = let fit : FitsPhase plan c x Locking = subst (λ (p : Phase). FitsPhase plan c x p) is (cold_before.fits c) in (fit.1, fit.0)

  not_in : (p : Phase) → (Ready ≡ p → ⊥) → (Locking ≡ p → ⊥) → IsAsking x → x.phase ≢ p
  not_in p ready locking (inl is) e = ready (sym is ∙ e)
  not_in p ready locking (inr is) e = locking (sym is ∙ e)

  asks_undecided : IsAsking x → x.phase ≢ Installing
  asks_undecided = not_in Installing (λ e. cc) (λ e. cc)

  asks_not_waiting : IsAsking x → x.phase ≢ Waiting
  asks_not_waiting = not_in Waiting (λ e. cc) (λ e. cc)

  pub granted_moves : (op : Op) → IsAsking x → next_op plan c x ≡ Some op → holder plan s c op ≡ None → IsMoveOf plan s most c (granted s c x op)
  unfolding granted
  granted_moves op asks next free =
      moves_by_client (granted s c x op) y refl refl refl (asks_not_waiting asks) (λ e. cc) (record {
        installs = λ e. cc;
        hot = λ e. absurd (neither e);
        last = facts.covered.last c;
        noted = all_append (λ seen. seen.stamp.number ≤ most) x.noted (seen_at s.store op.tuple ∷ []) noted_covered (facts.covered.store_has op.tuple, tt);
      }) facts.covered.store_has
      (kept_by_grant plan (client_at s) (client_at (granted s c x op)) s.store (answered_ones s.history) c op (others (granted s c x op) y refl) (mine (granted s c x op) y refl) (asks_undecided asks) (asks_fit asks).0 next
      no_clash (host_of (length x.noted) op next) cold_before)
    where
      y : ClientState
      y = record x { phase = Locking; noted = x.noted ++ seen_at s.store op.tuple ∷ [] }

      neither : (Locking ≡ Logged) ⊎ (Locking ≡ Waiting) → ⊥
      neither (inl e) = cc
      neither (inr e) = cc

      no_clash : (d j : ℕ) (other : Op) → d ≢ c → Stands plan d (client_at s d) j other → clashes op other ≡ false
      no_clash d j other n st =
          let same : d ≡ 0 + d = omega arith in
          free_from plan c op 0 s.clients free d j other (subst (λ (m : ℕ). m ≢ c) same n) (subst (λ (m : ℕ). Stands plan m (client_at s d) j other) same st)

  -- a client that ends a try, or holds fewer locks
  fewer_moves : (z : State) (y : ClientState) → z.clients ≡ set s.clients c y → z.switch ≡ s.switch → z.history ≡ s.history → z.store ≡ s.store → x.phase ≢ Waiting → x.phase ≢ Installing → Fewer plan c x y → IsMoveOf plan s most c z
  fewer_moves z y clients switch history store before undecided fewer =
      moves_by_client z y clients switch history before fewer.quiet.waiting (record {
        installs = λ e. absurd (fewer.quiet.installing e);
        hot = λ e. absurd (neither e);
        last = subst (λ st. st.number ≤ most) (sym fewer.last) (facts.covered.last c);
        noted = fewer.noted most noted_covered;
      }) (subst (λ (m : Store). (t : TupleId) → (seen_at m t).stamp.number ≤ most) (sym store) facts.covered.store_has)
      (subst (λ (m : Store). ColdFacts plan (client_at z) m (answered_ones s.history)) (sym store)
      (kept_by_fewer plan (client_at s) (client_at z) s.store (answered_ones s.history) c (others z y clients) new.keeps undecided new.quiet.installing new.fit new.last cold_before))
    where
      new : Fewer plan c x (client_at z c)
      new = subst (Fewer plan c x) (sym (mine z y clients)) fewer

      neither : (y.phase ≡ Logged) ⊎ (y.phase ≡ Waiting) → ⊥
      neither (inl e) = fewer.quiet.logged e
      neither (inr e) = fewer.quiet.waiting e

  pub refused_moves : (op : Op) (by : ℕ) → IsAsking x → IsMoveOf plan s most c (refused plan s c x op by)
  unfolding refused
  refused_moves op by asks =
      fewer_moves (refused plan s c x op by) (aborting plan c x x.noted) refl refl refl refl (asks_not_waiting asks) (asks_undecided asks)
      (aborts plan c x x.noted (whole_front x.noted) (λ n all. all) (asks_fit asks).0 (asks_fit asks).1)

  pub released_moves : x.phase ≡ Aborting → IsMoveOf plan s most c (released plan s c x)
  unfolding released
  released_moves is =
      let fit : FitsPhase plan c x Aborting = subst (λ (p : Phase). FitsPhase plan c x p) is (cold_before.fits c) in
      fewer_moves (released plan s c x) (aborting plan c x (take (length x.noted - 1) x.noted)) refl refl refl refl (λ e. let clash : Aborting ≡ Waiting = sym is ∙ e in cc) (λ e. let clash : Aborting ≡ Installing = sym is ∙ e in cc)
      (aborts plan c x (take (length x.noted - 1) x.noted) (front_taken (length x.noted - 1) x.noted) (all_taken (length x.noted - 1) x.noted) fit.0 fit.2)

  pub logged_moves : IsAsking x → next_op plan c x ≡ None → has_hot plan (script_now plan c x) ≡ true → IsMoveOf plan s most c (logged plan s c x)
  unfolding logged
  logged_moves asks next hot =
      moves_by_client (logged plan s c x) y refl refl refl (asks_not_waiting asks) (λ e. cc) (record { installs = λ e. cc; hot = λ e. hot; last = facts.covered.last c; noted = noted_covered }) facts.covered.store_has
      (kept_by_fewer plan (client_at s) (client_at (logged plan s c x)) s.store (answered_ones s.history) c (others (logged plan s c x) y refl)
      (subst (KeepsLocks plan c x) (sym same) (record { lock = λ k op st. record { from = st.from; to = st.to; is = st.is }; noted = λ k seen op st at. at })) (asks_undecided asks)
      (λ e. let clash : Logged ≡ Installing = ap (λ (w : ClientState). w.phase) (sym same) ∙ e in cc)
      (subst (λ (w : ClientState). FitsPhase plan c w w.phase) (sym same) (omega (arith, (asks_fit asks).1, past_none (cold_ops plan.layout (script_now plan c x)) (length x.noted) next), (asks_fit asks).0))
      (ap (λ (w : ClientState). w.last) same) cold_before)
    where
      y : ClientState
      y = record x { phase = Logged }

      same : client_at (logged plan s c x) c ≡ y
      same = mine (logged plan s c x) y refl

  number_of_greater : (a b : Stamp) → a.number ≤ most → b.number ≤ most → (greater a b).number ≤ most
  number_of_greater a b low high = by (is_lt (stamp_cmp a b))
    where
      by : (t : Bool) → (if t then b else a).number ≤ most
      by true = high
      by false = low

  store_after : (t : TupleId) (value : ℤ) (u : TupleId) → (seen_at (hosts.installed s.store t value x.last) u).stamp.number ≤ most
  store_after t value u =
      subst (λ (seen : Seen). seen.stamp.number ≤ most) (sym (seen_at-insert s.store t (record { value = value; stamp = greater (seen_at s.store t).stamp x.last }) u)) (by (t.0 == u.0))
    where
      by : (b : Bool) → (if b then record { value = value; stamp = greater (seen_at s.store t).stamp x.last } else seen_at s.store u).stamp.number ≤ most
      by true = number_of_greater (seen_at s.store t).stamp x.last (facts.covered.store_has t) (facts.covered.last c)
      by false = facts.covered.store_has u

  pub installed_moves : (p : Step) → x.phase ≡ Installing → slice_get (steps_now plan c x) x.installed ≡ Some p → IsMoveOf plan s most c (installed plan s c x p)
  unfolding installed
  installed_moves p is here =
      moves_by_client (installed plan s c x p) y refl refl refl (λ e. let clash : Installing ≡ Waiting = sym is ∙ e in cc) next.waiting (record {
        installs = next.installs;
        hot = λ e. absurd (neither e);
        last = subst (λ st. st.number ≤ most) (sym next.last) (facts.covered.last c);
        noted = next.noted most noted_covered;
      }) (store_after p.0.tuple p.1.now)
      (kept_by_installation plan (client_at s) (client_at (installed plan s c x p)) s.store (answered_ones s.history) c p.0 p.1 (others (installed plan s c x p) y refl) is here stands note.0 note.1 cold_before
      new.fit new.last new.keeps new.later new.still new.same_steps apart changes)
    where
      fit : FitsPhase plan c x Installing
      fit = subst (λ (q : Phase). FitsPhase plan c x q) is (cold_before.fits c)

      room : x.installed < length x.noted
      room = facts.installs c is

      y : ClientState
      y = installed_one plan c x (length (steps_now plan c x))

      next : IsInstalled plan c x y
      next = installs plan c x is fit room

      new : IsInstalled plan c x (client_at (installed plan s c x p) c)
      new = subst (IsInstalled plan c x) (sym (mine (installed plan s c x p) y refl)) next

      neither : (y.phase ≡ Logged) ⊎ (y.phase ≡ Waiting) → ⊥
      neither (inl e) = next.logged e
      neither (inr e) = next.waiting e

      note : (seen : Seen) × (slice_get x.noted x.installed ≡ Some seen)
      note = item_at_place x.noted x.installed room

      op_here : slice_get (cold_ops plan.layout (script_now plan c x)) x.installed ≡ Some p.0
      op_here = cold_op_at plan.layout (script_now plan c x) x.reply x.installed p.0 p.1 here

      stands : Stands plan c x x.installed p.0
      stands = record { from = omega arith; to = room; is = op_here }

      apart : (k : ℕ) (o : Op) → Stands plan c x k o → x.installed < k → (p.0.tuple.0 == o.tuple.0) ≡ false
      apart k o st low = distinct_places (cold_ops plan.layout (script_now plan c x)) x.installed k p.0 o (distinct_on_hosts plan.layout (script_now plan c x) (distinct c x.seq)) low op_here st.is

      changes : writes (script_now plan c x) p.0.tuple ≡ true → is_read p.0.act ≡ false
      changes w =
          let a = among (λ (o : Op). not (is_hot plan.layout o.tuple)) (script_now plan c x) x.installed p.0 op_here in
          writes_by (script_now plan c x) p.0.tuple a.place p.0 (distinct c x.seq) a.there (itself p.0.tuple.0) w
        where
          itself : (n : ℕ) → (n == n) ≡ true
          itself n = grind arith

  -- a client that has nothing locked goes on to its next item
  pub skipped_moves : x.phase ≡ Ready → IsMoveOf plan s most c (moved s c (next_item plan c x))
  skipped_moves is =
      fewer_moves (moved s c (next_item plan c x)) (next_item plan c x) refl refl refl refl (λ e. let clash : Ready ≡ Waiting = sym is ∙ e in cc) (λ e. let clash : Ready ≡ Installing = sym is ∙ e in cc)
      (at_beginning plan c (length (items_of plan c)) (x.seq + 1) x)
