-- A lock table that has the clients' locks: who is in the way, and how it follows each move.
use Rattle.std.proofs.Common.{◌≡◌, ◌≢◌, ℕ, zero, suc, ◌+◌, ◌-◌, ◌<◌, ◌==◌, ◌&&◌, ◌||◌, Bool, true, false, not, List, [], ◌∷◌, ◌++◌, length, take, drop, set, get_or, slice_get, Option, Some, None, if◌then◌else◌, inl, inr, refl, sym, ap, subst, ◌∙◌, arith, length-append}
use Rattle.std.specs.List.{list_any}
use Rattle.std.proofs.lemmas.Bool.Decides.{nat_tests}
use Rattle.std.proofs.lemmas.List.{drop_all, length-take-le}
use Rattle.txn_model.specs.ScriptCheck.{names, is_read}
use Rattle.txn_model.specs.declared.op.Op.{Op}
use Rattle.txn_model.specs.declared.op.TupleId.{TupleId}
use Rattle.txn_model.specs.declared.pairs.Pair.{Pair}
use Rattle.txn_model.specs.declared.stamp.Seen.{Seen}
use Rattle.txn_model.specs.declared.stamp.Stamp.{Stamp}
use Rattle.switch_packet.specs.Packets.{PlainPacket}
use Rattle.switch_model.specs.Switch.{Switch, Answer}
use Rattle.warm_split.specs.Joined.{joined}
use Rattle.fabric_model.specs.Intents.{values_of}
use Rattle.history_model.specs.Chain.{Step}
use Rattle.stage_layout.specs.declared.layout.LayoutRow.{LayoutRow}
use Rattle.stage_layout.specs.Late.{is_hot}
use Rattle.catalogue.specs.Plan.{Plan, PlainItem}
use Rattle.host_locks.specs.Conflict.{conflicts, stops, IsFree, IsLeastInTheWay}
use Rattle.host_locks.specs.Locks as tables
use Rattle.host_locks.specs.Locks.{Locks, mode_held, IsWithLock, IsTried}
use Rattle.host_locks.specs.declared.mode.Grant.{Grant}
use Rattle.host_locks.specs.declared.mode.Grant.TheVariants.{Granted, HeldBy}
use Rattle.host_locks.specs.declared.mode.Mode.{Mode}
use Rattle.host_locks.specs.declared.mode.Mode.TheVariants.{Shared, Exclusive}
use Rattle.core_model.specs.declared.phase.Phase.TheVariants.{Ready, Locking, Aborting, Installing}
use Rattle.core_model.specs.State.{ClientState, at_item, seen_at, script_now, zero_stamp}
use Rattle.core_model.specs.Facts.{steps_now}
use Rattle.core_model.specs.Locks.{cold_ops, clashes, held}
use Rattle.core_model.specs.Run.{first_clients}
use Rattle.core_model.specs.Step.{aborting, try_ended, next_item, installed_one}
use Rattle.core_model.proofs.Fewer.{same_or_not}
use Rattle.core_model.proofs.Holders.{holder_of_least, holder_of_free}
use Rattle.core_model.proofs.Moves.{moved_client, others_stay}
use Rattle.core_model.proofs.Decided.{IsDistinct, or_false, same_names}
use Rattle.core_model.proofs.Granted.{differ, joined_tests, named_by, turned_test}
use Rattle.core_model.proofs.StepsOf.{unless}
use Rattle.fabric_model.specs.Asking.{in_the_way}
use Rattle.fabric_model.specs.ColdFacts.{FitsPhase}
use Rattle.fabric_model.specs.Run.{opening}
use Rattle.fabric_model.specs.State.{State, client_at}
use Rattle.fabric_model.specs.Step.{lost, granted, refused, asked, released, decided, logged, posted, replied, taken, installed, switched, entered, holder, next_op}
use Rattle.fabric_core.specs.Held.{HasLocks, mode_of, lock_of}
use Rattle.fabric_core.proofs.ColdOps.{cold_op_at}

turned : (a b : ℕ) → (a == b) ≡ (b == a)
turned a b = grind (arith, nat_tests)

itself : (n : ℕ) → (n == n) ≡ true
itself n = grind arith

-- a part of a script with distinct tuples has distinct tuples

names_taken : (n : ℕ) (ops : List Op) (t : TupleId) → names ops t ≡ false → names (take n ops) t ≡ false
names_taken zero ops t none = refl
names_taken (suc n) [] t none = refl
names_taken (suc n) (op ∷ ops) t none =
    let parts = or_false (op.tuple.0 == t.0) (names ops t) none in
    ap (λ (b : Bool). b || names (take n ops) t) parts.0 ∙ names_taken n ops t parts.1

distinct_taken : (n : ℕ) (ops : List Op) → IsDistinct ops → IsDistinct (take n ops)
distinct_taken zero ops distinct = tt
distinct_taken (suc n) [] distinct = tt
distinct_taken (suc n) (op ∷ ops) distinct = (names_taken n ops op.tuple distinct.0, distinct_taken n ops distinct.1)

distinct_dropped : (n : ℕ) (ops : List Op) → IsDistinct ops → IsDistinct (drop n ops)
distinct_dropped zero ops distinct = distinct
distinct_dropped (suc n) [] distinct = tt
distinct_dropped (suc n) (op ∷ ops) distinct = distinct_dropped n ops distinct.1

names_cold : (rows : List LayoutRow) (ops : List Op) (t : TupleId) → names ops t ≡ false → names (cold_ops rows ops) t ≡ false
names_cold rows [] t none = refl
names_cold rows (op ∷ ops) t none =
    let parts = or_false (op.tuple.0 == t.0) (names ops t) none in
    by (is_hot rows op.tuple) parts.0 (names_cold rows ops t parts.1)
  where
    by : (b : Bool) → (op.tuple.0 == t.0) ≡ false → names (cold_ops rows ops) t ≡ false → names (if not b then op ∷ cold_ops rows ops else cold_ops rows ops) t ≡ false
    by true first rest = rest
    by false first rest = ap (λ (b : Bool). b || names (cold_ops rows ops) t) first ∙ rest

distinct_cold : (rows : List LayoutRow) (ops : List Op) → IsDistinct ops → IsDistinct (cold_ops rows ops)
distinct_cold rows [] distinct = tt
distinct_cold rows (op ∷ ops) distinct = by (is_hot rows op.tuple) (names_cold rows ops op.tuple distinct.0) (distinct_cold rows ops distinct.1)
  where
    by : (b : Bool) → names (cold_ops rows ops) op.tuple ≡ false → IsDistinct (cold_ops rows ops) → IsDistinct (if not b then op ∷ cold_ops rows ops else cold_ops rows ops)
    by true first rest = rest
    by false first rest = (first, rest)

pub held_distinct : (plan : Plan) (c : ℕ) (x : ClientState) → IsDistinct (script_now plan c x) → IsDistinct (held plan c x)
held_distinct plan c x distinct = distinct_dropped x.installed _ (distinct_taken (length x.noted) _ (distinct_cold plan.layout (script_now plan c x) distinct))

-- the lock on a tuple that no operation names

pub lock_of-absent : (ops : List Op) (t : TupleId) → names ops t ≡ false → lock_of ops t ≡ None
lock_of-absent [] t none = refl
lock_of-absent (op ∷ ops) t none =
    let parts = or_false (op.tuple.0 == t.0) (names ops t) none in
    ap (λ (b : Bool). if b then Some (mode_of op) else lock_of ops t) parts.0 ∙ lock_of-absent ops t parts.1

-- an operation behind another one is on another tuple
apart : (o : Op) (ops : List Op) (n : ℕ) (op : Op) → names ops o.tuple ≡ false → slice_get ops n ≡ Some op → (o.tuple.0 == op.tuple.0) ≡ false
apart o ops n op none at = unless (o.tuple.0 == op.tuple.0) (λ same. differ (named_by ops o.tuple n op at (turned_test o.tuple.0 op.tuple.0 same)) none)

not_before : (ops : List Op) (n : ℕ) (op : Op) → IsDistinct ops → slice_get ops n ≡ Some op → names (take n ops) op.tuple ≡ false
not_before [] n op distinct at = cc
not_before (o ∷ ops) zero op distinct at = refl
not_before (o ∷ ops) (suc n) op distinct at = ap (λ (b : Bool). b || names (take n ops) op.tuple) (apart o ops n op distinct.0 at) ∙ not_before ops n op distinct.1 at

-- the locks with one more operation
lock_next : (ops : List Op) (n : ℕ) (op : Op) (t : TupleId) → IsDistinct ops → slice_get ops n ≡ Some op
    → lock_of (take (suc n) ops) t ≡ (if t.0 == op.tuple.0 then Some (mode_of op) else lock_of (take n ops) t)
lock_next [] n op t distinct at = cc
lock_next (o ∷ ops) zero op t distinct at =
    let same : o ≡ op = cc in
    ap (λ (x : Op). if x.tuple.0 == t.0 then Some (mode_of x) else None) same ∙ ap (λ (b : Bool). if b then Some (mode_of op) else None) (turned op.tuple.0 t.0)
lock_next (o ∷ ops) (suc n) op t distinct at =
    ap (λ (m : Option Mode). if o.tuple.0 == t.0 then Some (mode_of o) else m) (lock_next ops n op t distinct.1 at)
    ∙ swap (o.tuple.0 == t.0) (t.0 == op.tuple.0) (Some (mode_of o)) (Some (mode_of op)) (lock_of (take n ops) t)
    (λ e f. differ (joined_tests o.tuple.0 t.0 op.tuple.0 e (turned_test t.0 op.tuple.0 f)) (apart o ops n op distinct.0 at))
  where
    swap : (a b : Bool) (p q r : Option Mode) → (a ≡ true → b ≡ true → ⊥) → (if a then p else (if b then q else r)) ≡ (if b then q else (if a then p else r))
    swap true true p q r f = absurd (f refl refl)
    swap true false p q r f = refl
    swap false b p q r f = refl

lock_of-last : (ops : List Op) (n : ℕ) (op : Op) → IsDistinct ops → slice_get ops n ≡ Some op → lock_of (take (suc n) ops) op.tuple ≡ Some (mode_of op)
lock_of-last ops n op distinct at = lock_next ops n op op.tuple distinct at ∙ ap (λ (b : Bool). if b then Some (mode_of op) else lock_of (take n ops) op.tuple) (itself op.tuple.0)

-- the locks without the last operation
lock_before : (ops : List Op) (n : ℕ) (op : Op) (t : TupleId) → IsDistinct ops → slice_get ops n ≡ Some op
    → lock_of (take n ops) t ≡ (if t.0 == op.tuple.0 then None else lock_of (take (suc n) ops) t)
lock_before ops n op t distinct at = by (t.0 == op.tuple.0) refl
  where
    by : (b : Bool) → (t.0 == op.tuple.0) ≡ b → lock_of (take n ops) t ≡ (if b then None else lock_of (take (suc n) ops) t)
    by true e = lock_of-absent (take n ops) t (same_names (take n ops) op.tuple t (turned_test t.0 op.tuple.0 e) (not_before ops n op distinct at))
    by false e = sym (lock_next ops n op t distinct at ∙ ap (λ (b : Bool). if b then Some (mode_of op) else lock_of (take n ops) t) e)

-- the locks without the first operation
lock_behind : (ops : List Op) (i : ℕ) (op : Op) (t : TupleId) → IsDistinct ops → slice_get ops i ≡ Some op
    → lock_of (drop (suc i) ops) t ≡ (if t.0 == op.tuple.0 then None else lock_of (drop i ops) t)
lock_behind [] i op t distinct at = cc
lock_behind (o ∷ ops) zero op t distinct at = by (t.0 == op.tuple.0) refl
  where
    same : o ≡ op
    same = cc

    here : (o.tuple.0 == t.0) ≡ (t.0 == op.tuple.0)
    here = ap (λ (x : Op). x.tuple.0 == t.0) same ∙ turned op.tuple.0 t.0

    by : (b : Bool) → (t.0 == op.tuple.0) ≡ b → lock_of ops t ≡ (if b then None else lock_of (o ∷ ops) t)
    by true e = lock_of-absent ops t (same_names ops o.tuple t (here ∙ e) distinct.0)
    by false e = sym (ap (λ (b : Bool). if b then Some (mode_of o) else lock_of ops t) (here ∙ e))
lock_behind (o ∷ ops) (suc i) op t distinct at = lock_behind ops i op t distinct.1 at

lock_of-first : (ops : List Op) (i : ℕ) (op : Op) → slice_get ops i ≡ Some op → lock_of (drop i ops) op.tuple ≡ Some (mode_of op)
lock_of-first [] i op at = cc
lock_of-first (o ∷ ops) zero op at =
    let same : o ≡ op = cc in
    ap (λ (x : Op). if x.tuple.0 == op.tuple.0 then Some (mode_of x) else lock_of ops op.tuple) same ∙ ap (λ (b : Bool). if b then Some (mode_of op) else lock_of ops op.tuple) (itself op.tuple.0)
lock_of-first (o ∷ ops) (suc i) op at = lock_of-first ops i op at

-- who is in the way

no_clash : (op : Op) (ops : List Op) → names ops op.tuple ≡ false → list_any (clashes op) ops ≡ false
no_clash op [] none = refl
no_clash op (o ∷ ops) none =
    let parts = or_false (o.tuple.0 == op.tuple.0) (names ops op.tuple) none in
    ap (λ (b : Bool). b && not (is_read op.act && is_read o.act) || list_any (clashes op) ops) (turned op.tuple.0 o.tuple.0 ∙ parts.0) ∙ no_clash op ops parts.1

-- a client's lock stops an operation where it holds one that clashes
pub stops-lock_of : (op : Op) (ops : List Op) → IsDistinct ops → stops (mode_of op) (lock_of ops op.tuple) ≡ list_any (clashes op) ops
stops-lock_of op [] distinct = refl
stops-lock_of op (o ∷ ops) distinct = by (o.tuple.0 == op.tuple.0) refl (stops-lock_of op ops distinct.1)
  where
    modes : (r q : Bool) → conflicts (if r then Shared else Exclusive) (if q then Shared else Exclusive) ≡ (not (r && q) || false)
    modes true true = refl
    modes true false = refl
    modes false true = refl
    modes false false = refl

    clash : (b : Bool) → (o.tuple.0 == op.tuple.0) ≡ b → (b && not (is_read op.act && is_read o.act) || list_any (clashes op) ops) ≡ list_any (clashes op) (o ∷ ops)
    clash b e = ap (λ (a : Bool). a && not (is_read op.act && is_read o.act) || list_any (clashes op) ops) (sym e ∙ turned o.tuple.0 op.tuple.0)

    by : (b : Bool) → (o.tuple.0 == op.tuple.0) ≡ b → stops (mode_of op) (lock_of ops op.tuple) ≡ list_any (clashes op) ops
        → stops (mode_of op) (if b then Some (mode_of o) else lock_of ops op.tuple) ≡ list_any (clashes op) (o ∷ ops)
    by true e rest =
        modes (is_read op.act) (is_read o.act)
        ∙ ap (λ (b : Bool). not (is_read op.act && is_read o.act) || b) (sym (no_clash op ops (same_names ops o.tuple op.tuple e distinct.0)))
        ∙ clash true e
    by false e rest = rest ∙ clash false e

-- a client stands in the way in the table where it does in the model
same_way : (plan : Plan) (s : State) (locks : Locks) (op : Op) → HasLocks plan s locks → ((d : ℕ) → IsDistinct (script_now plan d (client_at s d))) → (d : ℕ) → tables.in_the_way locks op.tuple (mode_of op) d ≡ in_the_way plan s op d
same_way plan s locks op has distinct d = ap (stops (mode_of op)) (has op.tuple d) ∙ stops-lock_of op (held plan d (client_at s d)) (held_distinct plan d (client_at s d) (distinct d))

-- the client that the table finds in the way is the one that the model finds
pub holder_same : (plan : Plan) (s : State) (locks : Locks) (c : ℕ) (op : Op) (by : ℕ) → HasLocks plan s locks → ((d : ℕ) → IsDistinct (script_now plan d (client_at s d)))
    → IsLeastInTheWay (tables.in_the_way locks op.tuple (mode_of op)) c by → holder plan s c op ≡ Some by
holder_same plan s locks c op by has distinct least =
    let same = same_way plan s locks op has distinct in
    holder_of_least plan s.clients c op by (record { another = least.another; conflict = sym (same by) ∙ least.conflict; least = λ d lt n. sym (same d) ∙ least.least d lt n })

pub free_same : (plan : Plan) (s : State) (locks : Locks) (c : ℕ) (op : Op) → HasLocks plan s locks → ((d : ℕ) → IsDistinct (script_now plan d (client_at s d)))
    → IsFree (tables.in_the_way locks op.tuple (mode_of op)) c → holder plan s c op ≡ None
free_same plan s locks c op has distinct free = holder_of_free plan s.clients c op (λ d n. sym (same_way plan s locks op has distinct d) ∙ free d n)

-- moves: a client's locks before one

pub held_at_start : (plan : Plan) (c : ℕ) (x : ClientState) → x.installed ≡ 0 → held plan c x ≡ take (length x.noted) (cold_ops plan.layout (script_now plan c x))
held_at_start plan c x none = ap (λ (n : ℕ). drop n (take (length x.noted) (cold_ops plan.layout (script_now plan c x)))) none

-- the tuple of the operation whose lock a client asks for next is none that it holds
pub free_when_next : (plan : Plan) (c : ℕ) (x : ClientState) (op : Op) → next_op plan c x ≡ Some op → x.installed ≡ 0 → IsDistinct (script_now plan c x) → lock_of (held plan c x) op.tuple ≡ None
free_when_next plan c x op next none distinct =
    let cold = cold_ops plan.layout (script_now plan c x) in
    ap (λ (ops : List Op). lock_of ops op.tuple) (held_at_start plan c x none)
    ∙ lock_of-absent (take (length x.noted) cold) op.tuple (not_before cold (length x.noted) op (distinct_cold plan.layout (script_now plan c x) distinct) next)

pub table_free_when_next : (plan : Plan) (s : State) (locks : Locks) (c : ℕ) (op : Op) → HasLocks plan s locks → next_op plan c (client_at s c) ≡ Some op → (client_at s c).installed ≡ 0 → IsDistinct (script_now plan c (client_at s c))
    → mode_held locks op.tuple c ≡ None
table_free_when_next plan s locks c op has next none distinct = has op.tuple c ∙ free_when_next plan c (client_at s c) op next none distinct

-- the lock that a client took last; the operation is that at this place of those on hosts
pub held_last : (plan : Plan) (c : ℕ) (x : ClientState) (op : Op) → slice_get (cold_ops plan.layout (script_now plan c x)) (length x.noted - 1) ≡ Some op → 0 < length x.noted → x.installed ≡ 0 → IsDistinct (script_now plan c x)
    → lock_of (held plan c x) op.tuple ≡ Some (mode_of op)
held_last plan c x op at some none distinct =
    let cold = cold_ops plan.layout (script_now plan c x) in
    let all : length x.noted ≡ suc (length x.noted - 1) = omega arith in
    ap (λ (ops : List Op). lock_of ops op.tuple) (held_at_start plan c x none ∙ ap (λ (n : ℕ). take n cold) all)
    ∙ lock_of-last cold (length x.noted - 1) op (distinct_cold plan.layout (script_now plan c x) distinct) at

at_taken : (n : ℕ) (ops : List Op) (i : ℕ) (op : Op) → i < n → slice_get ops i ≡ Some op → slice_get (take n ops) i ≡ Some op
at_taken zero ops i op lt at = absurd (omega arith)
at_taken (suc n) [] i op lt at = cc
at_taken (suc n) (o ∷ ops) zero op lt at = at
at_taken (suc n) (o ∷ ops) (suc i) op lt at = at_taken n ops i op (omega arith) at

pub held_first : (plan : Plan) (c : ℕ) (x : ClientState) (step : Step) → slice_get (steps_now plan c x) x.installed ≡ Some step → x.installed < length x.noted → lock_of (held plan c x) step.0.tuple ≡ Some (mode_of step.0)
held_first plan c x step at some =
    let cold = cold_ops plan.layout (script_now plan c x) in
    lock_of-first (take (length x.noted) cold) x.installed step.0 (at_taken (length x.noted) cold x.installed step.0 some (cold_op_at plan.layout (script_now plan c x) x.reply x.installed step at))

-- moves: the table follows the client that moves

module _ (plan : Plan) (s after : State) (c : ℕ) (y : ClientState) (clients : after.clients ≡ set s.clients c y) (within : c < length s.clients) (locks : Locks) (has : HasLocks plan s locks) where
  mine : client_at after c ≡ y
  mine = ap (λ (l : List ClientState). get_or l c (at_item 0 1 zero_stamp)) clients ∙ moved_client s.clients c y within

  other : (d : ℕ) → d ≢ c → client_at after d ≡ client_at s d
  other d n = ap (λ (l : List ClientState). get_or l d (at_item 0 1 zero_stamp)) clients ∙ others_stay s.clients c y d n

  follows : (now : Locks) → ((t : TupleId) → mode_held now t c ≡ lock_of (held plan c y) t) → ((t : TupleId) (d : ℕ) → d ≢ c → mode_held now t d ≡ mode_held locks t d) → HasLocks plan after now
  follows now own others t d = elim (same_or_not d c) [
    | inl e ↦ subst (λ (n : ℕ). mode_held now t n ≡ lock_of (held plan n (client_at after n)) t) (sym e) (own t ∙ ap (λ (x : ClientState). lock_of (held plan c x) t) (sym mine))
    | inr n ↦ others t d n ∙ has t d ∙ ap (λ (x : ClientState). lock_of (held plan d x) t) (sym (other d n))
  ]

  -- the client's locks stay as they are
  same_locks : held plan c y ≡ held plan c (client_at s c) → HasLocks plan after locks
  same_locks same = follows locks (λ t. has t c ∙ ap (λ (ops : List Op). lock_of ops t) (sym same)) (λ t d n. refl)

  -- one of them changes
  changed_lock : (now : Locks) (tuple : TupleId) (mode : Option Mode) → IsWithLock locks now tuple c mode
      → ((t : TupleId) → lock_of (held plan c y) t ≡ (if t.0 == tuple.0 then mode else lock_of (held plan c (client_at s c)) t)) → HasLocks plan after now
  changed_lock now tuple mode with_lock is =
      follows now
      (λ t. with_lock.held t c
      ∙ own (t.0 == tuple.0) (c == c) (mode_held locks t c) (itself c)
      ∙ ap (λ (m : Option Mode). if t.0 == tuple.0 then mode else m) (has t c)
      ∙ sym (is t))
      (λ t d n. with_lock.held t d ∙ others (t.0 == tuple.0) (d == c) (mode_held locks t d) (differs d c n))
    where
      own : (a b : Bool) (r : Option Mode) → b ≡ true → (if a && b then mode else r) ≡ (if a then mode else r)
      own true true r e = refl
      own true false r e = cc
      own false b r e = refl

      others : (a b : Bool) (r : Option Mode) → b ≡ false → (if a && b then mode else r) ≡ r
      others true true r e = cc
      others true false r e = refl
      others false b r e = refl

      differs : (a b : ℕ) → a ≢ b → (a == b) ≡ false
      differs a b n = grind (arith, nat_tests)

pub locks_granted : (plan : Plan) (s : State) (locks now : Locks) (c : ℕ) (op : Op) → HasLocks plan s locks → IsWithLock locks now op.tuple c (Some (mode_of op)) → c < length s.clients
    → next_op plan c (client_at s c) ≡ Some op → (client_at s c).installed ≡ 0 → IsDistinct (script_now plan c (client_at s c)) → HasLocks plan (granted s c (client_at s c) op) now
unfolding granted
locks_granted plan s locks now c op has with_lock within next none distinct =
    changed_lock plan s (granted s c (client_at s c) op) c y refl within locks has now op.tuple (Some (mode_of op)) with_lock
    (λ t. ap (λ (ops : List Op). lock_of ops t) (held_at_start plan c y none ∙ ap (λ (n : ℕ). take n cold) one_more)
    ∙ lock_next cold (length x.noted) op t (distinct_cold plan.layout (script_now plan c x) distinct) next
    ∙ ap (λ (ops : List Op). if t.0 == op.tuple.0 then Some (mode_of op) else lock_of ops t) (sym (held_at_start plan c x none)))
  where
    x : ClientState
    x = client_at s c

    y : ClientState
    y = record (client_at s c) { phase = Locking; noted = (client_at s c).noted ++ seen_at s.store op.tuple ∷ [] }

    cold : List Op
    cold = cold_ops plan.layout (script_now plan c (client_at s c))

    one_more : length ((client_at s c).noted ++ seen_at s.store op.tuple ∷ []) ≡ suc (length (client_at s c).noted)
    one_more = omega (arith, length-append (client_at s c).noted (seen_at s.store op.tuple ∷ []))

-- a client that has taken no lock in its present try
held_by_none : (plan : Plan) (c : ℕ) (x : ClientState) → x.noted ≡ [] → held plan c x ≡ []
held_by_none plan c x e = ap (λ (l : List Seen). drop x.installed (take (length l) (cold_ops plan.layout (script_now plan c x)))) e ∙ drop_all x.installed [] (omega arith)

-- one that aborts with the first of its locks
held_aborting : (plan : Plan) (c : ℕ) (x : ClientState) (front : List Seen) → x.installed ≡ 0 → held plan c (aborting plan c x front) ≡ take (length front) (cold_ops plan.layout (script_now plan c x))
held_aborting plan c x [] none = held_by_none plan c (try_ended plan c x) (by (x.refused + 1 == plan.tries))
  where
    by : (b : Bool) → (if b then next_item plan c x else record { phase = Ready; seq = x.seq; refused = x.refused + 1; noted = []; installed = 0; last = x.last; reply = [] }).noted ≡ []
    by true = refl
    by false = refl
held_aborting plan c x (seen ∷ others) none = held_at_start plan c (record x { phase = Aborting; noted = seen ∷ others }) none

pub locks_refused : (plan : Plan) (s : State) (locks : Locks) (c : ℕ) (op : Op) (by : ℕ) → HasLocks plan s locks → c < length s.clients → (client_at s c).installed ≡ 0 → HasLocks plan (refused plan s c (client_at s c) op by) locks
unfolding refused
locks_refused plan s locks c op by has within none =
    let x = client_at s c in
    same_locks plan s (refused plan s c x op by) c (aborting plan c x x.noted) refl within locks has
    (held_aborting plan c x x.noted none ∙ sym (held_at_start plan c x none))

pub locks_released : (plan : Plan) (s : State) (locks now : Locks) (c : ℕ) (op : Op) → HasLocks plan s locks → IsWithLock locks now op.tuple c None → c < length s.clients
    → slice_get (cold_ops plan.layout (script_now plan c (client_at s c))) (length (client_at s c).noted - 1) ≡ Some op → 0 < length (client_at s c).noted → (client_at s c).installed ≡ 0
    → IsDistinct (script_now plan c (client_at s c)) → HasLocks plan (released plan s c (client_at s c)) now
unfolding released
locks_released plan s locks now c op has with_lock within at some none distinct =
    let x = client_at s c in
    let front = take (length x.noted - 1) x.noted in
    let cold = cold_ops plan.layout (script_now plan c x) in
    let fewer : length front ≡ length x.noted - 1 = length-take-le (length x.noted - 1) x.noted (omega arith) in
    let all : length x.noted ≡ suc (length x.noted - 1) = omega arith in
    changed_lock plan s (released plan s c x) c (aborting plan c x front) refl within locks has now op.tuple None with_lock
    (λ t. ap (λ (ops : List Op). lock_of ops t) (held_aborting plan c x front none ∙ ap (λ (n : ℕ). take n cold) fewer)
    ∙ lock_before cold (length x.noted - 1) op t (distinct_cold plan.layout (script_now plan c x) distinct) at
    ∙ ap (λ (ops : List Op). if t.0 == op.tuple.0 then None else lock_of ops t) (sym (held_at_start plan c x none ∙ ap (λ (n : ℕ). take n cold) all)))

pub locks_decided : (plan : Plan) (s : State) (locks : Locks) (c : ℕ) → HasLocks plan s locks → c < length s.clients → HasLocks plan (decided plan s c (client_at s c)) locks
unfolding decided
locks_decided plan s locks c has within = same_locks plan s (decided plan s c (client_at s c)) c _ refl within locks has refl

pub locks_logged : (plan : Plan) (s : State) (locks : Locks) (c : ℕ) → HasLocks plan s locks → c < length s.clients → HasLocks plan (logged plan s c (client_at s c)) locks
unfolding logged
locks_logged plan s locks c has within = same_locks plan s (logged plan s c (client_at s c)) c _ refl within locks has refl

pub locks_posted : (plan : Plan) (s : State) (locks : Locks) (c : ℕ) (next : Switch) → HasLocks plan s locks → c < length s.clients → HasLocks plan (posted s c (client_at s c) next) locks
unfolding posted
locks_posted plan s locks c next has within = same_locks plan s (posted s c (client_at s c) next) c _ refl within locks has refl

-- behind its answer a client has the locks that it had
pub locks_taken : (plan : Plan) (s : State) (locks : Locks) (c : ℕ) (answer : Answer) (next : Switch) → HasLocks plan s locks → c < length s.clients → HasLocks plan (taken plan s c (client_at s c) answer next) locks
unfolding taken
locks_taken plan s locks c answer next has within =
    same_locks plan s (taken plan s c (client_at s c) answer next) c (replied plan c x stamp reply) refl within locks has (by (length x.noted == 0) refl)
  where
    x : ClientState
    x = client_at s c

    stamp : Stamp
    stamp = record { number = answer.number; sub = 0 }

    reply : List Pair
    reply = joined plan.layout (script_now plan c x) (values_of x.noted) answer.pairs

    zero_of : (n : ℕ) → (n == 0) ≡ true → n ≡ 0
    zero_of n e = grind (arith, nat_tests)

    none : (noted : List Seen) → (length noted == 0) ≡ true → noted ≡ []
    none [] e = refl
    none (seen ∷ noted) e = absurd (omega (arith, zero_of (length (seen ∷ noted)) e))

    by : (b : Bool) → (length x.noted == 0) ≡ b → held plan c (if b then next_item plan c (record x { phase = Installing; last = stamp; reply = reply }) else record x { phase = Installing; last = stamp; reply = reply }) ≡ held plan c x
    by true e = held_by_none plan c (next_item plan c (record x { phase = Installing; last = stamp; reply = reply })) refl ∙ sym (held_by_none plan c x (none x.noted e))
    by false e = refl

-- moves of the switch change no lock
pub locks_switched : (plan : Plan) (s : State) (locks : Locks) (next : Switch) → HasLocks plan s locks → HasLocks plan (switched s next) locks
unfolding switched
locks_switched plan s locks next has = has

pub locks_entered : (plan : Plan) (s : State) (locks : Locks) (c : ℕ) (packet : PlainPacket) (number : ℕ) (next : Switch) → HasLocks plan s locks → HasLocks plan (entered s c packet number next) locks
unfolding entered switched
locks_entered plan s locks c packet number next has = has

-- a client that asked, whatever the table answered
pub locks_asked : (plan : Plan) (s : State) (locks now : Locks) (c : ℕ) (op : Op) (grant : Grant) → HasLocks plan s locks → IsTried locks now op.tuple (mode_of op) c grant
    → c < length s.clients → next_op plan c (client_at s c) ≡ Some op → (client_at s c).installed ≡ 0 → ((d : ℕ) → IsDistinct (script_now plan d (client_at s d)))
    → HasLocks plan (asked plan s c (client_at s c) op (holder plan s c op)) now
locks_asked plan s locks now c op Granted has tried within next none distinct =
    subst (λ (o : Option ℕ). HasLocks plan (asked plan s c (client_at s c) op o) now) (sym (free_same plan s locks c op has distinct tried.0))
    (locks_granted plan s locks now c op has tried.1 within next none (distinct c))
locks_asked plan s locks now c op (HeldBy other) has tried within next none distinct =
    subst (λ (o : Option ℕ). HasLocks plan (asked plan s c (client_at s c) op o) now) (sym (holder_same plan s locks c op other has distinct tried.0))
    (subst (λ (l : Locks). HasLocks plan (refused plan s c (client_at s c) op other) l) (sym tried.1) (locks_refused plan s locks c op other has within none))

-- behind an installation
held_installed : (plan : Plan) (c : ℕ) (x : ClientState) → FitsPhase plan c x Installing
    → held plan c (installed_one plan c x (length (steps_now plan c x))) ≡ drop (suc x.installed) (take (length x.noted) (cold_ops plan.layout (script_now plan c x)))
held_installed plan c x fit = by (x.installed + 1 == length (steps_now plan c x)) refl
  where
    locks : List Op
    locks = take (length x.noted) (cold_ops plan.layout (script_now plan c x))

    more : x.installed + 1 ≡ suc x.installed
    more = omega arith

    equal : (a b : ℕ) → (a == b) ≡ true → a ≡ b
    equal a b e = grind (arith, nat_tests)

    by : (b : Bool) → (x.installed + 1 == length (steps_now plan c x)) ≡ b
        → held plan c (if b then next_item plan c x else record x { installed = x.installed + 1 }) ≡ drop (suc x.installed) (take (length x.noted) (cold_ops plan.layout (script_now plan c x)))
    by true e =
        held_by_none plan c (next_item plan c x) refl
        ∙ sym (drop_all (suc x.installed) locks (omega (arith, equal (x.installed + 1) (length (steps_now plan c x)) e, fit.0, fit.1, length-take-le (length x.noted) (cold_ops plan.layout (script_now plan c x)) (omega (arith, fit.0)))))
    by false e = ap (λ (n : ℕ). drop n locks) more

pub locks_installed : (plan : Plan) (s : State) (locks now : Locks) (c : ℕ) (step : Step) → HasLocks plan s locks → IsWithLock locks now step.0.tuple c None → c < length s.clients
    → slice_get (steps_now plan c (client_at s c)) (client_at s c).installed ≡ Some step → FitsPhase plan c (client_at s c) Installing
    → (client_at s c).installed < length (client_at s c).noted → IsDistinct (script_now plan c (client_at s c)) → HasLocks plan (installed plan s c (client_at s c) step) now
unfolding installed
locks_installed plan s locks now c step has with_lock within at fit left distinct =
    let x = client_at s c in
    let cold = cold_ops plan.layout (script_now plan c x) in
    changed_lock plan s (installed plan s c x step) c (installed_one plan c x (length (steps_now plan c x))) refl within locks has now step.0.tuple None with_lock
    (λ t. ap (λ (ops : List Op). lock_of ops t) (held_installed plan c x fit)
    ∙ lock_behind (take (length x.noted) cold) x.installed step.0 t (distinct_taken (length x.noted) cold (distinct_cold plan.layout (script_now plan c x) distinct))
    (at_taken (length x.noted) cold x.installed step.0 left (cold_op_at plan.layout (script_now plan c x) x.reply x.installed step at)))

-- a client that loses the switch has no locks, neither before nor behind
pub locks_lost : (plan : Plan) (s : State) (locks : Locks) (c : ℕ) → HasLocks plan s locks → c < length s.clients → (client_at s c).noted ≡ [] → HasLocks plan (lost plan s c (client_at s c)) locks
unfolding lost
locks_lost plan s locks c has within none =
    same_locks plan s (lost plan s c (client_at s c)) c (next_item plan c (client_at s c)) refl within locks has (held_by_none plan c (next_item plan c (client_at s c)) refl ∙ sym (held_by_none plan c (client_at s c) none))

-- a table without locks has those of the opening
pub locks_at_opening : (plan : Plan) (locks : Locks) → ((t : TupleId) (c : ℕ) → mode_held locks t c ≡ None) → HasLocks plan (opening plan) locks
unfolding opening
locks_at_opening plan locks free t c = free t c ∙ ap (λ (ops : List Op). lock_of ops t) (sym (held_by_none plan c (client_at (opening plan) c) (first plan.clients c)))
  where
    first : (lists : List (List PlainItem)) (d : ℕ) → (get_or (first_clients lists) d (at_item 0 1 zero_stamp)).noted ≡ []
    first [] d = refl
    first (items ∷ lists) zero = refl
    first (items ∷ lists) (suc d) = first lists d
