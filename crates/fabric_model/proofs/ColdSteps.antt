-- The operations of a script on hosts with their pairs, by their places among all.
use Rattle.std.proofs.Common.{◌≡◌, ℕ, ℤ, zero, suc, ◌==◌, ◌||◌, Bool, true, false, not, List, [], ◌∷◌, filter, length, slice_get, Some, refl, sym, ap, subst, ◌∙◌, arith, if◌then◌else◌, MatchBool}
use Rattle.std.proofs.lemmas.Bool.Decides.{nat_tests}
use Rattle.txn_model.specs.ScriptCheck.{names}
use Rattle.txn_model.specs.declared.op.Op.{Op}
use Rattle.txn_model.specs.declared.op.TupleId.{TupleId}
use Rattle.txn_model.specs.declared.pairs.Pair.{Pair}
use Rattle.stage_layout.specs.Late.{is_hot}
use Rattle.stage_layout.specs.declared.layout.LayoutRow.{LayoutRow}
use Rattle.history_model.specs.Chain.{Step, steps_of, Chain}
use Rattle.history_model.proofs.InsertionLaws.{absent_chain}
use Rattle.core_model.specs.Decision.{cold_steps}
use Rattle.core_model.specs.Locks.{cold_ops}
use Rattle.core_model.proofs.Decided.{IsDistinct, absent-steps_of, or_false}
use Rattle.core_model.proofs.StepsOf.{named, some_step}

-- an item that a test lets through is among those it keeps
pub record Kept {X : Type 0} (test : X → Bool) (xs : List X) (x : X) : Type 0 where
  pub place : ℕ
  pub there : slice_get (filter test xs) place ≡ Some x

pub kept : {X : Type 0} (test : X → Bool) (xs : List X) (k : ℕ) (x : X) → slice_get xs k ≡ Some x → test x ≡ true → Kept test xs x
kept test [] k x is passes = cc
kept test (y ∷ xs) zero x is passes = let same : y ≡ x = cc in record { place = 0; there = ap (λ (b : Bool). slice_get (if b then y ∷ filter test xs else filter test xs) 0) (ap test same ∙ passes) ∙ is }
kept {X} test (y ∷ xs) (suc k) x is passes = by (test y) (kept test xs k x is passes) refl
  where
    by : (b : Bool) → Kept test xs x → test y ≡ b → Kept test (y ∷ xs) x
    by true rest e = record { place = suc rest.place; there = ap (λ (t : Bool). slice_get (if t then y ∷ filter test xs else filter test xs) (suc rest.place)) e ∙ rest.there }
    by false rest e = record { place = rest.place; there = ap (λ (t : Bool). slice_get (if t then y ∷ filter test xs else filter test xs) rest.place) e ∙ rest.there }

-- one that is kept is among all, and passes the test
pub record Among {X : Type 0} (test : X → Bool) (xs : List X) (x : X) : Type 0 where
  pub place : ℕ
  pub there : slice_get xs place ≡ Some x
  pub passes : test x ≡ true

pub among : {X : Type 0} (test : X → Bool) (xs : List X) (k : ℕ) (x : X) → slice_get (filter test xs) k ≡ Some x → Among test xs x
among test [] k x is = cc
among {X} test (y ∷ xs) k x is = by (test y) refl is (λ j. among test xs j x)
  where
    by : (b : Bool) → test y ≡ b → slice_get (if b then y ∷ filter test xs else filter test xs) k ≡ Some x → ((j : ℕ) → slice_get (filter test xs) j ≡ Some x → Among test xs x) → Among test (y ∷ xs) x
    by false e at rest = let r = rest k at in record { place = suc r.place; there = r.there; passes = r.passes }
    by true e at rest = first k at
      where
        first : (j : ℕ) → slice_get (y ∷ filter test xs) j ≡ Some x → Among test (y ∷ xs) x
        first zero i = let same : y ≡ x = cc in record { place = 0; there = i; passes = ap test (sym same) ∙ e }
        first (suc j) i = let r = rest j i in record { place = suc r.place; there = r.there; passes = r.passes }

-- the operations of the steps are those of the script
pub op_of_step : (ops : List Op) (reply : List Pair) (k : ℕ) (op : Op) (p : Pair) → slice_get (steps_of ops reply) k ≡ Some (op, p) → slice_get ops k ≡ Some op
op_of_step [] reply k op p is = cc
op_of_step (o ∷ ops) [] k op p is = cc
op_of_step (o ∷ ops) (q ∷ reply) zero op p is = ap Some (some_step (o, q) (op, p) is).0
op_of_step (o ∷ ops) (q ∷ reply) (suc k) op p is = op_of_step ops reply k op p is

-- a step on a host, by its place among those on hosts: the operation and its pair are at the same place
pub record OnHost (rows : List LayoutRow) (ops : List Op) (reply : List Pair) (op : Op) (p : Pair) : Type 0 where
  pub place : ℕ
  pub op_there : slice_get (cold_ops rows ops) place ≡ Some op
  pub step_there : slice_get (cold_steps rows ops reply) place ≡ Some (op, p)

pub on_host : (rows : List LayoutRow) (ops : List Op) (reply : List Pair) (k : ℕ) (op : Op) (p : Pair) → slice_get (steps_of ops reply) k ≡ Some (op, p) → is_hot rows op.tuple ≡ false → OnHost rows ops reply op p
on_host rows [] reply k op p is cold = cc
on_host rows (o ∷ ops) [] k op p is cold = cc
on_host rows (o ∷ ops) (q ∷ reply) zero op p is cold =
    let left : Step = (o, q) in
    let right : Step = (op, p) in
    let same : left ≡ right = cc in
    let here : is_hot rows o.tuple ≡ false = ap (λ (s : Step). is_hot rows s.0.tuple) same ∙ cold in
    record {
      place = 0;
      op_there = ap (λ (b : Bool). slice_get (if not b then o ∷ cold_ops rows ops else cold_ops rows ops) 0) here ∙ ap (λ (s : Step). Some s.0) same;
      step_there = ap (λ (b : Bool). slice_get (if not b then (o, q) ∷ cold_steps rows ops reply else cold_steps rows ops reply) 0) here ∙ is;
    }
on_host rows (o ∷ ops) (q ∷ reply) (suc k) op p is cold = by (is_hot rows o.tuple) refl (on_host rows ops reply k op p is cold)
  where
    by : (b : Bool) → is_hot rows o.tuple ≡ b → OnHost rows ops reply op p → OnHost rows (o ∷ ops) (q ∷ reply) op p
    by true e rest = record {
      place = rest.place;
      op_there = ap (λ (t : Bool). slice_get (if not t then o ∷ cold_ops rows ops else cold_ops rows ops) rest.place) e ∙ rest.op_there;
      step_there = ap (λ (t : Bool). slice_get (if not t then (o, q) ∷ cold_steps rows ops reply else cold_steps rows ops reply) rest.place) e ∙ rest.step_there;
    }
    by false e rest = record {
      place = suc rest.place;
      op_there = ap (λ (t : Bool). slice_get (if not t then o ∷ cold_ops rows ops else cold_ops rows ops) (suc rest.place)) e ∙ rest.op_there;
      step_there = ap (λ (t : Bool). slice_get (if not t then (o, q) ∷ cold_steps rows ops reply else cold_steps rows ops reply) (suc rest.place)) e ∙ rest.step_there;
    }

-- as many pairs on hosts as operations on hosts
pub length-cold_steps : (rows : List LayoutRow) (ops : List Op) (reply : List Pair) → length reply ≡ length ops → length (cold_steps rows ops reply) ≡ length (cold_ops rows ops)
length-cold_steps rows [] reply size = refl
length-cold_steps rows (o ∷ ops) [] size = absurd (omega (arith, size))
length-cold_steps rows (o ∷ ops) (q ∷ reply) size = by (is_hot rows o.tuple) (length-cold_steps rows ops reply (omega (arith, size)))
  where
    by : (b : Bool) → length (cold_steps rows ops reply) ≡ length (cold_ops rows ops) → length (if not b then (o, q) ∷ cold_steps rows ops reply else cold_steps rows ops reply) ≡ length (if not b then o ∷ cold_ops rows ops else cold_ops rows ops)
    by true rest = rest
    by false rest = ap suc rest

-- the steps of a script that names each tuple once form a chain at a tuple where the one on it finds what there is
pub chain_of_one : (t : TupleId) (v : ℤ) (ops : List Op) (reply : List Pair) → IsDistinct ops → ((k : ℕ) (op : Op) (p : Pair) → slice_get (steps_of ops reply) k ≡ Some (op, p) → (op.tuple.0 == t.0) ≡ true → p.was ≡ v) → Chain t v (steps_of ops reply)
chain_of_one t v [] reply distinct finds = tt
chain_of_one t v (o ∷ ops) [] distinct finds = tt
chain_of_one t v (o ∷ ops) (q ∷ reply) distinct finds = by (o.tuple.0 == t.0) refl (chain_of_one t v ops reply distinct.1 (λ k. finds (suc k)))
  where
    by : (b : Bool) → (o.tuple.0 == t.0) ≡ b → Chain t v (steps_of ops reply) → MatchBool b ((q.was ≡ v) × Chain t q.now (steps_of ops reply)) (Chain t v (steps_of ops reply))
    by false e rest = rest
    by true e rest = (finds 0 o q refl e, (absent_chain t q.now (steps_of ops reply) (absent-steps_of t ops reply (none e))).0)
      where
        none : (o.tuple.0 == t.0) ≡ true → names ops t ≡ false
        none f = let n : o.tuple.0 ≡ t.0 = grind (arith, nat_tests) in subst (λ (x : TupleId). names ops x ≡ false) (ap (λ (m : ℕ). record { 0 = m }) n) distinct.0

-- the operation of a script on a tuple of a host, by its place among all and among those on hosts
pub record NamedOnHost (rows : List LayoutRow) (ops : List Op) (t : TupleId) : Type 0 where
  pub all : ℕ
  pub op : Op
  pub there : slice_get ops all ≡ Some op
  pub on : (op.tuple.0 == t.0) ≡ true
  pub k : ℕ
  pub at : slice_get (cold_ops rows ops) k ≡ Some op

same_tuple : (a b : TupleId) → (a.0 == b.0) ≡ true → a ≡ b
same_tuple a b e = let n : a.0 ≡ b.0 = grind (arith, nat_tests) in ap (λ (k : ℕ). record { 0 = k }) n

pub named_on_host : (rows : List LayoutRow) (ops : List Op) (t : TupleId) → is_hot rows t ≡ false → names ops t ≡ true → NamedOnHost rows ops t
named_on_host rows ops t cold n =
    let on = named ops t n in
    let host : is_hot rows on.op.tuple ≡ false = ap (is_hot rows) (same_tuple on.op.tuple t on.on) ∙ cold in
    let at = kept (λ op. not (is_hot rows op.tuple)) ops on.k on.op on.at (ap not host) in
    record { all = on.k; op = on.op; there = on.at; on = on.on; k = at.place; at = at.there }

-- the operation of a step on a host is the one at its place among those on hosts
pub cold_op_at : (rows : List LayoutRow) (ops : List Op) (reply : List Pair) (k : ℕ) (op : Op) (p : Pair) → slice_get (cold_steps rows ops reply) k ≡ Some (op, p) → slice_get (cold_ops rows ops) k ≡ Some op
cold_op_at rows [] reply k op p is = cc
cold_op_at rows (o ∷ ops) [] k op p is = cc
cold_op_at rows (o ∷ ops) (q ∷ reply) k op p is = by (is_hot rows o.tuple) k is (λ j. cold_op_at rows ops reply j op p)
  where
    by : (b : Bool) (j : ℕ) → slice_get (if not b then (o, q) ∷ cold_steps rows ops reply else cold_steps rows ops reply) j ≡ Some (op, p) → ((i : ℕ) → slice_get (cold_steps rows ops reply) i ≡ Some (op, p) → slice_get (cold_ops rows ops) i ≡ Some op)
        → slice_get (if not b then o ∷ cold_ops rows ops else cold_ops rows ops) j ≡ Some op
    by true j at rest = rest j at
    by false zero at rest = ap Some (some_step (o, q) (op, p) at).0
    by false (suc j) at rest = rest j at

none_named : (rows : List LayoutRow) (ops : List Op) (t : TupleId) → names ops t ≡ false → names (cold_ops rows ops) t ≡ false
none_named rows [] t none = refl
none_named rows (o ∷ ops) t none =
    let parts = or_false (o.tuple.0 == t.0) (names ops t) none in
    by (is_hot rows o.tuple) parts.0 (none_named rows ops t parts.1)
  where
    by : (b : Bool) → (o.tuple.0 == t.0) ≡ false → names (cold_ops rows ops) t ≡ false → names (if not b then o ∷ cold_ops rows ops else cold_ops rows ops) t ≡ false
    by true here rest = rest
    by false here rest = ap (λ (b : Bool). b || names (cold_ops rows ops) t) here ∙ rest

-- the operations on hosts name different tuples too
pub distinct_on_hosts : (rows : List LayoutRow) (ops : List Op) → IsDistinct ops → IsDistinct (cold_ops rows ops)
distinct_on_hosts rows [] distinct = tt
distinct_on_hosts rows (o ∷ ops) distinct = by (is_hot rows o.tuple) (none_named rows ops o.tuple distinct.0) (distinct_on_hosts rows ops distinct.1)
  where
    by : (b : Bool) → names (cold_ops rows ops) o.tuple ≡ false → IsDistinct (cold_ops rows ops) → IsDistinct (if not b then o ∷ cold_ops rows ops else cold_ops rows ops)
    by true none rest = rest
    by false none rest = (none, rest)
