-- Operations of a script on one tuple.
use Rattle.std.proofs.Common.{◌≡◌, ◌⊎◌, ℕ, zero, suc, ◌==◌, ◌&&◌, ◌||◌, Bool, true, false, not, List, [], ◌∷◌, ◌++◌, length, slice_get, Some, inl, inr, refl, sym, ap, ◌∙◌, arith, true≢false}
use Rattle.std.proofs.lemmas.Bool.Decides.{nat_tests}
use Rattle.txn_model.specs.ScriptCheck.{names, is_read}
use Rattle.txn_model.specs.declared.op.Op.{Op}
use Rattle.txn_model.specs.declared.op.TupleId.{TupleId}
use Rattle.core_model.specs.Locks.{clashes}
use Rattle.core_model.specs.Facts.{writes}
use Rattle.core_model.proofs.Decided.{IsDistinct, same_names}

-- a test isn't both
pub differ : {b : Bool} → b ≡ true → b ≡ false → ⊥
differ e f = true≢false (sym e ∙ f)

-- what stands at a place of a list with one more item
pub last_or_before : {X : Type 0} (xs : List X) (y : X) (k : ℕ) (x : X) → slice_get (xs ++ y ∷ []) k ≡ Some x → (slice_get xs k ≡ Some x) ⊎ ((k ≡ length xs) × (x ≡ y))
last_or_before [] y zero x e = inr (refl, cc)
last_or_before [] y (suc k) x e = cc
last_or_before (z ∷ xs) y zero x e = inl e
last_or_before (z ∷ xs) y (suc k) x e = elim (last_or_before xs y k x e) [ inl is ↦ inl is | inr is ↦ inr (ap suc is.0, is.1) ]

-- locks that don't clash, on one tuple, are both shared
pub both_read : (op other : Op) → clashes op other ≡ false → (op.tuple.0 == other.tuple.0) ≡ true → (is_read op.act ≡ true) × (is_read other.act ≡ true)
both_read op other free same = go (op.tuple.0 == other.tuple.0) (is_read op.act) (is_read other.act) free same
  where
    go : (s a b : Bool) → (s && not (a && b)) ≡ false → s ≡ true → (a ≡ true) × (b ≡ true)
    go true true true e h = (refl, refl)
    go true true false e h = cc
    go true false b e h = cc
    go false a b e h = cc

pub turned_test : (a b : ℕ) → (a == b) ≡ true → (b == a) ≡ true
turned_test a b e = grind (arith, nat_tests)

pub joined_tests : (a b d : ℕ) → (a == b) ≡ true → (d == b) ≡ true → (a == d) ≡ true
joined_tests a b d e f = grind (arith, nat_tests)

-- a script that changes a tuple names it
pub names-from_writes : (ops : List Op) (t : TupleId) → writes ops t ≡ true → names ops t ≡ true
names-from_writes [] t w = w
names-from_writes (o ∷ ops) t w = go (o.tuple.0 == t.0) (not (is_read o.act)) (writes ops t) (names ops t) w (names-from_writes ops t)
  where
    go : (s r w n : Bool) → (s && r || w) ≡ true → (w ≡ true → n ≡ true) → (s || n) ≡ true
    go true r w n e f = refl
    go false r w n e f = f e

-- an operation's script names its tuple
pub named_by : (ops : List Op) (t : TupleId) (k : ℕ) (op : Op) → slice_get ops k ≡ Some op → (op.tuple.0 == t.0) ≡ true → names ops t ≡ true
named_by [] t k op at on = cc
named_by (o ∷ ops) t zero op at on = let same : o ≡ op = cc in ap (λ (b : Bool). b || names ops t) (ap (λ (x : Op). x.tuple.0 == t.0) same ∙ on)
named_by (o ∷ ops) t (suc k) op at on = or_right (o.tuple.0 == t.0) (names ops t) (named_by ops t k op at on)
  where
    or_right : (a b : Bool) → b ≡ true → (a || b) ≡ true
    or_right true b e = refl
    or_right false b e = e

no_write : (ops : List Op) (t : TupleId) → names ops t ≡ false → writes ops t ≡ false
no_write ops t none = go (writes ops t) (names-from_writes ops t) none
  where
    go : (w : Bool) → (w ≡ true → names ops t ≡ true) → names ops t ≡ false → w ≡ false
    go true f e = cc (f refl)
    go false f e = refl

-- a script with distinct tuples changes a tuple only by its one operation on it
pub writes_by : (ops : List Op) (t : TupleId) (k : ℕ) (op : Op) → IsDistinct ops → slice_get ops k ≡ Some op → (op.tuple.0 == t.0) ≡ true → writes ops t ≡ true → is_read op.act ≡ false
writes_by [] t k op distinct at on w = cc
writes_by (o ∷ ops) t zero op distinct at on w =
    let same : o ≡ op = cc in
    let here : (o.tuple.0 == t.0) ≡ true = ap (λ (x : Op). x.tuple.0 == t.0) same ∙ on in
    ap (λ (x : Op). is_read x.act) (sym same) ∙ go (o.tuple.0 == t.0) (is_read o.act) (writes ops t) w here (no_write ops t (same_names ops o.tuple t here distinct.0))
  where
    go : (s r v : Bool) → (s && not r || v) ≡ true → s ≡ true → v ≡ false → r ≡ false
    go true false v e h n = refl
    go true true true e h n = cc
    go true true false e h n = cc
    go false r v e h n = cc
writes_by (o ∷ ops) t (suc k) op distinct at on w =
    writes_by ops t k op distinct.1 at on (go (o.tuple.0 == t.0) (is_read o.act) (writes ops t) w (λ here. cc (same_names ops o.tuple t here distinct.0, named_by ops t k op at on)))
  where
    go : (s r v : Bool) → (s && not r || v) ≡ true → (s ≡ true → v ≡ true) → v ≡ true
    go true r v e f = f refl
    go false r v e f = e

-- where the script's operation on the tuple reads, the script doesn't change it
pub unless_read : (ops : List Op) (t : TupleId) (k : ℕ) (op : Op) → IsDistinct ops → slice_get ops k ≡ Some op → (op.tuple.0 == t.0) ≡ true → is_read op.act ≡ true → writes ops t ≡ false
unless_read ops t k op distinct at on read = go (writes ops t) (writes_by ops t k op distinct at on)
  where
    go : (w : Bool) → (w ≡ true → is_read op.act ≡ false) → w ≡ false
    go true f = cc (f refl)
    go false f = refl
