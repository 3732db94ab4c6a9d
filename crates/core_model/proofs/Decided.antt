-- Scripts that name each tuple once.
use Rattle.std.proofs.Common.{◌≡◌, ℕ, ◌+◌, Bool, true, false, ◌||◌, ◌==◌, List, [], ◌∷◌, ◌++◌, length, length-append, take, Option, Some, None, if◌then◌else◌, refl, sym, ap, subst, ◌∙◌, arith}
use Rattle.std.specs.List.{list_any, AllByRecursion, position_from, enumerate_from}
use Rattle.std.proofs.Math.Seq.{take-append_seam}
use Rattle.std.proofs.lemmas.List.{append_assoc}
use Rattle.std.proofs.lemmas.Bool.Decides.{nat_tests}
use Rattle.std.proofs.lemmas.List.Folds.{list_any-append}
use Rattle.txn_model.specs.ScriptCheck.{names, first_repeat}
use Rattle.txn_model.specs.declared.op.Op.{Op}
use Rattle.txn_model.specs.declared.op.TupleId.{TupleId}
use Rattle.txn_model.specs.declared.pairs.Pair.{Pair}
use Rattle.txn_model.proofs.FirstPlaces.{first_counted}
use Rattle.history_model.specs.Chain.{steps_of, IsAbsent}

-- neither of two is true
pub or_false : (a b : Bool) → (a || b) ≡ false → (a ≡ false) × (b ≡ false)
or_false true b e = cc
or_false false b e = (refl, e)

-- no operation names the tuple of another one
abbrev pub IsDistinct : List Op → Type 0
IsDistinct [] = Unit {0}
IsDistinct (op ∷ ops) = (names ops op.tuple ≡ false) × IsDistinct ops

-- the steps of a script that doesn't name the tuple don't
pub absent-steps_of : (t : TupleId) (ops : List Op) (reply : List Pair) → names ops t ≡ false → IsAbsent t (steps_of ops reply)
absent-steps_of t [] reply h = tt
absent-steps_of t (op ∷ ops) [] h = tt
absent-steps_of t (op ∷ ops) (p ∷ reply) h = let parts = or_false (op.tuple.0 == t.0) (names ops t) h in (parts.0, absent-steps_of t ops reply parts.1)

pub same_names : (ops : List Op) (a b : TupleId) → (a.0 == b.0) ≡ true → names ops a ≡ false → names ops b ≡ false
same_names ops a b e h = let n : a.0 ≡ b.0 = grind (arith, nat_tests) in subst (λ (k : ℕ). list_any (λ op. op.tuple.0 == k) ops ≡ false) n h

skip_if : {X : Type 0} (b : Bool) (x : X) (r : Option X) → (if b then Some x else r) ≡ None → (b ≡ false) × (r ≡ None)
skip_if true x r h = cc
skip_if false x r h = (refl, h)

names-last : (xs : List Op) (o : Op) (t : TupleId) → names (xs ++ o ∷ []) t ≡ false → (names xs t ≡ false) × ((o.tuple.0 == t.0) ≡ false)
names-last xs o t e =
    let parts = or_false (names xs t) (names (o ∷ []) t) (sym (list_any-append (λ op. op.tuple.0 == t.0) xs (o ∷ [])) ∙ e) in
    (parts.0, (or_false (o.tuple.0 == t.0) false parts.1).0)

turned : (a b : ℕ) → (a == b) ≡ false → (b == a) ≡ false
turned a b e = grind (arith, nat_tests)

others_differ : (earlier : List Op) (o : Op) (ys : List Op) → AllByRecursion (λ y. names (earlier ++ o ∷ []) y.tuple ≡ false) ys → names ys o.tuple ≡ false
others_differ earlier o [] all = refl
others_differ earlier o (y ∷ ys) all = ap (λ (b : Bool). b || names ys o.tuple) (turned o.tuple.0 y.tuple.0 (names-last earlier o y.tuple all.0).1) ∙ others_differ earlier o ys all.1

front_differs : (earlier : List Op) (o : Op) (ys : List Op) → AllByRecursion (λ y. names (earlier ++ o ∷ []) y.tuple ≡ false) ys → AllByRecursion (λ y. names earlier y.tuple ≡ false) ys
front_differs earlier o [] all = tt
front_differs earlier o (y ∷ ys) all = ((names-last earlier o y.tuple all.0).0, front_differs earlier o ys all.1)

-- the operation at this place of all names the tuple of an earlier one
abbrev repeats : List Op → ℕ × Op → Bool
repeats all at = names (take at.0 all) at.1.tuple

-- behind operations that it doesn't repeat, a script with no repeat has distinct tuples that those don't name
distinct_behind : (ops earlier all : List Op) (k : ℕ) → k ≡ length earlier → all ≡ earlier ++ ops → position_from (repeats all) k (enumerate_from k ops) ≡ None → IsDistinct ops × AllByRecursion (λ op. names earlier op.tuple ≡ false) ops
distinct_behind [] earlier all k place is h = (tt, tt)
distinct_behind (op ∷ ops) earlier all k place is h =
    let first = skip_if (repeats all (k, op)) k (position_from (repeats all) (k + 1) (enumerate_from (k + 1) ops)) h in
    let before : take k all ≡ earlier = ap (λ (xs : List Op). take k xs) is ∙ ap (λ (n : ℕ). take n (earlier ++ op ∷ ops)) place ∙ take-append_seam earlier (op ∷ ops) in
    let unnamed = sym (ap (λ (xs : List Op). names xs op.tuple) before) ∙ first.0 in
    let rest = distinct_behind ops (earlier ++ op ∷ []) all (k + 1) (omega (arith, place, length-append earlier (op ∷ []))) (is ∙ sym (append_assoc earlier (op ∷ []) ops)) first.1 in
    ((others_differ earlier op ops rest.1, rest.0), (unnamed, front_differs earlier op ops rest.1))

pub distinct_of : (ops : List Op) → first_repeat ops ≡ None → IsDistinct ops
distinct_of ops none = (distinct_behind ops [] ops 0 refl refl (first_counted (repeats ops) (enumerate_from 0 ops) ∙ none)).0
