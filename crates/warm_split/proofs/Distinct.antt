-- The operations of a script are on tuples of their own.
use Rattle.std.proofs.Common.{◌≡◌, ℕ, ◌+◌, Bool, true, false, ◌||◌, ◌==◌, List, [], ◌∷◌, ◌++◌, length, length-append, take, nat_lt, Option, Some, None, if◌then◌else◌, refl, sym, ap, ◌∙◌, arith}
use Rattle.std.specs.List.{AllByRecursion, position_from, enumerate_from}
use Rattle.std.proofs.lemmas.Bool.Decides.{nat_tests}
use Rattle.std.proofs.Math.Seq.{take-append_seam}
use Rattle.std.proofs.lemmas.List.{append_assoc}
use Rattle.txn_model.specs.ScriptCheck.{script_fault, first_of, first_repeat, first_bad_use, names}
use Rattle.txn_model.specs.declared.op.Op.{Op}
use Rattle.txn_model.specs.declared.script.ScriptFault.{ScriptFault}
use Rattle.txn_model.specs.declared.script.ScriptFault.TheVariants.{Empty, TooLong, TupleTwice, BadUse}
use Rattle.txn_model.proofs.FirstPlaces.{first_counted}
use Rattle.warm_split.proofs.KnownPairs.{split_or}

-- no later operation names the tuple of an earlier one
abbrev pub AreApart : List Op → Type 0
AreApart [] = Unit {0}
AreApart (op ∷ ops) = (names ops op.tuple ≡ false) × AreApart ops

none_first : {X : Type 0} (b : Bool) (x : X) (r : Option X) → (if b then Some x else r) ≡ None → (b ≡ false) × (r ≡ None)
none_first true x r h = cc
none_first false x r h = (refl, h)

none_of : (o : Option ℕ) (f : ℕ → ScriptFault) (r : Option ScriptFault) → first_of o f r ≡ None → o ≡ None
none_of None f r h = refl
none_of (Some k) f r h = cc

sound_repeats : (ops : List Op) → script_fault ops ≡ None → first_repeat ops ≡ None
unfolding script_fault
sound_repeats ops h =
    let uses = first_of (first_bad_use ops) BadUse None in
    let repeats = first_of (first_repeat ops) TupleTwice uses in
    let size = if nat_lt 16 (length ops) then Some (TooLong (length ops)) else repeats in
    none_of (first_repeat ops) TupleTwice uses (none_first (nat_lt 16 (length ops)) (TooLong (length ops)) repeats (none_first (length ops == 0) Empty size h).1).1

-- none of the later operations names the tuple of one of the earlier
abbrev NoneNamed : List Op → List Op → Type 0
NoneNamed earlier ops = AllByRecursion (λ e. names ops e.tuple ≡ false) earlier

pub swapped : (a b : ℕ) → (a == b) ≡ false → (b == a) ≡ false
swapped a b e = grind (arith, nat_tests)

-- an operation that isn't named before is one more that the earlier ones don't name
named_more : (op : Op) (ops earlier : List Op) → names earlier op.tuple ≡ false → NoneNamed earlier ops → NoneNamed earlier (op ∷ ops)
named_more op ops [] unnamed h = tt
named_more op ops (e ∷ earlier) unnamed h =
    let parts = split_or (e.tuple.0 == op.tuple.0) (names earlier op.tuple) unnamed in
    (ap (λ (b : Bool). b || names ops e.tuple) (swapped e.tuple.0 op.tuple.0 parts.0) ∙ h.0, named_more op ops earlier parts.1 h.1)

all_append : (P : Op → Type 0) (xs : List Op) (y : Op) → AllByRecursion P (xs ++ y ∷ []) → AllByRecursion P xs × P y
all_append P [] y h = (tt, h.0)
all_append P (x ∷ xs) y h = let rest = all_append P xs y h.1 in ((h.0, rest.0), rest.1)

-- the operation at this place of all names the tuple of an earlier one
abbrev repeats : List Op → ℕ × Op → Bool
repeats all at = names (take at.0 all) at.1.tuple

apart_behind : (ops earlier all : List Op) (k : ℕ) → k ≡ length earlier → all ≡ earlier ++ ops → position_from (repeats all) k (enumerate_from k ops) ≡ None → NoneNamed earlier ops × AreApart ops
apart_behind [] earlier all k place is h = (nothing earlier, tt)
  where
    nothing : (xs : List Op) → NoneNamed xs []
    nothing [] = tt
    nothing (x ∷ xs) = (refl, nothing xs)
apart_behind (op ∷ ops) earlier all k place is h =
    let first = none_first (repeats all (k, op)) k (position_from (repeats all) (k + 1) (enumerate_from (k + 1) ops)) h in
    let before : take k all ≡ earlier = ap (λ (xs : List Op). take k xs) is ∙ ap (λ (n : ℕ). take n (earlier ++ op ∷ ops)) place ∙ take-append_seam earlier (op ∷ ops) in
    let unnamed = sym (ap (λ (xs : List Op). names xs op.tuple) before) ∙ first.0 in
    let rest = apart_behind ops (earlier ++ op ∷ []) all (k + 1) (omega (arith, place, length-append earlier (op ∷ []))) (is ∙ sym (append_assoc earlier (op ∷ []) ops)) first.1 in
    let parts = all_append (λ e. names ops e.tuple ≡ false) earlier op rest.0 in
    (named_more op ops earlier unnamed parts.0, (parts.1, rest.1))

pub apart_from_sound : (ops : List Op) → script_fault ops ≡ None → AreApart ops
apart_from_sound ops h = (apart_behind ops [] ops 0 refl refl (first_counted (repeats ops) (enumerate_from 0 ops) ∙ sound_repeats ops h)).1
