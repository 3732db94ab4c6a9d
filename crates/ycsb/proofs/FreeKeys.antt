-- A free key is below the number of records, and no operation has it.
use Rattle.std.proofs.Common.{◌≡◌, ℕ, ◌+◌, ◌-◌, ◌<◌, ◌≤◌, Bool, true, false, not, cond, List, [], ◌∷◌, ◌++◌, ◌||◌, subst, map, length, get_or, Option, Some, None, refl, sym, ap, ◌∙◌, arith, inl, inr, unwrap_or, eqb, length-append}
use Rattle.std.specs.List.{find, range_with_len, All, list_any}
use Rattle.std.proofs.lemmas.Bool.{cases_lt}
use Rattle.std.proofs.lemmas.List.{length-map, get_or_append_left, get_or-append-add}
use Rattle.std.proofs.lemmas.List.Elements.{All-tail, All-head, All-cons, All-nil, All-append, All-from_get_or}
use Rattle.std.proofs.lemmas.List.FromFn.{length-range_with_len, get_or-range_with_len}
use Rattle.std.proofs.lemmas.Cmp.{nat_eq_equiv}
use Rattle.std.proofs.lemmas.Map.Steps.{le-length_from_below}
use Rattle.std.proofs.lemmas.List.Folds.{find-append}
use Rattle.std.specs.Option.{option_or}
use Rattle.txn_model.specs.ScriptCheck.{names}
use Rattle.txn_model.specs.declared.op.Op.{Op}
use Rattle.load_base.specs.Load.{tuple}
use Rattle.ycsb.specs.Ycsb.{is_free, upwards, free_key}

-- the first element that passes is one of them that passes; where there is none, each one fails
module _ {X : Type 0} (p : X → Bool) (P : X → Type 0) where
  abbrev pub IsFound : List X → Option X → Type 0
  IsFound xs (Some y) = P y × (p y ≡ true)
  IsFound xs None = All (λ x. p x ≡ false) xs

  is_found : (xs : List X) → All P xs → IsFound xs (find p xs)
  is_found [] h = All-nil (λ x. p x ≡ false)
  is_found (x ∷ xs) h = by (p x) refl (find p xs) (is_found xs (All-tail P x xs h))
    where
      by : (b : Bool) → p x ≡ b → (r : Option X) → IsFound xs r → IsFound (x ∷ xs) (cond b (Some x) r)
      by true e r rest = (All-head P x xs h, e)
      by false e (Some y) rest = rest
      by false e None rest = All-cons (λ z. p z ≡ false) x xs e rest

below_range : (from n top : ℕ) → from + n ≤ top → All (λ k. k < top) (range_with_len from n)
below_range from n top le = All-from_get_or (λ k. k < top) (range_with_len from n) 0 (λ i lt. let short = length-range_with_len from n in omega (arith, get_or-range_with_len from n i 0 (omega arith)))

are_below : (records key : ℕ) → key < records → All (λ k. k < records) (upwards records key)
are_below records key lt = All-append (λ k. k < records) (range_with_len key (records - key)) (range_with_len 0 key) (below_range key (records - key) records (omega arith)) (below_range 0 key records (omega arith))

-- each key below the number of records is among them
every_key : (P : ℕ → Type 0) (records key : ℕ) → key < records → All P (upwards records key) → (q : ℕ) → q < records → P q
every_key P records key lt all q low =
    let above = range_with_len key (records - key) in
    let below = range_with_len 0 key in
    let short = length-range_with_len key (records - key) in
    let rest = length-range_with_len 0 key in
    let whole = length-append above below in
    elim (cases_lt q key) [
      | inl less ↦ (let i = records - key + q in let same : 0 + q ≡ q = omega arith in
          subst P (ap (λ n. get_or (above ++ below) (n + q) 0) (sym short) ∙ get_or-append-add above below q 0 ∙ get_or-range_with_len 0 key q 0 less ∙ same) (all i 0 (omega arith)))
      | inr more ↦ (let i = q - key in let back : key + i ≡ q = omega arith in
          subst P (get_or_append_left above below 0 i (omega arith) ∙ get_or-range_with_len key (records - key) i 0 (omega arith) ∙ back) (all i 0 (omega arith)))
    ]

eqb_symm : (a b : ℕ) → eqb a b ≡ eqb b a
eqb_symm a b = nat_eq_equiv.symm a b

is_listed : (ops : List Op) (q : ℕ) → list_any (eqb q) (map (λ op. op.tuple.0) ops) ≡ names ops (tuple q)
is_listed [] q = refl
is_listed (op ∷ ops) q = ap (λ b. b || list_any (eqb q) (map (λ op. op.tuple.0) ops)) (eqb_symm q op.tuple.0) ∙ ap (λ b. eqb op.tuple.0 q || b) (is_listed ops q)

named : (b : Bool) → not b ≡ false → b ≡ true
named true e = refl
named false e = cc

unnamed : (b : Bool) → not b ≡ true → b ≡ false
unnamed true e = cc
unnamed false e = refl

-- where each key is taken, there are as many operations as records
as_many : (records : ℕ) (ops : List Op) → ((q : ℕ) → q < records → is_free ops q ≡ false) → records ≤ length ops
as_many records ops taken =
    let keys = map (λ op. op.tuple.0) ops in
    let listed : (q : ℕ) → q < records → list_any (eqb q) keys ≡ true = λ q low. is_listed ops q ∙ named (names ops (tuple q)) (taken q low) in
    omega (arith, le-length_from_below keys records listed, length-map ops (λ op. op.tuple.0))

pub is_below : (records : ℕ) (ops : List Op) (key : ℕ) → key < records → length ops < records → (free_key records ops key < records) × (names ops (tuple (free_key records ops key)) ≡ false)
unfolding free_key
is_below records ops key lt few = by (find (is_free ops) (upwards records key)) (is_found (is_free ops) (λ k. k < records) (upwards records key) (are_below records key lt))
  where
    by : (r : Option ℕ) → IsFound (is_free ops) (λ k. k < records) (upwards records key) r → (unwrap_or r key < records) × (names ops (tuple (unwrap_or r key)) ≡ false)
    by (Some y) found = (found.0, unnamed (names ops (tuple y)) found.1)
    by None none = absurd (let many = as_many records ops (every_key (λ q. is_free ops q ≡ false) records key lt none) in omega arith)

pub found_here : {X : Type 0} → (p : X → Bool) (xs ys : List X) (x : X) → find p xs ≡ Some x → find p (xs ++ ys) ≡ Some x
found_here p xs ys x e = find-append p xs ys ∙ ap (λ r. option_or r (find p ys)) e

pub found_behind : {X : Type 0} → (p : X → Bool) (xs ys : List X) → find p xs ≡ None → find p (xs ++ ys) ≡ find p ys
found_behind p xs ys e = find-append p xs ys ∙ ap (λ r. option_or r (find p ys)) e
