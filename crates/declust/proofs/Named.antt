-- The uses of a tuple against the items that name it.
use Rattle.std.proofs.Common.{◌≡◌, ℕ, zero, suc, ◌+◌, ◌<◌, ◌≤◌, Bool, true, false, cond, ◌&&◌, ◌||◌, List, [], ◌∷◌, ◌++◌, length, map, eqb, arith, refl, sym, ap, ap₂, ◌∙◌}
use Rattle.std.specs.Prelude.{slice_get, Option, Some, None, filter}
use Rattle.std.specs.List.{count_by, list_any}
use Rattle.std.specs.List.Sorted.{IsPermutation}
use Rattle.std.proofs.lemmas.Bool.Decides.{nat_tests}
use Rattle.std.proofs.lemmas.List.Sorted.{sum_by-IsPermutation}
use Rattle.std.proofs.lemmas.List.Sums.{sum_by-append}
use Rattle.txn_model.specs.ScriptCheck as script
use Rattle.txn_model.specs.declared.op.Op.{Op}
use Rattle.txn_model.specs.declared.op.TupleId.{TupleId}
use Rattle.stage_layout.specs.Layout.{same_tuple}
use Rattle.catalogue.specs.Plan.{PlainItem, Run, Lose}
use Rattle.warm_split.proofs.Distinct.{AreApart, apart_from_sound}
use Rattle.declust.specs.Greedy.{names}
use Rattle.declust.specs.Total.{HaveNoFault}
use Rattle.declust.specs.Uses.{uses_in, uses_from}
use Rattle.declust.specs.declared.uses.Use.{Use}
use Rattle.declust.proofs.Counts.{count-cons, count-filter, any-append, any-filter, any-permutation}

module _ (t : TupleId) where
  -- ---- how many uses of the tuple are by items that pass a test

  same_number : (ops : List Op) (a : ℕ) → eqb a t.0 ≡ true → list_any (λ (o : Op). eqb o.tuple.0 a) ops ≡ list_any (λ (o : Op). eqb o.tuple.0 t.0) ops
  same_number ops a e = let same : a ≡ t.0 = grind (arith, nat_tests) in ap (λ k. list_any (λ (o : Op). eqb o.tuple.0 k) ops) same

  in_script : (n : ℕ) (test : ℕ → Bool) (ops : List Op) → AreApart ops
      → count_by (λ (u : Use). same_tuple u.tuple t && test u.item) (uses_in n (Run ops)) ≡ cond (names (Run ops) t && test n) 1 0
  in_script n test [] apart = refl
  in_script n test (op ∷ ops) apart =
      let p : Use → Bool = λ u. same_tuple u.tuple t && test u.item in
      let rest = in_script n test ops apart.1 in
      let go : (b : Bool) → eqb op.tuple.0 t.0 ≡ b → cond (b && test n) 1 0 + count_by p (uses_in n (Run ops)) ≡ cond ((b || names (Run ops) t) && test n) 1 0 =
      λ b. elim b as (λ b. eqb op.tuple.0 t.0 ≡ b → cond (b && test n) 1 0 + count_by p (uses_in n (Run ops)) ≡ cond ((b || names (Run ops) t) && test n) 1 0) [
        | true ↦ λ e.
            let none : names (Run ops) t ≡ false = named ops ∙ sym (same_number ops op.tuple.0 e) ∙ apart.0 in
            let zero_more : count_by p (uses_in n (Run ops)) ≡ 0 = rest ∙ ap (λ c. cond (c && test n) 1 0) none in
            omega (arith, zero_more)
        | false ↦ λ e. omega (arith, rest)
      ] in
      count-cons p (record { tuple = op.tuple; item = n }) (uses_in n (Run ops)) ∙ go (eqb op.tuple.0 t.0) refl
    where
      named : (os : List Op) → names (Run os) t ≡ list_any (λ (o : Op). eqb o.tuple.0 t.0) os
      named [] = refl
      named (o ∷ os) = ap (λ c. eqb o.tuple.0 t.0 || c) (named os)

  in_item : (n : ℕ) (test : ℕ → Bool) (item : PlainItem) → HaveNoFault (item ∷ []) → count_by (λ (u : Use). same_tuple u.tuple t && test u.item) (uses_in n item) ≡ cond (names item t && test n) 1 0
  in_item n test (Run ops) sound = in_script n test ops (apart_from_sound ops sound.0)
  in_item n test Lose sound = refl

  pub first_sound : (item : PlainItem) (items : List PlainItem) → HaveNoFault (item ∷ items) → HaveNoFault (item ∷ []) × HaveNoFault items
  first_sound (Run ops) items h = ((h.0, tt), h.1)
  first_sound Lose items h = (tt, h)

  counted : (test : ℕ → Bool) (touch : PlainItem → Bool) (n : ℕ) (items : List PlainItem) → HaveNoFault items
      → ((j : ℕ) (item : PlainItem) → slice_get items j ≡ Some item → test (n + j) ≡ touch item)
      → count_by (λ (u : Use). same_tuple u.tuple t && test u.item) (uses_from n items) ≡ count_by (λ item. names item t && touch item) items
  counted test touch n [] sound same = refl
  counted test touch n (item ∷ items) sound same =
      let p : Use → Bool = λ u. same_tuple u.tuple t && test u.item in
      let parts = first_sound item items sound in
      let at : n ≡ n + 0 = omega arith in
      let here : test n ≡ touch item = ap test at ∙ same 0 item refl in
      let rest = counted test touch (n + 1) items parts.1 (λ j other e. let k : n + 1 + j ≡ n + suc j = omega arith in ap test k ∙ same (suc j) other e) in
      let one = in_item n test item parts.0 ∙ ap (λ b. cond (names item t && b) 1 0) here in
      sum_by-append (λ u. cond (p u) 1 0) (uses_in n item) (uses_from (n + 1) items) ∙ ap₂ (λ (a b : ℕ). a + b) one rest ∙ sym (count-cons (λ i. names i t && touch i) item items)

  pub users : (test : ℕ → Bool) (touch : PlainItem → Bool) (items : List PlainItem) (uses : List Use) → IsPermutation (uses_from 0 items) uses → HaveNoFault items
      → ((j : ℕ) (item : PlainItem) → slice_get items j ≡ Some item → test j ≡ touch item)
      → count_by (λ (u : Use). test u.item) (filter (λ u. same_tuple u.tuple t) uses) ≡ count_by (λ item. names item t && touch item) items
  users test touch items uses moved sound same =
      count-filter (λ (u : Use). test u.item) (λ u. same_tuple u.tuple t) uses
      ∙ sum_by-IsPermutation (λ (u : Use). cond (same_tuple u.tuple t && test u.item) 1 0) (uses_from 0 items) uses moved
      ∙ counted test touch 0 items sound (λ j item e. let k : 0 + j ≡ j = omega arith in ap test k ∙ same j item e)

  -- ---- whether an item is among those of the tuple's uses

  flagged : (n k : ℕ) (flag : Bool) (ops : List Op) → eqb n k ≡ flag → list_any (λ (u : Use). same_tuple u.tuple t && eqb u.item k) (uses_in n (Run ops)) ≡ (names (Run ops) t && flag)
  flagged n k flag [] e = refl
  flagged n k flag (op ∷ ops) e =
      ap₂ (λ (b c : Bool). same_tuple op.tuple t && b || c) e (flagged n k flag ops e)
      ∙ elim (same_tuple op.tuple t) as (λ b. (b && flag || names (Run ops) t && flag) ≡ ((b || names (Run ops) t) && flag)) [
        | true ↦ elim flag as (λ f. (f || names (Run ops) t && f) ≡ f) [ true ↦ refl | false ↦ elim (names (Run ops) t) as (λ c. (c && false) ≡ false) [ true ↦ refl | false ↦ refl ] ]
        | false ↦ refl
      ]

  and_true : (b : Bool) → (b && true) ≡ b
  and_true true = refl
  and_true false = refl

  and_false : (b : Bool) → (b && false) ≡ false
  and_false true = refl
  and_false false = refl

  or_false : (b : Bool) → (b || false) ≡ b
  or_false true = refl
  or_false false = refl

  own : (n : ℕ) (item : PlainItem) → list_any (λ (u : Use). same_tuple u.tuple t && eqb u.item n) (uses_in n item) ≡ names item t
  own n (Run ops) = let e : eqb n n ≡ true = grind (arith, nat_tests) in flagged n n true ops e ∙ and_true (names (Run ops) t)
  own n Lose = refl

  strange : (n k : ℕ) (item : PlainItem) → eqb n k ≡ false → list_any (λ (u : Use). same_tuple u.tuple t && eqb u.item k) (uses_in n item) ≡ false
  strange n k (Run ops) e = flagged n k false ops e ∙ and_false (names (Run ops) t)
  strange n k Lose e = refl

  later : (n k : ℕ) (items : List PlainItem) → k < n → list_any (λ (u : Use). same_tuple u.tuple t && eqb u.item k) (uses_from n items) ≡ false
  later n k [] lt = refl
  later n k (item ∷ items) lt =
      let apart : eqb n k ≡ false = grind (arith, nat_tests) in
      any-append (λ (u : Use). same_tuple u.tuple t && eqb u.item k) (uses_in n item) (uses_from (n + 1) items)
      ∙ ap₂ (λ (a b : Bool). a || b) (strange n k item apart) (later (n + 1) k items (omega (arith, lt)))

  found : (n j k : ℕ) (items : List PlainItem) (item : PlainItem) → n + j ≡ k → slice_get items j ≡ Some item → list_any (λ (u : Use). same_tuple u.tuple t && eqb u.item k) (uses_from n items) ≡ names item t
  found n j k [] item place e = cc e
  found n zero k (first ∷ items) item place e =
      let at : n ≡ k = omega (arith, place) in
      let is : first ≡ item = some_same first item e in
      any-append (λ (u : Use). same_tuple u.tuple t && eqb u.item k) (uses_in n first) (uses_from (n + 1) items)
      ∙ ap₂ (λ (a b : Bool). a || b) (ap (λ m. list_any (λ (u : Use). same_tuple u.tuple t && eqb u.item m) (uses_in n first)) (sym at) ∙ own n first) (later (n + 1) k items (omega (arith, place)))
      ∙ or_false (names first t) ∙ ap (λ i. names i t) is
    where
      some_same : (a b : PlainItem) → Some a ≡ Some b → a ≡ b
      some_same a b e = cc e
  found n (suc j) k (first ∷ items) item place e =
      let apart : eqb n k ≡ false = grind (arith, nat_tests) in
      any-append (λ (u : Use). same_tuple u.tuple t && eqb u.item k) (uses_in n first) (uses_from (n + 1) items)
      ∙ ap₂ (λ (a b : Bool). a || b) (strange n k first apart) (found (n + 1) j k items item (omega (arith, place)) e)

  pub is_user : (items : List PlainItem) (uses : List Use) (k : ℕ) (item : PlainItem) → IsPermutation (uses_from 0 items) uses → slice_get items k ≡ Some item
      → list_any (λ (u : Use). eqb u.item k) (filter (λ u. same_tuple u.tuple t) uses) ≡ names item t
  is_user items uses k item moved at =
      any-filter (λ (u : Use). eqb u.item k) (λ u. same_tuple u.tuple t) uses
      ∙ any-permutation (λ (u : Use). same_tuple u.tuple t && eqb u.item k) (uses_from 0 items) uses moved
      ∙ found 0 k k items item (omega arith) at
