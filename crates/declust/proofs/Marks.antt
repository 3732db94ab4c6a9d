-- Sets of arrays, item by item, while an array is added to those of some uses.
use Rattle.std.proofs.Common.{◌≡◌, ◌≢◌, ℕ, ◌+◌, ◌<◌, Bool, true, false, ◌&&◌, ◌||◌, List, [], ◌∷◌, ◌++◌, length, set, take, get_or, eqb, inl, inr, arith, refl, sym, ap, ap₂, ◌∙◌}
use Rattle.std.specs.List.{list_any}
use Rattle.std.proofs.lemmas.Bool.{cases_eq}
use Rattle.std.proofs.lemmas.Bool.Decides.{nat_tests}
use Rattle.std.proofs.lemmas.List.{take_more, get_or-set_same, get_or-set_other}
use Rattle.declust.specs.ArraySet.{contains}
use Rattle.declust.specs.declared.array_set.ArraySet.{ArraySet}
use Rattle.declust.specs.declared.uses.Use.{Use}
use Rattle.declust.proofs.Counts.{any-append}

abbrev none : ArraySet
none = record { 0 = 0 }

-- the array was added to the sets of the items with these uses
abbrev pub IsMarked : List ArraySet → List ArraySet → ℕ → List Use → Type 0
IsMarked old new array uses = (k a : ℕ) → k < length old → contains (get_or new k none) a ≡ (eqb a array && list_any (λ used. eqb used.item k) uses || contains (get_or old k none) a)

pub none_marked : (sets : List ArraySet) (array : ℕ) → IsMarked sets sets array []
none_marked sets array k a lt = elim (eqb a array) as (λ b. contains (get_or sets k none) a ≡ (b && false || contains (get_or sets k none) a)) [ true ↦ refl | false ↦ refl ]

again : (e x c : Bool) → (e || (e && x || c)) ≡ (e && (x || true) || c)
again true true c = refl
again true false c = refl
again false x c = refl

still : (e x c : Bool) → (e && x || c) ≡ (e && (x || false) || c)
still true true c = refl
still true false c = refl
still false x c = refl

pub one_more_marked : (old sets : List ArraySet) (array item : ℕ) (new : ArraySet) (uses : List Use) (i : ℕ) (d : Use) → i < length uses → length sets ≡ length old → item < length old → item ≡ (get_or uses i d).item
    → ((a : ℕ) → contains new a ≡ (eqb a array || contains (get_or sets item none) a)) → IsMarked old sets array (take i uses) → IsMarked old (set sets item new) array (take (i + 1) uses)
one_more_marked old sets array item new uses i d within size there is added marked k a lt =
    let before = list_any (λ (used : Use). eqb used.item k) (take i uses) in
    let known = contains (get_or old k none) a in
    let split : list_any (λ (used : Use). eqb used.item k) (take (i + 1) uses) ≡ (before || eqb item k) =
    ap (list_any (λ (used : Use). eqb used.item k)) (take_more uses i d within) ∙ any-append (λ (used : Use). eqb used.item k) (take i uses) (get_or uses i d ∷ [])
    ∙ ap (λ b. before || b) (or_none (eqb (get_or uses i d).item k) ∙ ap (λ n. eqb n k) (sym is)) in
    elim (cases_eq k item) as (λ _. contains (get_or (set sets item new) k none) a ≡ (eqb a array && list_any (λ used. eqb used.item k) (take (i + 1) uses) || known)) [
      | inl same ↦
          let hit : eqb item k ≡ true = grind (arith, nat_tests, same) in
          let here : item < length sets = omega (arith, there, size) in
          ap (λ n. contains (get_or (set sets item new) n none) a) same ∙ ap (λ s. contains s a) (get_or-set_same sets item new none here) ∙ added a
          ∙ ap (λ n. eqb a array || contains (get_or sets n none) a) (sym same) ∙ ap (λ b. eqb a array || b) (marked k a lt)
          ∙ again (eqb a array) before known ∙ ap (λ b. eqb a array && b || known) (sym (split ∙ ap (λ b. before || b) hit))
      | inr apart ↦
          let miss : eqb item k ≡ false = grind (arith, nat_tests, apart) in
          ap (λ s. contains s a) (get_or-set_other sets item k new none apart) ∙ marked k a lt
          ∙ still (eqb a array) before known ∙ ap (λ b. eqb a array && b || known) (sym (split ∙ ap (λ b. before || b) miss))
    ]
  where
    or_none : (b : Bool) → (b || false) ≡ b
    or_none true = refl
    or_none false = refl
