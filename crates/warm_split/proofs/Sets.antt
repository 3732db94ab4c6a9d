-- Sets of operation numbers against the parts that they stand for.
use Rattle.std.proofs.Common.{◌≡◌, ◌<◌, ℕ, zero, suc, Bool, true, false, cond, not, ◌&&◌, ◌||◌, eqb, List, [], ◌∷◌, ◌++◌, length, Option, Some, None, refl, sym, ap, ◌∙◌, arith}
use Rattle.std.specs.List.{list_any}
use Rattle.std.proofs.lemmas.Bool.Decides.{nat_tests}
use Rattle.txn_model.specs.declared.op.Need.{Need}
use Rattle.stage_layout.specs.Late.{Part, Before, Hot, Late, is_before, is_in_switch, is_after, part_at}
use Rattle.warm_split.specs.OpSet.{contains}
use Rattle.warm_split.specs.Parts.{passes_at, AreSets, IsHotSet}
use Rattle.warm_split.specs.declared.op_set.OpSet.{OpSet}
use Rattle.warm_split.specs.declared.parts.Parts.{Parts}

eqb-suc : (a b : ℕ) → eqb (suc a) (suc b) ≡ eqb a b
eqb-suc a b = grind (arith, nat_tests)

-- one more part
passes_at-push : (test : Part → Bool) (parts : List Part) (x : Part) (k : ℕ) → passes_at test (parts ++ x ∷ []) k ≡ (eqb k (length parts) && test x || passes_at test parts k)
passes_at-push test [] x zero = elim (test x) as (λ b. b ≡ (true && b || false)) [ true ↦ refl | false ↦ refl ]
passes_at-push test [] x (suc k) = let apart : eqb (suc k) 0 ≡ false = grind (arith, nat_tests) in rw apart refl
passes_at-push test (part ∷ parts) x zero = let apart : eqb 0 (suc (length parts)) ≡ false = grind (arith, nat_tests) in rw apart refl
passes_at-push test (part ∷ parts) x (suc k) = rw (eqb-suc k (length parts)) (passes_at-push test parts x k)

-- what isn't so of a missing operation can be read by its part
passes_at-part_at : (test : Part → Bool) (parts : List Part) (k : ℕ) → test Before ≡ false → passes_at test parts k ≡ test (part_at parts k)
passes_at-part_at test [] k e = sym e
passes_at-part_at test (part ∷ parts) zero e = refl
passes_at-part_at test (part ∷ parts) (suc k) e = passes_at-part_at test parts k e

-- the sets by the parts of their operations
pub hot_set : (parts : List Part) (sets : Parts) → AreSets parts sets → IsHotSet parts sets.hot
hot_set parts sets sound k = sound.hot k ∙ passes_at-part_at is_in_switch parts k refl

pub after_set : (parts : List Part) (sets : Parts) → AreSets parts sets → (k : ℕ) → contains sets.after k ≡ is_after (part_at parts k)
after_set parts sets sound k = sound.after k ∙ passes_at-part_at is_after parts k refl

pub before_set : (parts : List Part) (sets : Parts) (k : ℕ) → AreSets parts sets → k < length parts → contains sets.before k ≡ is_before (part_at parts k)
before_set parts sets k sound lt = sound.before k ∙ inside parts k lt
  where
    inside : (ps : List Part) (j : ℕ) → j < length ps → passes_at is_before ps j ≡ is_before (part_at ps j)
    inside [] j h = absurd (omega arith)
    inside (p ∷ ps) zero h = refl
    inside (p ∷ ps) (suc j) h = inside ps j (omega arith)

same_any : {X : Type 0} (p q : X → Bool) (xs : List X) → ((x : X) → p x ≡ q x) → list_any p xs ≡ list_any q xs
same_any p q [] h = refl
same_any p q (x ∷ xs) h = rw (h x, same_any p q xs h) refl

-- the set with the number of the next operation, where its part passes
grown : (test : Part → Bool) (parts : List Part) (x : Part) (set new : OpSet) (number : ℕ) → length parts ≡ number → test x ≡ true
    → ((k : ℕ) → contains new k ≡ (eqb k number || contains set k)) → ((k : ℕ) → contains set k ≡ passes_at test parts k) → (k : ℕ) → contains new k ≡ passes_at test (parts ++ x ∷ []) k
grown test parts x set new number len passing more old k =
    more k ∙ ap (λ b. eqb k number || b) (old k) ∙ sym (passes_at-push test parts x k ∙ rw (len, passing) (elim (eqb k number) as (λ b. (b && true || passes_at test parts k) ≡ (b || passes_at test parts k)) [ true ↦ refl | false ↦ refl ]))

-- the same set, where its part doesn't pass
kept : (test : Part → Bool) (parts : List Part) (x : Part) (set : OpSet) → test x ≡ false → ((k : ℕ) → contains set k ≡ passes_at test parts k) → (k : ℕ) → contains set k ≡ passes_at test (parts ++ x ∷ []) k
kept test parts x set failing old k =
    old k ∙ sym (passes_at-push test parts x k ∙ rw failing (elim (eqb k (length parts)) as (λ b. (b && false || passes_at test parts k) ≡ passes_at test parts k) [ true ↦ refl | false ↦ refl ]))

module _ (parts : List Part) (sets : Parts) (sound : AreSets parts sets) where
  -- a need of a late operation
  pub needs_late : (needs : List Need) → list_any (λ n. contains sets.after n.from) needs ≡ list_any (λ n. is_after (part_at parts n.from)) needs
  needs_late needs = same_any _ _ needs (λ n. sound.after n.from ∙ passes_at-part_at is_after parts n.from refl)

  either : (part : Part) → (is_in_switch part || is_after part) ≡ not (is_before part)
  either Before = refl
  either Hot = refl
  either Late = refl

  -- a need of a hot or a late operation
  pub needs_switch : (both : OpSet) → ((k : ℕ) → contains both k ≡ (contains sets.hot k || contains sets.after k)) → (needs : List Need)
      → list_any (λ n. contains both n.from) needs ≡ list_any (λ n. not (is_before (part_at parts n.from))) needs
  needs_switch both joined needs =
      same_any _ _ needs (λ n.
      joined n.from ∙ ap (λ b. b || contains sets.after n.from) (sound.hot n.from ∙ passes_at-part_at is_in_switch parts n.from refl)
      ∙ ap (λ b. is_in_switch (part_at parts n.from) || b) (sound.after n.from ∙ passes_at-part_at is_after parts n.from refl)
      ∙ either (part_at parts n.from))

  module _ (number : ℕ) (len : length parts ≡ number) (new : OpSet) where
    pub with_hot : ((k : ℕ) → contains new k ≡ (eqb k number || contains sets.hot k)) → AreSets (parts ++ Hot ∷ []) (record { before = sets.before; hot = new; after = sets.after })
    with_hot more = record {
      before = kept is_before parts Hot sets.before refl sound.before;
      hot = grown is_in_switch parts Hot sets.hot new number len refl more sound.hot;
      after = kept is_after parts Hot sets.after refl sound.after;
    }

    pub with_late : ((k : ℕ) → contains new k ≡ (eqb k number || contains sets.after k)) → AreSets (parts ++ Late ∷ []) (record { before = sets.before; hot = sets.hot; after = new })
    with_late more = record {
      before = kept is_before parts Late sets.before refl sound.before;
      hot = kept is_in_switch parts Late sets.hot refl sound.hot;
      after = grown is_after parts Late sets.after new number len refl more sound.after;
    }

    pub with_before : ((k : ℕ) → contains new k ≡ (eqb k number || contains sets.before k)) → AreSets (parts ++ Before ∷ []) (record { before = new; hot = sets.hot; after = sets.after })
    with_before more = record {
      before = grown is_before parts Before sets.before new number len refl more sound.before;
      hot = kept is_in_switch parts Before sets.hot refl sound.hot;
      after = kept is_after parts Before sets.after refl sound.after;
    }

-- a step answers its number exactly where it turns badly
pub caught : (bad : Bool) (number at : ℕ) → Some at ≡ cond bad (Some number) None → (bad ≡ true) × (Some at ≡ Some number)
caught true number at e = (refl, e)
caught false number at e = cc e

pub passed : (bad : Bool) (number : ℕ) → None ≡ cond bad (Some number) None → bad ≡ false
passed true number e = cc e
passed false number e = refl
