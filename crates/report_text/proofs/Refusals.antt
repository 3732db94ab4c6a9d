-- The last refusals of a client's items, kept while the refusals are gone through.
use Rattle.std.proofs.Common.{◌≡◌, ◌≢◌, ℕ, zero, suc, ◌+◌, ◌≤◌, ◌==◌, ◌&&◌, Bool, true, false, List, [], ◌∷◌, ◌++◌, map, set, replicate, append-nil, append_assoc, Option, Some, None, refl, sym, ap, ◌∙◌, arith, if◌then◌else◌}
use Rattle.std.specs.Prelude.{find}
use Rattle.std.specs.List.{range_with_len}
use Rattle.std.proofs.lemmas.Bool.Decides.{nat_tests}
use Rattle.std.proofs.lemmas.List.{reverse-append}
use Rattle.core_model.specs.Rota.{numbers_below}
use Rattle.core_model.specs.declared.refusal.Refusal.{Refusal}
use Rattle.report_text.specs.Refused.{put_at, noted, all_noted}
use Rattle.report_text.specs.RunReport.{last_refusal}

-- equal from the first number on
same_from : {X : Type 0} (f g : ℕ → X) (a n : ℕ) → ((i : ℕ) → a ≤ i → f i ≡ g i) → map f (range_with_len a n) ≡ map g (range_with_len a n)
same_from f g a zero same = refl
same_from f g a (suc n) same = ap (λ x. x ∷ map f (range_with_len (a + 1) n)) (same a (omega arith)) ∙ ap (λ l. g a ∷ l) (same_from f g (a + 1) n (λ i le. same i (omega (arith, le))))

-- equal but at one place
set_from : {X : Type 0} (f g : ℕ → X) (a n k : ℕ) (v : X) → g (a + k) ≡ v → ((i : ℕ) → i ≢ a + k → g i ≡ f i) → map g (range_with_len a n) ≡ set (map f (range_with_len a n)) k v
set_from f g a zero k v at same = refl
set_from f g a (suc n) zero v at same =
    ap (λ x. x ∷ map g (range_with_len (a + 1) n)) (ap g {x = a} {y = a + 0} (omega arith) ∙ at)
    ∙ ap (λ l. v ∷ l) (same_from g f (a + 1) n (λ i le. same i (λ e. absurd (omega (arith, e, le)))))
set_from f g a (suc n) (suc k) v at same =
    ap (λ x. x ∷ map g (range_with_len (a + 1) n)) (same a (λ e. absurd (omega (arith, e))))
    ∙ ap (λ l. f a ∷ l) (set_from f g (a + 1) n k v (ap g {x = (a + 1) + k} {y = a + suc k} (omega arith) ∙ at) (λ i n. same i (λ e. n (omega (arith, e)))))

-- one more refusal
last_more : (c seq : ℕ) (rs : List Refusal) (r : Refusal) → last_refusal c seq (rs ++ r ∷ []) ≡ (if (r.client == c) && (r.seq == seq) then Some r else last_refusal c seq rs)
last_more c seq rs r = ap (find (λ r. (r.client == c) && (r.seq == seq))) (reverse-append rs (r ∷ []))

-- one of another item
last_other : (c seq : ℕ) (rs : List Refusal) (r : Refusal) → ((r.client == c) && (r.seq == seq)) ≡ false → last_refusal c seq (rs ++ r ∷ []) ≡ last_refusal c seq rs
last_other c seq rs r other = last_more c seq rs r ∙ ap (λ (b : Bool). if b then Some r else last_refusal c seq rs) other

-- a refusal of another client changes nothing
not_noted : (c n : ℕ) (rs : List Refusal) (r : Refusal) → (r.client == c) ≡ false → map (λ i. last_refusal c (i + 1) (rs ++ r ∷ [])) (numbers_below n) ≡ map (λ i. last_refusal c (i + 1) rs) (numbers_below n)
not_noted c n rs r other = same_from (λ i. last_refusal c (i + 1) (rs ++ r ∷ [])) (λ i. last_refusal c (i + 1) rs) 0 n (λ i le. last_other c (i + 1) rs r (ap (λ (b : Bool). b && (r.seq == i + 1)) other))

-- one of the client is noted
own_noted : (c n : ℕ) (rs : List Refusal) (r : Refusal) → (r.client == c) ≡ true → map (λ i. last_refusal c (i + 1) (rs ++ r ∷ [])) (numbers_below n) ≡ put_at r.seq r (map (λ i. last_refusal c (i + 1) rs) (numbers_below n))
own_noted c n rs r own = by r.seq refl
  where
    after : ℕ → Option Refusal
    after i = last_refusal c (i + 1) (rs ++ r ∷ [])

    before : ℕ → Option Refusal
    before i = last_refusal c (i + 1) rs

    differs : (k i : ℕ) → k ≢ i + 1 → (k == i + 1) ≡ false
    differs k i n = grind (arith, nat_tests)

    itself : (k : ℕ) → (suc k == (0 + k) + 1) ≡ true
    itself k = grind (arith, nat_tests)

    is_other : (i : ℕ) → r.seq ≢ i + 1 → after i ≡ before i
    is_other i n = last_other c (i + 1) rs r (ap (λ (b : Bool). b && (r.seq == i + 1)) own ∙ differs r.seq i n)

    by : (seq : ℕ) → r.seq ≡ seq → map after (numbers_below n) ≡ put_at seq r (map before (numbers_below n))
    by zero is = same_from after before 0 n (λ i le. is_other i (λ e. absurd (omega (arith, is, e))))
    by (suc k) is =
        set_from before after 0 n k (Some r)
        (last_more c ((0 + k) + 1) rs r ∙ ap (λ (b : Bool). if b then Some r else last_refusal c ((0 + k) + 1) rs) (ap (λ (b : Bool). b && (r.seq == (0 + k) + 1)) own ∙ ap (λ (q : ℕ). q == (0 + k) + 1) is ∙ itself k))
        (λ i n. is_other i (λ e. n (omega (arith, is, e))))

-- no item has one at first
none_from : (c a n : ℕ) → replicate n None ≡ map (λ i. last_refusal c (i + 1) []) (range_with_len a n)
none_from c a zero = refl
none_from c a (suc n) = ap (λ l. None ∷ l) (none_from c (a + 1) n)

noted_more : (c n : ℕ) (rs : List Refusal) (r : Refusal) → map (λ i. last_refusal c (i + 1) (rs ++ r ∷ [])) (numbers_below n) ≡ noted c r (map (λ i. last_refusal c (i + 1) rs) (numbers_below n))
noted_more c n rs r = by (r.client == c) refl
  where
    before : List (Option Refusal)
    before = map (λ i. last_refusal c (i + 1) rs) (numbers_below n)

    by : (b : Bool) → (r.client == c) ≡ b → map (λ i. last_refusal c (i + 1) (rs ++ r ∷ [])) (numbers_below n) ≡ (if b then put_at r.seq r before else before)
    by true own = own_noted c n rs r own
    by false other = not_noted c n rs r other

noted_behind : (c n : ℕ) (done rs : List Refusal) → all_noted c rs (map (λ i. last_refusal c (i + 1) done) (numbers_below n)) ≡ map (λ i. last_refusal c (i + 1) (done ++ rs)) (numbers_below n)
noted_behind c n done [] = ap (λ (l : List Refusal). map (λ i. last_refusal c (i + 1) l) (numbers_below n)) (sym (append-nil done))
noted_behind c n done (r ∷ rs) =
    ap (all_noted c rs) (sym (noted_more c n done r))
    ∙ noted_behind c n (done ++ r ∷ []) rs
    ∙ ap (λ (l : List Refusal). map (λ i. last_refusal c (i + 1) l) (numbers_below n)) (append_assoc done (r ∷ []) rs)

-- all refusals, noted one after another, leave the last ones
pub noted_all : (c n : ℕ) (rs : List Refusal) → all_noted c rs (replicate n None) ≡ map (λ i. last_refusal c (i + 1) rs) (numbers_below n)
noted_all c n rs = ap (all_noted c rs) (none_from c 0 n) ∙ noted_behind c n [] rs
