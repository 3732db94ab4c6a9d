-- Laws on the order of stamps and entries.
use Rattle.std.proofs.Common.{◌≡◌, ◌⊎◌, ℕ, zero, suc, ◌<◌, ◌≤◌, Bool, true, false, List, [], ◌∷◌, if◌then◌else◌, inl, inr, refl, sym, ap, ◌∙◌, subst, arith, Ordering, Less, Equal, Greater, nat_cmp, is_lt}
use Rattle.std.specs.Ordering.{ordering_then}
use Rattle.std.specs.List.{AllByRecursion}
use Rattle.std.proofs.lemmas.Bool.Decides.{nat_tests}
use Rattle.txn_model.specs.declared.stamp.Seen.{Seen}
use Rattle.txn_model.specs.declared.stamp.Stamp.{Stamp}
use Rattle.history_model.specs.History.{stamp_cmp, entry_cmp, greater}
use Rattle.history_model.specs.declared.entry.Entry.{Entry}
use Rattle.core_model.specs.Decision.{greatest, next_sub, decision_stamp}
use Rattle.core_model.specs.StampOrder.{Below, AtMost}
use Rattle.core_model.specs.State.{zero_stamp}

-- the order by numbers
abbrev IsLow : Stamp → Stamp → Type 0
IsLow a b = (a.number < b.number) ⊎ ((a.number ≡ b.number) × (a.sub < b.sub))

abbrev IsMost : Stamp → Stamp → Type 0
IsMost a b = (a.number < b.number) ⊎ ((a.number ≡ b.number) × (a.sub ≤ b.sub))

-- how two stamps compare
number_cases : (a b : Stamp) → ((stamp_cmp a b ≡ Less) × IsLow a b) ⊎ ((is_lt (stamp_cmp a b) ≡ false) × IsMost b a)
number_cases a b = numbers (nat_cases a.number b.number)
  where
    nat_cases : (m n : ℕ) → ((nat_cmp m n ≡ Less) × (m < n)) ⊎ (((nat_cmp m n ≡ Equal) × (m ≡ n)) ⊎ ((nat_cmp m n ≡ Greater) × (n < m)))
    nat_cases m n = grind (arith, nat_tests)

    subs : (r : Ordering) → stamp_cmp a b ≡ r → a.number ≡ b.number → ((r ≡ Less) × (a.sub < b.sub)) ⊎ (((r ≡ Equal) × (a.sub ≡ b.sub)) ⊎ ((r ≡ Greater) × (b.sub < a.sub))) → ((stamp_cmp a b ≡ Less) × IsLow a b) ⊎ ((is_lt (stamp_cmp a b) ≡ false) × IsMost b a)
    subs r e n (inl p) = inl (e ∙ p.0, inr (n, p.1))
    subs r e n (inr (inl p)) = inr (ap is_lt (e ∙ p.0), inr (sym n, omega arith))
    subs r e n (inr (inr p)) = inr (ap is_lt (e ∙ p.0), inr (sym n, omega arith))

    numbers : ((nat_cmp a.number b.number ≡ Less) × (a.number < b.number)) ⊎ (((nat_cmp a.number b.number ≡ Equal) × (a.number ≡ b.number)) ⊎ ((nat_cmp a.number b.number ≡ Greater) × (b.number < a.number))) → ((stamp_cmp a b ≡ Less) × IsLow a b) ⊎ ((is_lt (stamp_cmp a b) ≡ false) × IsMost b a)
    numbers (inl p) = inl (ap (λ (r : Ordering). ordering_then r (nat_cmp a.sub b.sub)) p.0, inl p.1)
    numbers (inr (inl p)) = subs (nat_cmp a.sub b.sub) (ap (λ (r : Ordering). ordering_then r (nat_cmp a.sub b.sub)) p.0) p.1 (nat_cases a.sub b.sub)
    numbers (inr (inr p)) = inr (ap (λ (r : Ordering). is_lt (ordering_then r (nat_cmp a.sub b.sub))) p.0, inl p.1)

apart : (a b : Stamp) → IsLow a b → IsMost b a → ⊥
apart a b (inl p) (inl q) = omega arith
apart a b (inl p) (inr q) = omega arith
apart a b (inr p) (inl q) = omega arith
apart a b (inr p) (inr q) = omega arith

low_of : (a b : Stamp) → Below a b → IsLow a b
low_of a b below = elim (number_cases a b) [ inl p ↦ p.1 | inr p ↦ absurd (clash (sym (ap is_lt below) ∙ p.0)) ]
  where
    clash : true ≡ false → ⊥
    clash e = cc

pub below_of : (a b : Stamp) → IsLow a b → Below a b
below_of a b low = elim (number_cases a b) [ inl p ↦ p.0 | inr p ↦ absurd (apart a b low p.1) ]

most_of : (a b : Stamp) → AtMost a b → IsMost a b
most_of a b most = elim (number_cases b a) [ inl p ↦ absurd (most p.0) | inr p ↦ p.1 ]

at_most_of : (a b : Stamp) → IsMost a b → AtMost a b
at_most_of a b most less = apart b a (low_of b a less) most

pub AtMost-refl : (a : Stamp) → AtMost a a
AtMost-refl a = at_most_of a a (inr (refl, omega arith))

pub AtMost-trans : (a b c : Stamp) → AtMost a b → AtMost b c → AtMost a c
AtMost-trans a b c p q = at_most_of a c (by (most_of a b p) (most_of b c q))
  where
    by : IsMost a b → IsMost b c → IsMost a c
    by (inl p) (inl q) = inl (omega arith)
    by (inl p) (inr q) = inl (omega arith)
    by (inr p) (inl q) = inl (omega arith)
    by (inr p) (inr q) = inr (p.0 ∙ q.0, omega arith)

pub AtMost-antisym : (a b : Stamp) → AtMost a b → AtMost b a → a ≡ b
AtMost-antisym a b p q = by (most_of a b p) (most_of b a q)
  where
    same : a.number ≡ b.number → a.sub ≡ b.sub → a ≡ b
    same n s = ap (λ (k : ℕ). record { number = k; sub = a.sub }) n ∙ ap (λ (k : ℕ). record { number = b.number; sub = k }) s

    by : IsMost a b → IsMost b a → a ≡ b
    by (inl p) (inl q) = absurd (omega arith)
    by (inl p) (inr q) = absurd (omega arith)
    by (inr p) (inl q) = absurd (omega arith)
    by (inr p) (inr q) = same p.0 (omega arith)

pub AtMost-zero : (a : Stamp) → AtMost zero_stamp a
AtMost-zero a = at_most_of zero_stamp a (first a.number refl)
  where
    first : (n : ℕ) → a.number ≡ n → IsMost zero_stamp a
    first zero e = inr (sym e, omega arith)
    first (suc n) e = inl (omega arith)

pub Below-from_AtMost : (a b c : Stamp) → AtMost a b → Below b c → Below a c
Below-from_AtMost a b c p q = below_of a c (by (most_of a b p) (low_of b c q))
  where
    by : IsMost a b → IsLow b c → IsLow a c
    by (inl p) (inl q) = inl (omega arith)
    by (inl p) (inr q) = inl (omega arith)
    by (inr p) (inl q) = inl (omega arith)
    by (inr p) (inr q) = inr (p.0 ∙ q.0, omega arith)

pub AtMost-from_Below : (a b : Stamp) → Below a b → AtMost a b
AtMost-from_Below a b p = at_most_of a b (by (low_of a b p))
  where
    by : IsLow a b → IsMost a b
    by (inl p) = inl p
    by (inr p) = inr (p.0, omega arith)

pub Below-next_sub : (a : Stamp) → Below a (next_sub a)
Below-next_sub a = below_of a (next_sub a) (inr (refl, omega arith))

pub stamp_cmp_cases : (a b : Stamp) → ((stamp_cmp a b ≡ Less) × Below a b) ⊎ ((is_lt (stamp_cmp a b) ≡ false) × AtMost b a)
stamp_cmp_cases a b = elim (number_cases a b) [ inl p ↦ inl (p.0, p.0) | inr p ↦ inr (p.0, at_most_of b a p.1) ]

greater_cases : (a b : Stamp) → ((greater a b ≡ b) × AtMost a b) ⊎ ((greater a b ≡ a) × AtMost b a)
greater_cases a b = elim (stamp_cmp_cases a b) [
  | inl p ↦ inl (ap (λ (r : Ordering). if is_lt r then b else a) p.0, AtMost-from_Below a b p.1)
  | inr p ↦ inr (ap (λ (t : Bool). if t then b else a) p.0, p.1)
]

pub AtMost-greater_left : (a b : Stamp) → AtMost a (greater a b)
AtMost-greater_left a b = elim (greater_cases a b) [
  | inl p ↦ subst (λ (s : Stamp). AtMost a s) (sym p.0) p.1
  | inr p ↦ subst (λ (s : Stamp). AtMost a s) (sym p.0) (AtMost-refl a)
]

pub AtMost-greater_right : (a b : Stamp) → AtMost b (greater a b)
AtMost-greater_right a b = elim (greater_cases a b) [
  | inl p ↦ subst (λ (s : Stamp). AtMost b s) (sym p.0) (AtMost-refl b)
  | inr p ↦ subst (λ (s : Stamp). AtMost b s) (sym p.0) p.1
]

-- the greatest is at least the stamp and each that was read
pub AtMost-greatest : (noted : List Seen) (stamp : Stamp) → AtMost stamp (greatest stamp noted)
AtMost-greatest [] stamp = AtMost-refl stamp
AtMost-greatest (seen ∷ noted) stamp = AtMost-trans stamp (greater stamp seen.stamp) (greatest stamp (seen ∷ noted)) (AtMost-greater_left stamp seen.stamp) (AtMost-greatest noted (greater stamp seen.stamp))

pub noted_at_most : (noted : List Seen) (stamp : Stamp) → AllByRecursion (λ seen. AtMost seen.stamp (greatest stamp noted)) noted
noted_at_most [] stamp = tt
noted_at_most (seen ∷ noted) stamp = (AtMost-trans seen.stamp (greater stamp seen.stamp) (greatest stamp (seen ∷ noted)) (AtMost-greater_right stamp seen.stamp) (AtMost-greatest noted (greater stamp seen.stamp)), noted_at_most noted (greater stamp seen.stamp))

-- an entry with a lower stamp stands before
pub entry_cmp-Below : (e f : Entry) → Below e.stamp f.stamp → entry_cmp e f ≡ Less
entry_cmp-Below e f h = ap (λ (r : Ordering). ordering_then r (nat_cmp e.client f.client)) h

-- the stamp of a decided transaction is above its client's last one and above each that it read
pub above_all : (last : Stamp) (noted : List Seen) → Below last (decision_stamp last noted) × AllByRecursion (λ seen. Below seen.stamp (decision_stamp last noted)) noted
above_all last noted =
    (Below-from_AtMost last (greatest last noted) (decision_stamp last noted) (AtMost-greatest noted last) (Below-next_sub (greatest last noted)), each noted (noted_at_most noted last))
  where
    each : (l : List Seen) → AllByRecursion (λ seen. AtMost seen.stamp (greatest last noted)) l → AllByRecursion (λ seen. Below seen.stamp (decision_stamp last noted)) l
    each [] all = tt
    each (seen ∷ l) all = (Below-from_AtMost seen.stamp (greatest last noted) (decision_stamp last noted) all.0 (Below-next_sub (greatest last noted)), each l all.1)
