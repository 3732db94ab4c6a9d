-- The greatest of the stamps that a client noted.
use Rattle.std.proofs.Common.{◌≡◌, ◌⊎◌, ℕ, ◌≤◌, Bool, if◌then◌else◌, Ordering, is_lt, List, [], ◌∷◌, ◌++◌, inl, inr, refl, sym, ap, subst, ◌∙◌}
use Rattle.std.specs.List.{AllByRecursion}
use Rattle.txn_model.specs.declared.stamp.Seen.{Seen}
use Rattle.txn_model.specs.declared.stamp.Stamp.{Stamp}
use Rattle.history_model.specs.History.{greater}
use Rattle.core_model.specs.Decision.{greatest}
use Rattle.core_model.specs.State.{zero_stamp}
use Rattle.core_model.specs.StampOrder.{AtMost}
use Rattle.core_model.proofs.Stamps.{AtMost-refl, AtMost-trans, AtMost-antisym, AtMost-zero, AtMost-greater_left, AtMost-greater_right, stamp_cmp_cases}

-- one stamp more
pub greatest_more : (noted : List Seen) (seen : Seen) (stamp : Stamp) → greatest stamp (noted ++ seen ∷ []) ≡ greater (greatest stamp noted) seen.stamp
greatest_more [] seen stamp = refl
greatest_more (first ∷ noted) seen stamp = greatest_more noted seen (greater stamp first.stamp)

pub greater_is : (a b : Stamp) → (greater a b ≡ b) ⊎ (greater a b ≡ a)
greater_is a b = elim (stamp_cmp_cases a b) [
  | inl h ↦ inl (ap (λ (r : Ordering). if is_lt r then b else a) h.0)
  | inr h ↦ inr (ap (λ (t : Bool). if t then b else a) h.0)
]

-- the greater of two is at most what both are at most
greater-least : (a b c : Stamp) → AtMost a c → AtMost b c → AtMost (greater a b) c
greater-least a b c p q = elim (greater_is a b) [
  | inl e ↦ subst (λ (s : Stamp). AtMost s c) (sym e) q
  | inr e ↦ subst (λ (s : Stamp). AtMost s c) (sym e) p
]

greater-assoc : (a b c : Stamp) → greater (greater a b) c ≡ greater a (greater b c)
greater-assoc a b c =
    let l = greater (greater a b) c in
    let r = greater a (greater b c) in
    let bc = AtMost-greater_right a (greater b c) in
    let ab = AtMost-greater_left (greater a b) c in
    AtMost-antisym l r
    (greater-least (greater a b) c r (greater-least a b r (AtMost-greater_left a (greater b c)) (AtMost-trans b (greater b c) r (AtMost-greater_left b c) bc)) (AtMost-trans c (greater b c) r (AtMost-greater_right b c) bc))
    (greater-least a (greater b c) l (AtMost-trans a (greater a b) l (AtMost-greater_left a b) ab) (greater-least b c l (AtMost-trans b (greater a b) l (AtMost-greater_right a b) ab) (AtMost-greater_right (greater a b) c)))

zero_first : (a : Stamp) → AtMost zero_stamp a
zero_first a = AtMost-zero a

greater-zero : (a : Stamp) → greater a zero_stamp ≡ a
greater-zero a = AtMost-antisym (greater a zero_stamp) a (greater-least a zero_stamp a (AtMost-refl a) (zero_first a)) (AtMost-greater_left a zero_stamp)

zero-greater : (a : Stamp) → greater zero_stamp a ≡ a
zero-greater a = AtMost-antisym (greater zero_stamp a) a (greater-least zero_stamp a a (zero_first a) (AtMost-refl a)) (AtMost-greater_right zero_stamp a)

-- the greatest of a stamp and of what was noted is the greater of the stamp and the greatest noted one
pub greatest-from_zero : (noted : List Seen) (stamp : Stamp) → greatest stamp noted ≡ greater stamp (greatest zero_stamp noted)
greatest-from_zero [] stamp = sym (greater-zero stamp)
greatest-from_zero (seen ∷ noted) stamp =
    greatest-from_zero noted (greater stamp seen.stamp)
    ∙ greater-assoc stamp seen.stamp (greatest zero_stamp noted)
    ∙ ap (λ (s : Stamp). greater stamp s) (sym (greatest-from_zero noted seen.stamp) ∙ ap (λ (s : Stamp). greatest s noted) (sym (zero-greater seen.stamp)))

pub greatest-within : (noted : List Seen) (stamp : Stamp) (most : ℕ) → stamp.sub ≤ most → AllByRecursion (λ seen. seen.stamp.sub ≤ most) noted → (greatest stamp noted).sub ≤ most
greatest-within [] stamp most le all = le
greatest-within (seen ∷ noted) stamp most le all =
    greatest-within noted (greater stamp seen.stamp) most (elim (greater_is stamp seen.stamp) [
      | inl e ↦ subst (λ (s : Stamp). s.sub ≤ most) (sym e) all.0
      | inr e ↦ subst (λ (s : Stamp). s.sub ≤ most) (sym e) le
    ]) all.1
