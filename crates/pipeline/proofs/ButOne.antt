-- Lists of which one item changes, and the first place at which a test passes in them.
use Rattle.std.proofs.Common.{◌≡◌, ℕ, zero, suc, ◌<◌, ◌≤◌, Bool, true, false, cond, nat_lt, List, [], ◌∷◌, ◌++◌, map, set, length, get_or, position, Option, Some, None, is_some, inl, inr, refl, sym, ap, ◌∙◌, arith}
use Rattle.std.specs.List.{list_any, range_with_len}
use Rattle.std.specs.Option.{option_map}
use Rattle.std.proofs.Math.Seq.{get_or-append_seam}
use Rattle.std.proofs.lemmas.Bool.{cases_eq, cases_lt, false_from_ne_true}
use Rattle.std.proofs.lemmas.List.{ext_get_or, get_or-set_same, get_or-set_other, get_or_append_left, get_or_past, length-set, length_push}
use Rattle.std.proofs.lemmas.List.Folds.{list_any_at, position_or_len-set}
use Rattle.std.proofs.lemmas.List.FromFn.{length-map-range_with_len, get_or-map-range_with_len}
use Rattle.std.proofs.lemmas.List.Quantifiers.{position-Some}
use Rattle.stage_layout.proofs.Firsts.{position_is, position_none, fails_at}
use Rattle.switch_model.proofs.Tests.{clash, found, neither}

-- ---- lists

-- a list that is as another one but for one item
pub but_one : {X : Type 0} (d : X) (xs ys : List X) (i : ℕ) (v : X) → length ys ≡ length xs → i < length xs → get_or ys i d ≡ v → ((j : ℕ) → (j ≡ i → ⊥) → get_or ys j d ≡ get_or xs j d) → ys ≡ set xs i v
but_one d xs ys i v size there this others = ext_get_or d ys (set xs i v) (size ∙ sym (length-set xs i v)) (λ j lt. elim (cases_eq j i) [
  | inl e ↦ ap (λ (k : ℕ). get_or ys k d) e ∙ this ∙ sym (get_or-set_same xs i v d there) ∙ ap (λ (k : ℕ). get_or (set xs i v) k d) (sym e)
  | inr n ↦ others j n ∙ sym (get_or-set_other xs i j v d n)
])

-- what a function makes of an item, also of the one that stands for those that aren't there
pub mapped_at : {X Y : Type 0} (f : X → Y) (xs : List X) (i : ℕ) (d : X) (e : Y) → f d ≡ e → get_or (map f xs) i e ≡ f (get_or xs i d)
mapped_at f [] i d e same = sym same
mapped_at f (x ∷ xs) zero d e same = refl
mapped_at f (x ∷ xs) (suc i) d e same = mapped_at f xs i d e same

-- the values of two functions of which one value differs
pub values_but_one : {X : Type 0} (d : X) (f g : ℕ → X) (n i : ℕ) (v : X) → i < n → g i ≡ v → ((j : ℕ) → (j ≡ i → ⊥) → g j ≡ f j) → map g (range_with_len 0 n) ≡ set (map f (range_with_len 0 n)) i v
values_but_one d f g n i v lt this others =
    let size_f = length-map-range_with_len f 0 n in
    let size_g = length-map-range_with_len g 0 n in
    but_one d (map f (range_with_len 0 n)) (map g (range_with_len 0 n)) i v (size_g ∙ sym size_f) (omega (arith, size_f))
    (get_or-map-range_with_len g 0 n i i d lt (omega arith) ∙ this)
    (λ j m. elim (cases_lt j n) [
      | inl below ↦ get_or-map-range_with_len g 0 n j j d below (omega arith) ∙ others j m ∙ sym (get_or-map-range_with_len f 0 n j j d below (omega arith))
      | inr above ↦ get_or_past (map g (range_with_len 0 n)) j d (omega (arith, size_g)) ∙ sym (get_or_past (map f (range_with_len 0 n)) j d (omega (arith, size_f)))
    ])

-- the same values make the same list
pub values_same : {X : Type 0} (d : X) (f g : ℕ → X) (n : ℕ) → ((j : ℕ) → j < n → g j ≡ f j) → map g (range_with_len 0 n) ≡ map f (range_with_len 0 n)
values_same d f g n same =
    let size_f = length-map-range_with_len f 0 n in
    let size_g = length-map-range_with_len g 0 n in
    ext_get_or d (map g (range_with_len 0 n)) (map f (range_with_len 0 n)) (size_g ∙ sym size_f)
    (λ j lt. let below : j < n = omega (arith, lt, size_g) in get_or-map-range_with_len g 0 n j j d below (omega arith) ∙ same j below ∙ sym (get_or-map-range_with_len f 0 n j j d below (omega arith)))

-- a value that the function gives also beyond the list
pub value_at : {X : Type 0} (d : X) (f : ℕ → X) (n i : ℕ) → (n ≤ i → f i ≡ d) → get_or (map f (range_with_len 0 n)) i d ≡ f i
value_at d f n i past = elim (cases_lt i n) [
  | inl below ↦ get_or-map-range_with_len f 0 n i i d below (omega arith)
  | inr above ↦ get_or_past (map f (range_with_len 0 n)) i d (omega (arith, above, length-map-range_with_len f 0 n)) ∙ sym (past above)
]

-- ---- options

pub option_map_same : {X Y : Type 0} (f g : X → Y) (o : Option X) → ((x : X) → o ≡ Some x → f x ≡ g x) → option_map f o ≡ option_map g o
option_map_same f g None h = refl
option_map_same f g (Some x) h = ap Some (h x refl)

pub is_some-option_map : {X Y : Type 0} (f : X → Y) (o : Option X) → is_some (option_map f o) ≡ is_some o
is_some-option_map f None = refl
is_some-option_map f (Some x) = refl

-- ---- the first place

module _ {X : Type 0} (test : X → Bool) (d : X) where
  pub fails_each : (xs : List X) → list_any test xs ≡ false → (k : ℕ) → k < length xs → test (get_or xs k d) ≡ false
  fails_each [] e k lt = absurd (omega arith)
  fails_each (x ∷ xs) e zero lt = (neither (test x) (list_any test xs) e).0
  fails_each (x ∷ xs) e (suc k) lt = fails_each xs (neither (test x) (list_any test xs) e).1 k (omega arith)

  pub nowhere : (xs : List X) → list_any test xs ≡ false → position test xs ≡ None
  nowhere xs e = position_none test d xs (fails_each xs e)

  pub some_position : (xs : List X) → is_some (position test xs) ≡ list_any test xs
  some_position xs = by (position test xs) refl
    where
      by : (o : Option ℕ) → position test xs ≡ o → is_some o ≡ list_any test xs
      by None e = sym (false_from_ne_true (list_any test xs) (λ any. let f = found test xs d any in clash _ f.is (fails_at test d xs f.at e f.there)))
      by (Some k) e = let p = position-Some test xs k d e in sym (list_any_at test xs k d p.0 p.1)

  -- one item becomes one that the test doesn't tell from it
  pub position-set_same : (xs : List X) (k : ℕ) (y : X) → test y ≡ test (get_or xs k d) → position test (set xs k y) ≡ position test xs
  position-set_same xs k y same =
      let a = position_or_len-set test xs k y d same in
      let n = length-set xs k y in
      λ i. cond (nat_lt (a i) (n i)) (Some (a i)) None

  -- one item becomes the only one that passes
  pub position-set_new : (xs : List X) (k : ℕ) (y : X) → k < length xs → list_any test xs ≡ false → test y ≡ true → position test (set xs k y) ≡ Some k
  position-set_new xs k y lt none is =
      position_is test d (set xs k y) k (omega (arith, length-set xs k y))
      (λ j below. let n : j ≡ k → ⊥ = λ e. omega arith in ap test (get_or-set_other xs k j y d n) ∙ fails_each xs none j (omega arith))
      (ap test (get_or-set_same xs k y d lt) ∙ is)

  -- the only item that passes becomes one that doesn't
  pub position-set_none : (xs : List X) (k : ℕ) (y : X) → k < length xs → test y ≡ false → ((j : ℕ) → j < length xs → (j ≡ k → ⊥) → test (get_or xs j d) ≡ false) → position test (set xs k y) ≡ None
  position-set_none xs k y lt is others =
      position_none test d (set xs k y)
      (λ j below. elim (cases_eq j k) [
        | inl e ↦ ap (λ (i : ℕ). test (get_or (set xs k y) i d)) e ∙ ap test (get_or-set_same xs k y d lt) ∙ is
        | inr n ↦ ap test (get_or-set_other xs k j y d n) ∙ others j (omega (arith, below, length-set xs k y)) n
      ])

  -- an item that stands elsewhere becomes one that doesn't pass
  pub position-set_other : (xs : List X) (k : ℕ) (y : X) (i : ℕ) → k < length xs → test y ≡ false → position test xs ≡ Some i → (i ≡ k → ⊥) → position test (set xs k y) ≡ Some i
  position-set_other xs k y i lt is at n =
      let p = position-Some test xs i d at in
      position_is test d (set xs k y) i (omega (arith, p.0, length-set xs k y))
      (λ j below. elim (cases_eq j k) [
        | inl e ↦ ap (λ (m : ℕ). test (get_or (set xs k y) m d)) e ∙ ap test (get_or-set_same xs k y d lt) ∙ is
        | inr m ↦ ap test (get_or-set_other xs k j y d m) ∙ p.2 j below
      ])
      (ap test (get_or-set_other xs k i y d n) ∙ p.1)

  -- a further item behind the others
  pub position-push_other : (xs : List X) (y : X) → test y ≡ false → position test (xs ++ y ∷ []) ≡ position test xs
  position-push_other xs y is = by (position test xs) refl
    where
      by : (o : Option ℕ) → position test xs ≡ o → position test (xs ++ y ∷ []) ≡ o
      by None e = position_none test d (xs ++ y ∷ []) (λ k lt. elim (cases_lt k (length xs)) [
        | inl below ↦ ap test (get_or_append_left xs (y ∷ []) d k below) ∙ fails_at test d xs k e below
        | inr above ↦
            let last : k ≡ length xs = omega (arith, lt, length_push xs y) in
            ap (λ (i : ℕ). test (get_or (xs ++ y ∷ []) i d)) last ∙ ap test (get_or-append_seam xs y [] d) ∙ is
      ])
      by (Some k) e =
          let p = position-Some test xs k d e in
          position_is test d (xs ++ y ∷ []) k (omega (arith, p.0, length_push xs y))
          (λ j below. ap test (get_or_append_left xs (y ∷ []) d j (omega (arith, below, p.0))) ∙ p.2 j below)
          (ap test (get_or_append_left xs (y ∷ []) d k p.0) ∙ p.1)

  pub position-push_new : (xs : List X) (y : X) → list_any test xs ≡ false → test y ≡ true → position test (xs ++ y ∷ []) ≡ Some (length xs)
  position-push_new xs y none is =
      position_is test d (xs ++ y ∷ []) (length xs) (omega (arith, length_push xs y))
      (λ j below. ap test (get_or_append_left xs (y ∷ []) d j below) ∙ fails_each xs none j below)
      (ap test (get_or-append_seam xs y [] d) ∙ is)
