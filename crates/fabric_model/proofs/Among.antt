-- What stands in a list, and lists in stamp order that have the same entries.
use Rattle.std.proofs.Common.{◌≡◌, ◌⊎◌, ℕ, zero, suc, ◌<◌, Bool, true, false, List, [], ◌∷◌, ◌++◌, length, filter, slice_get, Some, inl, inr, refl, sym, ap, subst, ◌∙◌, arith, if◌then◌else◌, Less, is_lt}
use Rattle.std.specs.Prelude.{Contains, IsPermutation, slice_index_or}
use Rattle.std.specs.List.{AllByRecursion}
use Rattle.std.specs.Ordering.{ordering_reverse}
use Rattle.std.proofs.lemmas.List.Sorted.{Contains-permutation, IsPermutation-cons, IsPermutation-middle, IsPermutation-sym, IsPermutation-trans, IsPermutation-refl}
use Rattle.history_model.specs.History.{HistoryEntry, History, IsInStampOrder, entry_cmp, with_entry}
use Rattle.core_model.proofs.Entries.{entry_cmp_total}

abbrev pub In : {X : Type 0} → X → List X → Type 0
In x [] = ⊥
In x (y ∷ l) = (y ≡ x) ⊎ In x l

pub in_at : {X : Type 0} (l : List X) (k : ℕ) (x : X) → slice_get l k ≡ Some x → In x l
in_at [] k x e = cc
in_at (y ∷ l) zero x e = let same : y ≡ x = cc in inl same
in_at (y ∷ l) (suc k) x e = inr (in_at l k x e)

pub at_in : {X : Type 0} (l : List X) (x : X) → In x l → (k : ℕ) × (slice_get l k ≡ Some x)
at_in [] x i = absurd i
at_in (y ∷ l) x (inl e) = (0, ap Some e)
at_in (y ∷ l) x (inr i) = let r = at_in l x i in (suc r.0, r.1)

pub contains_in : {X : Type 0} (l : List X) (x : X) → In x l → Contains l x
contains_in [] x i = absurd i
contains_in (y ∷ l) x (inl e) = (0, omega arith, e)
contains_in (y ∷ l) x (inr i) = let r = contains_in l x i in (suc r.0, omega (arith, r.1), r.2)

found : {X : Type 0} (l : List X) (k : ℕ) (x : X) → k < length l → slice_index_or l k x ≡ x → In x l
found [] k x lt e = absurd (omega arith)
found (y ∷ l) zero x lt e = inl e
found (y ∷ l) (suc k) x lt e = inr (found l k x (omega arith) e)

pub in_contains : {X : Type 0} (l : List X) (x : X) → Contains l x → In x l
in_contains l x c = found l c.0 x c.1 c.2

pub in_permutation : {X : Type 0} (xs ys : List X) (x : X) → IsPermutation xs ys → In x xs → In x ys
in_permutation xs ys x p i = in_contains ys x (Contains-permutation xs ys x p (contains_in xs x i))

pub in_left : {X : Type 0} (a b : List X) (x : X) → In x a → In x (a ++ b)
in_left [] b x i = absurd i
in_left (y ∷ a) b x (inl e) = inl e
in_left (y ∷ a) b x (inr i) = inr (in_left a b x i)

pub in_right : {X : Type 0} (a b : List X) (x : X) → In x b → In x (a ++ b)
in_right [] b x i = i
in_right (y ∷ a) b x i = inr (in_right a b x i)

pub in_cases : {X : Type 0} (a b : List X) (x : X) → In x (a ++ b) → In x a ⊎ In x b
in_cases [] b x i = inr i
in_cases (y ∷ a) b x (inl e) = inl (inl e)
in_cases (y ∷ a) b x (inr i) = elim (in_cases a b x i) [ inl j ↦ inl (inr j) | inr j ↦ inr j ]

pub all_in : {X : Type 0} (P : X → Type 0) (l : List X) (x : X) → AllByRecursion P l → In x l → P x
all_in P [] x all i = absurd i
all_in P (y ∷ l) x all (inl e) = subst P e all.0
all_in P (y ∷ l) x all (inr i) = all_in P l x all.1 i

pub all_of_in : {X : Type 0} (P : X → Type 0) (l : List X) → ((x : X) → In x l → P x) → AllByRecursion P l
all_of_in P [] f = tt
all_of_in P (y ∷ l) f = (f y (inl refl), all_of_in P l (λ x i. f x (inr i)))

pub all_permutation : {X : Type 0} (P : X → Type 0) (xs ys : List X) → IsPermutation xs ys → AllByRecursion P xs → AllByRecursion P ys
all_permutation P xs ys p all = all_of_in P ys (λ x i. all_in P xs x all (in_permutation ys xs x (IsPermutation-sym xs ys p) i))

-- ---- no element twice

abbrev pub Once : {X : Type 0} → List X → Type 0
Once [] = Unit {0}
Once (x ∷ l) = (In x l → ⊥) × Once l

-- the list around an element
pub around : {X : Type 0} (l : List X) (x : X) → In x l → (a : List X) × (b : List X) × (l ≡ a ++ x ∷ b)
around [] x i = absurd i
around (y ∷ l) x (inl e) = ([], l, ap (λ z. z ∷ l) e)
around (y ∷ l) x (inr i) = let r = around l x i in (y ∷ r.0, r.1, ap (λ z. y ∷ z) r.2)

once_without : {X : Type 0} (a : List X) (x : X) (b : List X) → Once (a ++ x ∷ b) → Once (a ++ b) × (In x (a ++ b) → ⊥)
once_without [] x b once = (once.1, once.0)
once_without (y ∷ a) x b once =
    let rest = once_without a x b once.1 in (
      ((λ i. once.0 (wider i)), rest.0),
      λ i. elim i [ inl e ↦ once.0 (subst (λ z. In z (a ++ x ∷ b)) (sym e) (in_right a (x ∷ b) x (inl refl))) | inr j ↦ rest.1 j ],
    )
  where
    wider : In y (a ++ b) → In y (a ++ x ∷ b)
    wider i = elim (in_cases a b y i) [ inl j ↦ in_left a (x ∷ b) y j | inr j ↦ in_right a (x ∷ b) y (inr j) ]

pub once_append : {X : Type 0} (a b : List X) → Once a → Once b → ((x : X) → In x a → In x b → ⊥) → Once (a ++ b)
once_append [] b one two apart = two
once_append (y ∷ a) b one two apart = (λ i. elim (in_cases a b y i) [ inl j ↦ one.0 j | inr j ↦ apart y (inl refl) j ], once_append a b one.1 two (λ x i j. apart x (inr i) j))

-- the elements that pass a test
pub in_filter : {X : Type 0} (test : X → Bool) (l : List X) (x : X) → In x (filter test l) → In x l × (test x ≡ true)
in_filter test [] x i = absurd i
in_filter {X} test (y ∷ l) x i = by (test y) refl i (in_filter test l x)
  where
    by : (b : Bool) → test y ≡ b → In x (if b then y ∷ filter test l else filter test l) → (In x (filter test l) → In x l × (test x ≡ true)) → In x (y ∷ l) × (test x ≡ true)
    by true is (inl e) rest = (inl e, ap test (sym e) ∙ is)
    by true is (inr j) rest = let r = rest j in (inr r.0, r.1)
    by false is j rest = let r = rest j in (inr r.0, r.1)

pub filter_in : {X : Type 0} (test : X → Bool) (l : List X) (x : X) → In x l → test x ≡ true → In x (filter test l)
filter_in test [] x i is = absurd i
filter_in {X} test (y ∷ l) x i is = by (test y) refl i (λ j. filter_in test l x j is)
  where
    by : (b : Bool) → test y ≡ b → In x (y ∷ l) → (In x l → In x (filter test l)) → In x (if b then y ∷ filter test l else filter test l)
    by true t (inl e) rest = inl e
    by true t (inr j) rest = inr (rest j)
    by false t (inl e) rest = let clash : true ≡ false = sym is ∙ ap test (sym e) ∙ t in cc
    by false t (inr j) rest = rest j

pub once_filter : {X : Type 0} (test : X → Bool) (l : List X) → Once l → Once (filter test l)
once_filter test [] once = tt
once_filter {X} test (y ∷ l) once = by (test y) (once_filter test l once.1)
  where
    by : (b : Bool) → Once (filter test l) → Once (if b then y ∷ filter test l else filter test l)
    by true rest = ((λ i. once.0 (in_filter test l y i).0), rest)
    by false rest = rest

-- lists with the same elements, none of them twice
pub permutation_of : {X : Type 0} (xs ys : List X) → Once xs → Once ys → ((x : X) → In x xs → In x ys) → ((x : X) → In x ys → In x xs) → IsPermutation xs ys
permutation_of [] [] one two there back = IsPermutation-refl []
permutation_of [] (y ∷ ys) one two there back = absurd (back y (inl refl))
permutation_of (x ∷ xs) ys one two there back =
    let r = around ys x (there x (inl refl)) in
    let split = once_without r.0 x r.1 (subst Once r.2 two) in
    let rest = permutation_of xs (r.0 ++ r.1) one.1 split.0
    (λ z i. elim (in_cases r.0 (x ∷ r.1) z (subst (λ l. In z l) r.2 (there z (inr i)))) [
      | inl j ↦ in_left r.0 r.1 z j
      | inr j ↦ elim j [ inl e ↦ absurd (one.0 (subst (λ w. In w xs) (sym e) i)) | inr k ↦ in_right r.0 r.1 z k ]
    ])
    (λ z i.
    let wide = elim (in_cases r.0 r.1 z i) as (λ _. In z (r.0 ++ x ∷ r.1)) [ inl j ↦ in_left r.0 (x ∷ r.1) z j | inr j ↦ in_right r.0 (x ∷ r.1) z (inr j) ] in
    elim (back z (subst (λ l. In z l) (sym r.2) wide)) [ inl e ↦ absurd (split.1 (subst (λ w. In w (r.0 ++ r.1)) (sym e) i)) | inr k ↦ k ]) in
    subst (IsPermutation (x ∷ xs)) (sym r.2)
    (IsPermutation-trans (x ∷ xs) (x ∷ (r.0 ++ r.1)) (r.0 ++ x ∷ r.1) (IsPermutation-cons x xs (r.0 ++ r.1) rest) (IsPermutation-sym (r.0 ++ x ∷ r.1) (x ∷ (r.0 ++ r.1)) (IsPermutation-middle r.0 x r.1)))

-- ---- histories

never_both : (e f : HistoryEntry) → entry_cmp e.entry f.entry ≡ Less → entry_cmp f.entry e.entry ≡ Less → ⊥
never_both e f ef fe = let r = entry_cmp_total.antisymm f.entry e.entry ∙ ap ordering_reverse ef in cc

not_itself : (e : HistoryEntry) → entry_cmp e.entry e.entry ≡ Less → ⊥
not_itself e i = never_both e e i i

-- an entry of a history in order is the only one with its stamp and client
pub same_entry : (h : History) (e f : HistoryEntry) → IsInStampOrder h → In e h → In f h → e.entry ≡ f.entry → e ≡ f
same_entry [] e f sorted i j same = absurd i
same_entry (g ∷ h) e f sorted (inl a) (inl b) same = sym a ∙ b
same_entry (g ∷ h) e f sorted (inl a) (inr j) same = absurd (not_itself e (subst (λ (x : HistoryEntry). entry_cmp x.entry e.entry ≡ Less) a (ap (entry_cmp g.entry) same ∙ all_in (λ x. entry_cmp g.entry x.entry ≡ Less) h f sorted.0 j)))
same_entry (g ∷ h) e f sorted (inr i) (inl b) same = absurd (not_itself f (subst (λ (x : HistoryEntry). entry_cmp x.entry f.entry ≡ Less) b (ap (entry_cmp g.entry) (sym same) ∙ all_in (λ x. entry_cmp g.entry x.entry ≡ Less) h e sorted.0 i)))
same_entry (g ∷ h) e f sorted (inr i) (inr j) same = same_entry h e f sorted.1 i j same

-- two histories in order with the same entries
pub same_history : (a b : History) → IsInStampOrder a → IsInStampOrder b → ((e : HistoryEntry) → In e a → In e b) → ((e : HistoryEntry) → In e b → In e a) → a ≡ b
same_history [] [] sa sb to back = refl
same_history [] (y ∷ b) sa sb to back = absurd (back y (inl refl))
same_history (x ∷ a) [] sa sb to back = absurd (to x (inl refl))
same_history (x ∷ a) (y ∷ b) sa sb to back =
    ap (λ (z : HistoryEntry). z ∷ a) (sym first) ∙ ap (λ (l : History). y ∷ l) (same_history a b sa.1 sb.1
    (λ e i. elim (to e (inr i)) [ inl same ↦ absurd (not_itself e (subst (λ (z : HistoryEntry). entry_cmp z.entry e.entry ≡ Less) (sym first ∙ same) (all_in (λ f. entry_cmp x.entry f.entry ≡ Less) a e sa.0 i))) | inr j ↦ j ])
    (λ e i. elim (back e (inr i)) [ inl same ↦ absurd (not_itself e (subst (λ (z : HistoryEntry). entry_cmp z.entry e.entry ≡ Less) (first ∙ same) (all_in (λ f. entry_cmp y.entry f.entry ≡ Less) b e sb.0 i))) | inr j ↦ j ]))
  where
    first : y ≡ x
    first = elim (to x (inl refl)) [
      | inl e ↦ e
      | inr i ↦ elim (back y (inl refl)) [
        | inl e ↦ sym e
        | inr j ↦ absurd (never_both x y (all_in (λ f. entry_cmp x.entry f.entry ≡ Less) a y sa.0 j) (all_in (λ f. entry_cmp y.entry f.entry ≡ Less) b x sb.0 i))
      ]
    ]

-- what is in a history behind an insertion
pub in_with_entry : (e f : HistoryEntry) (h : History) → In f (with_entry e h) → (e ≡ f) ⊎ In f h
in_with_entry e f [] (inl i) = inl i
in_with_entry e f [] (inr i) = absurd i
in_with_entry e f (g ∷ h) i = by (is_lt (entry_cmp e.entry g.entry)) (in_with_entry e f h) i
  where
    by : (b : Bool) → (In f (with_entry e h) → (e ≡ f) ⊎ In f h) → In f (if b then e ∷ g ∷ h else g ∷ with_entry e h) → (e ≡ f) ⊎ In f (g ∷ h)
    by true rest (inl j) = inl j
    by true rest (inr j) = inr j
    by false rest (inl j) = inr (inl j)
    by false rest (inr j) = elim (rest j) [ inl same ↦ inl same | inr k ↦ inr (inr k) ]

pub with_entry_in : (e f : HistoryEntry) (h : History) → (e ≡ f) ⊎ In f h → In f (with_entry e h)
with_entry_in e f [] i = i
with_entry_in e f (g ∷ h) i = by (is_lt (entry_cmp e.entry g.entry)) (with_entry_in e f h)
  where
    by : (b : Bool) → ((e ≡ f) ⊎ In f h → In f (with_entry e h)) → In f (if b then e ∷ g ∷ h else g ∷ with_entry e h)
    by true rest = i
    by false rest = elim i [
      | inl same ↦ inr (rest (inl same))
      | inr j ↦ elim j [ inl k ↦ inl k | inr k ↦ inr (rest (inr k)) ]
    ]
