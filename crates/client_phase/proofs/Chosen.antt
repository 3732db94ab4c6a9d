-- The numbers of operations on hosts are those of the operations that a layout doesn't have.
use Rattle.std.proofs.Common.{◌≡◌, ℕ, zero, suc, ◌+◌, ◌<◌, ◌≤◌, ◌==◌, ◌||◌, Bool, true, false, not, List, [], ◌∷◌, get_or, filter, length, slice_get, Some, if◌then◌else◌, refl, sym, ap, subst, ◌∙◌, arith}
use Rattle.std.specs.List.{list_any}
use Rattle.std.proofs.lemmas.Bool.Decides.{nat_tests}
use Rattle.txn_model.specs.declared.op.Op.{Op}
use Rattle.txn_model.specs.declared.pairs.Pair.{Pair}
use Rattle.stage_layout.specs.Late.{is_hot, parts_of}
use Rattle.stage_layout.specs.declared.layout.LayoutRow.{LayoutRow}
use Rattle.history_model.specs.Chain.{steps_of}
use Rattle.warm_split.specs.OpSet.{contains}
use Rattle.warm_split.specs.Parts.{IsParts}
use Rattle.warm_split.specs.declared.op_set.OpSet.{OpSet}
use Rattle.warm_split.specs.declared.parts.Parts.{Parts}
use Rattle.warm_split.proofs.Sets.{hot_set}
use Rattle.warm_split.proofs.JoinedLaws.{in_switch_at}
use Rattle.client_phase.specs.ColdNumbers.{numbers_from}

-- of these items, which begin with number k, the set has those that pass the test
abbrev pub Chosen : {X : Type 0} → (X → Bool) → OpSet → ℕ → List X → Type 0
Chosen test chosen k [] = Unit {0}
Chosen test chosen k (x ∷ xs) = (contains chosen k ≡ test x) × Chosen test chosen (k + 1) xs

all_chosen : {X : Type 0} (test : X → Bool) (chosen : OpSet) (k : ℕ) (xs : List X) → ((i : ℕ) (x : X) → slice_get xs i ≡ Some x → contains chosen (k + i) ≡ test x) → Chosen test chosen k xs
all_chosen test chosen k [] each = tt
all_chosen test chosen k (x ∷ xs) each = (
  subst (λ (n : ℕ). contains chosen n ≡ test x) {x = k + 0} (omega arith) (each zero x refl),
  all_chosen test chosen (k + 1) xs (λ i y e. subst (λ (n : ℕ). contains chosen n ≡ test y) {x = k + suc i} (omega arith) (each (suc i) y e)),
)

-- the set of the operations in the switch has those
pub hot_chosen : (rows : List LayoutRow) (ops : List Op) (parts : Parts) → IsParts rows ops parts → Chosen (λ op. is_hot rows op.tuple) parts.hot 0 ops
hot_chosen rows ops parts sets =
    all_chosen (λ op. is_hot rows op.tuple) parts.hot 0 ops (λ i op e. subst (λ (n : ℕ). contains parts.hot n ≡ is_hot rows op.tuple) {x = i} (omega arith) (hot_set (parts_of rows ops) parts sets i ∙ in_switch_at rows ops i op e))

-- and so with their pairs
pub steps_chosen : (rows : List LayoutRow) (chosen : OpSet) (k : ℕ) (ops : List Op) (pairs : List Pair) → Chosen (λ op. is_hot rows op.tuple) chosen k ops → Chosen (λ s. is_hot rows s.0.tuple) chosen k (steps_of ops pairs)
steps_chosen rows chosen k [] pairs all = tt
steps_chosen rows chosen k (op ∷ ops) [] all = tt
steps_chosen rows chosen k (op ∷ ops) (p ∷ ps) all = (all.0, steps_chosen rows chosen (k + 1) ops ps all.1)

pub length-steps : (ops : List Op) (pairs : List Pair) → length pairs ≡ length ops → length (steps_of ops pairs) ≡ length ops
length-steps [] pairs size = refl
length-steps (op ∷ ops) [] size = absurd (omega (arith, size))
length-steps (op ∷ ops) (p ∷ ps) size = ap suc (length-steps ops ps (omega (arith, size)))

-- the items that the set doesn't have
abbrev pub unchosen : {X : Type 0} → (X → Bool) → List X → List X
unchosen test xs = filter (λ x. not (test x)) xs

-- there are as many numbers as such items
pub count-unchosen : {X : Type 0} (test : X → Bool) (chosen : OpSet) (k : ℕ) (ops : List Op) (xs : List X) → length xs ≡ length ops → Chosen test chosen k xs → length (numbers_from chosen k ops) ≡ length (unchosen test xs)
count-unchosen test chosen k [] [] size all = refl
count-unchosen test chosen k [] (x ∷ xs) size all = absurd (omega (arith, size))
count-unchosen {X = X} test chosen k (op ∷ ops) [] size all = absurd (omega (arith, size))
count-unchosen {X = X} test chosen k (op ∷ ops) (x ∷ xs) size all =
    by (contains chosen k) (test x) all.0 (numbers_from chosen (k + 1) ops) (unchosen test xs) (count-unchosen test chosen (k + 1) ops xs (omega (arith, size)) all.1)
  where
    by : (a b : Bool) → a ≡ b → (rest : List ℕ) (later : List X) → length rest ≡ length later → length (if a then rest else k ∷ rest) ≡ length (if not b then x ∷ later else later)
    by true true e rest later same = same
    by false false e rest later same = ap suc same
    by true false e rest later same = cc
    by false true e rest later same = cc

-- a number is that of the item which has so many of them before it
abbrev pub HasNumber : {X : Type 0} → ℕ → List ℕ → List X → List X → ℕ → Type 0
HasNumber k numbers xs later j = (m : ℕ) × (get_or numbers j 0 ≡ k + m) × (slice_get xs m ≡ slice_get later j)

pub number-at : {X : Type 0} (test : X → Bool) (chosen : OpSet) (k : ℕ) (ops : List Op) (xs : List X) (j : ℕ) → length xs ≡ length ops → Chosen test chosen k xs → j < length (numbers_from chosen k ops)
    → HasNumber k (numbers_from chosen k ops) xs (unchosen test xs) j
number-at test chosen k [] xs j size all lt = absurd (omega arith)
number-at {X = X} test chosen k (op ∷ ops) [] j size all lt = absurd (omega (arith, size))
number-at {X = X} test chosen k (op ∷ ops) (x ∷ xs) j size all lt =
    by (contains chosen k) (test x) all.0 (numbers_from chosen (k + 1) ops) (unchosen test xs) (λ i h. number-at test chosen (k + 1) ops xs i (omega (arith, size)) all.1 h) j lt
  where
    by : (a b : Bool) → a ≡ b → (rest : List ℕ) (later : List X) → ((i : ℕ) → i < length rest → HasNumber (k + 1) rest xs later i) → (i : ℕ) → i < length (if a then rest else k ∷ rest)
        → HasNumber k (if a then rest else k ∷ rest) (x ∷ xs) (if not b then x ∷ later else later) i
    by true true e rest later each i h = let has = each i h in (suc has.0, omega (arith, has.1), has.2)
    by false false e rest later each zero h = (0, omega arith, refl)
    by false false e rest later each (suc i) h = let has = each i (omega (arith, h)) in (suc has.0, omega (arith, has.1), has.2)
    by true false e rest later each i h = cc
    by false true e rest later each i h = cc

eqb-suc : (a b : ℕ) → (suc a == suc b) ≡ (a == b)
eqb-suc a b = grind (arith, nat_tests)

less : (a b : ℕ) → a ≤ b → (a == suc b) ≡ false
less a b le = grind (arith, nat_tests)

few : {X : Type 0} (test : X → Bool) (xs : List X) → length (unchosen test xs) ≤ length xs
few test [] = omega arith
few {X = X} test (x ∷ xs) = by (test x) (unchosen test xs) (few test xs)
  where
    by : (b : Bool) (later : List X) → length later ≤ length xs → length (if not b then x ∷ later else later) ≤ suc (length xs)
    by true later le = omega (arith, le)
    by false later le = omega (arith, le)

-- all are unchosen where none passes the test
pub all-unchosen : {X : Type 0} (test : X → Bool) (xs : List X) → (length (unchosen test xs) == length xs) ≡ not (list_any test xs)
all-unchosen test [] = refl
all-unchosen {X = X} test (x ∷ xs) = by (test x) (unchosen test xs) (few test xs) (list_any test xs) (all-unchosen test xs)
  where
    by : (b : Bool) (later : List X) → length later ≤ length xs → (any : Bool) → (length later == length xs) ≡ not any → (length (if not b then x ∷ later else later) == suc (length xs)) ≡ not (b || any)
    by true later le any e = less (length later) (length xs) le
    by false later le any e = eqb-suc (length later) (length xs) ∙ e

-- where none is unchosen each passes the test
pub none-unchosen : {X : Type 0} (test : X → Bool) (xs : List X) (i : ℕ) (x : X) → length (unchosen test xs) ≡ 0 → slice_get xs i ≡ Some x → test x ≡ true
none-unchosen test [] i x none e = cc
none-unchosen {X = X} test (y ∷ xs) i x none e = by (test y) refl (unchosen test xs) none (λ later j h. none-unchosen test xs j x later h) i e
  where
    by : (b : Bool) → test y ≡ b → (later : List X) → length (if not b then y ∷ later else later) ≡ 0 → (length later ≡ 0 → (j : ℕ) → slice_get xs j ≡ Some x → test x ≡ true) → (j : ℕ) → slice_get (y ∷ xs) j ≡ Some x → test x ≡ true
    by true t later n rest zero h = let same : y ≡ x = cc in ap test (sym same) ∙ t
    by true t later n rest (suc j) h = rest n j h
    by false t later n rest j h = absurd (omega (arith, n))
