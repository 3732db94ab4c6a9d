-- Tasks are counted by client and place: each stands once in a placement, and so where its number says.
use Rattle.std.proofs.Common.{◌≡◌, ◌⊎◌, ℕ, zero, suc, ◌+◌, ◌<◌, ◌≤◌, ◌==◌, ◌&&◌, Bool, true, false, List, [], ◌∷◌, ◌++◌, set, length, Option, None, Some, is_some, if◌then◌else◌, inl, inr, refl, sym, ap, ap₂, subst, ◌∙◌, arith}
use Rattle.std.specs.Prelude.{IsPermutation}
use Rattle.std.specs.List.{list_any, sum_by, AllByRecursion}
use Rattle.std.proofs.lemmas.Bool.{cases_lt}
use Rattle.std.proofs.lemmas.Bool.Decides.{Decides-eqb}
use Rattle.std.proofs.lemmas.List.Sorted.{IsPermutation-refl, IsPermutation-trans, IsPermutation-cons, IsPermutation-append_right, IsPermutation-middle, sum_by-IsPermutation}
use Rattle.std.proofs.lemmas.List.Sums.{sum_by-cons}
use Rattle.txn_model.specs.Places.{Places}
use Rattle.txn_model.specs.declared.pairs.Pair.{Pair}
use Rattle.switch_packet.specs.Packets.{PlainOutcome}
use Rattle.switch_packet.specs.Replay.{replay}
use Rattle.placement_model.specs.FirstOrder.{slot_at}
use Rattle.placement_model.specs.Placements.{Task, HasAnswer, CanFollow}
use Rattle.placement_model.proofs.Filling.{Fills, kept}

-- the tasks that are there
abbrev pub somes : List (Option Task) → List Task
somes [] = []
somes (None ∷ slots) = somes slots
somes (Some t ∷ slots) = t ∷ somes slots

-- 1 for the task of this client with this place
abbrev pub is_task : ℕ → ℕ → Task → ℕ
is_task client k t = if t.client == client && t.index == k then 1 else 0

abbrev pub times : ℕ → ℕ → List Task → ℕ
times client k [] = 0
times client k (t ∷ tasks) = is_task client k t + times client k tasks

times_sum : (client k : ℕ) (tasks : List Task) → times client k tasks ≡ sum_by (is_task client k) tasks
times_sum client k [] = refl
times_sum client k (t ∷ tasks) = ap (λ (n : ℕ). is_task client k t + n) (times_sum client k tasks) ∙ sym (sum_by-cons (is_task client k) t tasks)

-- however they are ordered
pub times_same : (client k : ℕ) (xs ys : List Task) → IsPermutation xs ys → times client k ys ≡ times client k xs
times_same client k xs ys p = times_sum client k ys ∙ sum_by-IsPermutation (is_task client k) xs ys p ∙ sym (times_sum client k xs)

pub times_append : (client k : ℕ) (xs ys : List Task) → times client k (xs ++ ys) ≡ times client k xs + times client k ys
times_append client k [] ys = omega arith
times_append client k (x ∷ xs) ys = omega (arith, times_append client k xs ys)

-- one is taken out
pub taken : (slots : List (Option Task)) (k : ℕ) (t : Task) → slot_at slots k ≡ Some t → IsPermutation (somes slots) (t ∷ somes (set slots k None))
taken [] k t e = cc
taken (None ∷ slots) zero t e = cc
taken (Some s ∷ slots) zero t e = let same : s ≡ t = cc in subst (λ (x : Task). IsPermutation (s ∷ somes slots) (x ∷ somes slots)) same (IsPermutation-refl (s ∷ somes slots))
taken (None ∷ slots) (suc k) t e = taken slots k t e
taken (Some s ∷ slots) (suc k) t e =
    let rest = somes (set slots k None) in
    IsPermutation-trans (s ∷ somes slots) (s ∷ t ∷ rest) (t ∷ s ∷ rest) (IsPermutation-cons s (somes slots) (t ∷ rest) (taken slots k t e)) (IsPermutation-middle (s ∷ []) t rest)

-- one is put in
pub put_in : (slots : List (Option Task)) (k : ℕ) (t : Task) → k < length slots → slot_at slots k ≡ None → IsPermutation (t ∷ somes slots) (somes (set slots k (Some t)))
put_in [] k t lt e = absurd (omega arith)
put_in (None ∷ slots) zero t lt e = IsPermutation-refl (t ∷ somes slots)
put_in (Some s ∷ slots) zero t lt e = cc
put_in (None ∷ slots) (suc k) t lt e = put_in slots k t (omega arith) e
put_in (Some s ∷ slots) (suc k) t lt e =
    let all = somes (set slots k (Some t)) in
    IsPermutation-trans (t ∷ s ∷ somes slots) (s ∷ t ∷ somes slots) (s ∷ all) (IsPermutation-middle (t ∷ []) s (somes slots)) (IsPermutation-cons s (t ∷ somes slots) all (put_in slots k t (omega arith) e))

none_open : (standing : List (Option Task)) → list_any is_some standing ≡ false → somes standing ≡ []
none_open [] e = refl
none_open (None ∷ standing) e = none_open standing e
none_open (Some t ∷ standing) e = cc

-- what fills the slots has all their tasks and all open ones
pub fills_all : (slots standing : List (Option Task)) (order : List Task) → Fills slots standing order → IsPermutation (somes slots ++ somes standing) order
fills_all [] standing [] fills = subst (λ (l : List Task). IsPermutation l []) (sym (none_open standing fills)) (IsPermutation-refl [])
fills_all [] standing (t ∷ order) fills = absurd fills
fills_all (Some s ∷ slots) standing [] fills = absurd fills
fills_all (None ∷ slots) standing [] fills = absurd fills
fills_all (Some s ∷ slots) standing (t ∷ order) fills =
    subst (λ (x : Task). IsPermutation (s ∷ (somes slots ++ somes standing)) (x ∷ order)) (sym fills.0) (IsPermutation-cons s (somes slots ++ somes standing) order (fills_all slots standing order fills.1))
fills_all (None ∷ slots) standing (t ∷ order) fills =
    let left = set standing fills.0 None in
    let a = somes slots ++ somes standing in
    let b = somes slots ++ (t ∷ somes left) in
    let d = t ∷ (somes slots ++ somes left) in
    IsPermutation-trans a b (t ∷ order) (IsPermutation-append_right (somes slots) (somes standing) (t ∷ somes left) (taken standing fills.0 t fills.1))
    (IsPermutation-trans b d (t ∷ order) (IsPermutation-middle (somes slots) t (somes left)) (IsPermutation-cons t (somes slots ++ somes left) order (fills_all slots left order fills.2)))

-- counts
both_true : (a b : Bool) → (a && b) ≡ true → (a ≡ true) × (b ≡ true)
both_true true b e = (refl, e)
both_true false b e = cc

-- it is that task, or it isn't counted
abbrev IsThat : ℕ → ℕ → Task → Type 0
IsThat client k t = (t.client ≡ client) × (t.index ≡ k)

that_or_not : (client k : ℕ) (t : Task) → (IsThat client k t × (is_task client k t ≡ 1)) ⊎ (is_task client k t ≡ 0)
that_or_not client k t = by (t.client == client && t.index == k) refl
  where
    by : (b : Bool) → (t.client == client && t.index == k) ≡ b → (IsThat client k t × (◌≡◌ {A = ℕ} (if b then 1 else 0) 1)) ⊎ (◌≡◌ {A = ℕ} (if b then 1 else 0) 0)
    by true e = let two = both_true (t.client == client) (t.index == k) e in inl (((Decides-eqb t.client client).0 two.0, (Decides-eqb t.index k).0 two.1), refl)
    by false e = inr refl

pub counts_itself : (t : Task) → is_task t.client t.index t ≡ 1
counts_itself t = ap {B = ℕ} (λ (b : Bool). if b then 1 else 0) (ap₂ (λ (a b : Bool). a && b) ((Decides-eqb t.client t.client).1 refl) ((Decides-eqb t.index t.index).1 refl))

-- a counted task stands somewhere
abbrev StandsAt : ℕ → ℕ → List (Option Task) → Type 0
StandsAt client k slots = (i : ℕ) × (t : Task) × (slot_at slots i ≡ Some t) × IsThat client k t

pub stands : (client k : ℕ) (slots : List (Option Task)) → 1 ≤ times client k (somes slots) → StandsAt client k slots
stands client k [] some = absurd (omega arith)
stands client k (None ∷ slots) some = let s = stands client k slots some in (suc s.0, s.1, s.2, s.3)
stands client k (Some t ∷ slots) some = elim (that_or_not client k t) [
  | inl h ↦ (0, t, refl, h.0)
  | inr h ↦ let s = stands client k slots (omega (arith, some, h)) in (suc s.0, s.1, s.2, s.3)
]

-- and so in an order
abbrev OccursAt : ℕ → ℕ → ℕ → (Task → Type 0) → List Task → Type 0
OccursAt number client k Known order = (j : ℕ) × (t : Task) × (pairs : List Pair) × (number ≤ j) × IsThat client k t × Known t × HasAnswer t.outcome j pairs

pub occurs : (number : ℕ) (m : Places) (client k : ℕ) (Known : Task → Type 0) (order : List Task) → AllByRecursion Known order → CanFollow number m order → 1 ≤ times client k order → OccursAt number client k Known order
occurs number m client k Known [] known can some = absurd (omega arith)
occurs number m client k Known (t ∷ order) known can some = elim (that_or_not client k t) [
  | inl h ↦ (number, t, (replay t.intent.packet m).pairs, omega arith, h.0, known.0, can.0.answer)
  | inr h ↦ (
      let later = occurs (number + 1) (replay t.intent.packet m).after client k Known order known.1 can.1 (omega (arith, some, h)) in
      (later.0, later.1, later.2, omega (arith, later.3), later.4, later.5, later.6))
]

-- each slot's task has that number, the first one's being this
abbrev pub AreNumbered : ℕ → List (Option Task) → Type 0
AreNumbered number slots = (i : ℕ) (t : Task) → slot_at slots i ≡ Some t → (o : PlainOutcome) × (t.outcome ≡ Some o) × (o.number ≡ number + i)

abbrev pub AreKnown : (Task → Type 0) → List (Option Task) → Type 0
AreKnown Known slots = (i : ℕ) (t : Task) → slot_at slots i ≡ Some t → Known t

no_standing : (standing : List (Option Task)) → ((client k : ℕ) → times client k (somes standing) ≡ 0) → list_any is_some standing ≡ false
no_standing [] none = refl
no_standing (None ∷ standing) none = no_standing standing none
no_standing (Some t ∷ standing) none = absurd (omega (arith, none t.client t.index, counts_itself t))

number_of : (t : Task) (o : PlainOutcome) (number : ℕ) (pairs : List Pair) → t.outcome ≡ Some o → HasAnswer t.outcome number pairs → o.number ≡ number
number_of t o number pairs is h = (subst (λ (x : Option PlainOutcome). HasAnswer x number pairs) is h).0

later_numbered : (number : ℕ) (slot : Option Task) (slots : List (Option Task)) → AreNumbered number (slot ∷ slots) → AreNumbered (number + 1) slots
later_numbered number slot slots h i t e = let n = h (suc i) t e in (n.0, n.1, omega (arith, n.2))

-- tasks that are known are the same where client and place are
abbrev pub AreSingle : (Task → Type 0) → Type 0
AreSingle Known = (s t : Task) → Known s → Known t → s.client ≡ t.client → s.index ≡ t.index → s ≡ t

module _ (Known : Task → Type 0) (single : AreSingle Known) where
  abbrev Counted : List Task → List (Option Task) → List (Option Task) → Type 0
  Counted order slots standing = (client k : ℕ) → times client k order ≡ times client k (somes slots) + times client k (somes standing)

  abbrev Filled : ℕ → List (Option Task) → Type 0
  Filled number slots = (m : Places) (standing : List (Option Task)) (order : List Task) → AreNumbered number slots → AreKnown Known slots → AreKnown Known standing → AllByRecursion Known order
      → length order ≡ length slots → Counted order slots standing → CanFollow number m order → Fills slots standing order

  -- an answered task can only be at its number
  answered : (number : ℕ) (s : Task) (slots : List (Option Task)) → Filled (number + 1) slots → Filled number (Some s ∷ slots)
  answered number s slots rest m standing [] numbered known_slots known_open known size counted can = absurd (omega (arith, size))
  answered number s slots rest m standing (t ∷ order) numbered known_slots known_open known size counted can =
      let ks : Known s = known_slots 0 s refl in
      let same : t ≡ s = elim (that_or_not s.client s.index t) [
        | inl h ↦ single t s known.0 ks h.0.0 h.0.1
        | inr h ↦ absurd (
            let later = occurs (number + 1) (replay t.intent.packet m).after s.client s.index Known order known.1 can.1 (omega (arith, counted s.client s.index, h, counts_itself s)) in
            let is : later.1 ≡ s = single later.1 s later.5 ks later.4.0 later.4.1 in
            let n = numbered 0 s refl in
            let at = number_of later.1 n.0 later.0 later.2 (ap (λ (x : Task). x.outcome) is ∙ n.1) later.6 in
            omega (arith, at, n.2, later.3))
      ] in
      let counts : Counted order slots standing = λ client k. omega (arith, counted client k, ap (is_task client k) same) in
      (same, rest (replay t.intent.packet m).after standing order (later_numbered number (Some s) slots numbered) (λ i x e. known_slots (suc i) x e) known_open known.1 (omega (arith, size)) counts can.1)

  -- at a free number there is an open one
  free : (number : ℕ) (slots : List (Option Task)) → Filled (number + 1) slots → Filled number (None ∷ slots)
  free number slots rest m standing [] numbered known_slots known_open known size counted can = absurd (omega (arith, size))
  free number slots rest m standing (t ∷ order) numbered known_slots known_open known size counted can =
      let not_slots : times t.client t.index (somes slots) ≡ 0 = elim (cases_lt 0 (times t.client t.index (somes slots))) [
        | inl lt ↦ absurd (
            let at = stands t.client t.index slots (omega (arith, lt)) in
            let is : at.1 ≡ t = single at.1 t (known_slots (suc at.0) at.1 at.2) known.0 at.3.0 at.3.1 in
            let n = numbered (suc at.0) at.1 at.2 in
            let have = number_of t n.0 number (replay t.intent.packet m).pairs (sym (ap (λ (x : Task). x.outcome) is) ∙ n.1) can.0.answer in
            omega (arith, have, n.2))
        | inr le ↦ omega (arith, le)
      ] in
      let at = stands t.client t.index standing (omega (arith, counted t.client t.index, not_slots, counts_itself t)) in
      let is : at.1 ≡ t = single at.1 t (known_open at.0 at.1 at.2) known.0 at.3.0 at.3.1 in
      let here : slot_at standing at.0 ≡ Some t = at.2 ∙ ap (λ (x : Task). Some x) is in
      let left = set standing at.0 None in
      let counts : Counted order slots left = λ client k. omega (arith, counted client k, times_same client k (somes standing) (t ∷ somes left) (taken standing at.0 t here)) in
      (at.0, here, rest (replay t.intent.packet m).after left order (later_numbered number None slots numbered) (λ i x e. known_slots (suc i) x e) (λ i x e. known_open i x (kept standing at.0 i x e)) known.1 (omega (arith, size)) counts can.1)

  none_left : (number : ℕ) → Filled number []
  none_left number m standing [] numbered known_slots known_open known size counted can = no_standing standing (λ client k. omega (arith, counted client k))
  none_left number m standing (t ∷ order) numbered known_slots known_open known size counted can = absurd (omega (arith, size))

  -- an order that has all tasks and can follow fills the slots
  pub fills_of : (slots : List (Option Task)) (number : ℕ) → Filled number slots
  fills_of [] number = none_left number
  fills_of (Some s ∷ slots) number = answered number s slots (fills_of slots (number + 1))
  fills_of (None ∷ slots) number = free number slots (fills_of slots (number + 1))
