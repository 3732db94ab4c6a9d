-- The slots of the tasks of logs, and the placements as orders that fill them.
use Rattle.std.proofs.Common.{◌≡◌, ◌≢◌, ◌⊎◌, ℕ, zero, suc, ◌+◌, ◌-◌, ◌<◌, ◌≤◌, ◌&&◌, nat_lt, nat_le, Bool, true, false, List, [], ◌∷◌, ◌++◌, map, filter, set, get_or, replicate, length, slice_get, Option, None, Some, is_none, if◌then◌else◌, inl, inr, refl, sym, ap, ap₂, subst, ◌∙◌, arith, get_or-set_same, get_or-set_other}
use Rattle.std.specs.Prelude.{IsPermutation}
use Rattle.std.specs.List.{AllByRecursion}
use Rattle.std.specs.Option.{option_and_then}
use Rattle.std.proofs.lemmas.Bool.{cases_lt}
use Rattle.std.proofs.lemmas.Bool.Decides.{nat_tests}
use Rattle.std.proofs.lemmas.List.{length-set}
use Rattle.std.proofs.lemmas.List.Sorted.{IsPermutation-refl, IsPermutation-sym, IsPermutation-trans, IsPermutation-cons, IsPermutation-append_left, IsPermutation-middle}
use Rattle.switch_packet.specs.Packets.{PlainOutcome}
use Rattle.placement_model.specs.FirstOrder.{slot_at, put_answered, put_all}
use Rattle.placement_model.specs.Placements.{Task}
use Rattle.placement_model.proofs.Counting.{somes, is_task, times, times_same, put_in, counts_itself, AreNumbered, AreKnown}

-- the tasks that stand open
abbrev pub open_of : List Task → List Task
open_of tasks = filter (λ task. is_none task.outcome) tasks

pub somes-all : (tasks : List Task) → somes (map (λ task. Some task) tasks) ≡ tasks
somes-all [] = refl
somes-all (t ∷ tasks) = ap (λ (l : List Task). t ∷ l) (somes-all tasks)

pub somes-none : (n : ℕ) → somes (replicate n None) ≡ []
somes-none zero = refl
somes-none (suc n) = somes-none n

-- where an answered task was put
pub record IsPut (t : Task) (slots : List (Option Task)) (o : PlainOutcome) (next : List (Option Task)) : Type 0 where
  pub some : 0 < o.number
  pub within : o.number ≤ length slots
  pub free : slot_at slots (o.number - 1) ≡ None
  pub is : next ≡ set slots (o.number - 1) (Some t)

both : (a b : Bool) → (a && b) ≡ true → (a ≡ true) × (b ≡ true)
both true b e = (refl, e)
both false b e = cc

below : (a b : ℕ) → nat_lt a b ≡ true → a < b
below a b t = grind (arith, nat_tests)

at_most : (a b : ℕ) → nat_le a b ≡ true → a ≤ b
at_most a b t = grind (arith, nat_tests)

is_below : (a b : ℕ) → a < b → nat_lt a b ≡ true
is_below a b t = grind (arith, nat_tests)

is_at_most : (a b : ℕ) → a ≤ b → nat_le a b ≡ true
is_at_most a b t = grind (arith, nat_tests)

none_is : {X : Type 0} (o : Option X) → is_none o ≡ true → o ≡ None
none_is None e = refl
none_is (Some x) e = cc

pub put_is : (t : Task) (slots : List (Option Task)) (o : PlainOutcome) (next : List (Option Task)) → put_answered t slots (Some o) ≡ Some next → IsPut t slots o next
put_is t slots o next e = by (nat_lt 0 o.number && (nat_le o.number (length slots) && is_none (slot_at slots (o.number - 1)))) refl e
  where
    by : (b : Bool) → (nat_lt 0 o.number && (nat_le o.number (length slots) && is_none (slot_at slots (o.number - 1)))) ≡ b → (if b then Some (set slots (o.number - 1) (Some t)) else None) ≡ Some next → IsPut t slots o next
    by true is h =
        let one = both (nat_lt 0 o.number) (nat_le o.number (length slots) && is_none (slot_at slots (o.number - 1))) is in
        let two = both (nat_le o.number (length slots)) (is_none (slot_at slots (o.number - 1))) one.1 in
        record { some = below 0 o.number one.0; within = at_most o.number (length slots) two.0; free = none_is (slot_at slots (o.number - 1)) two.1; is = cc }
    by false is h = cc

pub is_put : (t : Task) (slots : List (Option Task)) (o : PlainOutcome) → 0 < o.number → o.number ≤ length slots → slot_at slots (o.number - 1) ≡ None → put_answered t slots (Some o) ≡ Some (set slots (o.number - 1) (Some t))
is_put t slots o some within free =
    ap (λ (b : Bool). if b then Some (set slots (o.number - 1) (Some t)) else None)
    (ap₂ (λ (a b : Bool). a && b) (is_below 0 o.number some) (ap₂ (λ (a b : Bool). a && b) (is_at_most o.number (length slots) within) (ap is_none free)))

same_or_not : (a b : ℕ) → (a ≡ b) ⊎ (a ≢ b)
same_or_not a b = elim (cases_lt a b) [ inl lt ↦ inr (λ e. omega arith) | inr le ↦ elim (cases_lt b a) [ inl lt ↦ inr (λ e. omega arith) | inr ge ↦ inl (omega arith) ] ]

-- what holds of each task that is in a slot with its place holds with one more
pub held_put : (P : ℕ → Task → Type 0) (slots : List (Option Task)) (k : ℕ) (t : Task) → k < length slots → ((i : ℕ) (s : Task) → slot_at slots i ≡ Some s → P i s) → P k t → (i : ℕ) (s : Task) → slot_at (set slots k (Some t)) i ≡ Some s → P i s
held_put P slots k t lt held new i s e = elim (same_or_not i k) [
  | inl same ↦ (
      let is : Some t ≡ Some s = sym (ap (λ (j : ℕ). get_or (set slots k (Some t)) j None) same ∙ get_or-set_same slots k (Some t) None lt) ∙ e in
      let one : t ≡ s = cc in
      subst (λ (j : ℕ). P j s) (sym same) (subst (P k) one new))
  | inr n ↦ held i s (sym (get_or-set_other slots k i (Some t) None n) ∙ e)
]

-- what the slots then are
pub record AreSlots (Known : Task → Type 0) (tasks : List Task) (slots next : List (Option Task)) : Type 0 where
  pub size : length next ≡ length slots
  pub all : IsPermutation (somes slots ++ tasks) (somes next ++ open_of tasks)
  pub numbered : AreNumbered 1 next
  pub known : AreKnown Known next

pub slots_are : (Known : Task → Type 0) (tasks : List Task) (slots next : List (Option Task)) → AllByRecursion Known tasks → AreNumbered 1 slots → AreKnown Known slots → put_all tasks slots ≡ Some next → AreSlots Known tasks slots next
slots_are Known [] slots next known numbered known_slots e =
    let same : slots ≡ next = cc in
    subst (AreSlots Known [] slots) same (record { size = refl; all = IsPermutation-refl (somes slots ++ []); numbered = numbered; known = known_slots })
slots_are Known (t ∷ tasks) slots next known numbered known_slots e =
    by t.outcome refl e (λ now a b h. slots_are Known tasks now next known.1 a b h)
  where
    found : (o : PlainOutcome) (p : Option (List (Option Task))) → put_answered t slots (Some o) ≡ p → option_and_then (put_all tasks) p ≡ Some next → (now : List (Option Task)) × IsPut t slots o now × (put_all tasks now ≡ Some next)
    found o (Some now) is h = (now, put_is t slots o now is, h)
    found o None is h = cc

    by : (outcome : Option PlainOutcome) → t.outcome ≡ outcome → option_and_then (put_all tasks) (put_answered t slots outcome) ≡ Some next → ((now : List (Option Task)) → AreNumbered 1 now → AreKnown Known now → put_all tasks now ≡ Some next → AreSlots Known tasks now next) → AreSlots Known (t ∷ tasks) slots next
    by None free h rest =
        let later = rest slots numbered known_slots h in
        let left = open_of tasks in
        let open_now : open_of (t ∷ tasks) ≡ t ∷ left = ap (λ (o : Option PlainOutcome). if is_none o then t ∷ left else left) free in
        record {
          size = later.size;
          all = subst (λ (l : List Task). IsPermutation (somes slots ++ (t ∷ tasks)) (somes next ++ l)) (sym open_now)
              (IsPermutation-trans (somes slots ++ (t ∷ tasks)) (t ∷ (somes slots ++ tasks)) (somes next ++ (t ∷ left)) (IsPermutation-middle (somes slots) t tasks)
              (IsPermutation-trans (t ∷ (somes slots ++ tasks)) (t ∷ (somes next ++ left)) (somes next ++ (t ∷ left)) (IsPermutation-cons t (somes slots ++ tasks) (somes next ++ left) later.all)
              (IsPermutation-sym (somes next ++ (t ∷ left)) (t ∷ (somes next ++ left)) (IsPermutation-middle (somes next) t left))));
          numbered = later.numbered;
          known = later.known;
        }
    by (Some o) has h rest =
        let f = found o (put_answered t slots (Some o)) refl h in
        let put = f.1 in
        let k = o.number - 1 in
        let lt : k < length slots = omega (arith, put.some, put.within) in
        let now = set slots k (Some t) in
        let now_numbered : AreNumbered 1 now = held_put (λ i s. (q : PlainOutcome) × (s.outcome ≡ Some q) × (q.number ≡ 1 + i)) slots k t lt numbered (o, has, omega (arith, put.some)) in
        let now_known : AreKnown Known now = held_put (λ i s. Known s) slots k t lt known_slots known.0 in
        let later = rest now now_numbered now_known (ap (put_all tasks) (sym put.is) ∙ f.2) in
        let left = open_of tasks in
        let open_now : open_of (t ∷ tasks) ≡ left = ap (λ (x : Option PlainOutcome). if is_none x then t ∷ left else left) has in
        record {
          size = later.size ∙ length-set slots k (Some t);
          all = subst (λ (l : List Task). IsPermutation (somes slots ++ (t ∷ tasks)) (somes next ++ l)) (sym open_now)
              (IsPermutation-trans (somes slots ++ (t ∷ tasks)) (t ∷ (somes slots ++ tasks)) (somes next ++ left) (IsPermutation-middle (somes slots) t tasks)
              (IsPermutation-trans (t ∷ (somes slots ++ tasks)) (somes now ++ tasks) (somes next ++ left) (IsPermutation-append_left tasks (t ∷ somes slots) (somes now) (put_in slots k t lt put.free)) later.all));
          numbered = later.numbered;
          known = later.known;
        }

-- a task in a slot is counted
counted_in : (slots : List (Option Task)) (k : ℕ) (t : Task) → slot_at slots k ≡ Some t → 1 ≤ times t.client t.index (somes slots)
counted_in [] k t e = cc
counted_in (None ∷ slots) zero t e = cc
counted_in (Some s ∷ slots) zero t e = let same : s ≡ t = cc in omega (arith, ap (is_task t.client t.index) same, counts_itself t)
counted_in (None ∷ slots) (suc k) t e = counted_in slots k t e
counted_in (Some s ∷ slots) (suc k) t e = omega (arith, counted_in slots k t e)

-- each answered task stands in the order where its number says
abbrev pub IsPlaced : List Task → Task → Type 0
IsPlaced order t = (o : PlainOutcome) → t.outcome ≡ Some o → (0 < o.number) × (o.number ≤ length order) × (slice_get order (o.number - 1) ≡ Some t)

-- then the slots can be built
pub can_put : (order tasks : List Task) (slots : List (Option Task)) → length slots ≡ length order → AllByRecursion (IsPlaced order) tasks → AreNumbered 1 slots → AreKnown (IsPlaced order) slots
    → ((client k : ℕ) → times client k (somes slots) + times client k tasks ≤ 1) → put_all tasks slots ≡ None → ⊥
can_put order [] slots size placed numbered known few e = cc
can_put order (t ∷ tasks) slots size placed numbered known few e = by t.outcome refl e (λ now a b d f h. can_put order tasks now a placed.1 b d f h)
  where
    -- no other task is there
    alone : (o : PlainOutcome) → t.outcome ≡ Some o → (x : Option Task) → slot_at slots (o.number - 1) ≡ x → x ≡ None
    alone o has None is = refl
    alone o has (Some s) is = absurd (
        let n = numbered (o.number - 1) s is in
        let mine = placed.0 o has in
        let its = known (o.number - 1) s is n.0 n.1 in
        let number : n.0.number ≡ o.number = omega (arith, n.2, mine.0) in
        let both_there : Some s ≡ Some t = sym its.2 ∙ ap (λ (q : ℕ). slice_get order (q - 1)) number ∙ mine.2 in
        let same : s ≡ t = cc in
        let counted : 1 ≤ times t.client t.index (somes slots) = counted_in slots (o.number - 1) t (is ∙ ap (λ (y : Task). Some y) same) in
        omega (arith, few t.client t.index, counted, counts_itself t))

    by : (outcome : Option PlainOutcome) → t.outcome ≡ outcome → option_and_then (put_all tasks) (put_answered t slots outcome) ≡ None → ((now : List (Option Task)) → length now ≡ length order → AreNumbered 1 now → AreKnown (IsPlaced order) now → ((client k : ℕ) → times client k (somes now) + times client k tasks ≤ 1) → put_all tasks now ≡ None → ⊥) → ⊥
    by None free h rest = rest slots size numbered known (λ client k. omega (arith, few client k)) h
    by (Some o) has h rest =
        let mine = placed.0 o has in
        let k = o.number - 1 in
        let lt : k < length slots = omega (arith, mine.0, mine.1, size) in
        let open_slot = alone o has (slot_at slots k) refl in
        let put = is_put t slots o mine.0 (omega (arith, mine.1, size)) open_slot in
        let now = set slots k (Some t) in
        rest now (length-set slots k (Some t) ∙ size)
        (held_put (λ i s. (q : PlainOutcome) × (s.outcome ≡ Some q) × (q.number ≡ 1 + i)) slots k t lt numbered (o, has, omega (arith, mine.0)))
        (held_put (λ i s. IsPlaced order s) slots k t lt known placed.0)
        (λ client j. omega (arith, few client j, times_same client j (t ∷ somes slots) (somes now) (put_in slots k t lt open_slot)))
        (sym (ap (option_and_then (put_all tasks)) put) ∙ h)
