-- The passes of operations are the least ones, and what follows from that.
use Rattle.std.proofs.Common.{◌≡◌, ◌≢◌, ℕ, zero, suc, ◌+◌, ◌≤◌, ◌<◌, max, fold, Bool, true, false, ◌&&◌, ◌||◌, inl, inr, eqb, ltb, List, [], ◌∷◌, ◌++◌, length, get_or, take, drop, map, refl, sym, ap, ◌∙◌, subst, arith, zero-add, length-append}
use Rattle.std.specs.List.{AllByRecursion}
use Rattle.std.proofs.Math.Seq.{take-suc}
use Rattle.std.proofs.lemmas.Bool.{both_ways, cases_lt, not-true, and_parts, eqb-true, ltb-true, lt-ltb, eq-eqb, or_cases}
use Rattle.std.proofs.lemmas.List.{length-map, length-take-le, map-append, append_assoc, append-nil, take_all, take_at, take-take, take-append-drop, get_or-take, get_or_at, get_or-map, get_or_default}
use Rattle.std.proofs.lemmas.List.Elements.{All-from_recursion, recursion_from_All}
use Rattle.std.proofs.lemmas.Option.{get_or_from_slice_get, slice_get-get_or, slice_get_within}
use Rattle.txn_model.specs.declared.op.Need.{Need}
use Rattle.txn_model.specs.Needs.{needs_list, needs_of}
use Rattle.txn_model.specs.declared.place.Place.{Place}
use Rattle.stage_layout.specs.declared.pass_plan.HotOp.{HotOp}
use Rattle.stage_layout.specs.declared.shape.Shape.{Shape}
use Rattle.stage_layout.specs.Passes.{Step, step_at, OnOneArray, ComesBefore, CanPass, IsLeastPass, same_array, comes_before, is_taken, are_met, can_pass, first_from, least_pass, next_step, steps_behind, steps_of, greatest, plan_of, PassesUpTo, NeedsBelow, NeedEarlier}
use Rattle.stage_layout.specs.PlanLaws.{AreLeast, PassesAreLeast, AreInOrder, HasPasses, PlansAreInOrder}
use Rattle.stage_layout.proofs.PassLaws.{first_from-least, first_from-passes, first_from-fails, steps_behind-append, length-steps_of, steps_of-more, steps_of-upto, upto_at}
use Rattle.stage_layout.proofs.PlanLoops.{needs_at}

-- ---- the tests say what is wanted

pub before_true : (step : Step) (p stage : ℕ) → comes_before step p stage ≡ true → ComesBefore step p stage
before_true step p stage e = elim (or_cases (ltb step.pass p) (eqb step.pass p && ltb step.place.stage stage) e) as (λ _. ComesBefore step p stage) [
  | inl early ↦ inl (ltb-true step.pass p early)
  | inr here ↦ let h = and_parts _ _ here in inr (eqb-true step.pass p h.0, ltb-true step.place.stage stage h.1)
]

pub before_from : (step : Step) (p stage : ℕ) → ComesBefore step p stage → comes_before step p stage ≡ true
before_from step p stage (inl early) = rw (lt-ltb step.pass p early) refl
before_from step p stage (inr here) = rw (eq-eqb step.pass p here.0, lt-ltb step.place.stage stage here.1) (elim (ltb step.pass p) as (λ b. (b || true) ≡ true) [ true ↦ refl | false ↦ refl ])

met_true : (steps : List Step) (needs : List Need) (p stage : ℕ) → are_met steps needs p stage ≡ true → AllByRecursion (λ need. ComesBefore (step_at steps need.from) p stage) needs
met_true steps [] p stage e = tt
met_true steps (need ∷ needs) p stage e = let h = and_parts _ _ e in (before_true (step_at steps need.from) p stage h.0, met_true steps needs p stage h.1)

met_from : (steps : List Step) (needs : List Need) (p stage : ℕ) → AllByRecursion (λ need. ComesBefore (step_at steps need.from) p stage) needs → are_met steps needs p stage ≡ true
met_from steps [] p stage h = refl
met_from steps (need ∷ needs) p stage h = rw (before_from (step_at steps need.from) p stage h.0, met_from steps needs p stage h.1) refl

abbrev takes : Place → ℕ → Step → Bool
takes place p step = same_array step.place place && eqb step.pass p

takes_false : (place : Place) (p : ℕ) (step : Step) → takes place p step ≡ false → OnOneArray step.place place → step.pass ≢ p
takes_false place p step e same at = both_ways (takes place p step) e (rw (eq-eqb step.place.stage place.stage same.stage, eq-eqb step.place.array place.array same.array, eq-eqb step.pass p at) refl)

takes_from : (place : Place) (p : ℕ) (step : Step) → (OnOneArray step.place place → step.pass ≢ p) → takes place p step ≡ false
takes_from place p step apart =
    let go : (b : Bool) → takes place p step ≡ b → b ≡ false = λ b. elim b as (λ b. takes place p step ≡ b → b ≡ false) [
      | true ↦ λ e.
          let h = and_parts _ _ e in
          let s = and_parts _ _ h.0 in
          absurd (apart (record { stage = eqb-true step.place.stage place.stage s.0; array = eqb-true step.place.array place.array s.1 }) (eqb-true step.pass p h.1))
      | false ↦ λ _. refl
    ] in
    go (takes place p step) refl

free_true : (steps : List Step) (place : Place) (p : ℕ) → is_taken steps place p ≡ false → AllByRecursion (λ step. OnOneArray step.place place → step.pass ≢ p) steps
free_true [] place p e = tt
free_true (step ∷ steps) place p e =
    let go : (b : Bool) → takes place p step ≡ b → (b || is_taken steps place p) ≡ false → (takes place p step ≡ false) × (is_taken steps place p ≡ false) = λ b. elim b as (λ b. takes place p step ≡ b → (b || is_taken steps place p) ≡ false → (takes place p step ≡ false) × (is_taken steps place p ≡ false)) [
      | true ↦ λ _ wrong. cc wrong
      | false ↦ λ here rest. (here, rest)
    ] in
    let h = go (takes place p step) refl e in
    (takes_false place p step h.0, free_true steps place p h.1)

free_from : (steps : List Step) (place : Place) (p : ℕ) → AllByRecursion (λ step. OnOneArray step.place place → step.pass ≢ p) steps → is_taken steps place p ≡ false
free_from [] place p h = refl
free_from (step ∷ steps) place p h = rw (takes_from place p step h.0, free_from steps place p h.1) refl

can_true : (steps : List Step) (place : Place) (needs : List Need) (p : ℕ) → can_pass steps place needs p ≡ true → CanPass steps place needs p
can_true steps place needs p e =
    let h = and_parts _ _ e in
    record { alone = free_true steps place p (not-true _ h.0); needed = met_true steps needs p place.stage h.1 }

can_from : (steps : List Step) (place : Place) (needs : List Need) (p : ℕ) → CanPass steps place needs p → can_pass steps place needs p ≡ true
can_from steps place needs p h = rw (free_from steps place p h.alone, met_from steps needs p place.stage h.needed) refl

-- ---- one more pass than there are steps is always enough

free_beyond : (n : ℕ) (steps : List Step) (place : Place) → PassesUpTo n steps → is_taken steps place (n + 1) ≡ false
free_beyond n [] place h = refl
free_beyond n (step ∷ steps) place h = let apart : step.pass ≢ n + 1 = λ e. omega (arith, h.0) in rw (takes_from place (n + 1) step (λ _. apart), free_beyond n steps place h.1) refl

met_beyond : (n : ℕ) (steps : List Step) (needs : List Need) (stage : ℕ) → PassesUpTo n steps → are_met steps needs (n + 1) stage ≡ true
met_beyond n steps [] stage h = refl
met_beyond n steps (need ∷ needs) stage h =
    let early : (step_at steps need.from).pass < n + 1 = omega (arith, upto_at n steps need.from h) in
    rw (before_from (step_at steps need.from) (n + 1) stage (inl early), met_beyond n steps needs stage h) refl

pub least_pass-least : (steps : List Step) (place : Place) (needs : List Need) → PassesUpTo (length steps) steps → IsLeastPass steps place needs (least_pass steps place needs)
unfolding least_pass
least_pass-least steps place needs upto =
    let n = length steps in
    let test = can_pass steps place needs in
    let s : 1 + n ≡ n + 1 = omega arith in
    let last : test (n + 1) ≡ true = rw (free_beyond n steps place upto, met_beyond n steps needs place.stage upto) refl in
    record {
      from_one = first_from-least test n 1;
      fits = can_true steps place needs (first_from test n 1) (first_from-passes test n 1 (ap test s ∙ last));
      least = λ q one h. elim (cases_lt q (first_from test n 1)) as (λ _. first_from test n 1 ≤ q) [
        | inl below ↦ absurd (both_ways (test q) (first_from-fails test n 1 q one below) (can_from steps place needs q h))
        | inr above ↦ above
      ];
    }

-- there is one least pass
pub least_is_one : (steps : List Step) (place : Place) (needs : List Need) (p q : ℕ) → IsLeastPass steps place needs p → IsLeastPass steps place needs q → p ≡ q
least_is_one steps place needs p q h k = omega (arith, h.least q k.from_one k.fits, k.least p h.from_one h.fits)

-- ---- steps, one by one

abbrev none : HotOp
none = record { place = record { stage = 0; array = 0; cell = 0 }; needs = needs_of [] }

abbrev no_step : Step
no_step = record { pass = 0; place = record { stage = 0; array = 0; cell = 0 } }

abbrev place_of_step : Step → Place
place_of_step step = step.place

abbrev place_of_op : HotOp → Place
place_of_op op = op.place

take-steps_behind : (steps : List Step) (ops : List HotOp) → take (length steps) (steps_behind steps ops) ≡ steps
take-steps_behind steps [] = take_all (length steps) steps (omega arith)
take-steps_behind steps (op ∷ ops) =
    let x = next_step steps op in
    let more = steps ++ x ∷ [] in
    let whole = steps_behind more ops in
    sym (take-take (length steps) (length more) whole (omega (arith, length-append steps (x ∷ [])))) ∙ ap (take (length steps)) (take-steps_behind more ops) ∙ take_at steps (x ∷ []) (length steps) refl

-- the steps of the first k operations are the first k steps
pub take-steps_of : (ops : List HotOp) (k : ℕ) → k ≤ length ops → take k (steps_of ops) ≡ steps_of (take k ops)
take-steps_of ops k le =
    let front = steps_of (take k ops) in
    let len : length front ≡ k = length-steps_of (take k ops) ∙ length-take-le k ops le in
    let whole : steps_of ops ≡ steps_behind front (drop k ops) = ap steps_of (sym (take-append-drop k ops)) ∙ steps_behind-append [] (take k ops) (drop k ops) in
    ap (take k) whole ∙ ap (λ n. take n (steps_behind front (drop k ops))) (sym len) ∙ take-steps_behind front (drop k ops)

pub step_at-steps_of : (ops : List HotOp) (k : ℕ) (d : HotOp) → k < length ops → step_at (steps_of ops) k ≡ next_step (steps_of (take k ops)) (get_or ops k d)
step_at-steps_of ops k d lt =
    let front = steps_of (take k ops) in
    let len : length front ≡ k = length-steps_of (take k ops) ∙ length-take-le k ops (omega arith) in
    sym (get_or-take (k + 1) (steps_of ops) k no_step (omega arith))
    ∙ ap (λ steps. get_or steps k no_step) (take-steps_of ops (k + 1) (omega arith) ∙ steps_of-more ops k d lt)
    ∙ get_or_at front (next_step front (get_or ops k d)) [] no_step k len

map-steps_behind : (steps : List Step) (ops : List HotOp) → map place_of_step (steps_behind steps ops) ≡ map place_of_step steps ++ map place_of_op ops
map-steps_behind steps [] = sym (append-nil (map place_of_step steps))
map-steps_behind steps (op ∷ ops) =
    let x = next_step steps op in
    map-steps_behind (steps ++ x ∷ []) ops ∙ ap (λ l. l ++ map place_of_op ops) (map-append place_of_step steps (x ∷ [])) ∙ append_assoc (map place_of_step steps) (op.place ∷ []) (map place_of_op ops)

pub least_of : (ops : List HotOp) → AreLeast ops (steps_of ops)
least_of ops = record {
  places = map-steps_behind [] ops;
  passes = λ k op e.
      let lt = slice_get_within ops k op e in
      let is = get_or_from_slice_get ops k op none e in
      let front = steps_of (take k ops) in
      let at = step_at-steps_of ops k none lt ∙ ap (next_step front) is in
      rw (take-steps_of ops k (omega arith), at) (least_pass-least front op.place (needs_list op.needs) (steps_of-upto (take k ops)));
}

same_step : (a b : Step) → a.pass ≡ b.pass → a.place ≡ b.place → a ≡ b
same_step a b pass place =
    let with_pass : ℕ → Step = λ n. record { pass = n; place = a.place } in
    let with_place : Place → Step = λ p. record { pass = b.pass; place = p } in
    ap with_pass pass ∙ ap with_place place

-- where the first k steps are those of the first k operations, so is the next one
same_next : (ops : List HotOp) (steps : List Step) (k : ℕ) → AreLeast ops steps → k < length ops → take k steps ≡ take k (steps_of ops) → step_at steps k ≡ step_at (steps_of ops) k
same_next ops steps k h lt same =
    let ours = least_of ops in
    let op = get_or ops k none in
    let e = slice_get-get_or ops k none lt in
    let len : length steps ≡ length ops = sym (length-map steps place_of_step) ∙ ap length h.places ∙ length-map ops place_of_op in
    let place : (step_at steps k).place ≡ (step_at (steps_of ops) k).place =
    sym (get_or-map place_of_step steps k no_step no_step.place (omega arith))
    ∙ ap (λ l. get_or l k no_step.place) (h.places ∙ sym ours.places)
    ∙ get_or-map place_of_step (steps_of ops) k no_step no_step.place (omega (arith, length-steps_of ops))
    in
    let least = subst (λ front. IsLeastPass front op.place (needs_list op.needs) (step_at steps k).pass) same (h.passes k op e) in
    let pass = least_is_one (take k (steps_of ops)) op.place (needs_list op.needs) _ _ least (ours.passes k op e) in
    same_step (step_at steps k) (step_at (steps_of ops) k) pass place

same_front : (ops : List HotOp) (steps : List Step) (k : ℕ) → AreLeast ops steps → k ≤ length ops → take k steps ≡ take k (steps_of ops)
same_front ops steps zero h le = refl
same_front ops steps (suc k) h le =
    let len : length steps ≡ length ops = sym (length-map steps place_of_step) ∙ ap length h.places ∙ length-map ops place_of_op in
    let front = same_front ops steps k h (omega arith) in
    take-suc steps k no_step (omega arith) ∙ rw (front, same_next ops steps k h (omega arith) front) (sym (take-suc (steps_of ops) k no_step (omega (arith, length-steps_of ops))))

pub steps_are_least : PassesAreLeast
steps_are_least ops steps =
    let from : AreLeast ops steps → steps ≡ steps_of ops = λ h.
    let len : length steps ≡ length ops = sym (length-map steps place_of_step) ∙ ap length h.places ∙ length-map ops place_of_op in
    sym (take_all (length ops) steps (omega arith)) ∙ same_front ops steps (length ops) h (omega arith) ∙ take_all (length ops) (steps_of ops) (omega (arith, length-steps_of ops))
    in
    (from, λ e. subst (AreLeast ops) (sym e) (least_of ops))

-- ---- what follows

needed_whole : (steps : List Step) (needs : List Need) (k p stage : ℕ) → NeedsBelow k needs → AllByRecursion (λ need. ComesBefore (step_at (take k steps) need.from) p stage) needs
    → AllByRecursion (λ need. ComesBefore (step_at steps need.from) p stage) needs
needed_whole steps [] k p stage below h = tt
needed_whole steps (need ∷ needs) k p stage below h =
    (subst (λ step. ComesBefore step p stage) (get_or-take k steps need.from no_step below.0) h.0, needed_whole steps needs k p stage below.1 h.1)

pub steps_are_in_order : (ops : List HotOp) → NeedEarlier 0 ops → AreInOrder ops (steps_of ops)
steps_are_in_order ops earlier =
    let steps = steps_of ops in
    let ours = least_of ops in
    let len = length-steps_of ops in
    record {
      needed = λ k op e.
          let lt = slice_get_within ops k op e in
          let is = get_or_from_slice_get ops k op none e in
          let below : NeedsBelow k (needs_list op.needs) = subst (λ n. NeedsBelow n (needs_list op.needs)) (zero-add k) (subst (λ (o : HotOp). NeedsBelow (0 + k) (needs_list o.needs)) is (needs_at ops 0 k none earlier lt)) in
          needed_whole steps (needs_list op.needs) k (step_at steps k).pass op.place.stage below (ours.passes k op e).fits.needed;
      apart = λ j k low within same one.
          let op = get_or ops k none in
          let e = slice_get-get_or ops k none (omega arith) in
          let place : (step_at steps k).place ≡ op.place = ap place_of_step (step_at-steps_of ops k none (omega arith)) in
          let front = take k steps in
          let alone = All-from_recursion (λ (step : Step). OnOneArray step.place op.place → step.pass ≢ (step_at steps k).pass) front (ours.passes k op e).fits.alone in
          let there : get_or front j no_step ≡ step_at steps j = get_or-take k steps j no_step low in
          let taken : length front ≡ k = length-take-le k steps (omega arith) in
          let no = subst (λ (step : Step). OnOneArray step.place op.place → step.pass ≢ (step_at steps k).pass) there (alone j no_step (omega arith)) in
          no (subst (OnOneArray (step_at steps j).place) place one) same;
    }

fold_max-from : (numbers : List ℕ) (most : ℕ) → most ≤ fold max most numbers
fold_max-from [] most = omega arith
fold_max-from (n ∷ numbers) most = omega (arith, fold_max-from numbers (max most n))

fold_max-each : (numbers : List ℕ) (most : ℕ) → AllByRecursion (λ n. n ≤ fold max most numbers) numbers
fold_max-each [] most = tt
fold_max-each (n ∷ numbers) most = (omega (arith, fold_max-from numbers (max most n)), fold_max-each numbers (max most n))

fold_max-most : (numbers : List ℕ) (most bound : ℕ) → most ≤ bound → AllByRecursion (λ n. n ≤ bound) numbers → fold max most numbers ≤ bound
fold_max-most [] most bound le h = le
fold_max-most (n ∷ numbers) most bound le h = fold_max-most numbers (max most n) bound (omega (arith, h.0)) h.1

both_hold : (P Q : ℕ → Type 0) (numbers : List ℕ) → AllByRecursion P numbers → AllByRecursion Q numbers → AllByRecursion (λ n. P n × Q n) numbers
both_hold P Q [] h k = tt
both_hold P Q (n ∷ numbers) h k = ((h.0, k.0), both_hold P Q numbers h.1 k.1)

mapped : (P : ℕ → Type 0) (steps : List Step) → AllByRecursion (λ step. P step.pass) steps → AllByRecursion P (map (λ step. step.pass) steps)
mapped P [] h = tt
mapped P (step ∷ steps) h = (h.0, mapped P steps h.1)

from_one : (ops : List HotOp) → AllByRecursion (λ step. 1 ≤ step.pass) (steps_of ops)
from_one ops =
    recursion_from_All (λ (step : Step). 1 ≤ step.pass) (steps_of ops) (λ k d lt.
    let within : k < length ops = omega (arith, length-steps_of ops) in
    let op = get_or ops k none in
    subst (λ (step : Step). 1 ≤ step.pass) (get_or_default (steps_of ops) k no_step d lt) ((least_of ops).passes k op (slice_get-get_or ops k none within)).from_one)

some_pass : (numbers : List ℕ) → AllByRecursion (λ n. 1 ≤ n) numbers → 1 ≤ length numbers → 1 ≤ greatest numbers
some_pass [] h some = absurd (omega arith)
some_pass (n ∷ numbers) h some = omega (arith, h.0, fold_max-from numbers (max 0 n))

pub has_passes : (shape : Shape) (ops : List HotOp) → HasPasses ops (plan_of shape ops).passes
unfolding plan_of
has_passes shape ops =
    let steps = steps_of ops in
    let passes = map (λ (step : Step). step.pass) steps in
    let len : length passes ≡ length ops = length-map steps (λ (step : Step). step.pass) ∙ length-steps_of ops in
    let ones = mapped (λ n. 1 ≤ n) steps (from_one ops) in
    record {
      each = len;
      range = both_hold (λ n. 1 ≤ n) (λ n. n ≤ greatest passes) passes ones (fold_max-each passes 0);
      some = λ few. some_pass passes ones (omega arith);
      most = fold_max-most passes 0 (length ops) (omega arith) (subst (λ n. AllByRecursion (λ p. p ≤ n) passes) (length-steps_of ops) (mapped (λ n. n ≤ length steps) steps (steps_of-upto ops)));
    }

pub plans_are_in_order : PlansAreInOrder
plans_are_in_order shape ops earlier = (steps_are_in_order ops earlier, has_passes shape ops)
