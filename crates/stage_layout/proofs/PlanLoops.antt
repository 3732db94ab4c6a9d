-- Making a plan, operation by operation.
use Rattle.std.proofs.Common.{◌≡◌, ℕ, zero, suc, ◌+◌, ◌-◌, ◌*◌, ◌≤◌, ◌<◌, max, Bool, true, false, cond, not, ◌&&◌, eqb, ltb, leb, List, [], ◌∷◌, ◌++◌, length, get_or, take, map, set, replicate, refl, sym, ap, ◌∙◌, subst, inl, inr, arith}
use Rattle.std.specs.Int.{from_bool}
use Rattle.std.specs.Ordering.{ord_max, nat_cmp}
use Rattle.std.specs.List.{list_any}
use Rattle.std.proofs.lemmas.Bool.{le-leb, lt-leb, cases_lt}
use Rattle.std.proofs.lemmas.Bool.Decides.{nat_tests}
use Rattle.std.proofs.lemmas.List.{append_assoc, length-map, length-take-le, map-append, set_at, take_more}
use Rattle.std.proofs.lemmas.List.Folds.{list_all_more}
use Rattle.txn_model.specs.Needs.{needs_list}
use Rattle.txn_model.specs.declared.op.Need.{Need}
use Rattle.txn_model.specs.declared.place.Place.{Place}
use Rattle.stage_layout.specs.declared.pass_plan.HotOp.{HotOp}
use Rattle.stage_layout.specs.declared.shape.Shape.{Shape}
use Rattle.stage_layout.specs.Regions.{region_of, halves_of}
use Rattle.stage_layout.specs.Passes.{Step, step_at, comes_before, is_taken, are_met, can_pass, least_pass, NeedsBelow, NeedEarlier}
use Rattle.stage_layout.proofs.PassLaws.{first_from-is}

abbrev pass_of : Step → ℕ
pass_of step = step.pass

-- one more pass in front of the zeros
pub padded_more : (steps : List Step) (i : ℕ) (d : Step) → i < length steps → length steps ≤ 16
    → set (map pass_of (take i steps) ++ replicate (16 - i) 0) i (get_or steps i d).pass ≡ map pass_of (take (i + 1) steps) ++ replicate (16 - (i + 1)) 0
padded_more steps i d lt few =
    let front = map pass_of (take i steps) in
    let x = (get_or steps i d).pass in
    let zeros : List ℕ = replicate (16 - (i + 1)) 0 in
    let len : length front ≡ i = length-map (take i steps) pass_of ∙ length-take-le i steps (omega arith) in
    let rest : 16 - i ≡ suc (16 - (i + 1)) = omega arith in
    let more : map pass_of (take (i + 1) steps) ≡ front ++ x ∷ [] = ap (map pass_of) (take_more steps i d lt) ∙ map-append pass_of (take i steps) (get_or steps i d ∷ []) in
    ap (λ n. set (front ++ replicate n 0) i x) rest ∙ set_at front 0 zeros x i len ∙ sym (ap (λ l. l ++ zeros) more ∙ append_assoc front (x ∷ []) zeros)

list_any-map : {A B : Type 0} (p : B → Bool) (f : A → B) (xs : List A) → list_any p (map f xs) ≡ list_any (λ x. p (f x)) xs
list_any-map p f [] = refl
list_any-map p f (x ∷ xs) = rw (list_any-map p f xs) refl

-- the halves, from whether each is touched
pub halves_from : (shape : Shape) (ops : List HotOp) (left right : Bool) → left ≡ list_any (λ op. eqb (region_of shape op.place.stage) 0) ops → right ≡ list_any (λ op. eqb (region_of shape op.place.stage) 1) ops
    → from_bool left + 2 * from_bool right ≡ halves_of shape (map (λ op. op.place) ops)
halves_from shape ops left right is_left is_right =
    let l = list_any-map (λ (place : Place). eqb (region_of shape place.stage) 0) (λ (op : HotOp). op.place) ops ∙ sym is_left in
    let r = list_any-map (λ (place : Place). eqb (region_of shape place.stage) 1) (λ (op : HotOp). op.place) ops ∙ sym is_right in
    rw (l, r) (elim left as (λ b. from_bool b + 2 * from_bool right ≡ cond b 1 0 + cond right 2 0) [
      | true ↦ elim right as (λ c. 1 + 2 * from_bool c ≡ 1 + cond c 2 0) [ true ↦ refl | false ↦ refl ]
      | false ↦ elim right as (λ c. 0 + 2 * from_bool c ≡ 0 + cond c 2 0) [ true ↦ refl | false ↦ refl ]
    ])

-- a step comes before a stage from its own pass on, or from the next one
from_pass : (step : Step) (stage p : ℕ) → comes_before step p stage ≡ leb (cond (ltb step.place.stage stage) step.pass (step.pass + 1)) p
from_pass step stage p = grind (arith, nat_tests)

leb-max : (a b p : ℕ) → (leb a p && leb b p) ≡ leb (max a b) p
leb-max a b p = grind (arith, nat_tests)

pub ord_max-max : (a b : ℕ) → ord_max nat_cmp a b ≡ max a b
ord_max-max a b = grind (arith, nat_tests)

pub after_range : (step : Step) (stage n first : ℕ) → step.pass ≤ n → 1 ≤ first → first ≤ n + 1
    → (1 ≤ max first (cond (ltb step.place.stage stage) step.pass (step.pass + 1))) × (max first (cond (ltb step.place.stage stage) step.pass (step.pass + 1)) ≤ n + 1)
after_range step stage n first upto one high =
    let least : first ≤ max first (cond (ltb step.place.stage stage) step.pass (step.pass + 1)) = omega arith in
    (omega arith, grind (arith, nat_tests))

-- one more need
pub met_more : (steps : List Step) (needs : List Need) (stage i first : ℕ) (need d : Need) → i < length needs → get_or needs i d ≡ need
    → ((p : ℕ) → 1 ≤ p → are_met steps (take i needs) p stage ≡ leb first p)
    → (p : ℕ) → 1 ≤ p → are_met steps (take (i + 1) needs) p stage ≡ leb (max first (cond (ltb (step_at steps need.from).place.stage stage) (step_at steps need.from).pass ((step_at steps need.from).pass + 1))) p
met_more steps needs stage i first need d lt is so_far p one =
    let after = λ (n : Need). cond (ltb (step_at steps n.from).place.stage stage) (step_at steps n.from).pass ((step_at steps n.from).pass + 1) in
    list_all_more (λ n. comes_before (step_at steps n.from) p stage) needs i d lt
    ∙ ap (λ b. b && comes_before (step_at steps (get_or needs i d).from) p stage) (so_far p one)
    ∙ ap (λ b. leb first p && b) (from_pass (step_at steps (get_or needs i d).from) stage p)
    ∙ leb-max first (after (get_or needs i d)) p
    ∙ ap (λ (n : Need). leb (max first (after n)) p) is

-- the first pass from the met needs on that isn't taken
pub least_pass-is : (steps : List Step) (place : Place) (needs : List Need) (first r : ℕ) → ((p : ℕ) → 1 ≤ p → are_met steps needs p place.stage ≡ leb first p)
    → 1 ≤ first → first ≤ r → r ≤ length steps + 1 → ((p : ℕ) → first ≤ p → p < r → is_taken steps place p ≡ true) → (r < length steps + 1 → is_taken steps place r ≡ false)
    → r ≡ least_pass steps place needs
unfolding least_pass
least_pass-is steps place needs first r met one low high taken free =
    let fails : (q : ℕ) → 1 ≤ q → q < r → can_pass steps place needs q ≡ false = λ q from below.
    elim (cases_lt q first) as (λ _. can_pass steps place needs q ≡ false) [
      | inl early ↦ rw (met q from, lt-leb first q early) (elim (is_taken steps place q) as (λ b. (not b && false) ≡ false) [ true ↦ refl | false ↦ refl ])
      | inr late ↦ rw (taken q late below) refl
    ]
    in
    first_from-is (can_pass steps place needs) (length steps) 1 r (omega arith) (omega arith) fails (λ within. rw (free (omega arith), met r (omega arith), le-leb first r low) refl)

-- the needs of an operation are on operations before it
pub needs_at : (ops : List HotOp) (k i : ℕ) (d : HotOp) → NeedEarlier k ops → i < length ops → NeedsBelow (k + i) (needs_list (get_or ops i d).needs)
needs_at [] k i d earlier lt = absurd (omega arith)
needs_at (op ∷ ops) k zero d earlier lt = let e : k ≡ k + 0 = omega arith in subst (λ n. NeedsBelow n (needs_list op.needs)) e earlier.0
needs_at (op ∷ ops) k (suc i) d earlier lt =
    let e : k + 1 + i ≡ k + suc i = omega arith in
    subst (λ n. NeedsBelow n (needs_list (get_or ops i d).needs)) e (needs_at ops (k + 1) i d earlier.1 (omega arith))
