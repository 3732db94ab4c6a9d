-- The search by legs finds what the first order has at the free numbers.
use Rattle.std.proofs.Common.{◌≡◌, ℕ, zero, suc, ◌+◌, Bool, true, false, ◌&&◌, List, [], ◌∷◌, ◌++◌, length, map, filter, replicate, set, nat_lt, Option, None, Some, is_none, is_some, if◌then◌else◌, refl, sym, ap, ap₂, ◌∙◌, inl, inr, arith}
use Rattle.std.specs.Prelude.{⊤}
use Rattle.std.specs.List.{list_any, AllByRecursion}
use Rattle.std.specs.Option.{option_map, option_and_then}
use Rattle.std.proofs.lemmas.Bool.{cases_lt}
use Rattle.std.proofs.lemmas.List.{get_or-replicate, get_or_past, length-replicate}
use Rattle.txn_model.specs.Places.{Places}
use Rattle.switch_packet.specs.Packets.{PlainOutcome, PlainLog}
use Rattle.switch_packet.specs.Replay.{replay}
use Rattle.placement_model.specs.FirstOrder.{slot_at, or_else, first_some, follow, fill, has_answer, slots_of, open_ones, first_order}
use Rattle.placement_model.specs.Placements.{Task, tasks_of}
use Rattle.placement_model.proofs.Building.{slots_are}
use Rattle.placement_model.proofs.Counting.{AreNumbered}
use Rattle.placement_model.proofs.Filling.{kept}
use Rattle.gap_placement.proofs.Answering.{follow_is}
use Rattle.gap_placement.proofs.Walking.{walk_append}
use Rattle.gap_placement.specs.Changes.{walk, changes_of}
use Rattle.gap_placement.specs.Legs.{PlainLeg, legs_from, passed, tried, seek, start}
use Rattle.gap_placement.specs.Slots.{merge}
use Rattle.gap_placement.specs.declared.change.Change.{Change}

-- ---- the first that a function finds

pub first_some-map : {X Y : Type 0} (h : X → Y) (f : ℕ → Option X) (k n : ℕ) → first_some (λ j. option_map h (f j)) k n ≡ option_map h (first_some f k n)
first_some-map h f k zero = refl
first_some-map {X} {Y} h f k (suc n) = by (f k) (first_some-map h f (k + 1) n)
  where
    by : (o : Option X) → first_some (λ j. option_map h (f j)) (k + 1) n ≡ option_map h (first_some f (k + 1) n) → or_else (option_map h o) (first_some (λ j. option_map h (f j)) (k + 1) n) ≡ option_map h (or_else o (first_some f (k + 1) n))
    by None e = e
    by (Some x) e = refl

pub first_some-same : {X : Type 0} (f g : ℕ → Option X) (k n : ℕ) → ((j : ℕ) → f j ≡ g j) → first_some f k n ≡ first_some g k n
first_some-same f g k zero same = refl
first_some-same f g k (suc n) same = ap₂ or_else (same k) (first_some-same f g (k + 1) n same)

pub first_some-none : {X : Type 0} (f : ℕ → Option X) (k n : ℕ) → ((j : ℕ) → f j ≡ None) → first_some f k n ≡ None
first_some-none f k zero none = refl
first_some-none f k (suc n) none = ap₂ or_else (none k) (first_some-none f (k + 1) n none)

-- ---- legs

-- the legs begin with the free number before them
pub record Begins (free : ℕ) (legs : List PlainLeg) : Type 0 where
  pub changes : List Change
  pub rest : List PlainLeg
  pub whole : legs ≡ record { number = free; changes = changes } ∷ rest

pub begins : (slots : List (Option Task)) (free : ℕ) (acc : List Change) (number : ℕ) (legs : List PlainLeg) → legs_from free acc number slots ≡ Some legs → Begins free legs
begins [] free acc number legs e = record { changes = acc; rest = []; whole = cc }
begins (Some t ∷ slots) free acc number legs e = by (changes_of t number) e (λ more f. begins slots free (acc ++ more) (number + 1) legs f)
  where
    by : (o : Option (List Change)) → option_and_then (λ more. legs_from free (acc ++ more) (number + 1) slots) o ≡ Some legs → ((more : List Change) → legs_from free (acc ++ more) (number + 1) slots ≡ Some legs → Begins free legs) → Begins free legs
    by None f rest = cc
    by (Some more) f rest = rest more f
begins (None ∷ slots) free acc number legs e = by (legs_from number [] (number + 1) slots) e
  where
    by : (o : Option (List PlainLeg)) → option_map (λ later. record { number = free; changes = acc } ∷ later) o ≡ Some legs → Begins free legs
    by None f = cc
    by (Some later) f = record { changes = acc; rest = later; whole = cc }

-- what is sought behind the legs
abbrev pub from_legs : Places → List (Option Task) → Option (List PlainLeg) → Option (List Task)
from_legs m standing o = option_and_then (λ legs. start legs m standing) o

start_fails : (slots : List (Option Task)) (free : ℕ) (acc : List Change) (number : ℕ) (m : Places) (standing : List (Option Task)) → walk acc m ≡ None → from_legs m standing (legs_from free acc number slots) ≡ None
start_fails [] free acc number m standing e = ap (option_and_then (λ (after : Places). seek [] after standing)) e
start_fails (Some t ∷ slots) free acc number m standing e = by (changes_of t number) (λ more. start_fails slots free (acc ++ more) (number + 1) m standing (walk_append acc more m ∙ ap (option_and_then (walk more)) e))
  where
    by : (o : Option (List Change)) → ((more : List Change) → from_legs m standing (legs_from free (acc ++ more) (number + 1) slots) ≡ None) → from_legs m standing (option_and_then (λ more. legs_from free (acc ++ more) (number + 1) slots) o) ≡ None
    by None rest = refl
    by (Some more) rest = rest more
start_fails (None ∷ slots) free acc number m standing e = by (legs_from number [] (number + 1) slots)
  where
    by : (o : Option (List PlainLeg)) → from_legs m standing (option_map (λ later. record { number = free; changes = acc } ∷ later) o) ≡ None
    by None = refl
    by (Some later) = ap (option_and_then (λ (after : Places). seek later after standing)) e

-- ---- the slots are filled

-- the open tasks have no outcome
abbrev pub AreUnanswered : List (Option Task) → Type 0
AreUnanswered standing = (k : ℕ) (t : Task) → slot_at standing k ≡ Some t → t.outcome ≡ None

still_unanswered : (standing : List (Option Task)) (k : ℕ) → AreUnanswered standing → AreUnanswered (set standing k None)
still_unanswered standing k h j t e = h j t (kept standing k j t e)

later_numbered : (number : ℕ) (slot : Option Task) (slots : List (Option Task)) → AreNumbered number (slot ∷ slots) → AreNumbered (number + 1) slots
later_numbered number slot slots h i t e = let n = h (suc i) t e in (n.0, n.1, omega (arith, n.2))

abbrev IsFilled : List (Option Task) → ℕ → Type 0
IsFilled slots number = (free : ℕ) (acc : List Change) (first m : Places) (standing : List (Option Task)) → AreNumbered number slots → AreUnanswered standing → walk acc first ≡ Some m
    → fill number m slots standing ≡ option_map (merge slots) (from_legs first standing (legs_from free acc number slots))

filled_end : (number : ℕ) → IsFilled [] number
unfolding fill seek
filled_end number free acc first m standing numbered open_ e =
    by (list_any is_some standing) ∙ ap (λ (o : Option Places). option_map (merge []) (option_and_then (λ after. seek [] after standing) o)) (sym e)
  where
    by : (b : Bool) → ◌≡◌ {A = Option (List Task)} (if b then None else Some []) (option_map (merge []) (if b then None else Some []))
    by true = refl
    by false = refl

-- an answered task's slot, where the later ones are filled
module _ (t : Task) (slots : List (Option Task)) (number free : ℕ) (acc : List Change) (first m : Places) (standing : List (Option Task)) where
  abbrev behind : Option Places → Option (List Task)
  behind o = option_map (λ tasks. t ∷ tasks) (option_and_then (λ after. fill (number + 1) after slots standing) o)

  abbrev LaterSome : Type 0
  LaterSome = (more : List Change) (after : Places) → walk (acc ++ more) first ≡ Some after → fill (number + 1) after slots standing ≡ option_map (merge slots) (from_legs first standing (legs_from free (acc ++ more) (number + 1) slots))

  fused_some : (o : Option (List Task)) → option_map (λ tasks. t ∷ tasks) (option_map (merge slots) o) ≡ option_map (merge (Some t ∷ slots)) o
  fused_some None = refl
  fused_some (Some x) = refl

  goes : walk acc first ≡ Some m → LaterSome → (more : List Change) (o : Option Places) → walk more m ≡ o → behind o ≡ option_map (merge (Some t ∷ slots)) (from_legs first standing (legs_from free (acc ++ more) (number + 1) slots))
  goes e later more None is = sym (ap (option_map (merge (Some t ∷ slots))) (start_fails slots free (acc ++ more) (number + 1) first standing (walk_append acc more first ∙ ap (option_and_then (walk more)) e ∙ is)))
  goes e later more (Some after) is =
      ap (option_map (λ (tasks : List Task). t ∷ tasks)) (later more after (walk_append acc more first ∙ ap (option_and_then (walk more)) e ∙ is))
      ∙ fused_some (from_legs first standing (legs_from free (acc ++ more) (number + 1) slots))

  goes_all : walk acc first ≡ Some m → LaterSome → (o : Option (List Change)) → behind (option_and_then (λ cs. walk cs m) o) ≡ option_map (merge (Some t ∷ slots)) (from_legs first standing (option_and_then (λ more. legs_from free (acc ++ more) (number + 1) slots) o))
  goes_all e later None = refl
  goes_all e later (Some more) = goes e later more (walk more m) refl

filled_some : (t : Task) (slots : List (Option Task)) (number : ℕ) → IsFilled slots (number + 1) → IsFilled (Some t ∷ slots) number
unfolding fill
filled_some t slots number rest free acc first m standing numbered open_ e =
    let n = numbered 0 t refl in
    follow_is t number n.0 m (λ after. fill (number + 1) after slots standing) n.1 (omega (arith, n.2))
    ∙ goes_all t slots number free acc first m standing e (λ more after is. rest free (acc ++ more) first after standing (later_numbered number (Some t) slots numbered) open_ is) (changes_of t number)

-- a free slot, and an open task that is tried there
module _ (slots : List (Option Task)) (number : ℕ) (m : Places) (standing : List (Option Task)) where
  abbrev tries : ℕ → Task → Option (List Task)
  tries k task = follow task number (replay task.intent.packet m) (λ after. fill (number + 1) after slots (set standing k None))

  abbrev Later : Option (List PlainLeg) → Type 0
  Later o = (after : Places) (left : List (Option Task)) → AreUnanswered left → fill (number + 1) after slots left ≡ option_map (merge slots) (from_legs after left o)

  -- where no legs are there, nothing is found
  nothing_tried : (k : ℕ) → AreUnanswered standing → Later None → (o : Option Task) → option_and_then (tries k) o ≡ None
  nothing_tried k open_ later None = refl
  nothing_tried k open_ later (Some t) =
      ap (λ (x : Option (List Task)). (if nat_lt t.intent.floor number && has_answer t.outcome number (replay t.intent.packet m).pairs then option_map (λ tasks. t ∷ tasks) x else None)) (later (replay t.intent.packet m).after (set standing k None) (still_unanswered standing k open_))
      ∙ by (nat_lt t.intent.floor number && has_answer t.outcome number (replay t.intent.packet m).pairs)
    where
      by : (b : Bool) → ◌≡◌ {A = Option (List Task)} (if b then None else None) None
      by true = refl
      by false = refl

  one_tried : (leg : PlainLeg) (legs : List PlainLeg) (k : ℕ) → leg.number ≡ number → AreUnanswered standing → Later (Some (leg ∷ legs)) → (o : Option Task) → slot_at standing k ≡ o
      → option_and_then (tries k) o ≡ option_map (merge (None ∷ slots)) (option_and_then (λ task. tried task leg m (λ after. seek legs after (set standing k None))) o)
  one_tried leg legs k at open_ later None is = refl
  one_tried leg legs k at open_ later (Some t) is =
      ap (λ (x : Option PlainOutcome). (if nat_lt t.intent.floor number && has_answer x number (replay t.intent.packet m).pairs then option_map (λ tasks. t ∷ tasks) (fill (number + 1) (replay t.intent.packet m).after slots (set standing k None)) else None)) (open_ k t is)
      ∙ ap (λ (x : Option (List Task)). (if nat_lt t.intent.floor number && true then option_map (λ tasks. t ∷ tasks) x else None)) (later (replay t.intent.packet m).after (set standing k None) (still_unanswered standing k open_))
      ∙ by (nat_lt t.intent.floor number) (walk leg.changes (replay t.intent.packet m).after)
      ∙ ap (λ (n : ℕ). option_map (merge (None ∷ slots)) (option_map (λ tasks. t ∷ tasks) (option_and_then (λ after. seek legs after (set standing k None)) (passed t.intent n leg.changes m)))) (sym at)
    where
      fused : (o : Option (List Task)) → option_map (λ tasks. t ∷ tasks) (option_map (merge slots) o) ≡ option_map (merge (None ∷ slots)) (option_map (λ tasks. t ∷ tasks) o)
      fused None = refl
      fused (Some x) = refl

      by : (b : Bool) (o : Option Places)
          → (if b && true then option_map (λ tasks. t ∷ tasks) (option_map (merge slots) (option_and_then (λ after. seek legs after (set standing k None)) o)) else None)
          ≡ option_map (merge (None ∷ slots)) (option_map (λ tasks. t ∷ tasks) (option_and_then (λ after. seek legs after (set standing k None)) (if b then o else None)))
      by true o = fused (option_and_then (λ after. seek legs after (set standing k None)) o)
      by false o = refl

  -- all that are tried
  abbrev candidate_at : ℕ → Option (List Task)
  candidate_at k = option_and_then (tries k) (slot_at standing k)

  all_tried : (free : ℕ) (acc : List Change) (first : Places) → walk acc first ≡ Some m → AreUnanswered standing → (o : Option (List PlainLeg)) → legs_from number [] (number + 1) slots ≡ o → Later o
      → first_some candidate_at 0 (length standing) ≡ option_map (merge (None ∷ slots)) (from_legs first standing (option_map (λ legs. record { number = free; changes = acc } ∷ legs) o))
  unfolding seek
  all_tried free acc first e open_ None is tail = first_some-none candidate_at 0 (length standing) (λ k. nothing_tried k open_ tail (slot_at standing k))
  all_tried free acc first e open_ (Some []) is tail = let b = begins slots number [] (number + 1) [] is in let clash = b.whole in cc
  all_tried free acc first e open_ (Some (leg ∷ legs)) is tail =
      let b = begins slots number [] (number + 1) (leg ∷ legs) is in
      let same : leg ≡ record { number = number; changes = b.changes } = let w = b.whole in cc in
      let at = ap (λ (l : PlainLeg). l.number) same in
      first_some-same candidate_at (λ k. option_map (merge (None ∷ slots)) (option_and_then (λ task. tried task leg m (λ after. seek legs after (set standing k None))) (slot_at standing k))) 0 (length standing)
      (λ k. one_tried leg legs k at open_ tail (slot_at standing k) refl)
      ∙ first_some-map (merge (None ∷ slots)) (λ k. option_and_then (λ task. tried task leg m (λ after. seek legs after (set standing k None))) (slot_at standing k)) 0 (length standing)
      ∙ ap (λ (o : Option Places). option_map (merge (None ∷ slots)) (option_and_then (λ after. seek (leg ∷ legs) after standing) o)) (sym e)

filled_none : (slots : List (Option Task)) (number : ℕ) → IsFilled slots (number + 1) → IsFilled (None ∷ slots) number
unfolding fill
filled_none slots number rest free acc first m standing numbered open_ e =
    all_tried slots number m standing free acc first e open_ (legs_from number [] (number + 1) slots) refl (λ after left un. rest number [] after after left (later_numbered number None slots numbered) un refl)

pub fill_is : (slots : List (Option Task)) (number : ℕ) → IsFilled slots number
fill_is [] number = filled_end number
fill_is (Some t ∷ slots) number = filled_some t slots number (fill_is slots (number + 1))
fill_is (None ∷ slots) number = filled_none slots number (fill_is slots (number + 1))

-- ---- the first order

nothing_there : (n i : ℕ) (t : Task) → slot_at (replicate n None) i ≡ Some t → ⊥
nothing_there n i t e = elim (cases_lt i n) [
  | inl lt ↦ (let clash : None ≡ Some t = sym (get_or-replicate n i None None lt) ∙ e in cc)
  | inr le ↦ (let clash : None ≡ Some t = sym (get_or_past (replicate n None) i None (omega (arith, le, length-replicate {A = Option Task} n None))) ∙ e in cc)
]

no_more : (P : Task → Type 0) (tasks : List Task) → ((t : Task) → P t) → AllByRecursion P tasks
no_more P [] each = tt
no_more P (t ∷ tasks) each = (each t, no_more P tasks each)

pub numbered_slots : (tasks : List Task) (slots : List (Option Task)) → slots_of tasks ≡ Some slots → AreNumbered 1 slots
numbered_slots tasks slots e =
    let empty : List (Option Task) = replicate (length tasks) None in
    (slots_are (λ (t : Task). ⊤) tasks empty slots (no_more (λ (t : Task). ⊤) tasks (λ t. tt)) (λ i t at. absurd (nothing_there (length tasks) i t at)) (λ i t at. tt) e).numbered

pub open_unanswered : (tasks : List Task) → AreUnanswered (open_ones tasks)
open_unanswered [] k t e = cc
open_unanswered (s ∷ tasks) k t e = by s.outcome refl k e (λ j f. open_unanswered tasks j t f)
  where
    by : (o : Option PlainOutcome) → s.outcome ≡ o → (j : ℕ) → slot_at (map (λ task. Some task) (if is_none o then s ∷ filter (λ task. is_none task.outcome) tasks else filter (λ task. is_none task.outcome) tasks)) j ≡ Some t
        → ((i : ℕ) → slot_at (open_ones tasks) i ≡ Some t → t.outcome ≡ None) → t.outcome ≡ None
    by None is zero f rest = let same : s ≡ t = cc in ap (λ (x : Task). x.outcome) (sym same) ∙ is
    by None is (suc j) f rest = rest j f
    by (Some o) is j f rest = rest j f

-- the first order is what the slots have, with what is found in the free ones
pub first_order_is : (logs : List PlainLog) (first : Places) (slots : List (Option Task)) → slots_of (tasks_of logs) ≡ Some slots
    → first_order logs first ≡ option_map (merge slots) (from_legs first (open_ones (tasks_of logs)) (legs_from 0 [] 1 slots))
first_order_is logs first slots e =
    ap (option_and_then (λ (s : List (Option Task)). fill 1 first s (open_ones (tasks_of logs)))) e
    ∙ fill_is slots 1 0 [] first first (open_ones (tasks_of logs)) (numbered_slots (tasks_of logs) slots e) (open_unanswered (tasks_of logs)) refl
