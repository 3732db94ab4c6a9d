-- A stage's registers change, and the pairs of the packet in its slot.
use Rattle.std.proofs.Common.{◌≡◌, ℕ, ◌<◌, ℤ, pos, Bool, true, false, cond, List, [], ◌∷◌, length, set, Option, Some, None, IsTrue, is_some, unwrap_or, inl, inr, refl, sym, ap, subst, ◌∙◌, arith, get_or-set_same, get_or-set_other}
use Rattle.std.specs.FinMap as fin
use Rattle.std.specs.List.{AllByRecursion}
use Rattle.std.proofs.lemmas.Bool.{cases_eq}
use Rattle.std.proofs.lemmas.Bool.Decides.{nat_tests}
use Rattle.std.proofs.lemmas.List.{length-set}
use Rattle.txn_model.specs.Places.{Places}
use Rattle.txn_model.specs.declared.pairs.Pair.{Pair}
use Rattle.txn_model.specs.declared.place.Place.{Place}
use Rattle.stage_layout.specs.Shape.{has_place}
use Rattle.stage_layout.specs.declared.shape.Shape.{Shape}
use Rattle.switch_packet.specs.Replay.{Replayed, execute, register_at}
use Rattle.switch_packet.specs.declared.packet.PacketOp.{PacketOp}
use Rattle.switch_packet.proofs.ExecuteLaws.{get-untouched}
use Rattle.switch_model.specs.Flight.{is_due}
use Rattle.register_stage.specs.Registers.{Registers, is_inside}
use Rattle.pipeline.specs.Keeps.{IsStage, AreStages}
use Rattle.pipeline.specs.Numbers.{numbers_of}
use Rattle.pipeline.specs.Seats.{no_stage, stage_at, number_in}
use Rattle.pipeline.proofs.Executed.{Agree, AreAlike, execute_alike, execute_there}
use Rattle.pipeline.proofs.Numbered.{get-numbers_of, register-numbers_of, is-numbers_of}

-- ---- places of a stage

pub inside_of : (shape : Shape) (x : ℕ) (q : Place) → has_place shape q ≡ true → q.stage ≡ x → is_inside x shape.arrays shape.cells q ≡ true
inside_of shape x q h e = grind (arith, nat_tests)

pub stage_below : (shape : Shape) (q : Place) → has_place shape q ≡ true → q.stage < shape.stages
stage_below shape q h = grind (arith, nat_tests)

due_stage : (pass x : ℕ) (op : PacketOp) → is_due pass x op ≡ true → op.place.stage ≡ x
due_stage pass x op h = grind (arith, nat_tests)

-- ---- one stage is written

-- stage x has these numbers now
pub restage : (shape : Shape) (stages : List Registers) (x : ℕ) (stage : Registers) → AreStages shape stages → x < shape.stages → IsStage shape x stage → AreStages shape (set stages x stage)
restage shape stages x stage had lt is = record {
  count = length-set stages x stage ∙ had.count;
  each = λ y below. elim (cases_eq y x) [
    | inl same ↦
        let P : ℕ → Type 0 = λ k. IsStage shape k (stage_at (set stages x stage) k) in
        let Q : Registers → Type 0 = λ r. IsStage shape x r in
        let within : x < length stages = omega (arith, lt, had.count) in
        subst P (sym same) (subst Q (sym (get_or-set_same stages x stage no_stage within)) is)
    | inr other ↦ let Q : Registers → Type 0 = λ r. IsStage shape y r in subst Q (sym (get_or-set_other stages x y stage no_stage other)) (had.each y below)
  ];
}

pub number_here : (stages : List Registers) (x : ℕ) (stage : Registers) (q : Place) → x < length stages → q.stage ≡ x → number_in (set stages x stage) q ≡ register_at stage.numbers q
number_here stages x stage q within e =
    ap (λ (k : ℕ). register_at (stage_at (set stages x stage) k).numbers q) e ∙ ap (λ (r : Registers). register_at r.numbers q) (get_or-set_same stages x stage no_stage within)

pub number_there : (stages : List Registers) (x : ℕ) (stage : Registers) (q : Place) → (q.stage ≡ x → ⊥) → number_in (set stages x stage) q ≡ number_in stages q
number_there stages x stage q n = ap (λ (r : Registers). register_at r.numbers q) (get_or-set_other stages x q.stage stage no_stage n)

-- ---- what is executed

due_places : (shape : Shape) (x pass : ℕ) (ops : List PacketOp) → AllByRecursion (λ op. IsTrue (has_place shape op.place)) ops
    → AllByRecursion (λ op. is_due pass x op ≡ true → (op.place.stage ≡ x) × (has_place shape op.place ≡ true)) ops
due_places shape x pass [] h = tt
due_places shape x pass (op ∷ ops) h = (λ due. (due_stage pass x op due, h.0), due_places shape x pass ops h.1)

all_places_there : (shape : Shape) (due : PacketOp → Bool) (ops : List PacketOp) → AllByRecursion (λ op. IsTrue (has_place shape op.place)) ops → AllByRecursion (λ op. due op ≡ true → has_place shape op.place ≡ true) ops
all_places_there shape due [] h = tt
all_places_there shape due (op ∷ ops) h = (λ _. h.0, all_places_there shape due ops h.1)

due_inside : (shape : Shape) (x pass : ℕ) (ops : List PacketOp) → AllByRecursion (λ op. IsTrue (has_place shape op.place)) ops
    → AllByRecursion (λ op. is_due pass x op ≡ true → is_inside x shape.arrays shape.cells op.place ≡ true) ops
due_inside shape x pass [] h = tt
due_inside shape x pass (op ∷ ops) h = (λ due. inside_of shape x op.place h.0 (due_stage pass x op due), due_inside shape x pass ops h.1)

agree_here : (shape : Shape) (stages : List Registers) (x : ℕ) → Agree (λ q. (q.stage ≡ x) × (has_place shape q ≡ true)) (stage_at stages x).numbers (numbers_of shape (number_in stages))
agree_here shape stages x q is = ap (λ (k : ℕ). register_at (stage_at stages k).numbers q) (sym is.0) ∙ sym (register-numbers_of shape (number_in stages) q is.1)

-- on the stage's own numbers and on all numbers the same is executed
pub executed_alike : (shape : Shape) (stages : List Registers) (x pass : ℕ) (ops : List PacketOp) (pairs : List Pair) → AllByRecursion (λ op. IsTrue (has_place shape op.place)) ops
    → AreAlike (λ q. (q.stage ≡ x) × (has_place shape q ≡ true)) (execute (is_due pass x) ops [] pairs (stage_at stages x).numbers) (execute (is_due pass x) ops [] pairs (numbers_of shape (number_in stages)))
executed_alike shape stages x pass ops pairs places =
    execute_alike (λ q. (q.stage ≡ x) × (has_place shape q ≡ true)) (is_due pass x) ops [] pairs (stage_at stages x).numbers (numbers_of shape (number_in stages)) (agree_here shape stages x)
    (due_places shape x pass ops places)

-- the stage behind the execution has the same places
pub executed_stage : (shape : Shape) (stages : List Registers) (x pass : ℕ) (ops : List PacketOp) (pairs : List Pair) → AreStages shape stages → x < shape.stages
    → AllByRecursion (λ op. IsTrue (has_place shape op.place)) ops
    → IsStage shape x (record { stage = (stage_at stages x).stage; numbers = (execute (is_due pass x) ops [] pairs (stage_at stages x).numbers).after })
executed_stage shape stages x pass ops pairs had lt places =
    let was = had.each x lt in
    record {
      is = was.is;
      inside = execute_there (is_inside x shape.arrays shape.cells) (is_due pass x) ops [] pairs (stage_at stages x).numbers was.inside (due_inside shape x pass ops places);
    }

some_of : (o : Option ℤ) → is_some o ≡ true → o ≡ Some (unwrap_or o (pos 0))
some_of None e = cc
some_of (Some v) e = refl

none_of : (o : Option ℤ) → is_some o ≡ false → o ≡ None
none_of None e = refl
none_of (Some v) e = cc

some_cond : (b : Bool) (v : ℤ) → is_some (cond b (Some v) None) ≡ b
some_cond true v = refl
some_cond false v = refl

-- all numbers behind the execution
pub executed_numbers : (shape : Shape) (stages : List Registers) (x pass : ℕ) (ops : List PacketOp) (pairs : List Pair) (stage : Registers) → AreStages shape stages → x < shape.stages
    → AllByRecursion (λ op. IsTrue (has_place shape op.place)) ops
    → stage.numbers ≡ (execute (is_due pass x) ops [] pairs (stage_at stages x).numbers).after
    → numbers_of shape (number_in (set stages x stage)) ≡ (execute (is_due pass x) ops [] pairs (numbers_of shape (number_in stages))).after
executed_numbers shape stages x pass ops pairs stage had lt places is =
    sym (is-numbers_of shape (number_in (set stages x stage)) whole.after (λ q. go q (has_place shape q) refl))
  where
    whole : Replayed
    whole = execute (is_due pass x) ops [] pairs (numbers_of shape (number_in stages))

    there : (q : Place) → is_some (fin.get whole.after q) ≡ has_place shape q
    there q = execute_there (has_place shape) (is_due pass x) ops [] pairs (numbers_of shape (number_in stages)) (λ p. ap is_some (get-numbers_of shape (number_in stages) p) ∙ some_cond (has_place shape p) (number_in stages p)) (all_places_there shape (is_due pass x) ops places) q

    within : x < length stages
    within = omega (arith, lt, had.count)

    number : (q : Place) → has_place shape q ≡ true → register_at whole.after q ≡ number_in (set stages x stage) q
    number q h = elim (cases_eq q.stage x) [
      | inl same ↦
          sym ((executed_alike shape stages x pass ops pairs places).after q (same, h))
          ∙ ap (λ (m : Places). register_at m q) (sym is)
          ∙ sym (number_here stages x stage q within same)
      | inr other ↦
          ap (λ (o : Option ℤ). unwrap_or o (pos 0)) (get-untouched (is_due pass x) ops [] pairs (numbers_of shape (number_in stages)) q (λ i op at due e. other (ap (λ (p : Place). p.stage) (sym e) ∙ due_stage pass x op due)))
          ∙ register-numbers_of shape (number_in stages) q h
          ∙ sym (number_there stages x stage q other)
    ]

    go : (q : Place) (b : Bool) → has_place shape q ≡ b → fin.get whole.after q ≡ cond b (Some (number_in (set stages x stage) q)) None
    go q true h = some_of (fin.get whole.after q) (there q ∙ h) ∙ ap Some (number q h)
    go q false h = none_of (fin.get whole.after q) (there q ∙ h)
