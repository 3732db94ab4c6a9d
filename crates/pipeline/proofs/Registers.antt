-- Numbers in registers: one that is read, and those that are written.
use Rattle.std.proofs.Common.{◌≡◌, ℕ, ◌+◌, ◌<◌, ℤ, pos, Bool, true, false, cond, List, length, set, get_or, take, drop, ◌++◌, append-nil, drop_of_length-le, slice_get, Option, Some, None, IsSome, IsTrue, is_some, unwrap_or, inl, inr, refl, sym, ap, subst, ◌∙◌, arith}
use Rattle.std.specs.FinMap as fin
use Rattle.std.specs.FinMap.{find, get-insert}
use Rattle.std.specs.List.{AllByRecursion}
use Rattle.std.proofs.lemmas.Bool.{cases_eq}
use Rattle.std.proofs.lemmas.List.{take_all}
use Rattle.txn_model.proofs.OperandLaws.{drop_at_item}
use Rattle.txn_model.proofs.SerialLaws.{item_of_all}
use Rattle.txn_model.proofs.PlaceOrder.{place_cmp_total}
use Rattle.txn_model.specs.Places.{Places, place_cmp}
use Rattle.txn_model.specs.declared.place.Place.{Place}
use Rattle.stage_layout.specs.Shape.{has_place}
use Rattle.stage_layout.specs.declared.shape.Shape.{Shape}
use Rattle.switch_packet.specs.Replay.{register_at}
use Rattle.register_stage.proofs.FullMap.{same, same_by_cmp, same_is, get-renumbered}
use Rattle.register_stage.proofs.Steps.{there-insert, place_in-is}
use Rattle.register_stage.specs.Registers.{Registers, place_in, renumbered}
use Rattle.pipeline.proofs.Executes.{same_stage}
use Rattle.pipeline.proofs.Numbered.{register-numbers_of, numbers_of-same}
use Rattle.pipeline.proofs.Stages.{inside_of, stage_below, restage, number_here, number_there}
use Rattle.pipeline.specs.Keeps.{IsStage, AreStages}
use Rattle.pipeline.specs.Numbers.{numbers_of}
use Rattle.pipeline.specs.Seats.{stage_at, number_in, cleared}

-- ---- reading

pub register_shown : (shape : Shape) (stages : List Registers) (place : Place) (stage d : Registers) (v : ℤ) → AreStages shape stages → has_place shape place ≡ true → stage ≡ get_or stages place.stage d
    → fin.get stage.numbers (place_in stage.stage place.array place.cell) ≡ Some v → v ≡ register_at (numbers_of shape (number_in stages)) place
register_shown shape stages place stage d v stood there was is =
    let lt = stage_below shape place there in
    let same_is = same_stage shape stages place.stage stage d stood lt was in
    let number : stage.stage ≡ place.stage = ap (λ (r : Registers). r.stage) same_is ∙ (stood.each place.stage lt).is in
    let at : place_in stage.stage place.array place.cell ≡ place = place_in-is place stage.stage (sym number) in
    sym (ap (λ (o : Option ℤ). unwrap_or o (pos 0)) (ap (fin.get stage.numbers) (sym at) ∙ is))
    ∙ ap (λ (r : Registers). register_at r.numbers place) same_is
    ∙ sym (register-numbers_of shape (number_in stages) place there)

-- a place of the switch is one of its stage
pub is_there : (shape : Shape) (stages : List Registers) (place : Place) (stage d : Registers) → AreStages shape stages → has_place shape place ≡ true → stage ≡ get_or stages place.stage d
    → IsSome (fin.get stage.numbers (place_in stage.stage place.array place.cell))
is_there shape stages place stage d stood there was =
    let lt = stage_below shape place there in
    let same_is = same_stage shape stages place.stage stage d stood lt was in
    let is = stood.each place.stage lt in
    let number : stage.stage ≡ place.stage = ap (λ (r : Registers). r.stage) same_is ∙ is.is in
    let at : place_in stage.stage place.array place.cell ≡ place = place_in-is place stage.stage (sym number) in
    ap (λ (p : Place). is_some (fin.get stage.numbers p)) at
    ∙ ap (λ (r : Registers). is_some (fin.get r.numbers place)) same_is
    ∙ is.inside place
    ∙ inside_of shape place.stage place there refl

-- ---- writing

-- a row is written
pub written : (shape : Shape) (stages : List Registers) (place : Place) (v : ℤ) (stage d now : Registers) → AreStages shape stages → has_place shape place ≡ true → stage ≡ get_or stages place.stage d
    → now ≡ record stage { numbers = fin.insert stage.numbers (place_in stage.stage place.array place.cell) v } → now ≡ record { stage = (stage_at stages place.stage).stage; numbers = fin.insert (stage_at stages place.stage).numbers place v }
written shape stages place v stage d now stood there was is =
    let lt = stage_below shape place there in
    let same_is = same_stage shape stages place.stage stage d stood lt was in
    let number : stage.stage ≡ place.stage = ap (λ (r : Registers). r.stage) same_is ∙ (stood.each place.stage lt).is in
    is
    ∙ ap (λ (p : Place). record stage { numbers = fin.insert stage.numbers p v }) (place_in-is place stage.stage (sym number))
    ∙ ap (λ (r : Registers). record r { numbers = fin.insert r.numbers place v }) same_is

pub written_stages : (shape : Shape) (stages : List Registers) (place : Place) (v : ℤ) (now : Registers) → AreStages shape stages → has_place shape place ≡ true
    → now ≡ record { stage = (stage_at stages place.stage).stage; numbers = fin.insert (stage_at stages place.stage).numbers place v } → AreStages shape (set stages place.stage now)
written_stages shape stages place v now stood there is =
    let lt = stage_below shape place there in
    let old = stood.each place.stage lt in
    let P : Registers → Type 0 = λ r. IsStage shape place.stage r in
    restage shape stages place.stage now stood lt (subst P (sym is) (record {
      is = old.is;
      inside = λ q. there-insert (stage_at stages place.stage).numbers place v q (old.inside place ∙ inside_of shape place.stage place there refl) ∙ old.inside q;
    }))

register-insert : (m : Places) (p : Place) (v : ℤ) (q : Place) → register_at (fin.insert m p v) q ≡ cond (same q p) v (register_at m q)
register-insert m p v q =
    ap (λ (o : Option ℤ). unwrap_or o (pos 0)) (get-insert place_cmp_total m p v q ∙ ap (λ (b : Bool). cond b (Some v) (fin.get m q)) (same_by_cmp p q)) ∙ by (same q p)
  where
    by : (b : Bool) → unwrap_or (cond b (Some v) (fin.get m q)) (pos 0) ≡ cond b v (register_at m q)
    by true = refl
    by false = refl

same_apart : (p q : Place) → (q.stage ≡ p.stage → ⊥) → same q p ≡ false
same_apart p q n = go (same q p) refl
  where
    go : (b : Bool) → same q p ≡ b → b ≡ false
    go true e = absurd (n (ap (λ (r : Place). r.stage) (same_is q p e)))
    go false e = refl

-- the number at each place then
pub written_number : (shape : Shape) (stages : List Registers) (place : Place) (v : ℤ) (now : Registers) (q : Place) → AreStages shape stages → has_place shape place ≡ true
    → now ≡ record { stage = (stage_at stages place.stage).stage; numbers = fin.insert (stage_at stages place.stage).numbers place v }
    → number_in (set stages place.stage now) q ≡ cond (same q place) v (number_in stages q)
written_number shape stages place v now q stood there is =
    let lt = stage_below shape place there in
    let within : place.stage < length stages = omega (arith, lt, stood.count) in
    elim (cases_eq q.stage place.stage) [
      | inl here ↦
          number_here stages place.stage now q within here
          ∙ ap (λ (r : Registers). register_at r.numbers q) is
          ∙ register-insert (stage_at stages place.stage).numbers place v q
          ∙ ap (λ (k : ℕ). cond (same q place) v (register_at (stage_at stages k).numbers q)) (sym here)
      | inr other ↦ number_there stages place.stage now q other ∙ sym (ap (λ (b : Bool). cond b v (number_in stages q)) (same_apart place q other))
    ]

-- ---- one row more

pub one_more : (rows : List (Place × ℤ)) (i : ℕ) (row : Place × ℤ) (q : Place) (first : ℤ) → slice_get rows i ≡ Some row
    → unwrap_or (find place_cmp q (drop i rows)) first ≡ cond (same q row.0) row.1 (unwrap_or (find place_cmp q (drop (i + 1) rows)) first)
one_more rows i row q first at =
    ap (λ (l : List (Place × ℤ)). unwrap_or (find place_cmp q l) first) (drop_at_item rows i row at)
    ∙ ap (λ (b : Bool). unwrap_or (cond b (Some row.1) (find place_cmp q (drop (i + 1) rows))) first) (same_by_cmp row.0 q)
    ∙ by (same q row.0)
  where
    by : (b : Bool) → unwrap_or (cond b (Some row.1) (find place_cmp q (drop (i + 1) rows))) first ≡ cond b row.1 (unwrap_or (find place_cmp q (drop (i + 1) rows)) first)
    by true = refl
    by false = refl

-- ---- clearing

pub cleared_stages : (shape : Shape) (old now : List Registers) → AreStages shape old → length now ≡ length old → ((x : ℕ) → x < length old → stage_at now x ≡ cleared (stage_at old x)) → AreStages shape now
cleared_stages shape old now stood size is = record {
  count = size ∙ stood.count;
  each = λ x lt.
      let was = stood.each x lt in
      let P : Registers → Type 0 = λ r. IsStage shape x r in
      let within : x < length old = omega (arith, lt, stood.count) in
      subst P (sym (is x within)) (record { is = was.is; inside = λ q. still (stage_at old x).numbers q ∙ was.inside q });
}
  where
    still : (m : Places) (q : Place) → is_some (fin.get (renumbered (λ _. pos 0) m) q) ≡ is_some (fin.get m q)
    still m q = ap is_some (get-renumbered (λ _. pos 0) m q) ∙ by (is_some (fin.get m q))
      where
        by : (b : Bool) → is_some (cond b (Some (pos 0)) None) ≡ b
        by true = refl
        by false = refl

pub cleared_numbers : (shape : Shape) (old now : List Registers) → AreStages shape old → ((x : ℕ) → x < length old → stage_at now x ≡ cleared (stage_at old x)) → numbers_of shape (number_in now) ≡ numbers_of shape (λ _. pos 0)
cleared_numbers shape old now stood is =
    numbers_of-same shape (number_in now) (λ _. pos 0)
    (λ q there.
    let lt = stage_below shape q there in
    let within : q.stage < length old = omega (arith, lt, stood.count) in
    ap (λ (r : Registers). register_at r.numbers q) (is q.stage within) ∙ zero_at (stage_at old q.stage).numbers q)
  where
    zero_at : (m : Places) (q : Place) → register_at (renumbered (λ _. pos 0) m) q ≡ pos 0
    zero_at m q = ap (λ (o : Option ℤ). unwrap_or o (pos 0)) (get-renumbered (λ _. pos 0) m q) ∙ by (is_some (fin.get m q))
      where
        by : (b : Bool) → unwrap_or (cond b (Some (pos 0)) None) (pos 0) ≡ pos 0
        by true = refl
        by false = refl

-- ---- all rows from one on are written

pub record AreWritten (shape : Shape) (first : List Registers) (rows : List (Place × ℤ)) (now : List Registers) : Type 0 where
  pub stages : AreStages shape now
  pub numbers : (q : Place) → IsTrue (has_place shape q) → number_in now q ≡ unwrap_or (find place_cmp q rows) (number_in first q)

pub row_written : (shape : Shape) (first stages : List Registers) (rows : List (Place × ℤ)) (i j : ℕ) (row : Place × ℤ) (stage d now : Registers) (v : ℤ) → j ≡ i + 1 → slice_get rows i ≡ Some row
    → AllByRecursion (λ row. IsTrue (has_place shape row.0)) rows → AreWritten shape first (drop j rows) stages → stage ≡ get_or stages row.0.stage d
    → now ≡ record stage { numbers = fin.insert stage.numbers (place_in stage.stage row.0.array row.0.cell) v } → v ≡ row.1 → AreWritten shape first (drop i rows) (set stages row.0.stage now)
row_written shape first stages rows i j row stage d now v next at places had was is same_is =
    let there : has_place shape row.0 ≡ true = item_of_all (λ (r : Place × ℤ). IsTrue (has_place shape r.0)) rows i row places at in
    let made =
    written shape stages row.0 row.1 stage d now had.stages there was
    (is ∙ ap (λ (w : ℤ). record stage { numbers = fin.insert stage.numbers (place_in stage.stage row.0.array row.0.cell) w }) same_is) in
    record {
      stages = written_stages shape stages row.0 row.1 now had.stages there made;
      numbers = λ q inside.
          written_number shape stages row.0 row.1 now q had.stages there made
          ∙ ap (λ (v : ℤ). cond (same q row.0) row.1 v) (had.numbers q inside ∙ ap (λ (k : ℕ). unwrap_or (find place_cmp q (drop k rows)) (number_in first q)) next)
          ∙ sym (one_more rows i row q (number_in first q) at);
    }

-- ---- lists that are lent and handed back

pub handed_back : {A : Type 0} (n : ℕ) (now old : List A) → n ≡ length old → length now ≡ length old → take n (now ++ drop (length now) old) ≡ now
handed_back {A} n now old size same =
    ap (λ (l : List A). take n (now ++ l)) (drop_of_length-le old (omega (arith, same)))
    ∙ ap (take n) (append-nil now)
    ∙ take_all n now (omega (arith, size, same))
