-- What each operation of a script that needs one visit of the switch is known to be.
use Rattle.std.proofs.Common.{◌≡◌, ℕ, zero, suc, ◌+◌, ◌<◌, Bool, true, false, not, ◌&&◌, ◌||◌, List, [], ◌∷◌, ◌++◌, length, get_or, take, slice_get, Option, Some, None, if◌then◌else◌, refl, sym, ap, ap₂, subst, ◌∙◌, arith, append_assoc, append-nil}
use Rattle.std.specs.List.{list_any, AllByRecursion}
use Rattle.std.proofs.lemmas.Option.{get_or_from_slice_get, slice_get_within}
use Rattle.txn_model.specs.Needs.{needs_list}
use Rattle.txn_model.specs.ScriptCheck.{script_fault}
use Rattle.txn_model.specs.declared.op.Need.{Need}
use Rattle.txn_model.specs.declared.op.Op.{Op}
use Rattle.txn_model.proofs.SerialLaws.{sound_needs}
use Rattle.stage_layout.specs.Late.{Part, Before, Hot, Late, is_hot, is_before, is_after, part_at, next_part, parts_of, turns_badly}
use Rattle.stage_layout.specs.declared.layout.LayoutRow.{LayoutRow}
use Rattle.stage_layout.proofs.LateLaws.{part_at-take, part_at-parts_of, no_bad_turn}
use Rattle.warm_split.specs.Laws.{IsOneVisit}

-- operation k has the part that follows from its own tuple and the parts of those that it needs, which are earlier; a hot one needs no
-- late one
pub record OpFits (rows : List LayoutRow) (parts : List Part) (k : ℕ) (op : Op) : Type 0 where
  pub part : part_at parts k ≡ next_part rows parts op
  pub earlier : AllByRecursion (λ n. n.from < k) (needs_list op.needs)
  pub turn : is_hot rows op.tuple ≡ true → list_any (λ n. is_after (part_at parts n.from)) (needs_list op.needs) ≡ false

-- so are all operations from operation k on
abbrev pub AllFit : List LayoutRow → List Part → ℕ → List Op → Type 0
AllFit rows parts k [] = Unit {0}
AllFit rows parts k (op ∷ ops) = OpFits rows parts k op × AllFit rows parts (k + 1) ops

-- parts that agree on earlier operations answer alike for needs of these
same_any_part : (f : Part → Bool) (a b : List Part) (k : ℕ) → ((j : ℕ) → j < k → part_at a j ≡ part_at b j) → (ns : List Need) → AllByRecursion (λ n. n.from < k) ns
    → list_any (λ n. f (part_at a n.from)) ns ≡ list_any (λ n. f (part_at b n.from)) ns
same_any_part f a b k same [] h = refl
same_any_part f a b k same (n ∷ ns) h = ap₂ (λ (x y : Bool). x || y) (ap f (same n.from h.0)) (same_any_part f a b k same ns h.1)

no_turn : (hot late : Bool) → (hot && late) ≡ false → hot ≡ true → late ≡ false
no_turn true late h e = h
no_turn false late h e = cc

pub fit_at : (rows : List LayoutRow) (ops : List Op) (k : ℕ) (op : Op) → IsOneVisit rows ops → slice_get ops k ≡ Some op → OpFits rows (parts_of rows ops) k op
fit_at rows ops k op visit at =
    let needs = needs_list op.needs in
    let whole = parts_of rows ops in
    let before = parts_of rows (take k ops) in
    let lt : k < length ops = slice_get_within ops k op at in
    let this : get_or ops k op ≡ op = get_or_from_slice_get ops k op op at in
    let same : (j : ℕ) → j < k → part_at whole j ≡ part_at before j = λ j h. part_at-take rows ops k j h (omega arith) in
    let earlier = sound_needs ops k op visit.script at in
    record {
      part = part_at-parts_of rows ops k op lt ∙ ap (next_part rows before) this
          ∙ ap (λ (b : Bool). if is_hot rows op.tuple then Hot else (if b then Late else Before)) (sym (same_any_part (λ p. not (is_before p)) whole before k same needs earlier));
      earlier = earlier;
      turn = λ hot. same_any_part is_after whole before k same needs earlier
          ∙ no_turn (is_hot rows op.tuple) (list_any (λ n. is_after (part_at before n.from)) needs) (ap (turns_badly rows before) (sym this) ∙ no_bad_turn rows ops k op visit.turns lt) hot;
    }

all_from : (rows : List LayoutRow) (parts : List Part) (k : ℕ) (rest : List Op) → ((i : ℕ) (op : Op) → slice_get rest i ≡ Some op → OpFits rows parts (k + i) op) → AllFit rows parts k rest
all_from rows parts k [] each = tt
all_from rows parts k (op ∷ rest) each = (
  subst (λ (n : ℕ). OpFits rows parts n op) {x = k + 0} (omega arith) (each zero op refl),
  all_from rows parts (k + 1) rest (λ i o e. subst (λ (n : ℕ). OpFits rows parts n o) {x = k + suc i} (omega arith) (each (suc i) o e)),
)

pub all_fit : (rows : List LayoutRow) (ops : List Op) → IsOneVisit rows ops → AllFit rows (parts_of rows ops) 0 ops
all_fit rows ops visit = all_from rows (parts_of rows ops) 0 ops (λ i op e. subst (λ (n : ℕ). OpFits rows (parts_of rows ops) n op) {x = i} (omega arith) (fit_at rows ops i op visit e))
