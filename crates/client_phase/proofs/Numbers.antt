-- The numbers of operations on hosts, one operation after another.
use Rattle.std.proofs.Common.{◌≡◌, ℕ, zero, suc, ◌+◌, ◌<◌, ◌≤◌, Bool, true, false, List, [], ◌∷◌, drop, get_or, length, if◌then◌else◌, sym, ap, ◌∙◌, arith, drop_of_length-le, refl, ◌==◌}
use Rattle.std.specs.Int.{bit_at}
use Rattle.std.proofs.lemmas.Nat.Bits.{bit_at-zero}
use Rattle.std.proofs.lemmas.Option.{slice_get-get_or}
use Rattle.txn_model.specs.declared.op.Op.{Op}
use Rattle.txn_model.proofs.OperandLaws.{drop_at_item}
use Rattle.warm_split.specs.OpSet.{contains}
use Rattle.warm_split.specs.declared.op_set.OpSet.{OpSet}
use Rattle.warm_split.proofs.FilledLaws.{no_op}
use Rattle.client_phase.specs.ColdNumbers.{numbers_from}

-- the numbers of the operations from number k on
abbrev pub rest_from : OpSet → ℕ → List Op → List ℕ
rest_from hot k ops = numbers_from hot k (drop k ops)

opened : (hot : OpSet) (k : ℕ) (ops : List Op) → k < length ops → rest_from hot k ops ≡ (if contains hot k then rest_from hot (k + 1) ops else k ∷ rest_from hot (k + 1) ops)
opened hot k ops lt = ap (numbers_from hot k) (drop_at_item ops k (get_or ops k no_op) (slice_get-get_or ops k no_op lt))

-- an operation in the switch has none of them
pub rest-skip : (hot : OpSet) (k : ℕ) (ops : List Op) → k < length ops → contains hot k ≡ true → rest_from hot k ops ≡ rest_from hot (k + 1) ops
rest-skip hot k ops lt e = opened hot k ops lt ∙ ap (λ (b : Bool). if b then rest_from hot (k + 1) ops else k ∷ rest_from hot (k + 1) ops) e

-- one on a host has the next
pub rest-next : (hot : OpSet) (k : ℕ) (ops : List Op) → k < length ops → contains hot k ≡ false → rest_from hot k ops ≡ k ∷ rest_from hot (k + 1) ops
rest-next hot k ops lt e = opened hot k ops lt ∙ ap (λ (b : Bool). if b then rest_from hot (k + 1) ops else k ∷ rest_from hot (k + 1) ops) e

-- behind the last operation there is none
pub rest-none : (hot : OpSet) (k : ℕ) (ops : List Op) → length ops ≤ k → rest_from hot k ops ≡ []
rest-none hot k ops past = ap (numbers_from hot k) (drop_of_length-le ops past)

-- one more is counted
pub count-next : (hot : OpSet) (k : ℕ) (ops : List Op) (count new total : ℕ) → k < length ops → contains hot k ≡ false → new ≡ count + 1 → count + length (rest_from hot k ops) ≡ total → new + length (rest_from hot (k + 1) ops) ≡ total
count-next hot k ops count new total lt e is had = omega (arith, ap length (rest-next hot k ops lt e), is, had)

pub count-skip : (hot : OpSet) (k : ℕ) (ops : List Op) (count new total : ℕ) → k < length ops → contains hot k ≡ true → new ≡ count → count + length (rest_from hot k ops) ≡ total → new + length (rest_from hot (k + 1) ops) ≡ total
count-skip hot k ops count new total lt e is had = omega (arith, ap length (rest-skip hot k ops lt e), is, had)

-- what stands where this many of the rest are before the number that is looked for
pub record Seeks (hot : OpSet) (k : ℕ) (ops : List Op) (left number : ℕ) : Type 0 where
  pub some : left < length (rest_from hot k ops)
  pub found : get_or (rest_from hot k ops) left 0 ≡ number

pub seek-skip : (hot : OpSet) (k : ℕ) (ops : List Op) (left new number : ℕ) → k < length ops → contains hot k ≡ true → new ≡ left → Seeks hot k ops left number → Seeks hot (k + 1) ops new number
seek-skip hot k ops left new number lt e is had =
    let rest = rest-skip hot k ops lt e in
    record {
      some = omega (arith, is, had.some, ap length rest);
      found = ap (λ (n : ℕ). get_or (rest_from hot (k + 1) ops) n 0) is ∙ ap (λ (l : List ℕ). get_or l left 0) (sym rest) ∙ had.found;
    }

pub seek-next : (hot : OpSet) (k : ℕ) (ops : List Op) (left new number : ℕ) → k < length ops → contains hot k ≡ false → left ≡ new + 1 → Seeks hot k ops left number → Seeks hot (k + 1) ops new number
seek-next hot k ops left new number lt e is had =
    let rest = rest-next hot k ops lt e in
    let one : left ≡ suc new = omega (arith, is) in
    record {
      some = omega (arith, is, had.some, ap length rest);
      found = ap (λ (n : ℕ). get_or (k ∷ rest_from hot (k + 1) ops) n 0) (sym one) ∙ ap (λ (l : List ℕ). get_or l left 0) (sym rest) ∙ had.found;
    }

pub seek-here : (hot : OpSet) (k : ℕ) (ops : List Op) (left number : ℕ) → k < length ops → contains hot k ≡ false → left ≡ 0 → Seeks hot k ops left number → k ≡ number
seek-here hot k ops left number lt e none had =
    sym (ap (λ (n : ℕ). get_or (rest_from hot k ops) n 0) none ∙ ap (λ (l : List ℕ). get_or l 0 0) (rest-next hot k ops lt e)) ∙ had.found

-- there are no more numbers than operations, and each is that of one of them
pub few-numbers : (hot : OpSet) (k : ℕ) (ops : List Op) → length (numbers_from hot k ops) ≤ length ops
few-numbers hot k [] = omega arith
few-numbers hot k (op ∷ ops) = by (contains hot k) (numbers_from hot (k + 1) ops) (few-numbers hot (k + 1) ops)
  where
    by : (b : Bool) (rest : List ℕ) → length rest ≤ length ops → length (if b then rest else k ∷ rest) ≤ suc (length ops)
    by true rest less = omega (arith, less)
    by false rest less = omega (arith, less)

pub within-numbers : (hot : OpSet) (k : ℕ) (ops : List Op) (j : ℕ) → j < length (numbers_from hot k ops) → get_or (numbers_from hot k ops) j 0 < k + length ops
within-numbers hot k [] j lt = absurd (omega arith)
within-numbers hot k (op ∷ ops) j lt = by (contains hot k) (numbers_from hot (k + 1) ops) (within-numbers hot (k + 1) ops) j lt
  where
    by : (b : Bool) (rest : List ℕ) → ((i : ℕ) → i < length rest → get_or rest i 0 < (k + 1) + length ops) → (i : ℕ) → i < length (if b then rest else k ∷ rest) → get_or (if b then rest else k ∷ rest) i 0 < k + suc (length ops)
    by true rest less i h = omega (arith, less i h)
    by false rest less zero h = omega arith
    by false rest less (suc i) h = omega (arith, less i (omega (arith, h)))

-- where the set is empty each operation is on a host
none-contained : (hot : OpSet) (k : ℕ) → hot.0 ≡ 0 → contains hot k ≡ false
none-contained hot k e = ap (λ (m : ℕ). bit_at m k == 1) e ∙ ap (λ (b : ℕ). b == 1) (bit_at-zero k)

kept-all : (hot : OpSet) (k : ℕ) (op : Op) (ops : List Op) → hot.0 ≡ 0 → numbers_from hot k (op ∷ ops) ≡ k ∷ numbers_from hot (k + 1) ops
kept-all hot k op ops e = ap (λ (b : Bool). if b then numbers_from hot (k + 1) ops else k ∷ numbers_from hot (k + 1) ops) (none-contained hot k e)

pub count-all : (hot : OpSet) (k : ℕ) (ops : List Op) → hot.0 ≡ 0 → length (numbers_from hot k ops) ≡ length ops
count-all hot k [] e = refl
count-all hot k (op ∷ ops) e = ap length (kept-all hot k op ops e) ∙ ap suc (count-all hot (k + 1) ops e)

pub number-all : (hot : OpSet) (k : ℕ) (ops : List Op) (j : ℕ) → hot.0 ≡ 0 → j < length ops → get_or (numbers_from hot k ops) j 0 ≡ k + j
number-all hot k [] j e lt = absurd (omega arith)
number-all hot k (op ∷ ops) zero e lt = ap (λ (l : List ℕ). get_or l 0 0) (kept-all hot k op ops e) ∙ omega arith
number-all hot k (op ∷ ops) (suc j) e lt =
    ap (λ (l : List ℕ). get_or l (suc j) 0) (kept-all hot k op ops e) ∙ number-all hot (k + 1) ops j e (omega (arith, lt)) ∙ omega arith
