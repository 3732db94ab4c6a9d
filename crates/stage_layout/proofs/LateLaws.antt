-- Parts of scripts, operation by operation.
use Rattle.std.proofs.Common.{◌≡◌, ℕ, ◌+◌, ◌≤◌, ◌<◌, false, List, [], ◌∷◌, ◌++◌, length, get_or, take, drop, None, refl, sym, ap, ◌∙◌, arith, add-one, length-append}
use Rattle.std.proofs.Math.Seq.{take-suc, get_or-append_seam}
use Rattle.std.proofs.lemmas.List.{length-take-le, take-append-drop, get_or_append_left}
use Rattle.txn_model.specs.declared.op.Op.{Op}
use Rattle.stage_layout.specs.Late.{Part, Before, part_at, next_part, parts_behind, parts_of, turns_badly, first_bad_turn}
use Rattle.stage_layout.proofs.Firsts.{fails_before}
use Rattle.stage_layout.specs.declared.layout.LayoutRow.{LayoutRow}

pub parts_behind-append : (rows : List LayoutRow) (parts : List Part) (xs ys : List Op) → parts_behind rows parts (xs ++ ys) ≡ parts_behind rows (parts_behind rows parts xs) ys
parts_behind-append rows parts [] ys = refl
parts_behind-append rows parts (x ∷ xs) ys = parts_behind-append rows (parts ++ next_part rows parts x ∷ []) xs ys

pub length-parts_behind : (rows : List LayoutRow) (parts : List Part) (ops : List Op) → length (parts_behind rows parts ops) ≡ length parts + length ops
length-parts_behind rows parts [] = omega arith
length-parts_behind rows parts (op ∷ ops) = omega (arith, length-parts_behind rows (parts ++ next_part rows parts op ∷ []) ops, length-append parts (next_part rows parts op ∷ []))

pub length-parts_of : (rows : List LayoutRow) (ops : List Op) → length (parts_of rows ops) ≡ length ops
length-parts_of rows ops = omega (arith, length-parts_behind rows [] ops)

-- one more operation has one more part
pub parts_of-more : (rows : List LayoutRow) (ops : List Op) (i : ℕ) (d : Op) → i < length ops
    → parts_of rows (take (i + 1) ops) ≡ parts_of rows (take i ops) ++ next_part rows (parts_of rows (take i ops)) (get_or ops i d) ∷ []
parts_of-more rows ops i d lt = rw (add-one, take-suc ops i d) (parts_behind-append rows [] (take i ops) (get_or ops i d ∷ []))

-- the parts of the operations so far stay as they are
parts_behind-keeps : (rows : List LayoutRow) (parts : List Part) (ops : List Op) (k : ℕ) → k < length parts → part_at (parts_behind rows parts ops) k ≡ part_at parts k
parts_behind-keeps rows parts [] k lt = refl
parts_behind-keeps rows parts (op ∷ ops) k lt =
    let x = next_part rows parts op in
    parts_behind-keeps rows (parts ++ x ∷ []) ops k (omega (arith, length-append parts (x ∷ []))) ∙ get_or_append_left parts (x ∷ []) Before k lt

pub part_at-take : (rows : List LayoutRow) (ops : List Op) (i k : ℕ) → k < i → i ≤ length ops → part_at (parts_of rows ops) k ≡ part_at (parts_of rows (take i ops)) k
part_at-take rows ops i k lt within =
    let len = length-parts_of rows (take i ops) ∙ length-take-le i ops within in
    ap (λ xs. part_at (parts_of rows xs) k) (sym (take-append-drop i ops)) ∙ ap (λ parts. part_at parts k) (parts_behind-append rows [] (take i ops) (drop i ops)) ∙ parts_behind-keeps rows (parts_of rows (take i ops)) (drop i ops) k (omega arith)

-- the part of an operation, from those before it
pub part_at-parts_of : (rows : List LayoutRow) (ops : List Op) (k : ℕ) (d : Op) → k < length ops → part_at (parts_of rows ops) k ≡ next_part rows (parts_of rows (take k ops)) (get_or ops k d)
part_at-parts_of rows ops k d lt =
    let before = parts_of rows (take k ops) in
    let x = next_part rows before (get_or ops k d) in
    let len : length before ≡ k = length-parts_of rows (take k ops) ∙ length-take-le k ops (omega arith) in
    part_at-take rows ops (k + 1) k (omega arith) (omega arith) ∙ ap (λ parts. part_at parts k) (parts_of-more rows ops k d lt) ∙ ap (λ j. part_at (before ++ x ∷ []) j) (sym len) ∙ get_or-append_seam before x [] Before

-- without a bad turn no hot operation needs a late one
pub no_bad_turn : (rows : List LayoutRow) (ops : List Op) (k : ℕ) (d : Op) → first_bad_turn rows ops ≡ None → k < length ops → turns_badly rows (parts_of rows (take k ops)) (get_or ops k d) ≡ false
no_bad_turn rows ops k d e lt = fails_before (λ i op. turns_badly rows (parts_of rows (take i ops)) op) d ops k e lt
