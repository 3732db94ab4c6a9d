-- The plain layout, row by row.
use Rattle.std.proofs.Common.{◌≡◌, ℕ, ◌+◌, ◌*◌, ◌/◌, ◌%◌, ◌<◌, ◌≤◌, List, [], ◌∷◌, ◌++◌, length, map, get_or, take, refl, sym, ap, ap₂, ◌∙◌, arith}
use Rattle.std.specs.List.{enumerate_from}
use Rattle.std.proofs.lemmas.List.{length-map, map-append, map_more, length-take-le}
use Rattle.txn_model.specs.declared.op.TupleId.{TupleId}
use Rattle.stage_layout.specs.declared.layout.LayoutRow.{LayoutRow}
use Rattle.stage_layout.specs.declared.shape.Shape.{Shape}
use Rattle.hot_set.specs.declared.ranking.HotRow.{HotRow}
use Rattle.declust.specs.Plain.{tuples_of, plain_row, plain_rows}

numbered_push : {X : Type 0} (n : ℕ) (xs : List X) (y : X) → enumerate_from n (xs ++ y ∷ []) ≡ enumerate_from n xs ++ (n + length xs, y) ∷ []
numbered_push n [] y = let e : n ≡ n + 0 = omega arith in ap (λ k. (k, y) ∷ []) e
numbered_push n (x ∷ xs) y = let e : n + 1 + length xs ≡ n + (length xs + 1) = omega arith in
    ap (λ l. (n, x) ∷ l) (numbered_push (n + 1) xs y ∙ ap (λ k. enumerate_from (n + 1) xs ++ (k, y) ∷ []) (omega arith))

pub plain_more : (shape : Shape) (hot : List HotRow) (i : ℕ) (d : HotRow) → i < length hot
    → plain_rows shape (tuples_of (take (i + 1) hot)) ≡ plain_rows shape (tuples_of (take i hot)) ++ plain_row shape i (get_or hot i d).tuple ∷ []
plain_more shape hot i d lt =
    let row : ℕ × TupleId → LayoutRow = λ at. plain_row shape at.0 at.1 in
    let before = tuples_of (take i hot) in
    let t = (get_or hot i d).tuple in
    let size : 0 + length before ≡ i = omega (arith, length-map (take i hot) (λ (r : HotRow). r.tuple), length-take-le i hot (omega arith)) in
    ap (λ l. map row (enumerate_from 0 l)) (map_more (λ (r : HotRow). r.tuple) hot i d lt)
    ∙ ap (map row) (numbered_push 0 before t)
    ∙ map-append row (enumerate_from 0 before) ((0 + length before, t) ∷ [])
    ∙ ap (λ k. plain_rows shape before ++ plain_row shape k t ∷ []) size
