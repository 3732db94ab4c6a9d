-- The sum of all tuples after a write, and after a script.
use Rattle.std.proofs.Common.{◌≡◌, ℤ, ◌+ℤ◌, ◌-ℤ◌, pos, Bool, true, false, cond, ◌&&◌, T, List, [], ◌∷◌, ◌++◌, Option, Some, None, unwrap_or, refl, sym, ap, ◌∙◌, arith, Ordering, Less, Equal, Greater, is_lt, is_eq, w64}
use Rattle.std.specs.FinMap as fin
use Rattle.std.specs.FinMap.{is_sorted, find, put, entries, entries_sorted, entries-insert, get-entries}
use Rattle.std.specs.FinMap.Entries.{below_all, by_order}
use Rattle.std.proofs.lemmas.Int.{ints, int_wrap-add_left, int_wrap-add_same}
use Rattle.txn_model.specs.Number.{wrap}
use Rattle.txn_model.specs.Serial.{serial_from, serial, pair_of}
use Rattle.txn_model.specs.Tuples.{Tuples, tuple_cmp, value_at}
use Rattle.txn_model.specs.declared.op.Op.{Op}
use Rattle.txn_model.specs.declared.op.TupleId.{TupleId}
use Rattle.txn_model.specs.declared.pairs.Pair.{Pair}
use Rattle.txn_model.proofs.TupleOrder.{tuple_cmp_total}
use Rattle.smallbank.specs.Total.{sum_of, ChangesTotal}

left : (a b : Bool) → T (a && b) → T a
left true b h = tt
left false b h = absurd h

right : (a b : Bool) → T (a && b) → T b
right true b h = h
right false b h = absurd h

less : (r : Ordering) → T (is_lt r) → r ≡ Less
less Less h = refl
less Equal h = absurd h
less Greater h = absurd h

-- a tuple below one that is below all rows isn't among them
missing : (q t : TupleId) (es : List (TupleId × ℤ)) → tuple_cmp q t ≡ Less → T (below_all tuple_cmp t es) → find tuple_cmp q es ≡ None
missing q t [] below h = refl
missing q t (e ∷ es) below h =
    let first : tuple_cmp q e.0 ≡ Less = tuple_cmp_total.trans q t e.0 below (less _ (left _ _ h)) in
    ap (λ r. cond (is_eq r) (Some e.1) (find tuple_cmp q es)) first ∙ missing q t es below (right _ _ h)

abbrev found : TupleId → List (TupleId × ℤ) → ℤ
found q es = unwrap_or (find tuple_cmp q es) (pos 0)

put_sum : (q : TupleId) (v : ℤ) (es : List (TupleId × ℤ)) → T (is_sorted tuple_cmp es) → sum_of (put tuple_cmp q v es) +ℤ found q es ≡ sum_of es +ℤ v
put_sum q v [] h = omega (arith, ints)
put_sum q v (e ∷ es) h =
    elim (tuple_cmp q e.0) as (λ r. tuple_cmp q e.0 ≡ r → sum_of (by_order r ((q, v) ∷ e ∷ es) ((e.0, v) ∷ es) (e ∷ put tuple_cmp q v es)) +ℤ unwrap_or (cond (is_eq r) (Some e.1) (find tuple_cmp q es)) (pos 0) ≡ (e.1 +ℤ sum_of es) +ℤ v) [
      | Less ↦ λ below.
          let none : found q es ≡ pos 0 = ap (λ (o : Option ℤ). unwrap_or o (pos 0)) (missing q e.0 es below (left _ _ h)) in
          omega (arith, ints, none)
      | Equal ↦ λ same. omega (arith, ints)
      | Greater ↦ λ above.
          let rest : sum_of (put tuple_cmp q v es) +ℤ found q es ≡ sum_of es +ℤ v = put_sum q v es (right (below_all tuple_cmp e.0 es) (is_sorted tuple_cmp es) h) in
          omega (arith, ints, rest)
    ] refl

-- a write changes the sum by the difference of the values
insert_sum : (m : Tuples) (t : TupleId) (v : ℤ) → sum_of (entries (fin.insert m t v)) +ℤ value_at m t ≡ sum_of (entries m) +ℤ v
insert_sum m t v =
    ap (λ es. sum_of es +ℤ value_at m t) (entries-insert tuple_cmp_total m t v)
    ∙ ap (λ (o : Option ℤ). sum_of (put tuple_cmp t v (entries m)) +ℤ unwrap_or o (pos 0)) (get-entries m t)
    ∙ put_sum t v (entries m) (entries_sorted m)

-- by how much the operations of a reply change the sum
abbrev pub changes : List Pair → ℤ
changes [] = pos 0
changes (p ∷ ps) = (p.now -ℤ p.was) +ℤ changes ps

changes_more : (done : List Pair) (p : Pair) → changes (done ++ p ∷ []) ≡ changes done +ℤ (p.now -ℤ p.was)
changes_more [] p = omega (arith, ints)
changes_more (d ∷ done) p = let rest = changes_more done p in omega (arith, ints, rest)

serial_sum : (ops : List Op) (done : List Pair) (m : Tuples) → sum_of (entries (serial_from ops done m).after) +ℤ changes done ≡ sum_of (entries m) +ℤ changes (serial_from ops done m).reply
unfolding serial_from
serial_sum [] done m = refl
serial_sum (op ∷ ops) done m =
    let p = pair_of op done (value_at m op.tuple) in
    let rest = serial_sum ops (done ++ p ∷ []) (fin.insert m op.tuple p.now) in
    let more = changes_more done p in
    let write = insert_sum m op.tuple p.now in
    omega (arith, ints, rest, more, write)

-- the total of a script's tuples changes by what its reply says
pub by_reply : (ops : List Op) (m : Tuples) (change : ℤ) → wrap (changes (serial ops m).reply) ≡ wrap change → ChangesTotal ops m change
by_reply ops m change same =
    let sum = sum_of (entries m) in
    let whole = serial_sum ops [] m in
    let after : sum_of (entries (serial ops m).after) ≡ changes (serial ops m).reply +ℤ sum = omega (arith, ints, whole) in
    let turned : change +ℤ sum ≡ sum +ℤ change = omega (arith, ints) in
    ap wrap after ∙ int_wrap-add_same w64 (changes (serial ops m).reply) change sum same ∙ ap wrap turned ∙ sym (int_wrap-add_left w64 sum change)
