-- What a sound script's needs read, and one step of its serial execution.
use Rattle.std.proofs.Common.{◌≡◌, ℕ, zero, suc, ◌+◌, ◌<◌, ◌≤◌, Bool, true, false, cond, not, ◌||◌, ◌==◌, nat_lt, ℤ, ◌+ℤ◌, pos, List, [], ◌∷◌, ◌++◌, drop, take, set, length, slice_get, Option, Some, None, IsSome, is_some, if◌then◌else◌, refl, sym, ap, subst, ◌∙◌, arith, drop_of_length-le, length-append}
use Rattle.std.specs.List.{list_any, AllByRecursion}
use Rattle.std.specs.FinMap as fin
use Rattle.std.proofs.lemmas.Bool.Decides.{nat_tests}
use Rattle.std.proofs.lemmas.List.{get_or-take, take_more_set}
use Rattle.txn_model.specs.Number.{wrap}
use Rattle.txn_model.specs.Needs.{needs_list}
use Rattle.txn_model.specs.Tuples.{Tuples, value_at}
use Rattle.txn_model.specs.ScriptCheck.{script_fault, first_of, first_bad_use, first_repeat, uses_badly, is_read}
use Rattle.txn_model.specs.Serial.{needed, part_of, pair_at, operand, effect, pair_of, serial, serial_from, serial_run}
use Rattle.txn_model.specs.declared.op.Need.{Need}
use Rattle.txn_model.specs.declared.op.Op.{Op}
use Rattle.txn_model.specs.declared.op.TupleId.{TupleId}
use Rattle.txn_model.specs.declared.pairs.Pair.{Pair}
use Rattle.txn_model.specs.declared.script.ScriptFault.{ScriptFault}
use Rattle.txn_model.specs.declared.script.ScriptFault.TheVariants.{Empty, TooLong, TupleTwice, BadUse}
use Rattle.txn_model.proofs.FirstPlaces.{bad_use_from, first_bad_use_counted}
use Rattle.txn_model.proofs.OperandLaws.{drop_at_item}
use Rattle.txn_model.proofs.TupleOrder.{tuple_cmp_total}

-- what holds of each item holds of the one at a place
pub item_of_all : {X : Type 0} (P : X → Type 0) (xs : List X) (i : ℕ) (x : X) → AllByRecursion P xs → slice_get xs i ≡ Some x → P x
item_of_all P [] i x h e = cc
item_of_all P (y ∷ ys) zero x h e = let same : y ≡ x = cc in subst P same h.0
item_of_all P (y ∷ ys) (suc i) x h e = item_of_all P ys i x h.1 e

-- an item that fails the test doesn't count
pub list_any_skip : {X : Type 0} (p : X → Bool) (xs : List X) (i : ℕ) (x : X) → slice_get xs i ≡ Some x → p x ≡ false → list_any p (drop (i + 1) xs) ≡ list_any p (drop i xs)
list_any_skip p xs i x at fails = sym (ap (list_any p) (drop_at_item xs i x at) ∙ ap (λ b. b || list_any p (drop (i + 1) xs)) fails)

pub is_earlier : (r : Bool) (a n : ℕ) → r ≡ false → a < n → (r || not (nat_lt a n)) ≡ false
is_earlier r a n h lt = grind (arith, nat_tests)

skip_if : {X : Type 0} (b : Bool) (x : X) (r : Option X) → (if b then Some x else r) ≡ None → (b ≡ false) × (r ≡ None)
skip_if true x r h = cc
skip_if false x r h = (refl, h)

skip_first : (o : Option ℕ) (f : ℕ → ScriptFault) (r : Option ScriptFault) → first_of o f r ≡ None → (o ≡ None) × (r ≡ None)
skip_first None f r h = (refl, h)
skip_first (Some k) f r h = cc

-- a sound script has no bad use
pub sound_uses : (ops : List Op) → script_fault ops ≡ None → first_bad_use ops ≡ None
unfolding script_fault
sound_uses ops h =
    let uses = first_of (first_bad_use ops) BadUse None in
    let repeats = first_of (first_repeat ops) TupleTwice uses in
    let size = if nat_lt 16 (length ops) then Some (TooLong (length ops)) else repeats in
    let filled = (skip_if (length ops == 0) Empty size h).1 in
    let short = (skip_if (nat_lt 16 (length ops)) (TooLong (length ops)) repeats filled).1 in
    (skip_first (first_bad_use ops) BadUse None (skip_first (first_repeat ops) TupleTwice uses short).1).0

no_bad_use_at : (k : ℕ) (ops : List Op) (i : ℕ) (op : Op) → bad_use_from k ops ≡ None → slice_get ops i ≡ Some op → uses_badly (k + i) op ≡ false
no_bad_use_at k [] i op h e = cc
no_bad_use_at k (x ∷ ops) zero op h e =
    let same : x ≡ op = cc in
    subst (λ (n : ℕ). uses_badly n op ≡ false) {x = k} (omega arith) (subst (λ (y : Op). uses_badly k y ≡ false) same (skip_if (uses_badly k x) k (bad_use_from (k + 1) ops) h).0)
no_bad_use_at k (x ∷ ops) (suc i) op h e =
    subst (λ (n : ℕ). uses_badly n op ≡ false) {x = (k + 1) + i} (omega arith) (no_bad_use_at (k + 1) ops i op (skip_if (uses_badly k x) k (bad_use_from (k + 1) ops) h).1 e)

needs_before : (r : Bool) (k : ℕ) (ns : List Need) → list_any (λ n. r || not (nat_lt n.from k)) ns ≡ false → AllByRecursion (λ n. n.from < k) ns
needs_before r k [] h = tt
needs_before r k (n ∷ ns) h =
    let parts = or_false (r || not (nat_lt n.from k)) _ h in
    (below r n.from k parts.0, needs_before r k ns parts.1)
  where
    or_false : (a b : Bool) → (a || b) ≡ false → (a ≡ false) × (b ≡ false)
    or_false true b e = cc
    or_false false b e = (refl, e)

    below : (q : Bool) (a m : ℕ) → (q || not (nat_lt a m)) ≡ false → a < m
    below q a m e = grind (arith, nat_tests)

-- the needs of a sound script's operation name earlier ones
pub sound_needs : (ops : List Op) (i : ℕ) (op : Op) → script_fault ops ≡ None → slice_get ops i ≡ Some op → AllByRecursion (λ n. n.from < i) (needs_list op.needs)
sound_needs ops i op h e =
    needs_before (is_read op.act) i (needs_list op.needs) (subst (λ (n : ℕ). uses_badly n op ≡ false) {x = 0 + i} (omega arith) (no_bad_use_at 0 ops i op (first_bad_use_counted ops ∙ sound_uses ops h) e))

-- needs of earlier operations read the pairs before alone
pub needed-take : (ns : List Need) (i : ℕ) (done : List Pair) → AllByRecursion (λ n. n.from < i) ns → needed ns (take i done) ≡ needed ns done
needed-take [] i done h = refl
needed-take (n ∷ ns) i done h =
    let d : Pair = record { was = pos 0; now = pos 0 } in
    ap (λ (p : Pair). part_of n.which p +ℤ needed ns (take i done)) (get_or-take i done n.from d h.0)
    ∙ ap (λ (z : ℤ). part_of n.which (pair_at done n.from) +ℤ z) (needed-take ns i done h.1)

-- one operation of a serial execution
pub serial_step : (ops : List Op) (i : ℕ) (op : Op) (out : List Pair) (m : Tuples) → slice_get ops i ≡ Some op → i < length out → AllByRecursion (λ n. n.from < i) (needs_list op.needs) → (pair : Pair) → pair ≡ pair_of op out (value_at m op.tuple)
    → serial_from (drop (i + 1) ops) (take (i + 1) (set out i pair)) (fin.insert m op.tuple pair.now) ≡ serial_from (drop i ops) (take i out) m
unfolding serial_from operand
serial_step ops i op out m at lt earlier pair is =
    let was = value_at m op.tuple in
    let rest = drop (i + 1) ops in
    let first : pair ≡ pair_of op (take i out) was =
    is ∙ ap (λ (s : ℤ). record { was = was; now = effect op.act was (wrap (pos 0 +ℤ s)) }) (sym (needed-take (needs_list op.needs) i out earlier)) in
    ap (λ (done : List Pair). serial_from rest done (fin.insert m op.tuple pair.now)) (take_more_set out i pair lt)
    ∙ ap (λ (p : Pair). serial_from rest (take i out ++ p ∷ []) (fin.insert m op.tuple p.now)) first
    ∙ sym (ap (λ (l : List Op). serial_from l (take i out) m) (drop_at_item ops i op at))

-- behind the last operation all is done
pub serial_end : (ops : List Op) (i : ℕ) (out : List Pair) (m : Tuples) → length ops ≤ i → length out ≤ i → serial_from (drop i ops) (take i out) m ≡ record { reply = out; after = m }
unfolding serial_from
serial_end ops i out m past full =
    ap (λ (l : List Op). serial_from l (take i out) m) (drop_of_length-le ops past) ∙ ap (λ (done : List Pair). record { reply = done; after = m }) (take_full i out full)
  where
    take_full : (n : ℕ) (xs : List Pair) → length xs ≤ n → take n xs ≡ xs
    take_full zero [] h = refl
    take_full (suc n) [] h = refl
    take_full zero (x ∷ xs) h = absurd (omega arith)
    take_full (suc n) (x ∷ xs) h = ap (λ (l : List Pair). x ∷ l) (take_full n xs (omega arith))

-- a write leaves each tuple that was there
pub there-insert : (m : Tuples) (t : TupleId) (v : ℤ) (ops : List Op) → AllByRecursion (λ op. IsSome (fin.get m op.tuple)) ops → AllByRecursion (λ op. IsSome (fin.get (fin.insert m t v) op.tuple)) ops
there-insert m t v [] h = tt
there-insert m t v (op ∷ ops) h =
    (ap is_some (fin.get-insert tuple_cmp_total m t v op.tuple) ∙ kept _ (fin.get m op.tuple) h.0, there-insert m t v ops h.1)
  where
    kept : (b : Bool) (o : Option ℤ) → is_some o ≡ true → is_some (cond b (Some v) o) ≡ true
    kept true o e = refl
    kept false o e = e

-- what is below a place is below the length
pub below_more_room : (i n : ℕ) → i ≤ n → (ns : List Need) → AllByRecursion (λ k. k.from < i) ns → AllByRecursion (λ k. k.from < n) ns
below_more_room i n le [] h = tt
below_more_room i n le (k ∷ ns) h = (omega (arith, h.0), below_more_room i n le ns h.1)

-- a sound script has at most 16 operations
pub sound_length : (ops : List Op) → script_fault ops ≡ None → length ops ≤ 16
unfolding script_fault
sound_length ops h =
    let uses = first_of (first_bad_use ops) BadUse None in
    let repeats = first_of (first_repeat ops) TupleTwice uses in
    let size = if nat_lt 16 (length ops) then Some (TooLong (length ops)) else repeats in
    let few = (skip_if (nat_lt 16 (length ops)) (TooLong (length ops)) repeats (skip_if (length ops == 0) Empty size h).1).0 in
    not_above 16 (length ops) few
  where
    not_above : (a b : ℕ) → nat_lt a b ≡ false → b ≤ a
    not_above a b e = grind (arith, nat_tests)

-- a script leaves each tuple that was there
pub there-serial_from : (ops : List Op) (done : List Pair) (m : Tuples) (named : List Op) → AllByRecursion (λ op. IsSome (fin.get m op.tuple)) named → AllByRecursion (λ op. IsSome (fin.get (serial_from ops done m).after op.tuple)) named
unfolding serial_from
there-serial_from [] done m named h = h
there-serial_from (op ∷ ops) done m named h =
    let pair = pair_of op done (value_at m op.tuple) in
    there-serial_from ops (done ++ pair ∷ []) (fin.insert m op.tuple pair.now) named (there-insert m op.tuple pair.now named h)

-- a reply has a pair for each operation
pub length-serial_from : (ops : List Op) (done : List Pair) (m : Tuples) → length (serial_from ops done m).reply ≡ length done + length ops
unfolding serial_from
length-serial_from [] done m = omega arith
length-serial_from (op ∷ ops) done m =
    let pair = pair_of op done (value_at m op.tuple) in
    omega (arith, length-serial_from ops (done ++ pair ∷ []) (fin.insert m op.tuple pair.now), length-append done (pair ∷ []))

-- a serial run has a reply for each script
pub length-replies : (scripts : List (List Op)) (m : Tuples) → length (serial_run scripts m).replies ≡ length scripts
unfolding serial_run
length-replies [] m = refl
length-replies (s ∷ ss) m = ap suc (length-replies ss (serial s m).after)
