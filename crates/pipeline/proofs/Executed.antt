-- An execution depends on the numbers that it finds, and changes no others.
use Rattle.std.proofs.Common.{◌≡◌, ◌+◌, ◌||◌, ℤ, pos, Bool, true, false, cond, List, [], ◌∷◌, ◌++◌, length, drop, Option, Some, is_some, unwrap_or, refl, sym, ap, ◌∙◌, arith, append_assoc, append-nil, length-append}
use Rattle.std.specs.FinMap as fin
use Rattle.std.specs.FinMap.{get-insert}
use Rattle.std.specs.List.{AllByRecursion, list_any}
use Rattle.txn_model.proofs.PlaceOrder.{place_cmp_total}
use Rattle.txn_model.specs.Places.{Places}
use Rattle.txn_model.specs.Serial.{pair_at}
use Rattle.txn_model.specs.declared.pairs.Pair.{Pair}
use Rattle.txn_model.specs.declared.place.Place.{Place}
use Rattle.switch_packet.specs.Replay.{Replayed, execute, register_at, pair_now, map_now}
use Rattle.switch_packet.specs.declared.packet.PacketOp.{PacketOp}
use Rattle.register_stage.proofs.FullMap.{same, same_by_cmp, same_is}

-- both maps have the same numbers at the places that pass
abbrev pub Agree : (Place → Type 0) → Places → Places → Type 0
Agree P m n = (q : Place) → P q → register_at m q ≡ register_at n q

register-insert : (m : Places) (p : Place) (v : ℤ) (q : Place) → register_at (fin.insert m p v) q ≡ cond (same q p) v (register_at m q)
register-insert m p v q =
    ap (λ (o : Option ℤ). unwrap_or o (pos 0)) (get-insert place_cmp_total m p v q ∙ ap (λ (b : Bool). cond b (Some v) (fin.get m q)) (same_by_cmp p q)) ∙ by (same q p)
  where
    by : (b : Bool) → unwrap_or (cond b (Some v) (fin.get m q)) (pos 0) ≡ cond b v (register_at m q)
    by true = refl
    by false = refl

agree-insert : (P : Place → Type 0) (m n : Places) (p : Place) (v : ℤ) → Agree P m n → Agree P (fin.insert m p v) (fin.insert n p v)
agree-insert P m n p v h q is = register-insert m p v q ∙ ap (λ (w : ℤ). cond (same q p) v w) (h q is) ∙ sym (register-insert n p v q)

agree-map_now : (P : Place → Type 0) (b : Bool) (m n : Places) (p : Place) (v : ℤ) → Agree P m n → Agree P (map_now b m p v) (map_now b n p v)
agree-map_now P true m n p v h = agree-insert P m n p v h
agree-map_now P false m n p v h = h

pair-agree : (P : Place → Type 0) (b : Bool) (op : PacketOp) (done : List Pair) (old : Pair) (m n : Places) → Agree P m n → (b ≡ true → P op.place)
    → pair_now b op done old (register_at m op.place) ≡ pair_now b op done old (register_at n op.place)
pair-agree P true op done old m n h is = ap (λ (v : ℤ). pair_now true op done old v) (h op.place (is refl))
pair-agree P false op done old m n h is = refl

-- two executions that end alike
pub record AreAlike (P : Place → Type 0) (a b : Replayed) : Type 0 where
  pub pairs : a.pairs ≡ b.pairs
  pub after : Agree P a.after b.after

-- on maps that agree at the places of the operations that are due
pub execute_alike : (P : Place → Type 0) (due : PacketOp → Bool) (ops : List PacketOp) (done rest : List Pair) (m n : Places)
    → Agree P m n → AllByRecursion (λ op. due op ≡ true → P op.place) ops → AreAlike P (execute due ops done rest m) (execute due ops done rest n)
unfolding execute
execute_alike P due [] done rest m n h all = record { pairs = refl; after = h }
execute_alike P due (op ∷ ops) done rest m n h all =
    let pair = pair_now (due op) op done (pair_at rest 0) (register_at m op.place) in
    let e : pair ≡ pair_now (due op) op done (pair_at rest 0) (register_at n op.place) = pair-agree P (due op) op done (pair_at rest 0) m n h all.0 in
    let more = execute_alike P due ops (done ++ pair ∷ []) (drop 1 rest) (map_now (due op) m op.place pair.now) (map_now (due op) n op.place pair.now) (agree-map_now P (due op) m n op.place pair.now h) all.1 in
    let same_end = ap (λ (x : Pair). execute due ops (done ++ x ∷ []) (drop 1 rest) (map_now (due op) n op.place x.now)) e in
    record {
      pairs = more.pairs ∙ ap (λ (r : Replayed). r.pairs) same_end;
      after = λ q is. more.after q is ∙ ap (λ (r : Replayed). register_at r.after q) same_end;
    }

there-map_now : (D : Place → Bool) (b : Bool) (m : Places) (p : Place) (v : ℤ) → ((q : Place) → is_some (fin.get m q) ≡ D q) → (b ≡ true → D p ≡ true) → (q : Place) → is_some (fin.get (map_now b m p v) q) ≡ D q
there-map_now D true m p v h is q =
    ap is_some (get-insert place_cmp_total m p v q ∙ ap (λ (b : Bool). cond b (Some v) (fin.get m q)) (same_by_cmp p q)) ∙ by (same q p) refl
  where
    by : (b : Bool) → same q p ≡ b → is_some (cond b (Some v) (fin.get m q)) ≡ D q
    by true e = sym (ap D (same_is q p e) ∙ is refl)
    by false e = h q
there-map_now D false m p v h is q = h q

-- the places that have a number stay the same
pub execute_there : (D : Place → Bool) (due : PacketOp → Bool) (ops : List PacketOp) (done rest : List Pair) (m : Places)
    → ((q : Place) → is_some (fin.get m q) ≡ D q) → AllByRecursion (λ op. due op ≡ true → D op.place ≡ true) ops → (q : Place) → is_some (fin.get (execute due ops done rest m).after q) ≡ D q
unfolding execute
execute_there D due [] done rest m h all q = h q
execute_there D due (op ∷ ops) done rest m h all q =
    let pair = pair_now (due op) op done (pair_at rest 0) (register_at m op.place) in
    execute_there D due ops (done ++ pair ∷ []) (drop 1 rest) (map_now (due op) m op.place pair.now) (there-map_now D (due op) m op.place pair.now h all.0) all.1 q

-- where none is due nothing changes
pub execute_none : (due : PacketOp → Bool) (ops : List PacketOp) (done rest : List Pair) (m : Places) → list_any due ops ≡ false → length rest ≡ length ops
    → execute due ops done rest m ≡ record { pairs = done ++ rest; after = m }
unfolding execute
execute_none due [] done [] m none len = ap (λ (l : List Pair). let r : Replayed = record { pairs = l; after = m } in r) (sym (append-nil done))
execute_none due [] done (r ∷ rest) m none len = absurd (omega (arith, len))
execute_none due (op ∷ ops) done [] m none len = absurd (omega (arith, len))
execute_none due (op ∷ ops) done (r ∷ rest) m none len =
    ap (λ (b : Bool). let pair = pair_now b op done r (register_at m op.place) in execute due ops (done ++ pair ∷ []) rest (map_now b m op.place pair.now)) (first_of (due op) (list_any due ops) none)
    ∙ execute_none due ops (done ++ r ∷ []) rest m (rest_of (due op) (list_any due ops) none) (omega (arith, len))
    ∙ ap (λ (l : List Pair). let made : Replayed = record { pairs = l; after = m } in made) (append_assoc done (r ∷ []) rest)
  where
    first_of : (a b : Bool) → (a || b) ≡ false → a ≡ false
    first_of true b e = e
    first_of false b e = refl

    rest_of : (a b : Bool) → (a || b) ≡ false → b ≡ false
    rest_of true b e = cc
    rest_of false b e = e

-- an execution keeps the number of pairs
pub length-execute : (due : PacketOp → Bool) (ops : List PacketOp) (done rest : List Pair) (m : Places) → length (execute due ops done rest m).pairs ≡ length done + length ops
unfolding execute
length-execute due [] done rest m = omega arith
length-execute due (op ∷ ops) done rest m =
    let pair = pair_now (due op) op done (pair_at rest 0) (register_at m op.place) in
    let more = length-execute due ops (done ++ pair ∷ []) (drop 1 rest) (map_now (due op) m op.place pair.now) in
    let size : length (done ++ pair ∷ []) ≡ length done + 1 = length-append done (pair ∷ []) in
    omega (arith, more, size)
