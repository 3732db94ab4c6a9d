-- One operation after another of a packet that visits a stage.
use Rattle.std.proofs.Common.{◌≡◌, ℕ, zero, suc, ◌+◌, ◌<◌, ◌≤◌, Bool, true, false, cond, ℤ, ◌+ℤ◌, pos, List, [], ◌∷◌, ◌++◌, drop, take, set, length, get_or, slice_get, Some, IsSome, is_some, refl, sym, ap, ◌∙◌, arith, drop_of_length-le}
use Rattle.std.specs.FinMap as fin
use Rattle.std.specs.List.{AllByRecursion}
use Rattle.std.specs.Ordering.{eq_by_cmp}
use Rattle.std.proofs.lemmas.List.{length-set, take_all, take_more, take_more_set, drop-set-lt}
use Rattle.txn_model.proofs.OperandLaws.{drop_at_item}
use Rattle.txn_model.proofs.PlaceOrder.{place_cmp_total}
use Rattle.txn_model.proofs.SerialLaws.{needed-take}
use Rattle.txn_model.specs.Number.{wrap}
use Rattle.txn_model.specs.Places.{Places, place_cmp}
use Rattle.txn_model.specs.Serial.{operand, pair_at}
use Rattle.txn_model.specs.declared.op.Need.{Need}
use Rattle.txn_model.specs.declared.pairs.Pair.{Pair}
use Rattle.txn_model.specs.declared.place.Place.{Place}
use Rattle.switch_packet.specs.declared.packet.PacketOp.{PacketOp}
use Rattle.register_stage.proofs.FullMap.{same_is, same_by_cmp}
use Rattle.register_stage.specs.Registers.{Registers, place_in, is_due}
use Rattle.switch_packet.specs.Replay.{Replayed, execute, pair_now, map_now, packet_pair, register_at}

-- needs of earlier operations read the pairs before alone
pub operand-take : (ns : List Need) (bias : ℤ) (i : ℕ) (done : List Pair) → AllByRecursion (λ n. n.from < i) ns → operand ns bias (take i done) ≡ operand ns bias done
unfolding operand
operand-take ns bias i done h = ap (λ (z : ℤ). wrap (bias +ℤ z)) (needed-take ns i done h)

drop_one : {X : Type 0} (i : ℕ) (xs : List X) → drop 1 (drop i xs) ≡ drop (i + 1) xs
drop_one zero [] = refl
drop_one zero (x ∷ xs) = refl
drop_one (suc i) [] = ap (λ (n : ℕ). drop n []) {x = suc (i + 1)} (omega arith)
drop_one (suc i) (x ∷ xs) = drop_one i xs ∙ ap (λ (n : ℕ). drop n (x ∷ xs)) {x = suc (i + 1)} (omega arith)

first_dropped : (i : ℕ) (xs : List Pair) (d : Pair) → get_or (drop i xs) 0 d ≡ get_or xs i d
first_dropped zero xs d = refl
first_dropped (suc i) [] d = refl
first_dropped (suc i) (x ∷ xs) d = first_dropped i xs d

-- one operation, which is due or isn't
step : (due : PacketOp → Bool) (ops : List PacketOp) (i : ℕ) (op : PacketOp) (done : List Pair) (rest : List Pair) (m : Places) (b : Bool) → slice_get ops i ≡ Some op → due op ≡ b
    → execute due (drop i ops) done (drop i rest) m
    ≡ (let pair = pair_now b op done (pair_at rest i) (register_at m op.place) in execute due (drop (i + 1) ops) (done ++ pair ∷ []) (drop (i + 1) rest) (map_now b m op.place pair.now))
unfolding execute
step due ops i op done rest m b at is =
    let zeros : Pair = record { was = pos 0; now = pos 0 } in
    ap (λ (l : List PacketOp). execute due l done (drop i rest) m) (drop_at_item ops i op at)
    ∙ ap
    (λ (c : Bool).
    let pair = pair_now c op done (get_or (drop i rest) 0 zeros) (register_at m op.place) in
    execute due (drop (i + 1) ops) (done ++ pair ∷ []) (drop 1 (drop i rest)) (map_now c m op.place pair.now))
    is
    ∙ ap
    (λ (old : Pair).
    let pair = pair_now b op done old (register_at m op.place) in
    execute due (drop (i + 1) ops) (done ++ pair ∷ []) (drop 1 (drop i rest)) (map_now b m op.place pair.now))
    (first_dropped i rest zeros)
    ∙ ap
    (λ (l : List Pair).
    let pair = pair_now b op done (pair_at rest i) (register_at m op.place) in
    execute due (drop (i + 1) ops) (done ++ pair ∷ []) l (map_now b m op.place pair.now))
    (drop_one i rest)

-- an operation that is due was executed
pub step_due : (due : PacketOp → Bool) (ops : List PacketOp) (i : ℕ) (op : PacketOp) (pairs : List Pair) (m : Places) (pair : Pair) → slice_get ops i ≡ Some op → due op ≡ true → i < length pairs
    → pair ≡ packet_pair op (take i pairs) (register_at m op.place)
    → execute due (drop (i + 1) ops) (take (i + 1) (set pairs i pair)) (drop (i + 1) (set pairs i pair)) (fin.insert m op.place pair.now)
    ≡ execute due (drop i ops) (take i pairs) (drop i pairs) m
step_due due ops i op pairs m pair at is lt pair_is =
    let rest = drop (i + 1) ops in
    ap (λ (done : List Pair). execute due rest done (drop (i + 1) (set pairs i pair)) (fin.insert m op.place pair.now)) (take_more_set pairs i pair lt)
    ∙ ap (λ (old : List Pair). execute due rest (take i pairs ++ pair ∷ []) old (fin.insert m op.place pair.now)) (drop-set-lt (i + 1) pairs i pair (omega arith))
    ∙ ap (λ (p : Pair). execute due rest (take i pairs ++ p ∷ []) (drop (i + 1) pairs) (fin.insert m op.place p.now)) pair_is
    ∙ sym (step due ops i op (take i pairs) pairs m true at is)

-- an operation that isn't due was passed over
pub step_other : (due : PacketOp → Bool) (ops : List PacketOp) (i : ℕ) (op : PacketOp) (pairs : List Pair) (m : Places) → slice_get ops i ≡ Some op → due op ≡ false → i < length pairs
    → execute due (drop (i + 1) ops) (take (i + 1) pairs) (drop (i + 1) pairs) m ≡ execute due (drop i ops) (take i pairs) (drop i pairs) m
step_other due ops i op pairs m at is lt =
    ap (λ (done : List Pair). execute due (drop (i + 1) ops) done (drop (i + 1) pairs) m) (take_more pairs i (record { was = pos 0; now = pos 0 }) lt)
    ∙ sym (step due ops i op (take i pairs) pairs m false at is)

-- behind the last operation all is done
pub steps_end : (due : PacketOp → Bool) (ops : List PacketOp) (i : ℕ) (pairs rest : List Pair) (m : Places) → length ops ≤ i → execute due (drop i ops) pairs rest m ≡ record { pairs = pairs; after = m }
unfolding execute
steps_end due ops i pairs rest m past = ap (λ (l : List PacketOp). execute due l pairs rest m) (drop_of_length-le ops past)

-- a write leaves each place that was there
pub there-insert : (m : Places) (p : Place) (v : ℤ) (q : Place) → IsSome (fin.get m p) → is_some (fin.get (fin.insert m p v) q) ≡ is_some (fin.get m q)
there-insert m p v q there = ap is_some (fin.get-insert place_cmp_total m p v q) ∙ go (eq_by_cmp place_cmp q p) refl
  where
    go : (b : Bool) → eq_by_cmp place_cmp q p ≡ b → is_some (cond b (Some v) (fin.get m q)) ≡ is_some (fin.get m q)
    go true e = sym (ap (λ (k : Place). is_some (fin.get m k)) (same_is q p (sym (same_by_cmp p q) ∙ e)) ∙ there)
    go false e = refl

pub place_in-is : (p : Place) (stage : ℕ) → p.stage ≡ stage → place_in stage p.array p.cell ≡ p
place_in-is p stage e = λ i. record { stage = sym e i; array = p.array; cell = p.cell }

-- operations below i of a packet were met: how the registers and the pairs are then
pub record IsWalked (ops : List PacketOp) (pass : ℕ) (first : Registers) (old : List Pair) (i : ℕ) (now : Registers) (pairs : List Pair) : Type 0 where
  pub stage : now.stage ≡ first.stage
  pub there : (p : Place) → is_some (fin.get now.numbers p) ≡ is_some (fin.get first.numbers p)
  pub paired : length pairs ≡ length ops
  -- the operations that are left make the whole of what is done
  pub run : execute (is_due first.stage pass) (drop i ops) (take i pairs) (drop i pairs) now.numbers ≡ execute (is_due first.stage pass) ops [] old first.numbers

pub walked_due : (ops : List PacketOp) (pass : ℕ) (first : Registers) (old : List Pair) (i : ℕ) (now : Registers) (pairs : List Pair) (op : PacketOp) (next : Registers) (after : List Pair)
    → IsWalked ops pass first old i now pairs → slice_get ops i ≡ Some op → is_due now.stage pass op ≡ true → i < length pairs → IsSome (fin.get now.numbers op.place)
    → next ≡ record { stage = now.stage; numbers = fin.insert now.numbers op.place (packet_pair op (take i pairs) (register_at now.numbers op.place)).now }
    → after ≡ set pairs i (packet_pair op (take i pairs) (register_at now.numbers op.place))
    → IsWalked ops pass first old (i + 1) next after
walked_due ops pass first old i now pairs op next after w at due lt there next_is after_is =
    let pair = packet_pair op (take i pairs) (register_at now.numbers op.place) in
    let numbers_is = ap (λ (r : Registers). r.numbers) next_is in
    let is : is_due first.stage pass op ≡ true = ap (λ (s : ℕ). is_due s pass op) (sym w.stage) ∙ due in
    record {
      stage = ap (λ (r : Registers). r.stage) next_is ∙ w.stage;
      there = λ q. ap (λ (m : Places). is_some (fin.get m q)) numbers_is ∙ there-insert now.numbers op.place pair.now q there ∙ w.there q;
      paired = ap length after_is ∙ length-set pairs i pair ∙ w.paired;
      run = ap (λ (ps : List Pair). execute (is_due first.stage pass) (drop (i + 1) ops) (take (i + 1) ps) (drop (i + 1) ps) next.numbers) after_is
          ∙ ap (λ (m : Places). execute (is_due first.stage pass) (drop (i + 1) ops) (take (i + 1) (set pairs i pair)) (drop (i + 1) (set pairs i pair)) m) numbers_is
          ∙ step_due (is_due first.stage pass) ops i op pairs now.numbers pair at is lt refl
          ∙ w.run;
    }

pub walked_other : (ops : List PacketOp) (pass : ℕ) (first : Registers) (old : List Pair) (i : ℕ) (now : Registers) (pairs : List Pair) (op : PacketOp)
    → IsWalked ops pass first old i now pairs → slice_get ops i ≡ Some op → is_due now.stage pass op ≡ false → i < length pairs → IsWalked ops pass first old (i + 1) now pairs
walked_other ops pass first old i now pairs op w at other lt =
    record {
      stage = w.stage;
      there = w.there;
      paired = w.paired;
      run = step_other (is_due first.stage pass) ops i op pairs now.numbers at (ap (λ (s : ℕ). is_due s pass op) (sym w.stage) ∙ other) lt ∙ w.run;
    }

-- all operations were met
pub walked_all : (ops : List PacketOp) (pass : ℕ) (first : Registers) (old : List Pair) (i : ℕ) (now : Registers) (pairs : List Pair) → IsWalked ops pass first old i now pairs → length pairs ≤ i
    → execute (is_due first.stage pass) ops [] old first.numbers ≡ record { pairs = pairs; after = now.numbers }
walked_all ops pass first old i now pairs w past =
    sym w.run
    ∙ steps_end (is_due first.stage pass) ops i (take i pairs) (drop i pairs) now.numbers (omega (arith, w.paired))
    ∙ ap (λ (ps : List Pair). let made : Replayed = record { pairs = ps; after = now.numbers } in made) (take_all i pairs past)
