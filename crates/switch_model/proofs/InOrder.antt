-- A packet alone: what is executed by pass, stage and script order is its replay.
use Rattle.std.proofs.Common.{◌≡◌, ℕ, zero, suc, ◌+◌, ◌<◌, ◌≤◌, map, List, [], ◌∷◌, length, get_or, slice_get, Some, inl, inr, refl, sym, ap, ap₂, ◌∙◌, arith}
use Rattle.std.specs.FinMap as fin
use Rattle.std.proofs.lemmas.Bool.{cases_lt}
use Rattle.std.proofs.lemmas.List.{length-map}
use Rattle.txn_model.specs.Places.{Places}
use Rattle.txn_model.specs.Serial.{pair_at}
use Rattle.txn_model.specs.declared.pairs.Pair.{Pair}
use Rattle.txn_model.specs.declared.place.Place.{Place}
use Rattle.txn_model.proofs.PlaceOrder.{place_cmp_total, place_cmp_exact}
use Rattle.stage_layout.specs.declared.shape.Shape.{Shape}
use Rattle.switch_packet.specs.declared.packet.PacketOp.{PacketOp}
use Rattle.switch_packet.specs.Packets.{PlainPacket, blank_packet}
use Rattle.switch_packet.specs.Replay.{Replayed, replay}
use Rattle.switch_model.specs.Fitting.{FitsSwitch}
use Rattle.switch_model.specs.Flight.{Flight, zero_pair, flight_at}
use Rattle.switch_model.specs.Order.{at_stage, at_stages, in_passes, pass_by_pass, OrdersAreReplays}
use Rattle.switch_model.proofs.Before.{before, pairs_of, get-before}
use Rattle.switch_model.proofs.Facts.{Spot, IsExecuted, Values, Positions}
use Rattle.switch_model.proofs.Positions.{Becomes}
use Rattle.switch_model.proofs.Replayed.{done_pairs, all_executed}
use Rattle.switch_model.proofs.Tests.{both_true, is_equal, due_at}
use Rattle.switch_model.proofs.Values.{Turn, Leaves, stage_keeps}

-- the packet behind the first stages of its pass
abbrev standing : PlainPacket → ℕ → ℕ → List Pair → Flight
standing p pass stages pairs = record { packet = p; pass = pass; depth = stages + 1; pairs = pairs }

abbrev alone : Flight → ℕ → Flight
alone f = flight_at (f ∷ [])

-- what holds behind the first stages of a pass
abbrev Stands : Shape → PlainPacket → Places → ℕ → ℕ → Replayed → Type 0
Stands shape p m pass stages now = Values shape m now.after (p ∷ []) (alone (standing p pass stages now.pairs))

none_behind : (f g : Flight) (i : ℕ) → (i ≡ 0 → ⊥) → alone f i ≡ alone g i
none_behind f g zero n = absurd (n refl)
none_behind f g (suc i) n = refl

becomes : (f g : Flight) → Becomes 0 g (alone f) (alone g)
becomes f g = record { this = refl; others = λ i n. none_behind g f i n }

positions : (shape : Shape) (p : PlainPacket) (pass x : ℕ) (pairs : List Pair) → x < shape.stages → 1 ≤ pass → pass ≤ p.passes → Positions shape 1 (alone (standing p pass x pairs))
positions shape p pass x pairs lt from to = record {
  spot = λ i less. spot i less;
  order = λ i j region less below meet. absurd (omega arith);
  firsts = λ i j less below. absurd (omega arith);
  single = λ i j less below. absurd (omega arith);
}
  where
    spot : (i : ℕ) → i < 1 → Spot shape (alone (standing p pass x pairs) i)
    spot zero less = record { from_one = from; to_done = omega arith; deepest = omega arith; first = λ _. omega arith; done = λ over. absurd (omega arith) }
    spot (suc i) less = absurd (omega arith)

-- ---- a stage

leaves : (p : PlainPacket) (now : Replayed) (pass x : ℕ)
    → Leaves (p ∷ []) (alone (standing p pass x now.pairs)) now.after 0 x (standing p pass (suc x) (at_stage p pass x now).pairs)
leaves p now pass x = record {
  packet = refl;
  pairs = refl;
  kept = λ op done. elim done [ inl before ↦ inl before | inr here ↦ inr (here.0, omega (arith, here.1)) ];
  due = λ op due. let d = due_at pass x op due in inr (d.0, omega (arith, d.1));
  only = λ i op at done. elim done [
    | inl before ↦ inl (inl before)
    | inr here ↦ elim (cases_lt (op.place.stage + 1) (x + 1)) [
      | inl lt ↦ inl (inr (here.0, lt))
      | inr ge ↦ inr (both_true (is_equal op.pass pass here.0) (is_equal op.place.stage x (omega (arith, here.1))))
    ]
  ];
}

stage : (shape : Shape) (p : PlainPacket) (m : Places) (now : Replayed) (pass x : ℕ) → x < shape.stages → 1 ≤ pass → pass ≤ p.passes → Stands shape p m pass x now → Stands shape p m pass (suc x) (at_stage p pass x now)
stage shape p m now pass x lt from to v =
    let at = alone (standing p pass x now.pairs) in
    let next = standing p pass (suc x) (at_stage p pass x now).pairs in
    let turn : Turn shape m now.after (p ∷ []) at 0 x = record { positions = positions shape p pass x now.pairs lt from to; values = v; there = omega arith; slot = refl } in
    stage_keeps shape m now.after (p ∷ []) at (alone next) 0 x next turn (becomes (standing p pass x now.pairs) next) (leaves p now pass x)

stages : (shape : Shape) (p : PlainPacket) (m : Places) (now : Replayed) (pass x : ℕ) → x ≤ shape.stages → 1 ≤ pass → pass ≤ p.passes → Stands shape p m pass 0 now → Stands shape p m pass x (at_stages p pass x now)
stages shape p m now pass zero le from to v = v
stages shape p m now pass (suc x) le from to v = stage shape p m (at_stages p pass x now) pass x (omega arith) from to (stages shape p m now pass x (omega arith) from to v)

-- ---- a pass

-- flights that executed the same of the packet stand alike
alike : (shape : Shape) (p : PlainPacket) (m registers : Places) (f g : Flight) → f.packet ≡ p → g.packet ≡ p → f.pairs ≡ g.pairs
    → ((i : ℕ) (op : PacketOp) → slice_get p.ops i ≡ Some op → IsExecuted f op → IsExecuted g op) → ((i : ℕ) (op : PacketOp) → slice_get p.ops i ≡ Some op → IsExecuted g op → IsExecuted f op)
    → Values shape m registers (p ∷ []) (alone f) → Values shape m registers (p ∷ []) (alone g)
alike shape p m registers f g is_f is_g same forth back v = record {
  packet = packet;
  fits = v.fits;
  size = size;
  pairs = pairs;
  counted = λ place. let c = v.counted place in record {
    count = c.count;
    small = c.small;
    within = λ j i op lt at on. within j i op at (c.within j i op lt at on);
    beyond = λ j i op from at on done. c.beyond j i op from at on (beyond j i op at done);
    number = c.number;
  };
}
  where
    packet : (k : ℕ) → (alone g k).packet ≡ get_or (p ∷ []) k blank_packet
    packet zero = is_g
    packet (suc k) = refl

    size : (k : ℕ) → length (alone g k).pairs ≡ length (get_or (p ∷ []) k blank_packet).ops
    size zero = ap length (sym same) ∙ v.size 0
    size (suc k) = refl

    pairs : (k i : ℕ) (op : PacketOp) → slice_get (get_or (p ∷ []) k blank_packet).ops i ≡ Some op → IsExecuted (alone g k) op → pair_at (alone g k).pairs i ≡ pair_at (pairs_of (p ∷ []) m k) i
    pairs zero i op at done = ap (λ (ps : List Pair). pair_at ps i) (sym same) ∙ v.pairs 0 i op at (back i op at done)
    pairs (suc k) i op at done = v.pairs (suc k) i op at done

    within : (j i : ℕ) (op : PacketOp) → slice_get (get_or (p ∷ []) j blank_packet).ops i ≡ Some op → IsExecuted (alone f j) op → IsExecuted (alone g j) op
    within zero i op at done = forth i op at done
    within (suc j) i op at done = done

    beyond : (j i : ℕ) (op : PacketOp) → slice_get (get_or (p ∷ []) j blank_packet).ops i ≡ Some op → IsExecuted (alone g j) op → IsExecuted (alone f j) op
    beyond zero i op at done = back i op at done
    beyond (suc j) i op at done = done

-- behind all stages of a pass is in front of those of the next one
next_pass : (shape : Shape) (p : PlainPacket) (m : Places) (now : Replayed) (pass : ℕ) → FitsSwitch shape p → Stands shape p m pass shape.stages now → Stands shape p m (suc pass) 0 now
next_pass shape p m now pass fit v =
    alike shape p m now.after (standing p pass shape.stages now.pairs) (standing p (suc pass) 0 now.pairs) refl refl refl
    (λ i op at done. elim done [ inl before ↦ inl (omega (arith, before)) | inr here ↦ inl (omega (arith, here.0)) ])
    (λ i op at done. elim done [
      | inl before ↦ elim (cases_lt op.pass pass) [
        | inl lt ↦ inl lt
        | inr ge ↦ inr (omega (arith, before), omega (arith, (fit.within i op at).stage))
      ]
      | inr here ↦ absurd (omega (arith, here.1))
    ])
    v

passes : (shape : Shape) (p : PlainPacket) (m : Places) (now : Replayed) (n : ℕ) → FitsSwitch shape p → n ≤ p.passes → Stands shape p m 1 0 now → Stands shape p m (suc n) 0 (in_passes shape p n now)
passes shape p m now zero fit le v = v
passes shape p m now (suc n) fit le v =
    let done = in_passes shape p n now in
    next_pass shape p m (at_stages p (suc n) shape.stages done) (suc n) fit
    (stages shape p m done (suc n) shape.stages (omega arith) (omega arith) le (passes shape p m now n fit (omega arith) v))

-- ---- from the beginning to the end

nothing_yet : (shape : Shape) (p : PlainPacket) (i : ℕ) (op : PacketOp) (pairs : List Pair) → FitsSwitch shape p → slice_get p.ops i ≡ Some op → IsExecuted (standing p 1 0 pairs) op → ⊥
nothing_yet shape p i op pairs fit at done = elim done [ inl before ↦ omega (arith, before, (fit.within i op at).from_one) | inr here ↦ omega (arith, here.1) ]

begins : (shape : Shape) (p : PlainPacket) (m : Places) → FitsSwitch shape p → Stands shape p m 1 0 (record { pairs = map (λ op. zero_pair) p.ops; after = m })
begins shape p m fit = record {
  packet = packet;
  fits = λ k lt. fits k lt;
  size = size;
  pairs = pairs;
  counted = λ place. record {
    count = 0;
    small = omega arith;
    within = λ j i op lt. absurd (omega arith);
    beyond = λ j i op from at on done. beyond j i op at done;
    number = refl;
  };
}
  where
    f : Flight
    f = standing p 1 0 (map (λ op. zero_pair) p.ops)

    packet : (k : ℕ) → (alone f k).packet ≡ get_or (p ∷ []) k blank_packet
    packet zero = refl
    packet (suc k) = refl

    fits : (k : ℕ) → k < 1 → FitsSwitch shape (get_or (p ∷ []) k blank_packet)
    fits zero lt = fit
    fits (suc k) lt = absurd (omega arith)

    size : (k : ℕ) → length (alone f k).pairs ≡ length (get_or (p ∷ []) k blank_packet).ops
    size zero = length-map p.ops (λ op. zero_pair)
    size (suc k) = refl

    pairs : (k i : ℕ) (op : PacketOp) → slice_get (get_or (p ∷ []) k blank_packet).ops i ≡ Some op → IsExecuted (alone f k) op → pair_at (alone f k).pairs i ≡ pair_at (pairs_of (p ∷ []) m k) i
    pairs zero i op at done = absurd (nothing_yet shape p i op (map (λ o. zero_pair) p.ops) fit at done)
    pairs (suc k) i op at done = let none : slice_get blank_packet.ops i ≡ Some op = at in cc

    beyond : (j i : ℕ) (op : PacketOp) → slice_get (get_or (p ∷ []) j blank_packet).ops i ≡ Some op → IsExecuted (alone f j) op → ⊥
    beyond zero i op at done = nothing_yet shape p i op (map (λ o. zero_pair) p.ops) fit at done
    beyond (suc j) i op at done = let none : slice_get blank_packet.ops i ≡ Some op = at in cc

-- each register is what the whole packet leaves
register : (shape : Shape) (p : PlainPacket) (m : Places) (now : Replayed) → Stands shape p m (suc p.passes) 0 now → (place : Place) → fin.get now.after place ≡ fin.get (replay p m).after place
register shape p m now v place =
    let c = v.counted place in
    c.number ∙ by c.count c.small (λ j i op from at on. c.beyond j i op from at on (executed j i op at))
  where
    f : Flight
    f = standing p (suc p.passes) 0 now.pairs

    executed : (j i : ℕ) (op : PacketOp) → slice_get (get_or (p ∷ []) j blank_packet).ops i ≡ Some op → IsExecuted (alone f j) op
    executed zero i op at = all_executed shape m now.after (p ∷ []) (alone f) 0 i op v (omega arith) (omega arith) at
    executed (suc j) i op at = let none : slice_get blank_packet.ops i ≡ Some op = at in cc

    by : (n : ℕ) → n ≤ 1 → ((j i : ℕ) (op : PacketOp) → n ≤ j → slice_get (get_or (p ∷ []) j blank_packet).ops i ≡ Some op → op.place ≡ place → ⊥)
        → fin.get (before (p ∷ []) m n) place ≡ fin.get (replay p m).after place
    by zero le none = sym (get-before (p ∷ []) m place 0 1 (omega arith) (λ j i op from to at on. none j i op from at on))
    by (suc zero) le none = refl
    by (suc (suc n)) le none = absurd (omega arith)

pub in_order : OrdersAreReplays
in_order shape p m fit =
    let now = pass_by_pass shape p m in
    let v = passes shape p m (record { pairs = map (λ op. zero_pair) p.ops; after = m }) p.passes fit (omega arith) (begins shape p m fit) in
    let f = standing p (suc p.passes) 0 now.pairs in
    same now (replay p m)
    (done_pairs shape m now.after (p ∷ []) (alone f) 0 v (omega arith) (omega arith))
    (fin.same_map place_cmp_total place_cmp_exact now.after (replay p m).after (register shape p m now v))
  where
    same : (a b : Replayed) → a.pairs ≡ b.pairs → a.after ≡ b.after → a ≡ b
    same a b pairs after = let made : List Pair → Places → Replayed = λ ps rs. record { pairs = ps; after = rs } in ap₂ made pairs after
