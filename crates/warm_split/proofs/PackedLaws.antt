-- The packet's operations, one after another, and the pairs that their biases are made of.
use Rattle.std.proofs.Common.{◌≡◌, ◌≢◌, ℕ, zero, suc, ◌+◌, ◌<◌, ◌≤◌, Bool, true, false, cond, not, ◌&&◌, ℤ, pos, ◌+ℤ◌, List, [], ◌∷◌, ◌++◌, take, drop, length, map, filter, get_or, slice_get, Some, None, IsTrue, nat_lt, refl, sym, ap, ap₂, subst, ◌∙◌, arith}
use Rattle.std.specs.List.{list_any, zip, AllByRecursion}
use Rattle.std.proofs.lemmas.Bool.{and_parts, ltb-true}
use Rattle.std.proofs.lemmas.List.{length-map, map-append, length_push, take-append-drop, length-append, length-take-le}
use Rattle.std.proofs.lemmas.List.Elements.{filter-append}
use Rattle.std.proofs.lemmas.Option.{slice_get_within}
use Rattle.txn_model.specs.Needs.{needs_list, needs_of}
use Rattle.txn_model.specs.Number.{wrap}
use Rattle.txn_model.specs.ScriptCheck.{script_fault}
use Rattle.txn_model.specs.Serial.{pair_at, operand, needed, part_of}
use Rattle.txn_model.specs.declared.op.Need.{Need}
use Rattle.txn_model.specs.declared.op.Needs.{Needs}
use Rattle.txn_model.specs.declared.op.Op.{Op}
use Rattle.txn_model.specs.declared.pairs.Pair.{Pair}
use Rattle.txn_model.proofs.NeedsLaws.{needs_list-needs_of}
use Rattle.txn_model.proofs.OperandLaws.{drop_at_item}
use Rattle.txn_model.proofs.SerialLaws.{sound_length, sound_needs}
use Rattle.stage_layout.specs.Late.{Part, is_hot, is_before, is_in_switch, is_after, part_at, parts_of}
use Rattle.stage_layout.specs.Passes.{NeedsBelow, NeedEarlier}
use Rattle.stage_layout.specs.Shape.{has_place}
use Rattle.stage_layout.specs.declared.layout.LayoutRow.{LayoutRow}
use Rattle.stage_layout.specs.declared.pass_plan.HotOp.{HotOp}
use Rattle.stage_layout.specs.declared.shape.Shape.{Shape}
use Rattle.switch_packet.specs.declared.packet.PacketOp.{PacketOp}
use Rattle.warm_split.specs.Resolved.{packet_number, hot_needs, cold_needs, planned_op, planned_ops, packet_op}
use Rattle.warm_split.specs.Sides.{HasPlaces, hot_ops, hot_place}
use Rattle.warm_split.proofs.JoinedLaws.{packed, hot_ops-hot, hot_ops-cold, hot_in_switch, in_switch_at}
use Rattle.warm_split.proofs.KnownPairs.{AgreeTo, split_or}
use Rattle.warm_split.proofs.NeedsOf.{take_next, filter-kept, filter-left}
use Rattle.warm_split.proofs.Operands.{only_before, length-filter-le, hot_needs_few}
use Rattle.warm_split.proofs.PacketNumbers.{number_suc, number_below}
use Rattle.warm_split.proofs.ScriptFits.{OpFits, AllFit}

-- ---- the hot operations so far

pub hot_more : (rows : List LayoutRow) (ops : List Op) (i : ℕ) (op : Op) → slice_get ops i ≡ Some op → is_hot rows op.tuple ≡ true → hot_ops rows (take (i + 1) ops) ≡ hot_ops rows (take i ops) ++ op ∷ []
hot_more rows ops i op at e = ap (hot_ops rows) (take_next ops i op at) ∙ filter-kept (λ (o : Op). is_hot rows o.tuple) (take i ops) op e

pub hot_same : (rows : List LayoutRow) (ops : List Op) (i : ℕ) (op : Op) → slice_get ops i ≡ Some op → is_hot rows op.tuple ≡ false → hot_ops rows (take (i + 1) ops) ≡ hot_ops rows (take i ops)
hot_same rows ops i op at e = ap (hot_ops rows) (take_next ops i op at) ∙ filter-left (λ (o : Op). is_hot rows o.tuple) (take i ops) op e

-- there are fewer before a hot operation than in all
pub hot_before : (rows : List LayoutRow) (ops : List Op) (i : ℕ) (op : Op) → slice_get ops i ≡ Some op → is_hot rows op.tuple ≡ true → length (hot_ops rows (take i ops)) < length (hot_ops rows ops)
hot_before rows ops i op at e =
    let rest = drop (i + 1) ops in
    let whole : ops ≡ take i ops ++ op ∷ rest = sym (take-append-drop i ops) ∙ ap (λ (l : List Op). take i ops ++ l) (drop_at_item ops i op at) in
    let parted = ap length (ap (hot_ops rows) whole ∙ filter-append (λ (o : Op). is_hot rows o.tuple) (take i ops) (op ∷ rest)) in
    let first = ap length (hot_ops-hot rows op rest e) in
    omega (arith, parted, first, length-append (hot_ops rows (take i ops)) (hot_ops rows (op ∷ rest)))

pub hot_few : (rows : List LayoutRow) (ops : List Op) → script_fault ops ≡ None → length (hot_ops rows ops) ≤ 16
hot_few rows ops sound = omega (arith, length-filter-le (λ (o : Op). is_hot rows o.tuple) ops, sound_length ops sound)

pub hot_upto : (rows : List LayoutRow) (ops : List Op) (i : ℕ) → i ≤ length ops → length (hot_ops rows (take i ops)) ≤ i
hot_upto rows ops i within = omega (arith, length-filter-le (λ (o : Op). is_hot rows o.tuple) (take i ops), length-take-le i ops within)

zip-nil : {X Y : Type 0} (xs : List X) → zip {X = Y} xs [] ≡ []
zip-nil [] = refl
zip-nil (x ∷ xs) = refl

-- a pair more where there are enough on the left
pub zip-push : {X Y : Type 0} (xs : List X) (ys : List Y) (y : Y) (d : X) → length ys < length xs → zip xs (ys ++ y ∷ []) ≡ zip xs ys ++ (get_or xs (length ys) d, y) ∷ []
zip-push [] ys y d lt = absurd (omega arith)
zip-push (x ∷ xs) [] y d lt = ap (λ l. (x, y) ∷ l) (zip-nil xs)
zip-push (x ∷ xs) (z ∷ ys) y d lt = ap (λ l. (x, z) ∷ l) (zip-push xs ys y d (omega arith))

pub length-zip : {X Y : Type 0} (xs : List X) (ys : List Y) → length ys ≤ length xs → length (zip xs ys) ≡ length ys
length-zip [] [] le = refl
length-zip [] (y ∷ ys) le = absurd (omega arith)
length-zip (x ∷ xs) [] le = refl
length-zip (x ∷ xs) (y ∷ ys) le = ap suc (length-zip xs ys (omega arith))

-- as many operations in the packet as hot ones, where there are passes for them
pub packed_size : (rows : List LayoutRow) (parts : List Part) (pairs : List Pair) (passes : List ℕ) (hot : List Op) → length hot ≤ length passes → length (map (λ (step : ℕ × Op). packet_op rows parts pairs step.0 step.1) (zip passes hot)) ≡ length hot
packed_size rows parts pairs passes hot le = length-map (zip passes hot) (λ (step : ℕ × Op). packet_op rows parts pairs step.0 step.1) ∙ length-zip passes hot le

pub packed_none : (rows : List LayoutRow) (parts : List Part) (pairs : List Pair) (passes : List ℕ) → map (λ (step : ℕ × Op). packet_op rows parts pairs step.0 step.1) (zip {X = Op} passes []) ≡ []
packed_none rows parts pairs [] = refl
packed_none rows parts pairs (q ∷ qs) = refl

pub packed_push : (rows : List LayoutRow) (parts : List Part) (pairs : List Pair) (passes : List ℕ) (ops : List Op) (i : ℕ) (op : Op) → slice_get ops i ≡ Some op → is_hot rows op.tuple ≡ true → length (hot_ops rows (take i ops)) < length passes
    → map (λ (step : ℕ × Op). packet_op rows parts pairs step.0 step.1) (zip passes (hot_ops rows (take (i + 1) ops)))
    ≡ map (λ (step : ℕ × Op). packet_op rows parts pairs step.0 step.1) (zip passes (hot_ops rows (take i ops))) ++ packet_op rows parts pairs (get_or passes (length (hot_ops rows (take i ops))) 0) op ∷ []
packed_push rows parts pairs passes ops i op at e lt =
    let hot = hot_ops rows (take i ops) in
    ap (λ (l : List Op). map (λ (step : ℕ × Op). packet_op rows parts pairs step.0 step.1) (zip passes l)) (hot_more rows ops i op at e)
    ∙ ap (map (λ (step : ℕ × Op). packet_op rows parts pairs step.0 step.1)) (zip-push passes hot op 0 lt)
    ∙ map-append (λ (step : ℕ × Op). packet_op rows parts pairs step.0 step.1) (zip passes hot) ((get_or passes (length hot) 0, op) ∷ [])

pub packed_skip : (rows : List LayoutRow) (parts : List Part) (pairs : List Pair) (passes : List ℕ) (ops : List Op) (i : ℕ) (op : Op) → slice_get ops i ≡ Some op → is_hot rows op.tuple ≡ false
    → map (λ (step : ℕ × Op). packet_op rows parts pairs step.0 step.1) (zip passes (hot_ops rows (take (i + 1) ops))) ≡ map (λ (step : ℕ × Op). packet_op rows parts pairs step.0 step.1) (zip passes (hot_ops rows (take i ops)))
packed_skip rows parts pairs passes ops i op at e = ap (λ (l : List Op). map (λ (step : ℕ × Op). packet_op rows parts pairs step.0 step.1) (zip passes l)) (hot_same rows ops i op at e)

-- what holds of all needs holds of those of operations on hosts
pub cold_all : (parts : List Part) (P : Need → Type 0) (ns : List Need) → AllByRecursion P ns → AllByRecursion P (cold_needs parts ns)
cold_all parts P [] h = tt
cold_all parts P (n ∷ ns) h = each (is_in_switch (part_at parts n.from)) (cold_all parts P ns h.1)
  where
    each : (b : Bool) → AllByRecursion P (cold_needs parts ns) → AllByRecursion P (cond (not b) (n ∷ cold_needs parts ns) (cold_needs parts ns))
    each true rest = rest
    each false rest = (h.0, rest)

-- ---- what a plan asks for

few_from : (parts : List Part) (k : ℕ) (ns : List Need) → AllByRecursion (λ n. n.from < k) ns → AllByRecursion (λ n. n.from < packet_number parts k) (hot_needs parts ns)
few_from parts k [] earlier = tt
few_from parts k (n ∷ ns) earlier = each (is_in_switch (part_at parts n.from)) refl (few_from parts k ns earlier.1)
  where
    each : (b : Bool) → is_in_switch (part_at parts n.from) ≡ b → AllByRecursion (λ m. m.from < packet_number parts k) (hot_needs parts ns) → AllByRecursion (λ m. m.from < packet_number parts k) (hot_needs parts (n ∷ ns))
    each true e rest = rw e (number_below parts n.from k earlier.0 e, rest)
    each false e rest = rw e rest

pub hot_needs_below : (parts : List Part) (k : ℕ) (needs : Needs) → AllByRecursion (λ n. n.from < k) (needs_list needs) → NeedsBelow (packet_number parts k) (needs_list (needs_of (hot_needs parts (needs_list needs))))
hot_needs_below parts k needs earlier =
    subst (λ (l : List Need). AllByRecursion (λ n. n.from < packet_number parts k) l) (sym (needs_list-needs_of (hot_needs parts (needs_list needs)) (hot_needs_few parts needs))) (few_from parts k (needs_list needs) earlier)

-- the needs of the hot operations from operation k on
earlier_from : (rows : List LayoutRow) (parts : List Part) (k : ℕ) (ops : List Op)
    → ((i : ℕ) (op : Op) → slice_get ops i ≡ Some op → AllByRecursion (λ n. n.from < k + i) (needs_list op.needs) × (is_in_switch (part_at parts (k + i)) ≡ is_hot rows op.tuple))
    → NeedEarlier (packet_number parts k) (map (planned_op rows parts) (hot_ops rows ops))
earlier_from rows parts k [] each = tt
earlier_from rows parts k (op ∷ ops) each =
    let this = each 0 op refl in
    let needs : AllByRecursion (λ n. n.from < k) (needs_list op.needs) = subst (λ (j : ℕ). AllByRecursion (λ n. n.from < j) (needs_list op.needs)) {x = k + 0} {y = k} (omega arith) this.0 in
    let switch : is_in_switch (part_at parts k) ≡ is_hot rows op.tuple = ap (λ (j : ℕ). is_in_switch (part_at parts j)) {x = k} {y = k + 0} (omega arith) ∙ this.1 in
    by (is_hot rows op.tuple) refl needs switch (earlier_from rows parts (k + 1) ops (λ i o e.
    subst (λ (j : ℕ). AllByRecursion (λ n. n.from < j) (needs_list o.needs) × (is_in_switch (part_at parts j) ≡ is_hot rows o.tuple)) {x = k + suc i} {y = (k + 1) + i} (omega arith) (each (suc i) o e)))
  where
    by : (b : Bool) → is_hot rows op.tuple ≡ b → AllByRecursion (λ n. n.from < k) (needs_list op.needs) → is_in_switch (part_at parts k) ≡ is_hot rows op.tuple
        → NeedEarlier (packet_number parts (k + 1)) (map (planned_op rows parts) (hot_ops rows ops)) → NeedEarlier (packet_number parts k) (map (planned_op rows parts) (hot_ops rows (op ∷ ops)))
    by true e needs switch rest =
        let one : cond {A = ℕ} (is_in_switch (part_at parts k)) 1 0 ≡ 1 = ap (λ (b : Bool). cond {A = ℕ} b 1 0) (switch ∙ e) in
        let up : packet_number parts (k + 1) ≡ packet_number parts (suc k) = ap (packet_number parts) {x = k + 1} {y = suc k} (omega arith) in
        let count : packet_number parts (k + 1) ≡ packet_number parts k + 1 = omega (arith, number_suc parts k, one, up) in
        rw e (hot_needs_below parts k op.needs needs, subst (λ (j : ℕ). NeedEarlier j (map (planned_op rows parts) (hot_ops rows ops))) count rest)
    by false e needs switch rest =
        let none : cond {A = ℕ} (is_in_switch (part_at parts k)) 1 0 ≡ 0 = ap (λ (b : Bool). cond {A = ℕ} b 1 0) (switch ∙ e) in
        let up : packet_number parts (k + 1) ≡ packet_number parts (suc k) = ap (packet_number parts) {x = k + 1} {y = suc k} (omega arith) in
        let count : packet_number parts (k + 1) ≡ packet_number parts k = omega (arith, number_suc parts k, none, up) in
        rw e (subst (λ (j : ℕ). NeedEarlier j (map (planned_op rows parts) (hot_ops rows ops))) count rest)

pub planned_earlier : (rows : List LayoutRow) (ops : List Op) → script_fault ops ≡ None → NeedEarlier 0 (planned_ops rows ops)
planned_earlier rows ops sound =
    earlier_from rows (parts_of rows ops) 0 ops (λ i op e.
    subst (λ (j : ℕ). AllByRecursion (λ n. n.from < j) (needs_list op.needs) × (is_in_switch (part_at (parts_of rows ops) j) ≡ is_hot rows op.tuple)) {x = i} {y = 0 + i} (omega arith)
    (sound_needs ops i op sound e, in_switch_at rows ops i op e))

stages_of : (shape : Shape) (rows : List LayoutRow) (parts : List Part) (hot : List Op) → AllByRecursion (λ op. IsTrue (has_place shape (hot_place rows op.tuple))) hot
    → AllByRecursion (λ op. op.place.stage < shape.stages) (map (planned_op rows parts) hot)
stages_of shape rows parts [] h = tt
stages_of shape rows parts (op ∷ hot) h =
    let place = hot_place rows op.tuple in
    (ltb-true place.stage shape.stages (and_parts (nat_lt place.stage shape.stages) (nat_lt place.array shape.arrays && nat_lt place.cell shape.cells) h.0).0, stages_of shape rows parts hot h.1)

pub planned_stages : (shape : Shape) (rows : List LayoutRow) (ops : List Op) → HasPlaces shape rows ops → AllByRecursion (λ op. op.place.stage < shape.stages) (planned_ops rows ops)
planned_stages shape rows ops h = stages_of shape rows (parts_of rows ops) (hot_ops rows ops) h

some_long : {X : Type 0} (xs : List X) → xs ≢ [] → 1 ≤ length xs
some_long [] h = absurd (h refl)
some_long (x ∷ xs) h = omega arith

pub planned_count : (rows : List LayoutRow) (ops : List Op) → script_fault ops ≡ None → hot_ops rows ops ≢ [] → (1 ≤ length (planned_ops rows ops)) × (length (planned_ops rows ops) ≤ 16)
planned_count rows ops sound some =
    let size = length-map (hot_ops rows ops) (planned_op rows (parts_of rows ops)) in
    (omega (arith, size, some_long (hot_ops rows ops) some), omega (arith, size, hot_few rows ops sound))

-- ---- biases

needed_cold : (parts : List Part) (k : ℕ) (a b : List Pair) → AgreeTo parts k a b → (ns : List Need) → AllByRecursion (λ n. n.from < k) ns → list_any (λ n. is_after (part_at parts n.from)) ns ≡ false
    → needed (cold_needs parts ns) a ≡ needed (cold_needs parts ns) b
needed_cold parts k a b agree [] earlier turn = refl
needed_cold parts k a b agree (n ∷ ns) earlier turn =
    let parted = split_or (is_after (part_at parts n.from)) (list_any (λ m. is_after (part_at parts m.from)) ns) turn in
    each (is_in_switch (part_at parts n.from)) refl parted.0 (needed_cold parts k a b agree ns earlier.1 parted.1)
  where
    each : (hot : Bool) → is_in_switch (part_at parts n.from) ≡ hot → is_after (part_at parts n.from) ≡ false → needed (cold_needs parts ns) a ≡ needed (cold_needs parts ns) b → needed (cold_needs parts (n ∷ ns)) a ≡ needed (cold_needs parts (n ∷ ns)) b
    each true e late rest = rw e rest
    each false e late rest = rw e (ap₂ (λ (p : Pair) (z : ℤ). part_of n.which p +ℤ z) (agree n.from earlier.0 (only_before (part_at parts n.from) e late)) rest)

-- with pairs that agree before the switch the packet is the same
pub packed_same : (rows : List LayoutRow) (parts : List Part) (a b : List Pair) (passes : List ℕ) (k : ℕ) (ops : List Op) → AllFit rows parts k ops → AgreeTo parts (k + length ops) a b → packed rows parts a passes ops ≡ packed rows parts b passes ops
unfolding operand
packed_same rows parts a b [] k [] fits agree = refl
packed_same rows parts a b (q ∷ qs) k [] fits agree = refl
packed_same rows parts a b passes k (op ∷ ops) fits agree =
    by (is_hot rows op.tuple) refl passes (λ qs. packed_same rows parts a b qs (k + 1) ops fits.1 (λ j h before. agree j (omega arith) before))
  where
    by : (hot : Bool) → is_hot rows op.tuple ≡ hot → (ps : List ℕ) → ((qs : List ℕ) → packed rows parts a qs ops ≡ packed rows parts b qs ops) → packed rows parts a ps (op ∷ ops) ≡ packed rows parts b ps (op ∷ ops)
    by true e [] rest = refl
    by true e (q ∷ qs) rest =
        let ns = needs_list op.needs in
        let bias : operand (cold_needs parts ns) (pos 0) a ≡ operand (cold_needs parts ns) (pos 0) b =
        ap (λ (z : ℤ). wrap (pos 0 +ℤ z)) (needed_cold parts k a b (λ j h before. agree j (omega arith) before) ns fits.0.earlier (fits.0.turn e)) in
        let first : packet_op rows parts a q op ≡ packet_op rows parts b q op = ap (λ (z : ℤ). record { pass = q; place = hot_place rows op.tuple; act = op.act; bias = z; needs = needs_of (hot_needs parts ns) }) bias in
        rw e (ap₂ (λ (x : PacketOp) (xs : List PacketOp). x ∷ xs) first (rest qs))
    by false e ps rest = rw e (rest ps)
