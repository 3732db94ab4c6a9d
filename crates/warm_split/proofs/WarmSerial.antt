-- A warm transaction's joined reply is its serial one.
use Rattle.std.proofs.Common.{◌≡◌, ℕ, zero, suc, ◌+◌, ◌<◌, Bool, true, false, cond, not, ◌||◌, ◌==◌, ℤ, pos, List, [], ◌∷◌, ◌++◌, drop, length, map, filter, nat_lt, Option, Some, None, is_some, unwrap_or, if◌then◌else◌, refl, sym, ap, ap₂, subst, ◌∙◌, arith, append_assoc, append-nil}
use Rattle.std.specs.FinMap as fin
use Rattle.std.specs.List.{list_any, zip, AllByRecursion}
use Rattle.std.specs.Ordering.{is_eq}
use Rattle.std.proofs.lemmas.Bool.Decides.{nat_tests}
use Rattle.txn_model.specs.Needs.{needs_list}
use Rattle.txn_model.specs.Places.{Places, place_cmp}
use Rattle.txn_model.specs.ScriptCheck.{script_fault, first_repeat, names}
use Rattle.txn_model.specs.Serial.{pair_of, serial, serial_from}
use Rattle.txn_model.specs.Tuples.{Tuples, value_at}
use Rattle.txn_model.specs.declared.op.Op.{Op}
use Rattle.txn_model.specs.declared.op.TupleId.{TupleId}
use Rattle.txn_model.specs.declared.pairs.Pair.{Pair}
use Rattle.txn_model.specs.declared.place.Place.{Place}
use Rattle.txn_model.proofs.Values.{value_at-insert}
use Rattle.stage_layout.specs.Late.{Part, is_hot, is_in_switch, part_at, parts_of}
use Rattle.stage_layout.specs.Layout.{place_of}
use Rattle.stage_layout.specs.Passes.{plan_of}
use Rattle.stage_layout.specs.declared.layout.LayoutRow.{LayoutRow}
use Rattle.switch_packet.specs.Replay.{register_at, packet_pair, execute, always, replay}
use Rattle.switch_packet.specs.declared.packet.PacketOp.{PacketOp}
use Rattle.switch_packet.proofs.ExecuteLaws.{made, pairs-execute, same_place}
use Rattle.switch_packet.proofs.PlaceChainLaws.{register_at-insert}
use Rattle.warm_split.specs.Joined.{joined_from, joined, first_value}
use Rattle.warm_split.specs.Laws.{HavePlacesOfTheirOwn, HasRegisters, IsOneVisit, WarmRepliesAreSerial}
use Rattle.warm_split.specs.Resolved.{planned_ops, packet_op, packet_of}
use Rattle.warm_split.specs.Sides.{hot_ops, hot_place, cold_ops, cold_values}
use Rattle.warm_split.proofs.Distinct.{AreApart, apart_from_sound, swapped}
use Rattle.warm_split.proofs.JoinedLaws.{packed, hot_ops-hot, hot_ops-cold, hot_in_switch, same_left, front_agrees, next_agrees, starts, packet_ops, length-plan, known_agrees}
use Rattle.warm_split.proofs.KnownPairs.{AgreeTo, split_or}
use Rattle.warm_split.proofs.Operands.{HasHot, hot_push, cold_push}
use Rattle.warm_split.proofs.ScriptFits.{OpFits, AllFit, all_fit}

-- ---- what a write leaves

other_value : (m : Tuples) (t u : TupleId) (v : ℤ) → (u.0 == t.0) ≡ false → value_at (fin.insert m t v) u ≡ value_at m u
other_value m t u v apart = value_at-insert m t v u ∙ ap (λ (b : Bool). if b then v else value_at m u) (swapped u.0 t.0 apart)

cold_values-insert : (rows : List LayoutRow) (ops : List Op) (m : Tuples) (t : TupleId) (v : ℤ) → names ops t ≡ false → cold_values rows ops (fin.insert m t v) ≡ cold_values rows ops m
cold_values-insert rows [] m t v unnamed = refl
cold_values-insert rows (op ∷ ops) m t v unnamed =
    let parts = split_or (op.tuple.0 == t.0) (names ops t) unnamed in
    each (is_hot rows op.tuple) (other_value m t op.tuple v parts.0) (cold_values-insert rows ops m t v parts.1)
  where
    each : (hot : Bool) → value_at (fin.insert m t v) op.tuple ≡ value_at m op.tuple → cold_values rows ops (fin.insert m t v) ≡ cold_values rows ops m
        → map (λ (o : Op). value_at (fin.insert m t v) o.tuple) (cond (not hot) (op ∷ cold_ops rows ops) (cold_ops rows ops)) ≡ map (λ (o : Op). value_at m o.tuple) (cond (not hot) (op ∷ cold_ops rows ops) (cold_ops rows ops))
    each true e r = r
    each false e r = ap₂ (λ (x : ℤ) (xs : List ℤ). x ∷ xs) e r

-- a tuple's register has its value
abbrev Shows : List LayoutRow → Tuples → Places → TupleId → Type 0
Shows rows m registers t = register_at registers (hot_place rows t) ≡ value_at m t

-- so has each of these operations on a hot tuple
abbrev AllShow : List LayoutRow → Tuples → Places → List Op → Type 0
AllShow rows m registers ops = AllByRecursion (λ op. is_hot rows op.tuple ≡ true → Shows rows m registers op.tuple) ops

all_show : (rows : List LayoutRow) (m : Tuples) (registers : Places) (ops : List Op) → HasRegisters rows ops m registers → AllShow rows m registers ops
all_show rows m registers [] h = tt
all_show rows m registers (op ∷ ops) h = each (is_hot rows op.tuple) refl (all_show rows m registers ops)
  where
    each : (hot : Bool) → is_hot rows op.tuple ≡ hot → (HasRegisters rows ops m registers → AllShow rows m registers ops) → AllShow rows m registers (op ∷ ops)
    each true e rest = let s : AllByRecursion (λ (o : Op). Shows rows m registers o.tuple) (op ∷ hot_ops rows ops) = rw e at h in (λ on. s.0, rest s.1)
    each false e rest = let s : HasRegisters rows ops m registers = rw e at h in (λ on. let clash : true ≡ false = sym on ∙ e in cc, rest s)

-- a write to a tuple on a host
shows_cold : (rows : List LayoutRow) (m : Tuples) (registers : Places) (t : TupleId) (v : ℤ) (ops : List Op) → names ops t ≡ false → AllShow rows m registers ops → AllShow rows (fin.insert m t v) registers ops
shows_cold rows m registers t v [] unnamed h = tt
shows_cold rows m registers t v (op ∷ ops) unnamed h =
    let parts = split_or (op.tuple.0 == t.0) (names ops t) unnamed in
    (λ on. h.0 on ∙ sym (other_value m t op.tuple v parts.0), shows_cold rows m registers t v ops parts.1 h.1)

hot_at : (o : Option Place) → is_some o ≡ true → o ≡ Some (unwrap_or o (record { stage = 0; array = 0; cell = 0 }))
hot_at None e = cc
hot_at (Some p) e = refl

clash : (a b : ℕ) → a ≡ b → (a == b) ≡ false → ⊥
clash a b e n = grind (arith, nat_tests)

other_register : (rows : List LayoutRow) (registers : Places) (t u : TupleId) (v : ℤ) → HavePlacesOfTheirOwn rows → is_hot rows t ≡ true → is_hot rows u ≡ true → (u.0 == t.0) ≡ false
    → register_at (fin.insert registers (hot_place rows t) v) (hot_place rows u) ≡ register_at registers (hot_place rows u)
other_register rows registers t u v own hot_t hot_u apart =
    register_at-insert registers (hot_place rows t) v (hot_place rows u) ∙ by (is_eq (place_cmp (hot_place rows u) (hot_place rows t))) refl
  where
    by : (b : Bool) → is_eq (place_cmp (hot_place rows u) (hot_place rows t)) ≡ b → (if b then v else register_at registers (hot_place rows u)) ≡ register_at registers (hot_place rows u)
    by true e =
        let same : u ≡ t = own u t (hot_place rows u) (hot_at (place_of rows u) hot_u) (hot_at (place_of rows t) hot_t ∙ ap (λ (p : Place). Some p) (sym (same_place (hot_place rows u) (hot_place rows t) e))) in
        let number : u.0 ≡ t.0 = ap (λ (x : TupleId). x.0) same in
        absurd (clash u.0 t.0 number apart)
    by false e = refl

-- a write to a hot tuple and to its register
shows_hot : (rows : List LayoutRow) (m : Tuples) (registers : Places) (t : TupleId) (v : ℤ) (ops : List Op) → HavePlacesOfTheirOwn rows → is_hot rows t ≡ true → names ops t ≡ false → AllShow rows m registers ops
    → AllShow rows (fin.insert m t v) (fin.insert registers (hot_place rows t) v) ops
shows_hot rows m registers t v [] own hot unnamed h = tt
shows_hot rows m registers t v (op ∷ ops) own hot unnamed h =
    let parts = split_or (op.tuple.0 == t.0) (names ops t) unnamed in
    (λ on. other_register rows registers t op.tuple v own hot on parts.0 ∙ h.0 on ∙ sym (other_value m t op.tuple v parts.0), shows_hot rows m registers t v ops own hot parts.1 h.1)

-- ---- the walk

-- the pairs of the rest of a script, and what they are joined from
abbrev hot_pairs : List LayoutRow → List Part → List Pair → List ℕ → List Op → List Pair → Places → List Pair
hot_pairs rows parts known passes ops hot registers = made always (packed rows parts known passes ops) hot [] registers

record IsWalk (rows : List LayoutRow) (parts : List Part) (known : List Pair) (k : ℕ) (passes : List ℕ) (ops : List Op) (done hot : List Pair) (m : Tuples) (registers : Places) : Type 0 where
  passes_size : length passes ≡ length (hot_ops rows ops)
  has : HasHot parts k done hot
  shows : AllShow rows m registers ops
  agree : AgreeTo parts (k + length ops) known (done ++ joined_from rows done ops (cold_values rows ops m) (hot_pairs rows parts known passes ops hot registers))

abbrev Serial : List LayoutRow → List Part → List Pair → List ℕ → List Op → List Pair → List Pair → Tuples → Places → Type 0
Serial rows parts known passes ops done hot m registers = done ++ joined_from rows done ops (cold_values rows ops m) (hot_pairs rows parts known passes ops hot registers) ≡ (serial_from ops done m).reply

abbrev RestSerial : List LayoutRow → List Part → List Pair → ℕ → List Op → Type 0
RestSerial rows parts known k ops = (passes : List ℕ) (done hot : List Pair) (m : Tuples) (registers : Places) → IsWalk rows parts known k passes ops done hot m registers → Serial rows parts known passes ops done hot m registers

serial_hot : (rows : List LayoutRow) (parts : List Part) (known : List Pair) (k : ℕ) (op : Op) (ops : List Op) → HavePlacesOfTheirOwn rows → OpFits rows parts k op → names ops op.tuple ≡ false → RestSerial rows parts known (k + 1) ops → is_hot rows op.tuple ≡ true
    → (passes : List ℕ) (done hot : List Pair) (m : Tuples) (registers : Places) → IsWalk rows parts known k passes (op ∷ ops) done hot m registers → Serial rows parts known passes (op ∷ ops) done hot m registers
unfolding serial_from
serial_hot rows parts known k op ops own fits unnamed rest e [] done hot m registers w = absurd (let size = w.passes_size ∙ ap length (hot_ops-hot rows op ops e) in omega (arith, size))
serial_hot rows parts known k op ops own fits unnamed rest e (q ∷ qs) done hot m registers w =
    let n = length ops in
    let place = hot_place rows op.tuple in
    let pop = packet_op rows parts known q op in
    let v = value_at m op.tuple in
    let s = pair_of op done v in
    let p = packet_pair pop hot (register_at registers place) in
    let next = fin.insert m op.tuple s.now in
    let pairs : Pair → List Pair = λ x. hot_pairs rows parts known qs ops (hot ++ x ∷ []) (fin.insert registers place x.now) in
    let tail : Pair → List ℤ → List Pair = λ x vs. joined_from rows (done ++ x ∷ []) ops vs (pairs x) in
    let front = front_agrees parts k (suc n) known done _ w.has.size w.agree in
    let same : p ≡ s = ap (λ (x : ℤ). packet_pair pop hot x) (w.shows.0 e) ∙ sym (same_left rows parts k op known done hot q v fits e front w.has) in
    let values : cold_values rows ops m ≡ cold_values rows ops next = sym (cold_values-insert rows ops m op.tuple s.now unnamed) in
    let agree : AgreeTo parts (k + suc n) known (done ++ p ∷ tail p (cold_values rows ops m)) = rw e at w.agree in
    let moved : done ++ p ∷ tail p (cold_values rows ops m) ≡ done ++ s ∷ tail s (cold_values rows ops next) = ap₂ (λ (x : Pair) (vs : List ℤ). done ++ x ∷ tail x vs) same values in
    let later = rest qs (done ++ s ∷ []) (hot ++ s ∷ []) next (fin.insert registers place s.now) (record {
      passes_size = let size = w.passes_size ∙ ap length (hot_ops-hot rows op ops e) in omega (arith, size);
      has = hot_push parts k done hot s w.has (hot_in_switch rows parts k op fits ∙ e);
      shows = shows_hot rows m registers op.tuple s.now ops own e unnamed w.shows.1;
      agree = next_agrees parts k n known done (tail s (cold_values rows ops next)) s (subst (λ (l : List Pair). AgreeTo parts (k + suc n) known l) moved agree);
    }) in
    rw e (moved ∙ sym (append_assoc done (s ∷ []) (tail s (cold_values rows ops next))) ∙ later)

serial_cold : (rows : List LayoutRow) (parts : List Part) (known : List Pair) (k : ℕ) (op : Op) (ops : List Op) → OpFits rows parts k op → names ops op.tuple ≡ false → RestSerial rows parts known (k + 1) ops → is_hot rows op.tuple ≡ false
    → (passes : List ℕ) (done hot : List Pair) (m : Tuples) (registers : Places) → IsWalk rows parts known k passes (op ∷ ops) done hot m registers → Serial rows parts known passes (op ∷ ops) done hot m registers
unfolding serial_from
serial_cold rows parts known k op ops fits unnamed rest e passes done hot m registers w =
    let n = length ops in
    let s = pair_of op done (value_at m op.tuple) in
    let next = fin.insert m op.tuple s.now in
    let pairs = hot_pairs rows parts known passes ops hot registers in
    let tail : List ℤ → List Pair = λ vs. joined_from rows (done ++ s ∷ []) ops vs pairs in
    let values : cold_values rows ops m ≡ cold_values rows ops next = sym (cold_values-insert rows ops m op.tuple s.now unnamed) in
    let agree : AgreeTo parts (k + suc n) known (done ++ s ∷ tail (cold_values rows ops m)) = rw e at w.agree in
    let moved : done ++ s ∷ tail (cold_values rows ops m) ≡ done ++ s ∷ tail (cold_values rows ops next) = ap (λ (vs : List ℤ). done ++ s ∷ tail vs) values in
    let later = rest passes (done ++ s ∷ []) hot next registers (record {
      passes_size = w.passes_size ∙ ap length (hot_ops-cold rows op ops e);
      has = cold_push parts k done hot s w.has (hot_in_switch rows parts k op fits ∙ e);
      shows = shows_cold rows m registers op.tuple s.now ops unnamed w.shows.1;
      agree = next_agrees parts k n known done (tail (cold_values rows ops next)) s (subst (λ (l : List Pair). AgreeTo parts (k + suc n) known l) moved agree);
    }) in
    rw e (moved ∙ sym (append_assoc done (s ∷ []) (tail (cold_values rows ops next))) ∙ later)

serial_walk : (rows : List LayoutRow) (parts : List Part) (known : List Pair) (k : ℕ) (ops : List Op) → HavePlacesOfTheirOwn rows → AllFit rows parts k ops → AreApart ops → RestSerial rows parts known k ops
unfolding serial_from
serial_walk rows parts known k [] own fits apart passes done hot m registers w = append-nil done
serial_walk rows parts known k (op ∷ ops) own fits apart passes done hot m registers w =
    by (is_hot rows op.tuple) refl (serial_walk rows parts known (k + 1) ops own fits.1 apart.1)
  where
    by : (b : Bool) → is_hot rows op.tuple ≡ b → RestSerial rows parts known (k + 1) ops → Serial rows parts known passes (op ∷ ops) done hot m registers
    by true e rest = serial_hot rows parts known k op ops own fits.0 apart.0 rest e passes done hot m registers w
    by false e rest = serial_cold rows parts known k op ops fits.0 apart.0 rest e passes done hot m registers w

pub warm_serial : WarmRepliesAreSerial
warm_serial shape rows client seq ops m registers visit own shows =
    let values = cold_values rows ops m in
    let parts = parts_of rows ops in
    let known = joined rows ops values [] in
    let passes = (plan_of shape (planned_ops rows ops)).passes in
    let hot = hot_pairs rows parts known passes ops [] registers in
    let pairs : (replay (packet_of shape rows client seq ops values) registers).pairs ≡ hot =
    ap (λ (l : List PacketOp). (execute always l [] [] registers).pairs) (packet_ops shape rows client seq ops values) ∙ pairs-execute always (packed rows parts known passes ops) [] [] registers in
    ap (joined rows ops values) pairs ∙ serial_walk rows parts known 0 ops own (all_fit rows ops visit) (apart_from_sound ops visit.script) passes [] [] m registers (record {
      passes_size = length-plan shape rows ops;
      has = starts parts;
      shows = all_show rows m registers ops shows;
      agree = known_agrees rows ops values hot visit;
    })
