-- How a reply is joined from pairs whose operations before the switch are executed.
use Rattle.std.proofs.Common.{◌≡◌, ℕ, zero, suc, ◌+◌, ◌<◌, ◌≤◌, Bool, true, false, cond, not, ℤ, pos, List, [], ◌∷◌, ◌++◌, drop, length, slice_get, Some, if◌then◌else◌, refl, sym, ap, ap₂, subst, ◌∙◌, arith, append-nil, append_assoc, below_more}
use Rattle.std.specs.List.{zip, AllByRecursion}
use Rattle.std.proofs.lemmas.List.{length_push, get_or_push, get_or_append_left, get_or-drop, drop-drop}
use Rattle.std.proofs.lemmas.Option.{slice_get_within}
use Rattle.txn_model.specs.Serial.{pair_at, pair_of}
use Rattle.txn_model.specs.declared.op.Op.{Op}
use Rattle.txn_model.specs.declared.pairs.Pair.{Pair}
use Rattle.stage_layout.specs.Late.{Part, Before, Hot, Late, is_hot, is_before, is_in_switch, is_after, part_at, parts_of}
use Rattle.stage_layout.specs.declared.layout.LayoutRow.{LayoutRow}
use Rattle.stage_layout.proofs.LateLaws.{length-parts_of}
use Rattle.warm_split.specs.Filled.{executed_from, executed, AreExecuted}
use Rattle.warm_split.specs.Joined.{joined_from, joined, first_value}
use Rattle.warm_split.specs.OpSet.{contains, members}
use Rattle.warm_split.specs.Parts.{IsHotSet, IsParts}
use Rattle.warm_split.specs.Resolved.{packet_number}
use Rattle.warm_split.specs.Sides.{IsOneVisit, hot_ops, found_values}
use Rattle.warm_split.specs.declared.op_set.OpSet.{OpSet}
use Rattle.warm_split.specs.declared.parts.Parts.{Parts}
use Rattle.warm_split.proofs.JoinedLaws.{hot_in_switch, hot_ops-hot, hot_ops-cold, front_agrees, next_agrees}
use Rattle.warm_split.proofs.KnownPairs.{AgreeTo, joined_hot, joined_cold, same_made, hot_part}
use Rattle.warm_split.proofs.PacketNumbers.{number_suc}
use Rattle.warm_split.proofs.ScriptFits.{OpFits, AllFit, all_fit}
use Rattle.warm_split.proofs.Operands.{only_before}
use Rattle.warm_split.proofs.Sets.{hot_set, after_set, before_set}

abbrev zero_pair : Pair
zero_pair = record { was = pos 0; now = pos 0 }

found_hot : (rows : List LayoutRow) (op : Op) (ops : List Op) (p : Pair) (ps : List Pair) → is_hot rows op.tuple ≡ true → found_values rows (op ∷ ops) (p ∷ ps) ≡ found_values rows ops ps
found_hot rows op ops p ps e = rw e refl

found_cold : (rows : List LayoutRow) (op : Op) (ops : List Op) (p : Pair) (ps : List Pair) → is_hot rows op.tuple ≡ false → found_values rows (op ∷ ops) (p ∷ ps) ≡ p.was ∷ found_values rows ops ps
found_cold rows op ops p ps e = rw e refl

-- ---- numbers

hot_length : (rows : List LayoutRow) (op : Op) (ops : List Op) → length (hot_ops rows (op ∷ ops)) ≡ cond (is_hot rows op.tuple) 1 0 + length (hot_ops rows ops)
hot_length rows op ops = each (is_hot rows op.tuple) (hot_ops rows ops)
  where
    each : (b : Bool) (xs : List Op) → length (cond b (op ∷ xs) xs) ≡ cond b 1 0 + length xs
    each true xs = omega arith
    each false xs = omega arith

count_from : (rows : List LayoutRow) (parts : List Part) (k : ℕ) (ops : List Op) → AllFit rows parts k ops → packet_number parts k + length (hot_ops rows ops) ≡ packet_number parts (k + length ops)
count_from rows parts k [] fits = let e : packet_number parts (k + 0) ≡ packet_number parts k = ap (packet_number parts) {x = k + 0} {y = k} (omega arith) in omega (arith, e)
count_from rows parts k (op ∷ ops) fits =
    let n = length ops in
    let one : cond {A = ℕ} (is_in_switch (part_at parts k)) 1 0 ≡ cond {A = ℕ} (is_hot rows op.tuple) 1 0 = ap (λ (b : Bool). cond {A = ℕ} b 1 0) (hot_in_switch rows parts k op fits.0) in
    let at : packet_number parts (k + 1) ≡ packet_number parts (suc k) = ap (packet_number parts) {x = k + 1} {y = suc k} (omega arith) in
    let end : packet_number parts ((k + 1) + n) ≡ packet_number parts (k + suc n) = ap (packet_number parts) {x = (k + 1) + n} {y = k + suc n} (omega arith) in
    omega (arith, number_suc parts k, one, at, end, count_from rows parts (k + 1) ops fits.1, hot_length rows op ops)

-- a script has as many hot operations as numbers in its packet
pub hot_count : (rows : List LayoutRow) (ops : List Op) → IsOneVisit rows ops → length (hot_ops rows ops) ≡ packet_number (parts_of rows ops) (length ops)
hot_count rows ops visit =
    let e : packet_number (parts_of rows ops) (0 + length ops) ≡ packet_number (parts_of rows ops) (length ops) = ap (packet_number (parts_of rows ops)) {x = 0 + length ops} {y = length ops} (omega arith) in
    omega (arith, e, count_from rows (parts_of rows ops) 0 ops (all_fit rows ops visit))

pub number-members : (parts : List Part) (chosen : OpSet) → IsHotSet parts chosen → (k : ℕ) → packet_number parts k ≡ members chosen k
number-members parts chosen sets zero = refl
number-members parts chosen sets (suc k) =
    number_suc parts k ∙ ap₂ (λ (n : ℕ) (b : Bool). n + cond b 1 0) (number-members parts chosen sets k) (sym (sets k))

-- ---- what is known before the switch agrees with what is joined

push_agrees : (parts : List Part) (k : ℕ) (old done : List Pair) (p : Pair) → length done ≡ k → AgreeTo parts k old done → (is_before (part_at parts k) ≡ true → pair_at old k ≡ p) → AgreeTo parts (k + 1) old (done ++ p ∷ [])
push_agrees parts k old done p size agree this =
    below_more (λ j. is_before (part_at parts j) ≡ true → pair_at old j ≡ pair_at (done ++ p ∷ []) j) k
    (λ j h before. agree j h before ∙ sym (get_or_append_left done (p ∷ []) zero_pair j (omega arith)))
    (λ before. this before ∙ sym (get_or_push done p zero_pair k size))

-- the rest of a script's pairs, of which those before the switch have been executed
pub record AreLeft (parts : List Part) (old : List Pair) (k : ℕ) (ops : List Op) (olds : List Pair) : Type 0 where
  pub size : length olds ≡ length ops
  pub at : (i : ℕ) → pair_at olds i ≡ pair_at old (k + i)
  pub made : (i : ℕ) (op : Op) → slice_get ops i ≡ Some op → is_before (part_at parts (k + i)) ≡ true → pair_at olds i ≡ pair_of op old (pair_at olds i).was

left_more : (parts : List Part) (old : List Pair) (k : ℕ) (op : Op) (ops : List Op) (q : Pair) (olds : List Pair) → AreLeft parts old k (op ∷ ops) (q ∷ olds) → AreLeft parts old (k + 1) ops olds
left_more parts old k op ops q olds left = record {
  size = omega (arith, left.size);
  at = λ i. left.at (suc i) ∙ ap (pair_at old) {x = k + suc i} {y = (k + 1) + i} (omega arith);
  made = λ i o e before. left.made (suc i) o e (ap (λ (j : ℕ). is_before (part_at parts j)) {x = k + suc i} {y = (k + 1) + i} (omega arith) ∙ before);
}

-- what an operation before the switch has left is what it makes of the pairs so far
left_first : (rows : List LayoutRow) (parts : List Part) (old : List Pair) (k : ℕ) (op : Op) (ops : List Op) (q : Pair) (olds done : List Pair) → OpFits rows parts k op → AreLeft parts old k (op ∷ ops) (q ∷ olds) → AgreeTo parts k old done
    → is_before (part_at parts k) ≡ true → q ≡ pair_of op done q.was
left_first rows parts old k op ops q olds done fits left agree before =
    left.made 0 op refl (ap (λ (j : ℕ). is_before (part_at parts j)) {x = k + 0} {y = k} (omega arith) ∙ before) ∙ same_made rows parts k op old done q.was fits agree before

abbrev RestAgrees : List LayoutRow → List Part → List Pair → ℕ → List Op → Type 0
RestAgrees rows parts old k ops = (olds done hot : List Pair) → AreLeft parts old k ops olds → length done ≡ k → AgreeTo parts k old done → AgreeTo parts (k + length ops) old (done ++ joined_from rows done ops (found_values rows ops olds) hot)

agrees_step : (rows : List LayoutRow) (parts : List Part) (old : List Pair) (k : ℕ) (op : Op) (ops : List Op) → OpFits rows parts k op → RestAgrees rows parts old (k + 1) ops
    → (hot_now : Bool) → is_hot rows op.tuple ≡ hot_now → (q : Pair) (olds done hot : List Pair) → AreLeft parts old k (op ∷ ops) (q ∷ olds) → length done ≡ k → AgreeTo parts k old done
    → AgreeTo parts (k + suc (length ops)) old (done ++ joined_from rows done (op ∷ ops) (found_values rows (op ∷ ops) (q ∷ olds)) hot)
agrees_step rows parts old k op ops fits rest true e q olds done hot left size agree =
    let p = pair_at hot 0 in
    let all = rest olds (done ++ p ∷ []) (drop 1 hot) (left_more parts old k op ops q olds left) (length_push done p ∙ ap (λ (n : ℕ). n + 1) size)
    (push_agrees parts k old done p size agree (λ before. absurd (hot_part rows parts k op fits e before))) in
    rw (found_hot rows op ops q olds e, joined_hot rows done op ops (found_values rows ops olds) hot e, ← append_assoc done (p ∷ []) (joined_from rows (done ++ p ∷ []) ops (found_values rows ops olds) (drop 1 hot))) (λ j h. all j (omega arith))
agrees_step rows parts old k op ops fits rest false e q olds done hot left size agree =
    let values = found_values rows ops olds in
    let p = pair_of op done q.was in
    let here : q ≡ pair_at old k = left.at 0 ∙ ap (pair_at old) {x = k + 0} {y = k} (omega arith) in
    let all = rest olds (done ++ p ∷ []) hot (left_more parts old k op ops q olds left) (length_push done p ∙ ap (λ (n : ℕ). n + 1) size)
    (push_agrees parts k old done p size agree (λ before. sym here ∙ left_first rows parts old k op ops q olds done fits left agree before)) in
    rw (found_cold rows op ops q olds e, joined_cold rows done op ops (q.was ∷ values) hot e, ← append_assoc done (p ∷ []) (joined_from rows (done ++ p ∷ []) ops values hot)) (λ j h. all j (omega arith))

agrees_from : (rows : List LayoutRow) (parts : List Part) (old : List Pair) (k : ℕ) (ops : List Op) → AllFit rows parts k ops → RestAgrees rows parts old k ops
agrees_from rows parts old k [] fits olds done hot left size agree = rw (append-nil done) (λ j h. agree j (omega arith))
agrees_from rows parts old k (op ∷ ops) fits [] done hot left size agree = absurd (omega (arith, left.size))
agrees_from rows parts old k (op ∷ ops) fits (q ∷ olds) done hot left size agree =
    agrees_step rows parts old k op ops fits.0 (agrees_from rows parts old (k + 1) ops fits.1) (is_hot rows op.tuple) refl q olds done hot left size agree

all_left : (rows : List LayoutRow) (ops : List Op) (sets : Parts) (old : List Pair) → IsParts rows ops sets → AreExecuted sets.before ops old → AreLeft (parts_of rows ops) old 0 ops old
all_left rows ops sets old are done = record {
  size = done.size;
  at = λ i. ap (pair_at old) {x = i} {y = 0 + i} (omega arith);
  made = λ i op e before.
      let lt : i < length (parts_of rows ops) = omega (arith, slice_get_within ops i op e, length-parts_of rows ops) in
      done.each i op (before_set (parts_of rows ops) sets i are lt ∙ ap (λ (j : ℕ). is_before (part_at (parts_of rows ops) j)) {x = i} {y = 0 + i} (omega arith) ∙ before) e;
}

-- the pairs of the operations before the switch are what is joined of them, whatever the packet answers
pub known_joined : (rows : List LayoutRow) (ops : List Op) (sets : Parts) (old hot : List Pair) → IsOneVisit rows ops → IsParts rows ops sets → AreExecuted sets.before ops old
    → AgreeTo (parts_of rows ops) (0 + length ops) old ([] ++ joined rows ops (found_values rows ops old) hot)
known_joined rows ops sets old hot visit are done =
    agrees_from rows (parts_of rows ops) old 0 ops (all_fit rows ops visit) old [] hot (all_left rows ops sets old are done) refl (λ j h before. absurd (omega arith))

-- ---- joining

-- pairs of which the hot ones are those of the packet, and the others as they were
pub record AreMixed (parts : List Part) (later : OpSet) (old hot mid : List Pair) : Type 0 where
  pub late : (k : ℕ) → contains later k ≡ is_after (part_at parts k)
  pub placed : (k : ℕ) → k < length old → is_in_switch (part_at parts k) ≡ true → pair_at mid k ≡ pair_at hot (packet_number parts k)
  pub others : (k : ℕ) → is_in_switch (part_at parts k) ≡ false → pair_at mid k ≡ pair_at old k

exec_step : (later : OpSet) (done : List Pair) (op : Op) (ops : List Op) (m : Pair) (ms : List Pair) (p : Pair) → (if contains later (length done) then pair_of op done m.was else m) ≡ p
    → executed_from later done (op ∷ ops) (m ∷ ms) ≡ p ∷ executed_from later (done ++ p ∷ []) ops ms
exec_step later done op ops m ms p e = ap (λ (x : Pair). x ∷ executed_from later (done ++ x ∷ []) ops ms) e

-- what is known where the rest is joined
record IsJoin (rows : List LayoutRow) (parts : List Part) (old hot mid : List Pair) (k : ℕ) (ops : List Op) (mids olds done : List Pair) : Type 0 where
  left : AreLeft parts old k ops olds
  mid_size : length mids ≡ length ops
  mid_at : (i : ℕ) → pair_at mids i ≡ pair_at mid (k + i)
  size : length done ≡ k
  within : k + length ops ≡ length old
  agree : AgreeTo parts (k + length ops) old (done ++ joined_from rows done ops (found_values rows ops olds) (drop (packet_number parts k) hot))

abbrev RestJoins : List LayoutRow → List Part → OpSet → List Pair → List Pair → List Pair → ℕ → List Op → Type 0
RestJoins rows parts later old hot mid k ops = (mids olds done : List Pair) → IsJoin rows parts old hot mid k ops mids olds done
    → executed_from later done ops mids ≡ joined_from rows done ops (found_values rows ops olds) (drop (packet_number parts k) hot)

join_more : (rows : List LayoutRow) (parts : List Part) (later : OpSet) (old hot mid : List Pair) (k : ℕ) (op : Op) (ops : List Op) (m q : Pair) (ms qs done : List Pair) (p : Pair) → RestJoins rows parts later old hot mid (k + 1) ops
    → IsJoin rows parts old hot mid k (op ∷ ops) (m ∷ ms) (q ∷ qs) done
    → joined_from rows done (op ∷ ops) (found_values rows (op ∷ ops) (q ∷ qs)) (drop (packet_number parts k) hot) ≡ p ∷ joined_from rows (done ++ p ∷ []) ops (found_values rows ops qs) (drop (packet_number parts (k + 1)) hot)
    → (if contains later (length done) then pair_of op done m.was else m) ≡ p
    → executed_from later done (op ∷ ops) (m ∷ ms) ≡ joined_from rows done (op ∷ ops) (found_values rows (op ∷ ops) (q ∷ qs)) (drop (packet_number parts k) hot)
join_more rows parts later old hot mid k op ops m q ms qs done p rest j whole first =
    let n = length ops in
    let tail = joined_from rows (done ++ p ∷ []) ops (found_values rows ops qs) (drop (packet_number parts (k + 1)) hot) in
    let next = rest ms qs (done ++ p ∷ []) (record {
      left = left_more parts old k op ops q qs j.left;
      mid_size = omega (arith, j.mid_size);
      mid_at = λ i. j.mid_at (suc i) ∙ ap (pair_at mid) {x = k + suc i} {y = (k + 1) + i} (omega arith);
      size = length_push done p ∙ ap (λ (i : ℕ). i + 1) j.size;
      within = omega (arith, j.within);
      agree = next_agrees parts k n old done tail p (subst (λ (l : List Pair). AgreeTo parts (k + suc n) old (done ++ l)) whole j.agree);
    }) in
    exec_step later done op ops m ms p first ∙ ap (λ (l : List Pair). p ∷ l) next ∙ sym whole

chosen_pair : (b : Bool) (x y z : Pair) → (b ≡ true → x ≡ z) → (b ≡ false → y ≡ z) → (if b then x else y) ≡ z
chosen_pair true x y z t f = t refl
chosen_pair false x y z t f = f refl

not_after : (part : Part) → is_in_switch part ≡ true → is_after part ≡ true → ⊥
not_after Before a b = cc
not_after Hot a b = cc
not_after Late a b = cc

join_step : (rows : List LayoutRow) (parts : List Part) (later : OpSet) (old hot mid : List Pair) (k : ℕ) (op : Op) (ops : List Op) → OpFits rows parts k op → AreMixed parts later old hot mid → RestJoins rows parts later old hot mid (k + 1) ops
    → (hot_now : Bool) → is_hot rows op.tuple ≡ hot_now → (m q : Pair) (ms qs done : List Pair) → IsJoin rows parts old hot mid k (op ∷ ops) (m ∷ ms) (q ∷ qs) done
    → executed_from later done (op ∷ ops) (m ∷ ms) ≡ joined_from rows done (op ∷ ops) (found_values rows (op ∷ ops) (q ∷ qs)) (drop (packet_number parts k) hot)
join_step rows parts later old hot mid k op ops fits mixed rest true e m q ms qs done j =
    let n = packet_number parts k in
    let switch : is_in_switch (part_at parts k) ≡ true = hot_in_switch rows parts k op fits ∙ e in
    let one : cond {A = ℕ} (is_in_switch (part_at parts k)) 1 0 ≡ 1 = ap (λ (b : Bool). cond {A = ℕ} b 1 0) switch in
    let up : packet_number parts (k + 1) ≡ packet_number parts (suc k) = ap (packet_number parts) {x = k + 1} {y = suc k} (omega arith) in
    let count : n + 1 ≡ packet_number parts (k + 1) = omega (arith, number_suc parts k, one, up) in
    let p = pair_at (drop n hot) 0 in
    let values = found_values rows ops qs in
    let here : m ≡ pair_at mid k = j.mid_at 0 ∙ ap (pair_at mid) {x = k + 0} {y = k} (omega arith) in
    let mine : pair_at hot n ≡ p = ap (pair_at hot) {x = n} {y = n + 0} (omega arith) ∙ sym (get_or-drop n hot 0 zero_pair) in
    let placed : m ≡ p = here ∙ mixed.placed k (omega (arith, j.within)) switch ∙ mine in
    join_more rows parts later old hot mid k op ops m q ms qs done p rest j
    (ap (λ (vs : List ℤ). joined_from rows done (op ∷ ops) vs (drop n hot)) (found_hot rows op ops q qs e) ∙ joined_hot rows done op ops values (drop n hot) e
    ∙ ap (λ (l : List Pair). p ∷ joined_from rows (done ++ p ∷ []) ops values l) (drop-drop 1 n hot ∙ ap (λ (i : ℕ). drop i hot) count))
    (chosen_pair (contains later (length done)) (pair_of op done m.was) m p (λ late. absurd (not_after (part_at parts k) switch (sym (mixed.late k) ∙ ap (contains later) (sym j.size) ∙ late))) (λ _. placed))
join_step rows parts later old hot mid k op ops fits mixed rest false e m q ms qs done j =
    let n = packet_number parts k in
    let switch : is_in_switch (part_at parts k) ≡ false = hot_in_switch rows parts k op fits ∙ e in
    let none : cond {A = ℕ} (is_in_switch (part_at parts k)) 1 0 ≡ 0 = ap (λ (b : Bool). cond {A = ℕ} b 1 0) switch in
    let up : packet_number parts (k + 1) ≡ packet_number parts (suc k) = ap (packet_number parts) {x = k + 1} {y = suc k} (omega arith) in
    let count : n ≡ packet_number parts (k + 1) = omega (arith, number_suc parts k, none, up) in
    let p = pair_of op done q.was in
    let values = found_values rows ops qs in
    let here : m ≡ q = j.mid_at 0 ∙ ap (pair_at mid) {x = k + 0} {y = k} (omega arith) ∙ mixed.others k switch ∙ sym (j.left.at 0 ∙ ap (pair_at old) {x = k + 0} {y = k} (omega arith)) in
    let front = front_agrees parts k (suc (length ops)) old done _ j.size j.agree in
    join_more rows parts later old hot mid k op ops m q ms qs done p rest j
    (ap (λ (vs : List ℤ). joined_from rows done (op ∷ ops) vs (drop n hot)) (found_cold rows op ops q qs e) ∙ joined_cold rows done op ops (q.was ∷ values) (drop n hot) e
    ∙ ap (λ (i : ℕ). p ∷ joined_from rows (done ++ p ∷ []) ops values (drop i hot)) count)
    (chosen_pair (contains later (length done)) (pair_of op done m.was) m p (λ _. ap (λ (x : Pair). pair_of op done x.was) here)
    (λ early. here ∙ left_first rows parts old k op ops q qs done fits j.left front
    (only_before (part_at parts k) switch (sym (mixed.late k) ∙ ap (contains later) (sym j.size) ∙ early))))

join_from : (rows : List LayoutRow) (parts : List Part) (later : OpSet) (old hot mid : List Pair) (k : ℕ) (ops : List Op) → AllFit rows parts k ops → AreMixed parts later old hot mid → RestJoins rows parts later old hot mid k ops
join_from rows parts later old hot mid k [] fits mixed mids olds done j = refl
join_from rows parts later old hot mid k (op ∷ ops) fits mixed [] olds done j = absurd (omega (arith, j.mid_size))
join_from rows parts later old hot mid k (op ∷ ops) fits mixed (m ∷ ms) [] done j = absurd (omega (arith, j.left.size))
join_from rows parts later old hot mid k (op ∷ ops) fits mixed (m ∷ ms) (q ∷ qs) done j =
    join_step rows parts later old hot mid k op ops fits.0 mixed (join_from rows parts later old hot mid (k + 1) ops fits.1 mixed) (is_hot rows op.tuple) refl m q ms qs done j

-- the late operations, executed behind the hot pairs, make the joined reply
pub join_all : (rows : List LayoutRow) (ops : List Op) (sets : Parts) (old hot mid : List Pair) → IsOneVisit rows ops → IsParts rows ops sets → AreExecuted sets.before ops old → length mid ≡ length old
    → ((k : ℕ) → k < length old → contains sets.hot k ≡ true → pair_at mid k ≡ pair_at hot (members sets.hot k)) → ((k : ℕ) → contains sets.hot k ≡ false → pair_at mid k ≡ pair_at old k)
    → executed sets.after ops mid ≡ joined rows ops (found_values rows ops old) hot
join_all rows ops sets old hot mid visit are done size placed others =
    let parts = parts_of rows ops in
    let in_hot = hot_set parts sets are in
    join_from rows parts sets.after old hot mid 0 ops (all_fit rows ops visit) (record {
      late = after_set parts sets are;
      placed = λ k lt on. placed k lt (in_hot k ∙ on) ∙ ap (pair_at hot) (sym (number-members parts sets.hot in_hot k));
      others = λ k off. others k (in_hot k ∙ off);
    }) mid old [] (record {
      left = all_left rows ops sets old are done;
      mid_size = size ∙ done.size;
      mid_at = λ i. ap (pair_at mid) {x = i} {y = 0 + i} (omega arith);
      size = refl;
      within = omega (arith, done.size);
      agree = known_joined rows ops sets old hot visit are done;
    })
