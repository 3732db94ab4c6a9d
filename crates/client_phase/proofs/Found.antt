-- The pairs of a client that takes locks: what it read, and what its operations before the switch leave.
use Rattle.std.proofs.Common.{◌≡◌, ℕ, zero, suc, ◌+◌, ◌<◌, ◌==◌, ◌||◌, Bool, true, false, not, ℤ, pos, List, [], ◌∷◌, ◌++◌, drop, set, get_or, replicate, length, slice_get, None, Some, if◌then◌else◌, refl, sym, ap, ap₂, subst, ◌∙◌, arith}
use Rattle.std.specs.List.{list_any, AllByRecursion}
use Rattle.std.proofs.lemmas.Bool.Decides.{nat_tests}
use Rattle.std.proofs.lemmas.List.{length_push}
use Rattle.std.proofs.lemmas.Option.{get_or_from_slice_get}
use Rattle.txn_model.specs.Needs.{needs_list}
use Rattle.txn_model.specs.ScriptCheck.{script_fault}
use Rattle.txn_model.specs.Serial.{pair_at, pair_of}
use Rattle.txn_model.specs.declared.op.Need.{Need}
use Rattle.txn_model.specs.declared.op.Op.{Op}
use Rattle.txn_model.specs.declared.pairs.Pair.{Pair}
use Rattle.txn_model.specs.declared.stamp.Seen.{Seen}
use Rattle.stage_layout.specs.Late.{Part, Before, Hot, Late, is_hot, is_before, is_in_switch, part_at, parts_of, parts_behind, next_part}
use Rattle.stage_layout.specs.declared.layout.LayoutRow.{LayoutRow}
use Rattle.stage_layout.proofs.LateLaws.{length-parts_of}
use Rattle.warm_split.specs.Filled.{executed, executed_from, AreExecuted}
use Rattle.warm_split.specs.Joined.{joined, joined_from}
use Rattle.warm_split.specs.OpSet.{contains}
use Rattle.warm_split.specs.Parts.{IsParts}
use Rattle.warm_split.specs.Sides.{found_values}
use Rattle.warm_split.specs.declared.op_set.OpSet.{OpSet}
use Rattle.warm_split.specs.declared.parts.Parts.{Parts}
use Rattle.warm_split.proofs.FilledLaws.{no_op, FillsTo, fill_on, fill_off, filled_all, executed_end}
use Rattle.warm_split.proofs.JoinedLaws.{in_switch_at}
use Rattle.warm_split.proofs.Sets.{before_set}
use Rattle.core_model.specs.Locks.{cold_ops}
use Rattle.fabric_model.specs.Intents.{values_of}
use Rattle.client_phase.specs.ColdNumbers.{numbers_from}
use Rattle.client_phase.specs.Shown.{zero_pair, first_found, found_pairs, filled_from, filled, taking_pairs}
use Rattle.client_phase.proofs.Chosen.{Chosen, none-unchosen}

-- there is a pair for each operation
pub length-found : (rows : List LayoutRow) (ops : List Op) (noted : List Seen) → length (found_pairs rows ops noted) ≡ length ops
length-found rows [] noted = refl
length-found rows (op ∷ ops) noted = by (is_hot rows op.tuple) (found_pairs rows ops noted) (found_pairs rows ops (drop 1 noted)) (length-found rows ops noted) (length-found rows ops (drop 1 noted))
  where
    by : (b : Bool) (same later : List Pair) → length same ≡ length ops → length later ≡ length ops → length (if b then zero_pair ∷ same else first_found noted ∷ later) ≡ suc (length ops)
    by true same later e f = ap suc e
    by false same later e f = ap suc f

pub length-filled : (parts : List Part) (done : List Pair) (ops : List Op) (pairs : List Pair) → length pairs ≡ length ops → length (filled_from parts done ops pairs) ≡ length ops
length-filled parts done [] pairs size = refl
length-filled parts done (op ∷ ops) [] size = absurd (omega (arith, size))
length-filled parts done (op ∷ ops) (p ∷ ps) size =
    let pair = if is_before (part_at parts (length done)) then pair_of op done p.was else p in
    ap suc (length-filled parts (done ++ pair ∷ []) ops ps (omega (arith, size)))

-- before the first lock they are zeros
pub found-none : (rows : List LayoutRow) (ops : List Op) → replicate (length ops) zero_pair ≡ found_pairs rows ops []
found-none rows [] = refl
found-none rows (op ∷ ops) = by (is_hot rows op.tuple) (found_pairs rows ops []) (found-none rows ops)
  where
    by : (b : Bool) (later : List Pair) → replicate (length ops) zero_pair ≡ later → replicate (suc (length ops)) zero_pair ≡ (if b then zero_pair ∷ later else zero_pair ∷ later)
    by true later e = ap (λ (l : List Pair). zero_pair ∷ l) e
    by false later e = ap (λ (l : List Pair). zero_pair ∷ l) e

abbrev read_pair : Seen → Pair
read_pair seen = record { was = seen.value; now = pos 0 }

-- one lock more: the pair at its number has what was read with it
abbrev FindsMore : ℕ → List ℕ → ℕ → (before after : List Pair) → Seen → Type 0
FindsMore k numbers j before after seen = (m : ℕ) × (get_or numbers j 0 ≡ k + m) × (set before m (read_pair seen) ≡ after)

found-more : (rows : List LayoutRow) (chosen : OpSet) (k : ℕ) (ops : List Op) (noted : List Seen) (seen : Seen) → Chosen (λ op. is_hot rows op.tuple) chosen k ops → length noted < length (numbers_from chosen k ops)
    → FindsMore k (numbers_from chosen k ops) (length noted) (found_pairs rows ops noted) (found_pairs rows ops (noted ++ seen ∷ [])) seen
found-more rows chosen k [] noted seen all lt = absurd (omega arith)
found-more rows chosen k (op ∷ ops) noted seen all lt =
    by (contains chosen k) (is_hot rows op.tuple) all.0 (numbers_from chosen (k + 1) ops) (λ l h. found-more rows chosen (k + 1) ops l seen all.1 h) noted lt
  where
    by : (a b : Bool) → a ≡ b → (rest : List ℕ) → ((l : List Seen) → length l < length rest → FindsMore (k + 1) rest (length l) (found_pairs rows ops l) (found_pairs rows ops (l ++ seen ∷ [])) seen) → (l : List Seen)
        → length l < length (if a then rest else k ∷ rest)
        → FindsMore k (if a then rest else k ∷ rest) (length l) (if b then zero_pair ∷ found_pairs rows ops l else first_found l ∷ found_pairs rows ops (drop 1 l))
        (if b then zero_pair ∷ found_pairs rows ops (l ++ seen ∷ []) else first_found (l ++ seen ∷ []) ∷ found_pairs rows ops (drop 1 (l ++ seen ∷ []))) seen
    by true true e rest each l h = let has = each l h in (suc has.0, omega (arith, has.1), ap (λ (ps : List Pair). zero_pair ∷ ps) has.2)
    by false false e rest each [] h = (0, omega arith, refl)
    by false false e rest each (s ∷ l) h = let has = each l (omega (arith, h)) in (suc has.0, omega (arith, has.1), ap (λ (ps : List Pair). read_pair s ∷ ps) has.2)
    by true false e rest each l h = cc
    by false true e rest each l h = cc

pub found-at : (rows : List LayoutRow) (chosen : OpSet) (ops : List Op) (noted : List Seen) (seen : Seen) → Chosen (λ op. is_hot rows op.tuple) chosen 0 ops → length noted < length (numbers_from chosen 0 ops)
    → set (found_pairs rows ops noted) (get_or (numbers_from chosen 0 ops) (length noted) 0) (read_pair seen) ≡ found_pairs rows ops (noted ++ seen ∷ [])
found-at rows chosen ops noted seen all lt =
    let has = found-more rows chosen 0 ops noted seen all lt in
    let same : get_or (numbers_from chosen 0 ops) (length noted) 0 ≡ has.0 = omega (arith, has.1) in
    ap (λ (m : ℕ). set (found_pairs rows ops noted) m (read_pair seen)) same ∙ has.2

-- the operations before the switch are those of their set
filled-executed : (parts : List Part) (chosen : OpSet) (done : List Pair) (ops : List Op) (pairs : List Pair) → ((i : ℕ) → i < length done + length ops → contains chosen i ≡ is_before (part_at parts i)) → executed_from chosen done ops pairs ≡ filled_from parts done ops pairs
filled-executed parts chosen done [] pairs same = refl
filled-executed parts chosen done (op ∷ ops) [] same = refl
filled-executed parts chosen done (op ∷ ops) (p ∷ ps) same =
    let made : Bool → Pair = λ b. if b then pair_of op done p.was else p in
    let pair = made (is_before (part_at parts (length done))) in
    ap (λ (b : Bool). made b ∷ executed_from chosen (done ++ made b ∷ []) ops ps) (same (length done) (omega arith))
    ∙ ap (λ (l : List Pair). pair ∷ l) (filled-executed parts chosen (done ++ pair ∷ []) ops ps (λ i h. same i (omega (arith, h, length_push done pair))))

pub executed-filled : (rows : List LayoutRow) (ops : List Op) (parts : Parts) (pairs : List Pair) → IsParts rows ops parts → executed parts.before ops pairs ≡ filled rows ops pairs
executed-filled rows ops parts pairs sets =
    filled-executed (parts_of rows ops) parts.before [] ops pairs (λ i h. before_set (parts_of rows ops) parts i sets (omega (arith, h, length-parts_of rows ops)))

-- they are then executed
fills : (chosen : OpSet) (ops : List Op) (n i : ℕ) (pairs whole : List Pair) → script_fault ops ≡ None → i + n ≡ length ops → FillsTo chosen ops i pairs whole → AreExecuted chosen ops whole
fills chosen ops zero i pairs whole sound end had =
    let same : pairs ≡ whole = sym (executed_end chosen ops i pairs (omega (arith, end)) (omega (arith, end, had.size))) ∙ had.all in
    subst (λ (l : List Pair). AreExecuted chosen ops l) same (filled_all chosen ops i pairs whole (omega (arith, end)) had)
fills chosen ops (suc n) i pairs whole sound end had =
    by (contains chosen i) refl (λ new next. fills chosen ops n (i + 1) new whole sound (omega (arith, end)) next)
  where
    op : Op
    op = get_or ops i no_op

    by : (b : Bool) → contains chosen i ≡ b → ((new : List Pair) → FillsTo chosen ops (i + 1) new whole → AreExecuted chosen ops whole) → AreExecuted chosen ops whole
    by true on rest =
        rest (set pairs i (pair_of op pairs (pair_at pairs i).was)) (fill_on chosen ops i no_op pairs (set pairs i (pair_of op pairs (pair_at pairs i).was)) whole sound (omega (arith, end)) on (λ o at. ap (λ (q : Op). set pairs i (pair_of q pairs (pair_at pairs i).was)) (get_or_from_slice_get ops i o no_op at)) had)
    by false off rest = rest pairs (fill_off chosen ops i no_op pairs whole (omega (arith, end)) off had)

pub executed_are : (chosen : OpSet) (ops : List Op) (pairs : List Pair) → script_fault ops ≡ None → length pairs ≡ length ops → AreExecuted chosen ops (executed chosen ops pairs)
executed_are chosen ops pairs sound size =
    fills chosen ops (length ops) 0 pairs (executed chosen ops pairs) sound (omega arith) (record { size = size; all = refl; filled = λ k lt. absurd (omega (arith, lt)) })

-- what the operations on hosts found stays
values_of_two : (rows : List LayoutRow) (op : Op) (ops : List Op) (p q : Pair) (ps qs : List Pair) → p.was ≡ q.was → found_values rows ops ps ≡ found_values rows ops qs → found_values rows (op ∷ ops) (p ∷ ps) ≡ found_values rows (op ∷ ops) (q ∷ qs)
values_of_two rows op ops p q ps qs same rest = by (is_hot rows op.tuple) refl
  where
    by : (b : Bool) → is_hot rows op.tuple ≡ b → found_values rows (op ∷ ops) (p ∷ ps) ≡ found_values rows (op ∷ ops) (q ∷ qs)
    by true e = rw e rest
    by false e = rw e (ap₂ (λ (v : ℤ) (l : List ℤ). v ∷ l) same rest)

filled_finds : (rows : List LayoutRow) (parts : List Part) (done : List Pair) (ops : List Op) (pairs : List Pair) → length pairs ≡ length ops → found_values rows ops (filled_from parts done ops pairs) ≡ found_values rows ops pairs
filled_finds rows parts done [] pairs size = refl
filled_finds rows parts done (op ∷ ops) [] size = absurd (omega (arith, size))
filled_finds rows parts done (op ∷ ops) (p ∷ ps) size =
    let pair = if is_before (part_at parts (length done)) then pair_of op done p.was else p in
    values_of_two rows op ops pair p (filled_from parts (done ++ pair ∷ []) ops ps) ps (by (is_before (part_at parts (length done)))) (filled_finds rows parts (done ++ pair ∷ []) ops ps (omega (arith, size)))
  where
    by : (b : Bool) → (if b then pair_of op done p.was else p).was ≡ p.was
    by true = refl
    by false = refl

values_hot : (rows : List LayoutRow) (op : Op) (ops : List Op) (p : Pair) (ps : List Pair) → is_hot rows op.tuple ≡ true → found_values rows (op ∷ ops) (p ∷ ps) ≡ found_values rows ops ps
values_hot rows op ops p ps e = rw e refl

values_cold : (rows : List LayoutRow) (op : Op) (ops : List Op) (p : Pair) (ps : List Pair) → is_hot rows op.tuple ≡ false → found_values rows (op ∷ ops) (p ∷ ps) ≡ p.was ∷ found_values rows ops ps
values_cold rows op ops p ps e = rw e refl

found_finds : (rows : List LayoutRow) (ops : List Op) (noted : List Seen) → length noted ≡ length (cold_ops rows ops) → found_values rows ops (found_pairs rows ops noted) ≡ values_of noted
found_finds rows [] [] all = refl
found_finds rows [] (seen ∷ noted) all = absurd (omega (arith, all))
found_finds rows (op ∷ ops) noted all = by (is_hot rows op.tuple) refl noted all (λ l h. found_finds rows ops l h)
  where
    by : (b : Bool) → is_hot rows op.tuple ≡ b → (l : List Seen) → length l ≡ length (cold_ops rows (op ∷ ops)) → ((r : List Seen) → length r ≡ length (cold_ops rows ops) → found_values rows ops (found_pairs rows ops r) ≡ values_of r)
        → found_values rows (op ∷ ops) (found_pairs rows (op ∷ ops) l) ≡ values_of l
    by true e l h rest =
        ap (λ (b : Bool). found_values rows (op ∷ ops) (if b then zero_pair ∷ found_pairs rows ops l else first_found l ∷ found_pairs rows ops (drop 1 l))) e
        ∙ values_hot rows op ops zero_pair (found_pairs rows ops l) e
        ∙ rest l (rw e at h)
    by false e [] h rest = absurd (let none : 0 ≡ suc (length (cold_ops rows ops)) = rw e at h in omega (arith, none))
    by false e (seen ∷ l) h rest =
        ap (λ (b : Bool). found_values rows (op ∷ ops) (if b then zero_pair ∷ found_pairs rows ops (seen ∷ l) else read_pair seen ∷ found_pairs rows ops l)) e
        ∙ values_cold rows op ops (read_pair seen) (found_pairs rows ops l) e
        ∙ ap (λ (vs : List ℤ). seen.value ∷ vs) (rest l (let more : suc (length l) ≡ suc (length (cold_ops rows ops)) = rw e at h in omega (arith, more)))

pub all_found : (rows : List LayoutRow) (ops : List Op) (noted : List Seen) → length noted ≡ length (cold_ops rows ops) → found_values rows ops (filled rows ops (found_pairs rows ops noted)) ≡ values_of noted
all_found rows ops noted all = filled_finds rows (parts_of rows ops) [] ops (found_pairs rows ops noted) (length-found rows ops noted) ∙ found_finds rows ops noted all

-- where no operation is before the switch the pairs stay
abbrev NoneBefore : List Part → ℕ → List Op → Type 0
NoneBefore parts k [] = Unit {0}
NoneBefore parts k (op ∷ ops) = (is_before (part_at parts k) ≡ false) × NoneBefore parts (k + 1) ops

none_before : (parts : List Part) (k : ℕ) (ops : List Op) → ((i : ℕ) (op : Op) → slice_get ops i ≡ Some op → is_before (part_at parts (k + i)) ≡ false) → NoneBefore parts k ops
none_before parts k [] each = tt
none_before parts k (op ∷ ops) each = (
  subst (λ (n : ℕ). is_before (part_at parts n) ≡ false) {x = k + 0} (omega arith) (each zero op refl),
  none_before parts (k + 1) ops (λ i o e. subst (λ (n : ℕ). is_before (part_at parts n) ≡ false) {x = k + suc i} (omega arith) (each (suc i) o e)),
)

filled_stays : (parts : List Part) (k : ℕ) (done : List Pair) (ops : List Op) (pairs : List Pair) → length done ≡ k → length pairs ≡ length ops → NoneBefore parts k ops → filled_from parts done ops pairs ≡ pairs
filled_stays parts k done [] [] at size none = refl
filled_stays parts k done [] (p ∷ ps) at size none = absurd (omega (arith, size))
filled_stays parts k done (op ∷ ops) [] at size none = refl
filled_stays parts k done (op ∷ ops) (p ∷ ps) at size none =
    let made : Bool → Pair = λ b. if b then pair_of op done p.was else p in
    let here : is_before (part_at parts (length done)) ≡ false = ap (λ (n : ℕ). is_before (part_at parts n)) at ∙ none.0 in
    ap (λ (b : Bool). made b ∷ filled_from parts (done ++ made b ∷ []) ops ps) here
    ∙ ap (λ (l : List Pair). p ∷ l) (filled_stays parts (k + 1) (done ++ p ∷ []) ops ps (length_push done p ∙ ap (λ (n : ℕ). n + 1) at) (omega (arith, size)) none.1)

switch_part : (part : Part) → is_in_switch part ≡ true → is_before part ≡ false
switch_part Before e = cc
switch_part Hot e = refl
switch_part Late e = cc

-- so it is where all are in the switch
pub filled_hot : (rows : List LayoutRow) (ops : List Op) (pairs : List Pair) → length (cold_ops rows ops) ≡ 0 → length pairs ≡ length ops → filled rows ops pairs ≡ pairs
filled_hot rows ops pairs none size =
    filled_stays (parts_of rows ops) 0 [] ops pairs refl size
    (none_before (parts_of rows ops) 0 ops (λ i op e. subst (λ (n : ℕ). is_before (part_at (parts_of rows ops) n) ≡ false) {x = i} (omega arith) (switch_part (part_at (parts_of rows ops) i) (in_switch_at rows ops i op e ∙ none-unchosen (λ (o : Op). is_hot rows o.tuple) ops i op none e))))

-- where all are on hosts each is before the switch
abbrev AreBefore : List Part → Type 0
AreBefore parts = AllByRecursion (λ part. is_before part ≡ true) parts

before_at : (parts : List Part) (k : ℕ) → AreBefore parts → is_before (part_at parts k) ≡ true
before_at [] k all = refl
before_at (part ∷ parts) zero all = all.0
before_at (part ∷ parts) (suc k) all = before_at parts k all.1

before_push : (parts : List Part) (part : Part) → AreBefore parts → is_before part ≡ true → AreBefore (parts ++ part ∷ [])
before_push [] part all e = (e, tt)
before_push (first ∷ parts) part all e = (all.0, before_push parts part all.1 e)

no_need : (parts : List Part) (needs : List Need) → AreBefore parts → list_any (λ n. not (is_before (part_at parts n.from))) needs ≡ false
no_need parts [] all = refl
no_need parts (n ∷ needs) all = ap₂ (λ (a b : Bool). not a || b) (before_at parts n.from all) (no_need parts needs all)

abbrev AreCold : List LayoutRow → List Op → Type 0
AreCold rows ops = AllByRecursion (λ op. is_hot rows op.tuple ≡ false) ops

parts_cold : (rows : List LayoutRow) (parts : List Part) (ops : List Op) → AreCold rows ops → AreBefore parts → AreBefore (parts_behind rows parts ops)
parts_cold rows parts [] cold all = all
parts_cold rows parts (op ∷ ops) cold all =
    let this : is_before (next_part rows parts op) ≡ true = ap₂ (λ (a b : Bool). is_before (if a then Hot else (if b then Late else Before))) cold.0 (no_need parts (needs_list op.needs) all) in
    parts_cold rows (parts ++ next_part rows parts op ∷ []) ops cold.1 (before_push parts (next_part rows parts op) all this)

cold_joined : (rows : List LayoutRow) (parts : List Part) (done : List Pair) (ops : List Op) (noted : List Seen) → AreBefore parts → AreCold rows ops → length noted ≡ length ops
    → filled_from parts done ops (found_pairs rows ops noted) ≡ joined_from rows done ops (values_of noted) []
cold_joined rows parts done [] noted before cold all = refl
cold_joined rows parts done (op ∷ ops) [] before cold all = absurd (omega (arith, all))
cold_joined rows parts done (op ∷ ops) (seen ∷ noted) before cold all =
    let p = read_pair seen in
    let pair = pair_of op done seen.value in
    let rest = found_pairs rows ops noted in
    ap (λ (b : Bool). filled_from parts done (op ∷ ops) (if b then zero_pair ∷ found_pairs rows ops (seen ∷ noted) else p ∷ rest)) cold.0
    ∙ ap (λ (b : Bool). (if b then pair else p) ∷ filled_from parts (done ++ (if b then pair else p) ∷ []) ops rest) (before_at parts (length done) before)
    ∙ ap (λ (l : List Pair). pair ∷ l) (cold_joined rows parts (done ++ pair ∷ []) ops noted before cold.1 (omega (arith, all)))
    ∙ sym (ap (λ (b : Bool). if b then pair_at [] 0 ∷ joined_from rows (done ++ pair_at [] 0 ∷ []) ops (seen.value ∷ values_of noted) (drop 1 []) else pair ∷ joined_from rows (done ++ pair ∷ []) ops (values_of noted) []) cold.0)

or_none : (a b : Bool) → (a || b) ≡ false → (a ≡ false) × (b ≡ false)
or_none true b e = cc
or_none false b e = (refl, e)

are_cold : (rows : List LayoutRow) (ops : List Op) → list_any (λ op. is_hot rows op.tuple) ops ≡ false → AreCold rows ops
are_cold rows [] e = tt
are_cold rows (op ∷ ops) e = let two = or_none (is_hot rows op.tuple) (list_any (λ o. is_hot rows o.tuple) ops) e in (two.0, are_cold rows ops two.1)

count_cold : (rows : List LayoutRow) (ops : List Op) → AreCold rows ops → length (cold_ops rows ops) ≡ length ops
count_cold rows [] cold = refl
count_cold rows (op ∷ ops) cold = rw cold.0 (ap suc (count_cold rows ops cold.1))

-- the pairs of such a script are its reply
pub filled_cold : (rows : List LayoutRow) (ops : List Op) (noted : List Seen) → list_any (λ op. is_hot rows op.tuple) ops ≡ false → length noted ≡ length (cold_ops rows ops) → filled rows ops (found_pairs rows ops noted) ≡ joined rows ops (values_of noted) []
filled_cold rows ops noted none all =
    let cold = are_cold rows ops none in
    cold_joined rows (parts_of rows ops) [] ops noted (parts_cold rows [] ops cold tt) cold (all ∙ count_cold rows ops cold)

apart : (a b : ℕ) → a < b → (a == b) ≡ false
apart a b lt = grind (arith, nat_tests)

alike : (a b : ℕ) → a ≡ b → (a == b) ≡ true
alike a b e = grind (arith, nat_tests)

-- before the last lock there is what was read
pub taking-some : (rows : List LayoutRow) (ops : List Op) (noted : List Seen) → length noted < length (cold_ops rows ops) → taking_pairs rows ops noted ≡ found_pairs rows ops noted
taking-some rows ops noted lt = ap (λ (b : Bool). if b then filled rows ops (found_pairs rows ops noted) else found_pairs rows ops noted) (apart (length noted) (length (cold_ops rows ops)) lt)

-- and then also what the operations before the switch leave
pub taking-all : (rows : List LayoutRow) (ops : List Op) (noted : List Seen) → length noted ≡ length (cold_ops rows ops) → taking_pairs rows ops noted ≡ filled rows ops (found_pairs rows ops noted)
taking-all rows ops noted e = ap (λ (b : Bool). if b then filled rows ops (found_pairs rows ops noted) else found_pairs rows ops noted) (alike (length noted) (length (cold_ops rows ops)) e)

pub length-taking : (rows : List LayoutRow) (ops : List Op) (noted : List Seen) → length (taking_pairs rows ops noted) ≡ length ops
length-taking rows ops noted = by (length noted == length (cold_ops rows ops))
  where
    by : (b : Bool) → length (if b then filled rows ops (found_pairs rows ops noted) else found_pairs rows ops noted) ≡ length ops
    by true = length-filled (parts_of rows ops) [] ops (found_pairs rows ops noted) (length-found rows ops noted)
    by false = length-found rows ops noted
