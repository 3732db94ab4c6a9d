-- How operations are executed one after another, and what is then known of all of them.
use Rattle.std.proofs.Common.{◌≡◌, ◌≢◌, ℕ, zero, suc, ◌+◌, ◌<◌, ◌≤◌, Bool, true, false, ℤ, ◌+ℤ◌, pos, List, [], ◌∷◌, ◌++◌, take, drop, set, get_or, length, slice_get, None, Some, if◌then◌else◌, refl, sym, ap, ap₂, subst, ◌∙◌, arith, append-nil, append_assoc, below_more, drop_of_length-le, get_or-set_same, get_or-set_other}
use Rattle.std.specs.List.{AllByRecursion}
use Rattle.std.proofs.lemmas.List.{take_more_set, take_all, take-set-le, drop-set-lt, length-set, length-take-le, set-get_or}
use Rattle.std.proofs.lemmas.Option.{slice_get-get_or, slice_get_within}
use Rattle.txn_model.specs.Needs.{needs_list, needs_of}
use Rattle.txn_model.specs.Number.{wrap}
use Rattle.txn_model.specs.ScriptCheck.{script_fault}
use Rattle.txn_model.specs.Serial.{pair_at, pair_of, effect, operand}
use Rattle.txn_model.specs.declared.op.Act.TheVariants.{Read}
use Rattle.txn_model.specs.declared.op.Op.{Op}
use Rattle.txn_model.specs.declared.pairs.Pair.{Pair}
use Rattle.txn_model.proofs.OperandLaws.{drop_at_item}
use Rattle.txn_model.proofs.SerialLaws.{needed-take, sound_needs}
use Rattle.warm_split.specs.Filled.{executed_from, AreExecuted}
use Rattle.warm_split.specs.OpSet.{contains}
use Rattle.warm_split.specs.declared.op_set.OpSet.{OpSet}

-- needs of earlier operations read the pairs before alone
pub made_before : (op : Op) (i : ℕ) (pairs : List Pair) (v : ℤ) → AllByRecursion (λ n. n.from < i) (needs_list op.needs) → pair_of op pairs v ≡ pair_of op (take i pairs) v
unfolding operand
made_before op i pairs v earlier = ap (λ (s : ℤ). record { was = v; now = effect op.act v (wrap (pos 0 +ℤ s)) }) (sym (needed-take (needs_list op.needs) i pairs earlier))

-- what is done, and what the operations that are left make of the rest
abbrev pub whole_from : OpSet → List Op → ℕ → List Pair → List Pair
whole_from set ops i pairs = take i pairs ++ executed_from set (take i pairs) (drop i ops) (drop i pairs)

-- one more operation, which is in the set or not
pub executed_step : (chosen : OpSet) (ops : List Op) (i : ℕ) (op : Op) (pairs : List Pair) (old new : Pair) → slice_get ops i ≡ Some op → slice_get pairs i ≡ Some old → i < length pairs
    → new ≡ (if contains chosen i then pair_of op (take i pairs) old.was else old) → whole_from chosen ops (i + 1) (set pairs i new) ≡ whole_from chosen ops i pairs
executed_step chosen ops i op pairs old new at has lt is =
    let done = take i pairs in
    let later = drop (i + 1) ops in
    let rest = drop (i + 1) pairs in
    let size : length done ≡ i = length-take-le i pairs (omega arith) in
    let go : Pair → List Pair = λ p. p ∷ executed_from chosen (done ++ p ∷ []) later rest in
    let made : Bool → Pair = λ b. if b then pair_of op done old.was else old in
    ap (λ (l : List Pair). l ++ executed_from chosen l later (drop (i + 1) (set pairs i new))) (take_more_set pairs i new lt)
    ∙ ap (λ (l : List Pair). (done ++ new ∷ []) ++ executed_from chosen (done ++ new ∷ []) later l) (drop-set-lt (i + 1) pairs i new (omega arith))
    ∙ append_assoc done (new ∷ []) (executed_from chosen (done ++ new ∷ []) later rest)
    ∙ ap (λ (p : Pair). done ++ go p) (is ∙ ap (λ (k : ℕ). made (contains chosen k)) (sym size))
    ∙ sym (ap (λ (l : List Pair). done ++ executed_from chosen done (op ∷ later) l) (drop_at_item pairs i old has))
    ∙ sym (ap (λ (l : List Op). done ++ executed_from chosen done l (drop i pairs)) (drop_at_item ops i op at))

-- behind the last operation
pub executed_end : (chosen : OpSet) (ops : List Op) (i : ℕ) (pairs : List Pair) → length ops ≤ i → length pairs ≤ i → whole_from chosen ops i pairs ≡ pairs
executed_end chosen ops i pairs past full =
    ap (λ (l : List Op). take i pairs ++ executed_from chosen (take i pairs) l (drop i pairs)) (drop_of_length-le ops past) ∙ append-nil (take i pairs) ∙ take_all i pairs full

-- the operations of the set so far are executed
abbrev pub ExecutedTo : OpSet → List Op → ℕ → List Pair → Type 0
ExecutedTo chosen ops i pairs = (k : ℕ) → k < i → (op : Op) → contains chosen k ≡ true → slice_get ops k ≡ Some op → pair_at pairs k ≡ pair_of op pairs (pair_at pairs k).was

-- in place of an operation that isn't there
abbrev pub no_op : Op
no_op = record { tuple = record { 0 = 0 }; act = Read; needs = needs_of [] }

abbrev zero_pair : Pair
zero_pair = record { was = pos 0; now = pos 0 }

-- a later pair changes none of them
still_executed : (chosen : OpSet) (ops : List Op) (i : ℕ) (pairs : List Pair) (new : Pair) → script_fault ops ≡ None → ExecutedTo chosen ops i pairs → ExecutedTo chosen ops i (set pairs i new)
still_executed chosen ops i pairs new sound done k lt op on at =
    let apart : k ≢ i = omega arith in
    let same : pair_at (set pairs i new) k ≡ pair_at pairs k = get_or-set_other pairs i k new zero_pair apart in
    let earlier = sound_needs ops k op sound at in
    let made : (v : ℤ) → pair_of op (set pairs i new) v ≡ pair_of op pairs v = λ v.
    made_before op k (set pairs i new) v earlier ∙ ap (λ (l : List Pair). pair_of op l v) (take-set-le k pairs i new (omega arith)) ∙ sym (made_before op k pairs v earlier) in
    same ∙ done k lt op on at ∙ ap (λ (p : Pair). pair_of op pairs p.was) (sym same) ∙ sym (made (pair_at (set pairs i new) k).was)

-- the next one is executed
now_executed : (ops : List Op) (i : ℕ) (op : Op) (pairs : List Pair) (new : Pair) → script_fault ops ≡ None → i < length pairs → slice_get ops i ≡ Some op → new ≡ pair_of op pairs (pair_at pairs i).was
    → pair_at (set pairs i new) i ≡ pair_of op (set pairs i new) (pair_at (set pairs i new) i).was
now_executed ops i op pairs new sound lt at is =
    let old = pair_at pairs i in
    let got : pair_at (set pairs i new) i ≡ new = get_or-set_same pairs i new zero_pair lt in
    let earlier = sound_needs ops i op sound at in
    let made : pair_of op (set pairs i new) old.was ≡ pair_of op pairs old.was =
    made_before op i (set pairs i new) old.was earlier ∙ ap (λ (l : List Pair). pair_of op l old.was) (take-set-le i pairs i new (omega arith)) ∙ sym (made_before op i pairs old.was earlier) in
    let found : (pair_at (set pairs i new) i).was ≡ old.was = ap (λ (p : Pair). p.was) (got ∙ is) in
    got ∙ is ∙ sym made ∙ ap (λ (v : ℤ). pair_of op (set pairs i new) v) (sym found)

-- what stands where the operations of the set before operation i are executed
pub record FillsTo (chosen : OpSet) (ops : List Op) (i : ℕ) (pairs whole : List Pair) : Type 0 where
  pub size : length pairs ≡ length ops
  pub all : whole_from chosen ops i pairs ≡ whole
  pub filled : ExecutedTo chosen ops i pairs

pub fill_on : (chosen : OpSet) (ops : List Op) (i : ℕ) (d : Op) (pairs new whole : List Pair) → script_fault ops ≡ None → i < length ops → contains chosen i ≡ true
    → ((o : Op) → slice_get ops i ≡ Some o → new ≡ set pairs i (pair_of o pairs (pair_at pairs i).was)) → FillsTo chosen ops i pairs whole → FillsTo chosen ops (i + 1) new whole
fill_on chosen ops i d pairs new whole sound lt on is had =
    let o = get_or ops i d in
    let at : slice_get ops i ≡ Some o = slice_get-get_or ops i d lt in
    let old = pair_at pairs i in
    let inside : i < length pairs = omega (arith, had.size) in
    let there : slice_get pairs i ≡ Some old = slice_get-get_or pairs i zero_pair inside in
    let made = pair_of o pairs old.was in
    let pair_is : made ≡ (if contains chosen i then pair_of o (take i pairs) old.was else old) =
    made_before o i pairs old.was (sound_needs ops i o sound at) ∙ sym (ap (λ (b : Bool). if b then pair_of o (take i pairs) old.was else old) on) in
    let next : ExecutedTo chosen ops (i + 1) (set pairs i made) =
    below_more (λ k. (op : Op) → contains chosen k ≡ true → slice_get ops k ≡ Some op → pair_at (set pairs i made) k ≡ pair_of op (set pairs i made) (pair_at (set pairs i made) k).was) i
    (still_executed chosen ops i pairs made sound had.filled)
    (λ op used found. let same : o ≡ op = cc (at, found) in now_executed ops i op pairs made sound inside found (ap (λ (x : Op). pair_of x pairs old.was) same)) in
    let e = is o at in
    record {
      size = ap length e ∙ length-set pairs i made ∙ had.size;
      all = ap (whole_from chosen ops (i + 1)) e ∙ executed_step chosen ops i o pairs old made at there inside pair_is ∙ had.all;
      filled = subst (λ (l : List Pair). ExecutedTo chosen ops (i + 1) l) (sym e) next;
    }

pub fill_off : (chosen : OpSet) (ops : List Op) (i : ℕ) (d : Op) (pairs whole : List Pair) → i < length ops → contains chosen i ≡ false → FillsTo chosen ops i pairs whole → FillsTo chosen ops (i + 1) pairs whole
fill_off chosen ops i d pairs whole lt off had =
    let o = get_or ops i d in
    let old = pair_at pairs i in
    let inside : i < length pairs = omega (arith, had.size) in
    let pair_is : old ≡ (if contains chosen i then pair_of o (take i pairs) old.was else old) = sym (ap (λ (b : Bool). if b then pair_of o (take i pairs) old.was else old) off) in
    record {
      size = had.size;
      all = ap (whole_from chosen ops (i + 1)) (sym (set-get_or pairs i zero_pair)) ∙ executed_step chosen ops i o pairs old old (slice_get-get_or ops i d lt) (slice_get-get_or pairs i zero_pair inside) inside pair_is ∙ had.all;
      filled = below_more (λ k. (op : Op) → contains chosen k ≡ true → slice_get ops k ≡ Some op → pair_at pairs k ≡ pair_of op pairs (pair_at pairs k).was) i
          had.filled (λ op on found. let clash : true ≡ false = sym on ∙ off in cc);
    }

pub filled_all : (chosen : OpSet) (ops : List Op) (i : ℕ) (pairs whole : List Pair) → length ops ≤ i → FillsTo chosen ops i pairs whole → AreExecuted chosen ops pairs
filled_all chosen ops i pairs whole past had = record { size = had.size; each = λ k op on at. had.filled k (let lt : k < length ops = slice_get_within ops k op at in omega arith) op on at }
