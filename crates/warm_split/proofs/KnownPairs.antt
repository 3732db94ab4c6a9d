-- The pairs of the operations before the switch are known before the packet's.
use Rattle.std.proofs.Common.{◌≡◌, ℕ, suc, ◌+◌, ◌<◌, Bool, true, false, not, ◌||◌, ℤ, pos, ◌+ℤ◌, List, [], ◌∷◌, ◌++◌, drop, length, if◌then◌else◌, refl, sym, ap, ap₂, subst, ◌∙◌, arith, append_assoc, append-nil, below_more}
use Rattle.std.specs.List.{list_any, AllByRecursion}
use Rattle.std.proofs.lemmas.List.{length_push, get_or_push, get_or_append_left}
use Rattle.txn_model.specs.Number.{wrap}
use Rattle.txn_model.specs.Needs.{needs_list}
use Rattle.txn_model.specs.Serial.{needed, part_of, pair_at, operand, effect, pair_of}
use Rattle.txn_model.specs.declared.op.Need.{Need}
use Rattle.txn_model.specs.declared.op.Op.{Op}
use Rattle.txn_model.specs.declared.pairs.Pair.{Pair}
use Rattle.stage_layout.specs.Late.{Part, Before, Hot, Late, is_hot, is_before, part_at, next_part}
use Rattle.stage_layout.specs.declared.layout.LayoutRow.{LayoutRow}
use Rattle.warm_split.specs.Joined.{joined_from, first_value}
use Rattle.warm_split.proofs.ScriptFits.{OpFits, AllFit}

-- both have the same pairs at the first k operations before the switch
abbrev pub AgreeTo : List Part → ℕ → List Pair → List Pair → Type 0
AgreeTo parts k a b = (j : ℕ) → j < k → is_before (part_at parts j) ≡ true → pair_at a j ≡ pair_at b j

pub split_or : (a b : Bool) → (a || b) ≡ false → (a ≡ false) × (b ≡ false)
split_or true b h = cc
split_or false b h = (refl, h)

not_false : (b : Bool) → not b ≡ false → b ≡ true
not_false true h = refl
not_false false h = cc

pub same_needed : (parts : List Part) (k : ℕ) (a b : List Pair) → AgreeTo parts k a b → (ns : List Need) → AllByRecursion (λ n. n.from < k) ns
    → list_any (λ n. not (is_before (part_at parts n.from))) ns ≡ false → needed ns a ≡ needed ns b
same_needed parts k a b agree [] earlier none = refl
same_needed parts k a b agree (n ∷ ns) earlier none =
    let parted = split_or (not (is_before (part_at parts n.from))) (list_any (λ n. not (is_before (part_at parts n.from))) ns) none in
    ap₂ (λ (p : Pair) (z : ℤ). part_of n.which p +ℤ z) (agree n.from earlier.0 (not_false (is_before (part_at parts n.from)) parted.0)) (same_needed parts k a b agree ns earlier.1 parted.1)

pub agree_push : (parts : List Part) (k : ℕ) (a b : List Pair) (p q : Pair) → length a ≡ k → length b ≡ k → AgreeTo parts k a b → (is_before (part_at parts k) ≡ true → p ≡ q) → AgreeTo parts (k + 1) (a ++ p ∷ []) (b ++ q ∷ [])
agree_push parts k a b p q la lb agree same =
    let d : Pair = record { was = pos 0; now = pos 0 } in
    below_more (λ j. is_before (part_at parts j) ≡ true → pair_at (a ++ p ∷ []) j ≡ pair_at (b ++ q ∷ []) j) k
    (λ j h before. get_or_append_left a (p ∷ []) d j (omega arith) ∙ agree j h before ∙ sym (get_or_append_left b (q ∷ []) d j (omega arith)))
    (λ before. get_or_push a p d k la ∙ same before ∙ sym (get_or_push b q d k lb))

-- a part before the switch is that of an operation on a host which needs no other
pub part_before : (hot needy : Bool) → is_before (if hot then Hot else (if needy then Late else Before)) ≡ true → (hot ≡ false) × (needy ≡ false)
part_before true needy h = cc
part_before false true h = cc
part_before false false h = (refl, refl)

-- an operation before the switch makes the same pair of both
pub same_made : (rows : List LayoutRow) (parts : List Part) (k : ℕ) (op : Op) (a b : List Pair) (v : ℤ) → OpFits rows parts k op → AgreeTo parts k a b → is_before (part_at parts k) ≡ true → pair_of op a v ≡ pair_of op b v
unfolding operand
same_made rows parts k op a b v fits agree before =
    let ns = needs_list op.needs in
    let needy = list_any (λ n. not (is_before (part_at parts n.from))) ns in
    let none = part_before (is_hot rows op.tuple) needy (ap is_before (sym fits.part) ∙ before) in
    ap (λ (z : ℤ). record { was = v; now = effect op.act v (wrap (pos 0 +ℤ z)) }) (same_needed parts k a b agree ns fits.earlier none.1)

-- one operation of a joined reply, in the switch or on a host
pub joined_hot : (rows : List LayoutRow) (done : List Pair) (op : Op) (ops : List Op) (values : List ℤ) (hot : List Pair) → is_hot rows op.tuple ≡ true
    → joined_from rows done (op ∷ ops) values hot ≡ pair_at hot 0 ∷ joined_from rows (done ++ pair_at hot 0 ∷ []) ops values (drop 1 hot)
joined_hot rows done op ops values hot e = rw e refl

pub joined_cold : (rows : List LayoutRow) (done : List Pair) (op : Op) (ops : List Op) (values : List ℤ) (hot : List Pair) → is_hot rows op.tuple ≡ false
    → joined_from rows done (op ∷ ops) values hot ≡ pair_of op done (first_value values) ∷ joined_from rows (done ++ pair_of op done (first_value values) ∷ []) ops (drop 1 values) hot
joined_cold rows done op ops values hot e = rw e refl

-- the part of an operation on a hot tuple isn't before the switch
pub hot_part : (rows : List LayoutRow) (parts : List Part) (k : ℕ) (op : Op) → OpFits rows parts k op → is_hot rows op.tuple ≡ true → is_before (part_at parts k) ≡ true → ⊥
hot_part rows parts k op fits e before =
    let needy = list_any (λ n. not (is_before (part_at parts n.from))) (needs_list op.needs) in
    let none = part_before (is_hot rows op.tuple) needy (ap is_before (sym fits.part) ∙ before) in
    let clash : true ≡ false = sym e ∙ none.0 in
    cc

step : (rows : List LayoutRow) (parts : List Part) (k : ℕ) (op : Op) (ops : List Op) (a b : List Pair) (values : List ℤ) (hot more : List Pair) → OpFits rows parts k op → AgreeTo parts k a b
    → ((p q : Pair) (rest : List ℤ) (h m : List Pair) → (is_before (part_at parts k) ≡ true → p ≡ q)
    → AgreeTo parts (k + suc (length ops)) (a ++ (p ∷ joined_from rows (a ++ p ∷ []) ops rest h)) (b ++ (q ∷ joined_from rows (b ++ q ∷ []) ops rest m)))
    → (now : Bool) → is_hot rows op.tuple ≡ now
    → AgreeTo parts (k + suc (length ops)) (a ++ joined_from rows a (op ∷ ops) values hot) (b ++ joined_from rows b (op ∷ ops) values more)
step rows parts k op ops a b values hot more fits agree next true e =
    rw (joined_hot rows a op ops values hot e, joined_hot rows b op ops values more e) (next (pair_at hot 0) (pair_at more 0) values (drop 1 hot) (drop 1 more) (λ before. absurd (hot_part rows parts k op fits e before)))
step rows parts k op ops a b values hot more fits agree next false e =
    rw (joined_cold rows a op ops values hot e, joined_cold rows b op ops values more e) (next (pair_of op a (first_value values)) (pair_of op b (first_value values)) (drop 1 values) hot more (same_made rows parts k op a b (first_value values) fits agree))

-- whatever the packet answers
pub joined_agree : (rows : List LayoutRow) (parts : List Part) (k : ℕ) (ops : List Op) (a b : List Pair) (values : List ℤ) (hot more : List Pair) → AllFit rows parts k ops → length a ≡ k → length b ≡ k → AgreeTo parts k a b
    → AgreeTo parts (k + length ops) (a ++ joined_from rows a ops values hot) (b ++ joined_from rows b ops values more)
joined_agree rows parts k [] a b values hot more fits la lb agree =
    rw (append-nil a, append-nil b) (λ j h. agree j (omega arith))
joined_agree rows parts k (op ∷ ops) a b values hot more fits la lb agree =
    step rows parts k op ops a b values hot more fits.0 agree (λ p q rest h m same.
    let all = joined_agree rows parts (k + 1) ops (a ++ p ∷ []) (b ++ q ∷ []) rest h m fits.1 (length_push a p ∙ ap (λ (n : ℕ). n + 1) la) (length_push b q ∙ ap (λ (n : ℕ). n + 1) lb) (agree_push parts k a b p q la lb agree same) in
    rw (← append_assoc a (p ∷ []) (joined_from rows (a ++ p ∷ []) ops rest h), ← append_assoc b (q ∷ []) (joined_from rows (b ++ q ∷ []) ops rest m)) (λ j l. all j (omega arith)))
    (is_hot rows op.tuple) refl
