-- How hot pairs are put to the operations of a set, one after another.
use Rattle.std.proofs.Common.{◌≡◌, ◌≢◌, ℕ, zero, suc, ◌+◌, ◌-◌, ◌<◌, ◌≤◌, Bool, true, false, cond, pos, List, length, set, if◌then◌else◌, refl, sym, ap, subst, ◌∙◌, arith, below_more, get_or-set_same, get_or-set_other}
use Rattle.std.proofs.lemmas.List.{length-set}
use Rattle.txn_model.specs.Serial.{pair_at}
use Rattle.txn_model.specs.declared.pairs.Pair.{Pair}
use Rattle.warm_split.specs.OpSet.{contains, members}
use Rattle.warm_split.specs.declared.op_set.OpSet.{OpSet}

abbrev zero_pair : Pair
zero_pair = record { was = pos 0; now = pos 0 }

pub members_on : (chosen : OpSet) (i : ℕ) → contains chosen i ≡ true → members chosen (i + 1) ≡ members chosen i + 1
members_on chosen i on = ap (members chosen) {x = i + 1} {y = suc i} (omega arith) ∙ ap (λ (b : Bool). members chosen i + (if b then 1 else 0)) on

pub members_off : (chosen : OpSet) (i : ℕ) → contains chosen i ≡ false → members chosen (i + 1) ≡ members chosen i
members_off chosen i off =
    let e : members chosen (suc i) ≡ members chosen i + 0 = ap (λ (b : Bool). members chosen i + (if b then 1 else 0)) off in
    ap (members chosen) {x = i + 1} {y = suc i} (omega arith) ∙ omega (arith, e)

members_rise : (chosen : OpSet) (i d : ℕ) → members chosen i ≤ members chosen (d + i)
members_rise chosen i zero = let e : members chosen (0 + i) ≡ members chosen i = ap (members chosen) {x = 0 + i} {y = i} (omega arith) in omega (arith, e)
members_rise chosen i (suc d) =
    let e : members chosen (suc d + i) ≡ members chosen (suc (d + i)) = ap (members chosen) {x = suc d + i} {y = suc (d + i)} (omega arith) in
    let more : members chosen (suc (d + i)) ≡ members chosen (d + i) + (if contains chosen (d + i) then 1 else 0) = refl in
    omega (arith, e, more, members_rise chosen i d)

pub members_few : (chosen : OpSet) (i : ℕ) → members chosen i ≤ i
members_few chosen zero = omega arith
members_few chosen (suc i) = each (contains chosen i) (members_few chosen i)
  where
    each : (b : Bool) → members chosen i ≤ i → members chosen i + (if b then 1 else 0) ≤ suc i
    each true h = omega arith
    each false h = omega arith

-- a number of the set has fewer before it than there are
pub members_below : (chosen : OpSet) (i n : ℕ) → i < n → contains chosen i ≡ true → members chosen i < members chosen n
members_below chosen i n lt on =
    let one = members_on chosen i on in
    let rise = members_rise chosen (i + 1) (n - (i + 1)) in
    let e : members chosen ((n - (i + 1)) + (i + 1)) ≡ members chosen n = ap (members chosen) {x = (n - (i + 1)) + (i + 1)} {y = n} (omega arith) in
    omega (arith, one, rise, e)

-- what stands where the operations of the set before operation i have their hot pairs
pub record PlacesTo (chosen : OpSet) (hot old : List Pair) (i next : ℕ) (pairs : List Pair) : Type 0 where
  pub size : length pairs ≡ length old
  pub number : next ≡ members chosen i
  pub placed : (k : ℕ) → k < i → contains chosen k ≡ true → pair_at pairs k ≡ pair_at hot (members chosen k)
  pub later : (k : ℕ) → i ≤ k → pair_at pairs k ≡ pair_at old k
  pub others : (k : ℕ) → contains chosen k ≡ false → pair_at pairs k ≡ pair_at old k

pub place_on : (chosen : OpSet) (hot old : List Pair) (i next : ℕ) (pairs : List Pair) (p : Pair) → i < length old → contains chosen i ≡ true → p ≡ pair_at hot next → PlacesTo chosen hot old i next pairs → PlacesTo chosen hot old (i + 1) (next + 1) (set pairs i p)
place_on chosen hot old i next pairs p lt on is had = record {
  size = length-set pairs i p ∙ had.size;
  number = omega (arith, had.number, members_on chosen i on);
  placed = below_more (λ k. contains chosen k ≡ true → pair_at (set pairs i p) k ≡ pair_at hot (members chosen k)) i
      (λ k h c. let apart : k ≢ i = omega arith in get_or-set_other pairs i k p zero_pair apart ∙ had.placed k h c)
      (λ c. get_or-set_same pairs i p zero_pair (omega (arith, had.size)) ∙ is ∙ ap (pair_at hot) had.number);
  later = λ k h. let apart : k ≢ i = omega arith in get_or-set_other pairs i k p zero_pair apart ∙ had.later k (omega arith);
  others = λ k off. let apart : k ≢ i = (λ e. let clash : true ≡ false = sym on ∙ ap (contains chosen) (sym e) ∙ off in cc) in get_or-set_other pairs i k p zero_pair apart ∙ had.others k off;
}

pub place_off : (chosen : OpSet) (hot old : List Pair) (i next : ℕ) (pairs : List Pair) → contains chosen i ≡ false → PlacesTo chosen hot old i next pairs → PlacesTo chosen hot old (i + 1) next pairs
place_off chosen hot old i next pairs off had = record {
  size = had.size;
  number = had.number ∙ sym (members_off chosen i off);
  placed = below_more (λ k. contains chosen k ≡ true → pair_at pairs k ≡ pair_at hot (members chosen k)) i had.placed (λ c. let clash : true ≡ false = sym c ∙ off in cc);
  later = λ k h. had.later k (omega arith);
  others = had.others;
}
