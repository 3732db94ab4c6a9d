-- What an operation of the packet needs, split into what is known before and what the packet's own pairs tell.
use Rattle.std.proofs.Common.{◌≡◌, ℕ, suc, ◌+◌, ◌<◌, ◌≤◌, Bool, true, false, cond, not, ◌||◌, ℤ, pos, ◌+ℤ◌, List, [], ◌∷◌, ◌++◌, length, map, filter, w64, add-one, below_more, refl, sym, ap, ap₂, ◌∙◌, arith}
use Rattle.std.specs.List.{list_any, AllByRecursion}
use Rattle.std.proofs.lemmas.Int.{ints, int_wrap-add_left}
use Rattle.std.proofs.lemmas.List.{length_push, get_or_push, get_or_append_left, length-map}
use Rattle.txn_model.specs.Number.{wrap}
use Rattle.txn_model.specs.Needs.{needs_list, needs_of}
use Rattle.txn_model.specs.Serial.{needed, part_of, pair_at, operand}
use Rattle.txn_model.specs.declared.op.Need.{Need}
use Rattle.txn_model.specs.declared.op.Needs.{Needs}
use Rattle.txn_model.specs.declared.pairs.Pair.{Pair}
use Rattle.stage_layout.specs.Late.{Part, Before, Hot, Late, is_before, is_in_switch, is_after, part_at}
use Rattle.txn_model.proofs.NeedsLaws.{needs_list-needs_of, length-needs_list-le}
use Rattle.warm_split.specs.Resolved.{packet_number, hot_needs, cold_needs}
use Rattle.warm_split.proofs.PacketNumbers.{number_suc, number_below}
use Rattle.warm_split.proofs.KnownPairs.{AgreeTo, split_or}

-- behind k operations with the pairs in done, the packet has the pairs of those in the switch
pub record HasHot (parts : List Part) (k : ℕ) (done hot : List Pair) : Type 0 where
  pub size : length done ≡ k
  pub hot_size : length hot ≡ packet_number parts k
  pub pairs : (j : ℕ) → j < k → is_in_switch (part_at parts j) ≡ true → pair_at hot (packet_number parts j) ≡ pair_at done j

regroup_hot : (p c h : ℤ) → p +ℤ (c +ℤ h) ≡ c +ℤ (p +ℤ h)
regroup_hot p c h = omega (arith, ints)

regroup_cold : (p c h : ℤ) → p +ℤ (c +ℤ h) ≡ (p +ℤ c) +ℤ h
regroup_cold p c h = omega (arith, ints)

zero_left : (z : ℤ) → pos 0 +ℤ z ≡ z
zero_left z = omega (arith, ints)

-- a part that is neither in the switch nor after it is before it
pub only_before : (part : Part) → is_in_switch part ≡ false → is_after part ≡ false → is_before part ≡ true
only_before Before a b = refl
only_before Hot a b = cc
only_before Late a b = cc

pub needed_split : (parts : List Part) (k : ℕ) (known done hot : List Pair) → AgreeTo parts k known done → HasHot parts k done hot → (ns : List Need) → AllByRecursion (λ n. n.from < k) ns
    → list_any (λ n. is_after (part_at parts n.from)) ns ≡ false → needed ns done ≡ needed (cold_needs parts ns) known +ℤ needed (hot_needs parts ns) hot
needed_split parts k known done hot agree has [] earlier turn = refl
needed_split parts k known done hot agree has (n ∷ ns) earlier turn =
    let parted = split_or (is_after (part_at parts n.from)) (list_any (λ m. is_after (part_at parts m.from)) ns) turn in
    each parts k known done hot n ns (λ b. agree n.from earlier.0 b) (λ b. has.pairs n.from earlier.0 b) parted.0 (needed_split parts k known done hot agree has ns earlier.1 parted.1) (is_in_switch (part_at parts n.from)) refl
  where
    each : (ps : List Part) (i : ℕ) (kn dn ht : List Pair) (n : Need) (ns : List Need) → (is_before (part_at ps n.from) ≡ true → pair_at kn n.from ≡ pair_at dn n.from)
        → (is_in_switch (part_at ps n.from) ≡ true → pair_at ht (packet_number ps n.from) ≡ pair_at dn n.from)
        → is_after (part_at ps n.from) ≡ false → needed ns dn ≡ needed (cold_needs ps ns) kn +ℤ needed (hot_needs ps ns) ht
        → (b : Bool) → is_in_switch (part_at ps n.from) ≡ b → needed (n ∷ ns) dn ≡ needed (cold_needs ps (n ∷ ns)) kn +ℤ needed (hot_needs ps (n ∷ ns)) ht
    each ps i kn dn ht n ns known_pair hot_pair late rest true e =
        rw e (ap₂ (λ (p : Pair) (z : ℤ). part_of n.which p +ℤ z) (sym (hot_pair e)) rest ∙ regroup_hot (part_of n.which (pair_at ht (packet_number ps n.from))) (needed (cold_needs ps ns) kn) (needed (hot_needs ps ns) ht))
    each ps i kn dn ht n ns known_pair hot_pair late rest false e =
        rw e (ap₂ (λ (p : Pair) (z : ℤ). part_of n.which p +ℤ z) (sym (known_pair (only_before (part_at ps n.from) e late))) rest ∙ regroup_cold (part_of n.which (pair_at kn n.from)) (needed (cold_needs ps ns) kn) (needed (hot_needs ps ns) ht))

pub length-filter-le : {X : Type 0} (p : X → Bool) (xs : List X) → length (filter p xs) ≤ length xs
length-filter-le p [] = omega arith
length-filter-le p (x ∷ xs) = each (p x) (length-filter-le p xs)
  where
    each : (b : Bool) → length (filter p xs) ≤ length xs → length (cond b (x ∷ filter p xs) (filter p xs)) ≤ length (x ∷ xs)
    each true h = omega arith
    each false h = omega arith

pub hot_needs_few : (parts : List Part) (needs : Needs) → length (hot_needs parts (needs_list needs)) ≤ 4
hot_needs_few parts needs = omega (arith, length-map (filter (λ (n : Need). is_in_switch (part_at parts n.from)) (needs_list needs)) (λ (n : Need). let m : Need = record { from = packet_number parts n.from; which = n.which } in m), length-filter-le (λ (n : Need). is_in_switch (part_at parts n.from)) (needs_list needs), length-needs_list-le needs)

-- the operand from all the needs is that from the bias and the needs within the packet
pub operand_split : (parts : List Part) (k : ℕ) (known done hot : List Pair) (needs : Needs) → AgreeTo parts k known done → HasHot parts k done hot → AllByRecursion (λ n. n.from < k) (needs_list needs)
    → list_any (λ n. is_after (part_at parts n.from)) (needs_list needs) ≡ false
    → operand (needs_list needs) (pos 0) done ≡ operand (needs_list (needs_of (hot_needs parts (needs_list needs)))) (operand (cold_needs parts (needs_list needs)) (pos 0) known) hot
unfolding operand
operand_split parts k known done hot needs agree has earlier turn =
    let ns = needs_list needs in
    let cold = needed (cold_needs parts ns) known in
    let inner = needed (hot_needs parts ns) hot in
    ap wrap (zero_left (needed ns done) ∙ needed_split parts k known done hot agree has ns earlier turn)
    ∙ sym (int_wrap-add_left w64 cold inner)
    ∙ ap (λ (z : ℤ). wrap (wrap z +ℤ inner)) (sym (zero_left cold))
    ∙ ap (λ (l : List Need). wrap (wrap (pos 0 +ℤ cold) +ℤ needed l hot)) (sym (needs_list-needs_of (hot_needs parts ns) (hot_needs_few parts needs)))

-- one operation more, in the switch or on a host
pub hot_push : (parts : List Part) (k : ℕ) (done hot : List Pair) (p : Pair) → HasHot parts k done hot → is_in_switch (part_at parts k) ≡ true → HasHot parts (k + 1) (done ++ p ∷ []) (hot ++ p ∷ [])
hot_push parts k done hot p has e =
    let d : Pair = record { was = pos 0; now = pos 0 } in
    let one : cond {A = ℕ} (is_in_switch (part_at parts k)) 1 0 ≡ 1 = ap (λ (b : Bool). cond {A = ℕ} b 1 0) e in
    record {
      size = length_push done p ∙ ap (λ (n : ℕ). n + 1) has.size;
      hot_size = rw (add-one) (omega (arith, length_push hot p, has.hot_size, number_suc parts k, one));
      pairs = below_more (λ j. is_in_switch (part_at parts j) ≡ true → pair_at (hot ++ p ∷ []) (packet_number parts j) ≡ pair_at (done ++ p ∷ []) j) k
          (λ j h now. get_or_append_left hot (p ∷ []) d (packet_number parts j) (omega (arith, has.hot_size, number_below parts j k h now)) ∙ has.pairs j h now ∙ sym (get_or_append_left done (p ∷ []) d j (omega (arith, has.size))))
          (λ now. get_or_push hot p d (packet_number parts k) has.hot_size ∙ sym (get_or_push done p d k has.size));
    }

pub cold_push : (parts : List Part) (k : ℕ) (done hot : List Pair) (p : Pair) → HasHot parts k done hot → is_in_switch (part_at parts k) ≡ false → HasHot parts (k + 1) (done ++ p ∷ []) hot
cold_push parts k done hot p has e =
    let d : Pair = record { was = pos 0; now = pos 0 } in
    let none : cond {A = ℕ} (is_in_switch (part_at parts k)) 1 0 ≡ 0 = ap (λ (b : Bool). cond {A = ℕ} b 1 0) e in
    record {
      size = length_push done p ∙ ap (λ (n : ℕ). n + 1) has.size;
      hot_size = rw (add-one) (omega (arith, has.hot_size, number_suc parts k, none));
      pairs = below_more (λ j. is_in_switch (part_at parts j) ≡ true → pair_at hot (packet_number parts j) ≡ pair_at (done ++ p ∷ []) j) k
          (λ j h now. has.pairs j h now ∙ sym (get_or_append_left done (p ∷ []) d j (omega (arith, has.size))))
          (λ now. let clash : true ≡ false = sym now ∙ e in absurd (let never : ⊥ = cc in never));
    }
