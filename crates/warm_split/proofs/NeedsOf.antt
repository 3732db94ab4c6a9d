-- The needs on each side, need by need.
use Rattle.std.proofs.Common.{◌≡◌, ℕ, ◌+◌, ◌<◌, ◌≤◌, Bool, true, false, cond, not, List, [], ◌∷◌, ◌++◌, length, map, filter, take, slice_get, Some, refl, sym, ap, ◌∙◌, arith, append-nil}
use Rattle.std.proofs.lemmas.List.{map-append, take_more}
use Rattle.std.proofs.lemmas.Option.{get_or_from_slice_get, slice_get_within}
use Rattle.txn_model.specs.declared.op.Need.{Need}
use Rattle.stage_layout.specs.Late.{Part, is_in_switch, part_at}
use Rattle.warm_split.specs.Resolved.{packet_number, hot_needs, cold_needs}

-- one more item passes a filter or doesn't
pub filter-push : {X : Type 0} (p : X → Bool) (xs : List X) (x : X) → filter p (xs ++ x ∷ []) ≡ filter p xs ++ cond (p x) (x ∷ []) []
filter-push p [] x = refl
filter-push p (y ∷ ys) x = each (p y) (filter-push p ys x)
  where
    each : (b : Bool) → filter p (ys ++ x ∷ []) ≡ filter p ys ++ cond (p x) (x ∷ []) [] → cond b (y ∷ filter p (ys ++ x ∷ [])) (filter p (ys ++ x ∷ [])) ≡ cond b (y ∷ filter p ys) (filter p ys) ++ cond (p x) (x ∷ []) []
    each true e = ap (λ l. y ∷ l) e
    each false e = e

-- the first items with one more
pub take_next : {X : Type 0} (xs : List X) (i : ℕ) (x : X) → slice_get xs i ≡ Some x → take (i + 1) xs ≡ take i xs ++ x ∷ []
take_next xs i x at = take_more xs i x (slice_get_within xs i x at) ∙ ap (λ y. take i xs ++ y ∷ []) (get_or_from_slice_get xs i x x at)

pub filter-kept : {X : Type 0} (p : X → Bool) (xs : List X) (x : X) → p x ≡ true → filter p (xs ++ x ∷ []) ≡ filter p xs ++ x ∷ []
filter-kept p xs x e = filter-push p xs x ∙ ap (λ (b : Bool). filter p xs ++ cond b (x ∷ []) []) e

pub filter-left : {X : Type 0} (p : X → Bool) (xs : List X) (x : X) → p x ≡ false → filter p (xs ++ x ∷ []) ≡ filter p xs
filter-left p xs x e = filter-push p xs x ∙ ap (λ (b : Bool). filter p xs ++ cond b (x ∷ []) []) e ∙ append-nil (filter p xs)

module _ (parts : List Part) (needs : List Need) (i : ℕ) (n : Need) (at : slice_get needs i ≡ Some n) where
  pub hot_more : is_in_switch (part_at parts n.from) ≡ true → hot_needs parts (take (i + 1) needs) ≡ hot_needs parts (take i needs) ++ record { from = packet_number parts n.from; which = n.which } ∷ []
  hot_more e =
      ap (hot_needs parts) (take_next needs i n at) ∙ ap (map (λ (m : Need). let r : Need = record { from = packet_number parts m.from; which = m.which } in r)) (filter-kept (λ (m : Need). is_in_switch (part_at parts m.from)) (take i needs) n e)
      ∙ map-append (λ (m : Need). let r : Need = record { from = packet_number parts m.from; which = m.which } in r) (filter (λ (m : Need). is_in_switch (part_at parts m.from)) (take i needs)) (n ∷ [])

  pub hot_skip : is_in_switch (part_at parts n.from) ≡ false → hot_needs parts (take (i + 1) needs) ≡ hot_needs parts (take i needs)
  hot_skip e =
      ap (hot_needs parts) (take_next needs i n at) ∙ ap (map (λ (m : Need). let r : Need = record { from = packet_number parts m.from; which = m.which } in r)) (filter-left (λ (m : Need). is_in_switch (part_at parts m.from)) (take i needs) n e)

  pub cold_more : is_in_switch (part_at parts n.from) ≡ false → cold_needs parts (take (i + 1) needs) ≡ cold_needs parts (take i needs) ++ n ∷ []
  cold_more e = ap (cold_needs parts) (take_next needs i n at) ∙ filter-kept (λ (m : Need). not (is_in_switch (part_at parts m.from))) (take i needs) n (ap not e)

  pub cold_skip : is_in_switch (part_at parts n.from) ≡ true → cold_needs parts (take (i + 1) needs) ≡ cold_needs parts (take i needs)
  cold_skip e = ap (cold_needs parts) (take_next needs i n at) ∙ filter-left (λ (m : Need). not (is_in_switch (part_at parts m.from))) (take i needs) n (ap not e)
