-- The numbers that operations have in a packet.
use Rattle.std.proofs.Common.{◌≡◌, ℕ, zero, suc, ◌+◌, ◌<◌, Bool, true, false, cond, length, filter, take, List, [], ◌∷◌, refl, ap, arith}
use Rattle.stage_layout.specs.Late.{Part, is_in_switch, part_at}
use Rattle.warm_split.specs.Resolved.{packet_number}

number_more : (p : Part) (parts : List Part) (k : ℕ) → packet_number (p ∷ parts) (suc k) ≡ cond (is_in_switch p) 1 0 + packet_number parts k
number_more p parts k = each (is_in_switch p) (filter is_in_switch (take k parts))
  where
    each : (b : Bool) (xs : List Part) → length (cond b (p ∷ xs) xs) ≡ cond b 1 0 + length xs
    each true xs = omega arith
    each false xs = omega arith

pub number_suc : (parts : List Part) (k : ℕ) → packet_number parts (suc k) ≡ packet_number parts k + cond (is_in_switch (part_at parts k)) 1 0
number_suc [] zero = refl
number_suc [] (suc k) = refl
number_suc (p ∷ parts) zero = omega (arith, number_more p parts 0)
number_suc (p ∷ parts) (suc k) = omega (arith, number_suc parts k, number_more p parts (suc k), number_more p parts k)

-- an operation in the switch has a number below those of later ones
pub number_below : (parts : List Part) (j k : ℕ) → j < k → is_in_switch (part_at parts j) ≡ true → packet_number parts j < packet_number parts k
number_below [] j k h hot = cc
number_below (p ∷ parts) j zero h hot = absurd (omega arith)
number_below (p ∷ parts) zero (suc k) h hot = let one : cond {A = ℕ} (is_in_switch p) 1 0 ≡ 1 = ap (λ (b : Bool). cond {A = ℕ} b 1 0) hot in omega (arith, one, number_more p parts k)
number_below (p ∷ parts) (suc j) (suc k) h hot = omega (arith, number_below parts j k (omega arith) hot, number_more p parts j, number_more p parts k)
