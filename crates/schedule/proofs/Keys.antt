-- Which draw gives a key.
use Rattle.std.proofs.Common.{◌≡◌, ℕ, ◌≤◌, ◌<◌, ◌||◌, ◌⊎◌, true, false, nat_eq, nat_lt, refl, arith}
use Rattle.std.proofs.lemmas.Bool.Decides.{nat_tests}
use Rattle.rand_core.specs.Stream.{Stream}
use Rattle.schedule.specs.Dice.{draw, draw_between, key_by}

-- no key is hot, or each is
pub key_of_all : (d n hot share : ℕ) (words : Stream) → (hot ≡ 0) ⊎ (((hot ≡ 0) → ⊥) × (hot ≡ n)) → key_by d n hot share words ≡ draw n words
key_of_all d n hot share words h =
    let test : (nat_eq hot 0 || nat_eq hot n) ≡ true = grind (arith, nat_tests) in rw test refl

pub key_of_hot : (d n hot share : ℕ) (words : Stream) → ((hot ≡ 0) → ⊥) × ((hot ≡ n) → ⊥) → d < share → key_by d n hot share words ≡ draw hot words
key_of_hot d n hot share words some h =
    let test : (nat_eq hot 0 || nat_eq hot n) ≡ false = grind (arith, nat_tests) in
    let below : nat_lt d share ≡ true = grind (arith, nat_tests) in
    rw (test, below) refl

pub key_of_cold : (d n hot share : ℕ) (words : Stream) → ((hot ≡ 0) → ⊥) × ((hot ≡ n) → ⊥) → share ≤ d → key_by d n hot share words ≡ draw_between hot n words
key_of_cold d n hot share words some h =
    let test : (nat_eq hot 0 || nat_eq hot n) ≡ false = grind (arith, nat_tests) in
    let below : nat_lt d share ≡ false = grind (arith, nat_tests) in
    rw (test, below) refl
