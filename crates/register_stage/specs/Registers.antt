-- The registers of one stage: a number at each of its places.
use Rattle.std.specs.Prelude.{ℕ, zero, suc, ℤ, ◌==◌, ◌&&◌, Bool, nat_lt, map, refl}
use Rattle.std.specs.Coded.{Coded, code_by, coded×, coded_ℕ}
use Rattle.std.specs.FinMap as fin
use Rattle.txn_model.specs.Places.{Places, places_code}
use Rattle.txn_model.specs.declared.place.Place.{Place}
use Rattle.switch_packet.specs.declared.packet.PacketOp.{PacketOp}

-- which stage it is, and the numbers at its places
pub record Registers : Type 0 where
  pub stage : ℕ
  pub numbers : Places

abbrev pub registers_code : Coded Registers
registers_code = code_by (ℕ × Places) (coded× coded_ℕ places_code) (λ r. (r.stage, r.numbers)) (λ p. record { stage = p.0; numbers = p.1 }) (λ _. refl)

abbrev pub place_in : (stage array cell : ℕ) → Place
place_in stage array cell = record { stage = stage; array = array; cell = cell }

-- the place is one of so many cells of so many arrays of the stage
abbrev pub is_inside : (stage arrays cells : ℕ) → Place → Bool
is_inside stage arrays cells p = p.stage == stage && (nat_lt p.array arrays && nat_lt p.cell cells)

-- the map, and beside it at each of so many cells of one array the number that f gives
unfoldable pub with_array : (stage : ℕ) → (Place → ℤ) → (array cells : ℕ) → Places → Places
with_array stage f array zero m = m
with_array stage f array (suc cell) m = let place = place_in stage array cell in fin.insert (with_array stage f array cell m) place (f place)

-- at each of so many cells of so many arrays of the stage the number that f gives, and nothing else
unfoldable pub full_map : (stage : ℕ) → (Place → ℤ) → (arrays cells : ℕ) → Places
full_map stage f zero cells = fin.empty
full_map stage f (suc array) cells = with_array stage f array cells (full_map stage f array cells)

-- the operation is executed at this stage in this pass
abbrev pub is_due : (stage pass : ℕ) → PacketOp → Bool
is_due stage pass op = op.pass == pass && op.place.stage == stage

-- the same places, with the numbers that f gives
abbrev pub renumbered : (Place → ℤ) → Places → Places
renumbered f m = fin.from_sorted (map (λ e. (e.0, f e.0)) (fin.entries m))
