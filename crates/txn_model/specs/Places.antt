-- Place maps: finite maps from places of the switch to numbers.
use Rattle.std.specs.Prelude.{ℕ, ℤ, refl}
use Rattle.std.specs.declared.cmp.Ordering.{Ordering}
use Rattle.std.specs.Coded.{Coded, code_by, coded×, coded_ℕ, coded_ℤ}
use Rattle.std.specs.Ordering.{nat_cmp, ordering_then}
use Rattle.std.specs.FinMap as fin
use Rattle.txn_model.specs.declared.place.Place.{Place}

-- by stage, then array, then cell
abbrev pub place_cmp : Place → Place → Ordering
place_cmp a b = ordering_then (nat_cmp a.stage b.stage) (ordering_then (nat_cmp a.array b.array) (nat_cmp a.cell b.cell))

abbrev pub Places : Type 0
Places = fin.FinMap place_cmp ℤ

abbrev pub coded_place : Coded Place
coded_place =
    code_by (ℕ × (ℕ × ℕ)) (coded× coded_ℕ (coded× coded_ℕ coded_ℕ)) (λ p. (p.stage, (p.array, p.cell))) (λ n. record { stage = n.0; array = n.1.0; cell = n.1.1 }) (λ _. refl)

abbrev pub places_code : Coded Places
places_code = fin.code coded_place coded_ℤ
