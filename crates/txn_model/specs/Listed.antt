-- A list that is kept with spare room.
use Rattle.std.specs.Prelude.{ℕ, List, refl}
use Rattle.std.specs.Coded.{Coded, code_by, coded×, coded_ℕ, coded_list}

-- the items, and how many more can be added without memory
pub record Listed (T : Type 0) : Type 0 where
  pub items : List T
  pub spare : ℕ

abbrev pub listed_code : {T : Type 0} → Coded T → Coded (Listed T)
listed_code {T} item =
    code_by (List T × ℕ) (coded× (coded_list item) coded_ℕ) (λ l. (l.items, l.spare)) (λ p. record { items = p.0; spare = p.1 }) (λ _. refl)
