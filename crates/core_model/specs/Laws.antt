-- Lists of numbers that rise.
use Rattle.std.specs.Prelude.{◌<◌, [], ◌∷◌, ⊤, ℕ, List}
use Rattle.std.specs.List.{AllByRecursion}

-- each number is below those that follow
abbrev pub IsAscending : List ℕ → Type 0
IsAscending [] = ⊤
IsAscending (n ∷ ns) = AllByRecursion (λ m. n < m) ns × IsAscending ns
