-- Things that are drawn one after another.
use Rattle.std.specs.Prelude.{ℕ, zero, suc, List, [], ◌∷◌}
use Rattle.schedule.specs.Dice.{Words}

-- so many things, each drawn from the words that the one before left; and the words that are left
abbrev pub times : {X : Type 0} → (Words → X × Words) → ℕ → Words → List X × Words
times draw zero words = ([], words)
times draw (suc n) words = let first = draw words in let rest = times draw n first.1 in (first.0 ∷ rest.0, rest.1)
