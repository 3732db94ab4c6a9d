-- The operations of a session's transactions, each with the number of its item, counted from 0 over all clients.
use Rattle.std.specs.Prelude.{◌≡◌, ℕ, ◌+◌, List, [], ◌∷◌, ◌++◌, map, length}
use Rattle.std.specs.List.Sorted.{IsPermutation, IsNonDecreasingBy}
use Rattle.catalogue.specs.Plan.{Plan, PlainItem, Run, Lose}
use Rattle.declust.specs.Greedy.{all_items}
use Rattle.declust.specs.declared.uses.Use.{Use}
use Rattle.declust.specs.declared.uses.Uses.{Uses}

abbrev pub tuple_number : Use → ℕ
tuple_number used = used.tuple.0

-- the operations of an item with this number; a loss has none
abbrev pub uses_in : ℕ → PlainItem → List Use
uses_in number (Run ops) = map (λ op. record { tuple = op.tuple; item = number }) ops
uses_in number Lose = []

-- the operations of all items; the first one has this number
abbrev pub uses_from : ℕ → List PlainItem → List Use
uses_from number [] = []
uses_from number (item ∷ items) = uses_in number item ++ uses_from (number + 1) items

-- these are the session's, in the order of their tuples
pub record AreUsesOf (plan : Plan) (uses : Uses) : Type 0 where
  pub all : IsPermutation (uses_from 0 (all_items plan)) uses.list.items
  pub sorted : IsNonDecreasingBy tuple_number uses.list.items
  pub items : uses.items ≡ length (all_items plan)
