-- Sessions without losses.
use Rattle.std.proofs.Common.{◌≡◌, ℕ, Some, IsSome}
use Rattle.catalogue.specs.Plan.{Plan, PlainItem, item_of, script_in}

-- no item loses the switch
abbrev pub HasNoLoss : Plan → Type 0
HasNoLoss plan = (client seq : ℕ) (item : PlainItem) → item_of plan client seq ≡ Some item → IsSome (script_in item)
