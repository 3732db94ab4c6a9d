use Rattle.std.proofs.Common.{◌≡◌, ◌+◌, drop}
use Rattle.catalogue.specs.Items.{plain_items}
use Rattle.catalogue.specs.PlanOf.{plan_of}
use Rattle.fabric_model.specs.Bound as bound
use Rattle.fabric_core.proofs.room.items_bound.Given as goal

-- the moves so far and those of the items that are left make the whole
abbrev pub invariant-loop-item : goal.invariant-loop-item
invariant-loop-item l = l.moves + bound.items_bound (plan_of l.session) (plain_items (drop l.item-index l.items)) ≡ bound.items_bound (plan_of l.fn.session) (plain_items l.fn.items)
