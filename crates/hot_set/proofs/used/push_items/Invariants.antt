use Rattle.std.proofs.Common.{◌≡◌, ◌++◌, drop}
use Rattle.std.specs.List.{flat_map}
use Rattle.catalogue.specs.Items.{plain_items}
use Rattle.hot_set.specs.Uses.{tuples_in}
use Rattle.hot_set.proofs.used.push_items.Given as goal

-- what is left comes behind what was pushed
abbrev pub invariant-loop-item : goal.invariant-loop-item
invariant-loop-item l = l.used.items ++ flat_map tuples_in (plain_items (drop l.item-index l.items)) ≡ l.fn.used.items ++ flat_map tuples_in (plain_items l.items)
