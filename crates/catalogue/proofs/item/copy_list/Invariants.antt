use Rattle.std.proofs.Common.{◌≡◌, take}
use Rattle.catalogue.specs.Items.{plain_items}
use Rattle.catalogue.proofs.item.copy_list.Given as goal

abbrev pub invariant-loop-item : goal.invariant-loop-item
invariant-loop-item l = plain_items l.copy.items ≡ plain_items (take l.item-index l.items)
