use Rattle.std.proofs.Common.{◌≡◌, ◌+◌, ◌++◌, drop}
use Rattle.catalogue.specs.Items.{plain_items}
use Rattle.declust.specs.Uses.{uses_from}
use Rattle.declust.proofs.uses.push_items.Given as goal

-- what is left comes behind what was pushed
abbrev pub invariant-loop-item : goal.invariant-loop-item
invariant-loop-item l = record {
  number : l.number ≡ l.first + l.item-index;
  list : l.list.items ++ uses_from l.number (plain_items (drop l.item-index l.items)) ≡ l.fn.list.items ++ uses_from l.first (plain_items l.items);
}
