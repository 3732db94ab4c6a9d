use Rattle.std.proofs.Common.{◌≡◌, ◌<◌, ◌^◌, length, take, All}
use Rattle.catalogue.specs.Items.{plain_lists}
use Rattle.catalogue.proofs.item.Clients.copy.Given as goal

-- the lists so far are copied, and are no longer than those
abbrev pub invariant-loop-list : goal.invariant-loop-list
invariant-loop-list l = record {
  len : length l.lists.items ≡ l.list-index;
  short : All (λ list. length list.items < 2 ^ 32) l.lists.items;
  same : plain_lists l.lists.items ≡ plain_lists (take l.list-index l.list-items);
}
