use Rattle.std.proofs.Common.{◌≡◌, ◌*◌, ◌≤◌, take}
use Rattle.std.specs.Prelude.{sum_by}
use Rattle.catalogue.specs.Items.{plain_items}
use Rattle.declust.specs.Total.{passes_of}
use Rattle.declust.proofs.passes.list_passes.Given as goal

-- the passes of the items so far
abbrev pub invariant-loop-item : goal.invariant-loop-item
invariant-loop-item l = record {
  value : l.passes ≡ sum_by (passes_of l.shape l.layout) (plain_items (take l.item-index l.items));
  bound : l.passes ≤ l.item-index * 255;
}
