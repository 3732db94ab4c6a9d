use Rattle.std.proofs.Common.{◌≡◌, map, take}
use Rattle.catalogue.specs.Items.{plain_items}
use Rattle.history_core.specs.Runs.{ops_of}
use Rattle.history_core.proofs.own_entries.numbers_of_ops.Given as goal

abbrev pub invariant-loop-item : goal.invariant-loop-item
invariant-loop-item l = l.ops.items ≡ map ops_of (plain_items (take l.item-index l.items))
