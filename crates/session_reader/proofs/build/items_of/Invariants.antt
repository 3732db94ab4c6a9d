use Rattle.std.proofs.Common.{◌≡◌, map, take}
use Rattle.catalogue.specs.Items.{plain_items}
use Rattle.session_draft.specs.Written.{written_item}
use Rattle.session_reader.specs.Built.{item_of}
use Rattle.session_reader.proofs.build.items_of.Given as goal

-- the items so far
abbrev pub invariant-loop-item : goal.invariant-loop-item
invariant-loop-item l = plain_items l.built.items ≡ map item_of (map written_item (take l.item-index l.items))
