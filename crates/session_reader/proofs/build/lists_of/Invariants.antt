use Rattle.std.proofs.Common.{◌≡◌, map, take}
use Rattle.catalogue.specs.Items.{plain_lists}
use Rattle.session_draft.specs.Written.{written_items}
use Rattle.session_reader.specs.Built.{item_of}
use Rattle.session_reader.proofs.build.lists_of.Given as goal

-- the lists of the clients so far
abbrev pub invariant-loop-items : goal.invariant-loop-items
invariant-loop-items l = plain_lists l.lists.items ≡ map (map item_of) (map written_items (take l.items-index l.clients))
