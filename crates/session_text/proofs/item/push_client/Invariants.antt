use Rattle.std.proofs.Common.{drop, string_bytes}
use Rattle.catalogue.specs.Items.{plain_items}
use Rattle.session_text.specs.SessionData.{item_data}
use Rattle.session_text.specs.Typed.{IsTypedItem}
use Rattle.session_text.proofs.Loops.{IsWriting}
use Rattle.session_text.proofs.item.push_client.Given as goal

abbrev pub invariant-loop-item : goal.invariant-loop-item
invariant-loop-item l =
    IsWriting item_data IsTypedItem (string_bytes l.initial.text) (string_bytes l.text) l.later (plain_items (drop l.item-index l.items)) (plain_items l.items)
