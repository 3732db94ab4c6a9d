use Rattle.catalogue.specs.Items.{plain_item}
use Rattle.session_reader.specs.Rules.{IsReady, OfScript}
use Rattle.session_reader.proofs.ItemLists.{at_seen}
use Rattle.session_reader.proofs.rule.first_in_items.Goals as goal

pub first_in_item-requires : goal.first_in_item-requires
first_in_item-requires c =
    at_seen (OfScript (IsReady c.args.rule)) plain_item c.args.items.now c.loop-i.i c.index-items-i.result c.requires.ready c.loop-i-test.true c.index-items-i.is
