use Rattle.std.proofs.Common.{string_bytes}
use Rattle.txn_model.specs.Needs.{needs_list}
use Rattle.session_text.specs.SessionData.{need_data}
use Rattle.session_text.specs.Typed.{IsTypedNeed}
use Rattle.session_text.proofs.Loops.{IsWriting-next}
use Rattle.session_text.proofs.item.push_needs.Goals as goal

pub loop-i-preserved : goal.loop-i-preserved
loop-i-preserved c =
    IsWriting-next need_data IsTypedNeed _ (string_bytes c.loop-i.text) (string_bytes c.push_comma.new.text) (string_bytes c.push_need.new.text) c.loop-i.i c.get.result (needs_list c.args.needs.now) c.get.ensures
    c.in_ok-push_comma.ensures c.in_ok-push_need.ensures.text c.in_ok-push_need.ensures.typed c.loop-i.invariant
