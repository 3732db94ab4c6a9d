use Rattle.std.proofs.Common.{Some, None, sym, ◌∙◌}
use Rattle.fabric_core.proofs.AnsweredEntries.{unanswered, answered_is}
use Rattle.fabric_core.proofs.ends.stamp_of.Goals as goal

pub returns-in_err-_reply : goal.returns-in_err-_reply
returns-in_err-_reply c = c.from_residual.ensures ∙ sym (unanswered c.args.client c.args.seq c.args.history.now.items (sym c.in_err-_reply.ensures))

pub returns-in_err-entry : goal.returns-in_err-entry
returns-in_err-entry c =
    c.from_residual-in_err-entry.ensures ∙ sym (answered_is c.args.client c.args.seq c.args.history.now.items _ None (sym c.in_ok-_reply.ensures) c.in_err-entry.ensures)

pub returns : goal.returns
returns c =
    sym (answered_is c.args.client c.args.seq c.args.history.now.items _ (Some c.in_ok-entry.entry.now) (sym c.in_ok-_reply.ensures) c.in_ok-entry.ensures)
