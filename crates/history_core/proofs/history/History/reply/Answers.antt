use Rattle.std.proofs.Common.{◌≡◌, Option, List, option_map, option_and_then, Bor, sym, ap, ◌∙◌}
use Rattle.txn_model.specs.Listed.{Listed}
use Rattle.txn_model.specs.declared.pairs.Pair.{Pair}
use Rattle.history_model.specs.History.{HistoryEntry}
use Rattle.history_core.proofs.Merged.{reply_of-entry}
use Rattle.history_core.proofs.history.History.reply.Goals as goal

pub returns-in_err-kept : goal.returns-in_err-kept
returns-in_err-kept c =
    ap (option_map (λ (pairs : Bor (Listed Pair)). pairs.now.items)) c.from_residual.ensures
    ∙ sym (reply_of-entry c.args.client c.args.seq c.args.self.now.items ∙ ap (option_and_then (λ (e : HistoryEntry). e.pairs)) (sym c.in_err-kept.ensures))

pub returns : goal.returns
returns c =
    c.reply.ensures
    ∙ sym (reply_of-entry c.args.client c.args.seq c.args.self.now.items ∙ ap (option_and_then (λ (e : HistoryEntry). e.pairs)) (sym c.in_ok-kept.ensures))
