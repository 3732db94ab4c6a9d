use Rattle.std.proofs.Common.{List, ℕ, ◌++◌, [], append-nil, Some, refl, sym, ap, subst, string_bytes, unwrap_or, ◌∙◌}
use Rattle.catalogue.specs.Plan.{Plan, kind_of}
use Rattle.catalogue.specs.declared.kind.Kind.{Kind}
use Rattle.history_core.specs.Answers.{reply_of}
use Rattle.history_model.specs.History.{History}
use Rattle.txn_model.specs.declared.pairs.Pair.{Pair}
use Rattle.fabric_core.specs.Running.{state_in}
use Rattle.report_text.specs.Report.{EndedItem, Committed}
use Rattle.report_text.specs.RunReport.{told_by, with_end, last_refusal}
use Rattle.report_text.specs.Told.{Tells}
use Rattle.report_text.proofs.ToldLaws.{script_item_told}
use Rattle.report_text.proofs.reply.push_script.Goals as goal

pub returns-in_ok-push_committed-in-Committed-clause-told :
    goal.returns-in_ok-push_committed-in-Committed-clause-told
returns-in_ok-push_committed-in-Committed-clause-told g c =
    let plan = c.args.world.now.plan in
    let s = state_in c.args.world.now in
    let client = c.args.client in
    let seq = c.args.seq in
    let stamp = c.in-Committed.stamp in
    let reply = reply_of client seq s.history in
    let kind = c.kind_of-kind.ensures ∙ ap (λ (p : Plan). kind_of p.layout c.args.script.now.items) c.session.ensures.plan in
    let pairs = c.pairs_of-pairs.ensures ∙ ap (λ (h : History). unwrap_or (reply_of client seq h) []) c.history.ensures.items in
    let told = script_item_told plan s client seq c.args.script.now.items c.item_end.result c.requires.item c.item_end.ensures in
    let end =
    ap (told_by (kind_of plan.layout c.args.script.now.items) reply (last_refusal client seq s.refusals)) c.in-Committed.is
    ∙ ap (λ (k : Kind). Some (Committed k stamp (unwrap_or reply []))) (sym kind)
    ∙ ap (λ (ps : List Pair). Some (Committed c.kind_of-kind.result stamp ps)) (sym pairs) in
    subst (λ (l : List EndedItem). Tells l (string_bytes c.args.text.now) (string_bytes c.push_committed.new.text) 1) (sym (told ∙ ap (with_end client seq) end))
    (record { lines = c.in_ok-push_committed-in-Committed.ensures ∙ ap (λ (l : List ℕ). string_bytes c.args.text.now ++ l) (sym (append-nil _)); many = refl })
