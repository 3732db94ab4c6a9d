use Rattle.std.proofs.Common.{◌≡◌, ℕ, length, List, Option, Some, Bor, is_some, sym, ap, subst, ◌∙◌}
use Rattle.std.specs.Option.{option_map}
use Rattle.txn_model.specs.declared.op.Op.{Op}
use Rattle.catalogue.specs.Plan.{Plan, script_of}
use Rattle.catalogue.specs.PlanOf.{plan_of}
use Rattle.history_model.specs.History.{History}
use Rattle.history_core.specs.Answers.{IsOpenLast}
use Rattle.history_core.specs.Recorded.{Recorded}
use Rattle.history_core.specs.Runs.{Runs, ops_at, runs_of}
use Rattle.history_core.proofs.Callers.{ops_known, open_last}
use Rattle.p4db_top.proofs.legal.put.Goals as goal

known : (plan : Plan) (runs : Runs) (client seq : ℕ) (ops : List Op) → runs ≡ runs_of plan → script_of plan client seq ≡ Some ops → ops_at runs client seq ≡ Some (length ops)
known plan runs client seq ops same is = ap (λ (r : Runs). ops_at r client seq) same ∙ ops_known plan client seq ops is

pub insert-requires-clause-transaction : goal.insert-requires-clause-transaction
insert-requires-clause-transaction c =
    let script = sym c.script.ensures ∙ ap (option_map (λ script. script.now.items)) c.in-Some.is in
    ap is_some (known (plan_of c.args.session.now) c.args.history.now.runs c.args.entry.client c.args.entry.seq c.in-Some.script.now.items c.requires.runs script)

pub answer-requires-clause-last : goal.answer-requires-clause-last
answer-requires-clause-last c =
    subst (λ (h : Recorded). IsOpenLast c.args.entry.client c.args.entry.seq h.items) (sym c.insert.ensures)
    (open_last c.args.entry c.args.history.now.items c.requires.sorted c.requires.above)

pub answer-requires-clause-pairs : goal.answer-requires-clause-pairs
answer-requires-clause-pairs c =
    let script = sym c.script.ensures ∙ ap (option_map (λ script. script.now.items)) c.in-Some.is in
    known (plan_of c.args.session.now) c.insert.new.self.runs c.args.entry.client c.args.entry.seq c.in-Some.script.now.items (ap (λ (h : Recorded). h.runs) c.insert.ensures ∙ c.requires.runs) script ∙ ap (λ (n : ℕ). Some n) (sym c.len.ensures ∙ c.if-len.false ∙ c.len-2.ensures.value)
