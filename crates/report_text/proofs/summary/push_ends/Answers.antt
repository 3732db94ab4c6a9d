use Rattle.std.proofs.Common.{◌+◌, ◌++◌, List, [], ◌∷◌, map, append_assoc, arith, sym, ap, ◌∙◌}
use Rattle.std.specs.List.{range_with_len}
use Rattle.catalogue.specs.declared.kind.Kind.{Kind}
use Rattle.core_model.specs.declared.item_end.ItemEnd.{ItemEnd}
use Rattle.fabric_core.specs.Running.{state_in}
use Rattle.report_text.specs.Summary.{ended}
use Rattle.report_text.proofs.SummaryLaws.{one_ended}
use Rattle.report_text.proofs.summary.push_ends.Goals as goal

pub loop-i-preserved : goal.loop-i-preserved
loop-i-preserved g c =
    let f = ended c.args.world.now.plan (state_in c.args.world.now) c.args.client in
    let i = c.loop-i.i in
    let before = c.args.ends.now.items in
    c.in_ok-push.ensures.items
    ∙ ap (λ (l : List (Kind × ItemEnd)). l ++ c.ended.result ∷ []) c.loop-i.invariant
    ∙ append_assoc before (map f (range_with_len 1 i)) (c.ended.result ∷ [])
    ∙ ap (λ (x : Kind × ItemEnd). before ++ (map f (range_with_len 1 i) ++ x ∷ [])) c.ended.ensures
    ∙ ap (λ (l : List (Kind × ItemEnd)). before ++ l) (sym (one_ended f 1 i (i + 1) (omega arith)))
