use Rattle.std.proofs.Common.{List, ◌++◌, ap, sym, ◌∙◌, arith}
use Rattle.catalogue.specs.declared.kind.Kind.{Kind}
use Rattle.core_model.specs.declared.item_end.ItemEnd.{ItemEnd}
use Rattle.fabric_core.specs.Running.{state_in}
use Rattle.report_text.specs.Summary.{client_ends}
use Rattle.report_text.proofs.ToldLaws.{one_more}
use Rattle.report_text.proofs.summary.ends_of.Goals as goal

pub loop-client-preserved : goal.loop-client-preserved
loop-client-preserved g c =
    let f = client_ends c.args.world.now.plan (state_in c.args.world.now) in
    let client = c.loop-client.client in
    c.in_ok-push_ends.ensures ∙ ap (λ (l : List (Kind × ItemEnd)). l ++ f client) c.loop-client.invariant ∙ sym (one_more f 0 client client (omega arith))
