use Rattle.std.proofs.Common.{arith, sym, subst, ◌+◌, List, string_bytes}
use Rattle.std.specs.List.{flat_map, range_with_len}
use Rattle.fabric_core.specs.Running.{state_in}
use Rattle.report_text.specs.Report.{EndedItem}
use Rattle.report_text.specs.RunReport.{client_told}
use Rattle.report_text.specs.Told.{Tells}
use Rattle.report_text.proofs.ToldLaws.{tells-append, one_more}
use Rattle.report_text.proofs.reply.push_items.Goals as goal

pub loop-client-preserved : goal.loop-client-preserved
loop-client-preserved g c =
    let f = client_told c.args.world.now.plan (state_in c.args.world.now) in
    record {
      told = subst (λ (l : List EndedItem). Tells l (string_bytes c.args.text.now) (string_bytes c.push_client.new.text) (c.loop-client.count + c.in_ok-count.field-0)) (sym (one_more f 0 c.loop-client.client c.loop-client.client (omega arith)))
          (tells-append (flat_map f (range_with_len 0 c.loop-client.client)) (f c.loop-client.client) _ _ _ _ _ c.loop-client.invariant.told c.in_ok-count.ensures.told);
      few = omega (arith, c.loop-client.invariant.few, c.in_ok-count.ensures.few);
    }
