use Rattle.std.proofs.Common.{length, get_or, ap, ◌∙◌, Option, arith, sym, subst, ◌+◌, List, string_bytes}
use Rattle.std.specs.List.{flat_map, range_with_len}
use Rattle.fabric_core.specs.Running.{state_in}
use Rattle.report_text.specs.Report.{EndedItem}
use Rattle.report_text.specs.RunReport.{item_told, last_refusal}
use Rattle.core_model.specs.declared.refusal.Refusal.{Refusal}
use Rattle.std.proofs.lemmas.List.FromFn.{get_or-map-range_with_len, length-map-range_with_len}
use Rattle.report_text.specs.Told.{Tells}
use Rattle.report_text.proofs.ToldLaws.{tells-append, one_more}
use Rattle.report_text.proofs.reply.push_client.Goals as goal

pub loop-i-preserved : goal.loop-i-preserved
loop-i-preserved g c =
    let f = item_told c.args.world.now.plan (state_in c.args.world.now) c.args.client in
    let told = c.in_ok-count.ensures.told in
    record {
      told = subst (λ (l : List EndedItem). Tells l (string_bytes c.args.text.now) (string_bytes c.push_item.new.text) (c.loop-i.count + c.in_ok-count.field-0)) (sym (one_more f 1 c.loop-i.i (c.loop-i.i + 1) (omega arith)))
          (tells-append (flat_map f (range_with_len 1 c.loop-i.i)) (f (c.loop-i.i + 1)) _ _ _ _ _ c.loop-i.invariant.told told);
      few = omega (arith, c.loop-i.invariant.few, c.in_ok-count.ensures.few);
    }

pub index-requires : goal.index-requires
index-requires g c =
    omega (arith, c.in_ok-last.last.ok.0, ap length c.in_ok-last.ensures, length-map-range_with_len (λ i. last_refusal c.args.client (i + 1) c.refusals.result.now) 0 c.items-items.result, c.loop-i-test.true)

pub push_item-requires : goal.push_item-requires
push_item-requires g c =
    c.index.ensures
    ∙ ap (λ (l : List (Option Refusal)). get_or l c.loop-i.i c.index.result.now) c.in_ok-last.ensures
    ∙ get_or-map-range_with_len (λ i. last_refusal c.args.client (i + 1) c.refusals.result.now) 0 c.items-items.result c.loop-i.i c.loop-i.i c.index.result.now (omega (arith, c.loop-i-test.true)) (omega arith)
    ∙ ap (last_refusal c.args.client (c.loop-i.i + 1)) c.refusals.ensures
