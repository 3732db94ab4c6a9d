use Rattle.std.proofs.Common.{◌≡◌, IsTrue, drop, arith, ap, sym, subst, ◌∙◌}
use Rattle.std.specs.FinMap.{find, is_sorted}
use Rattle.std.proofs.lemmas.Grind.{common_steps}
use Rattle.std.proofs.lemmas.Result.{IfOk-weaker}
use Rattle.txn_model.specs.Tuples.{tuple_cmp}
use Rattle.stage_layout.specs.Layout.{place_of}
use Rattle.stage_layout.proofs.Cells.{is_sorted-map, find-same}
use Rattle.stage_layout.proofs.layout.sorted_places.Goals as goal

pub loop-i-preserved : goal.loop-i-preserved
loop-i-preserved c = λ t. grind (arith, common_steps, c.loop-i.invariant t)

pub returns-clause-indexed : goal.returns-clause-indexed
returns-clause-indexed c =
    let all : c.loop-i.i ≡ 0 = omega arith in
    IfOk-weaker c.place_rows.result _ _ (λ made e t. ap (find tuple_cmp t) e ∙ find-same tuple_cmp t c.loop-i.places.entries ∙ c.loop-i.invariant t ∙ ap (λ n. place_of (drop n c.args.rows.now) t) all) c.place_rows.ensures.rows

pub returns-clause-sorted : goal.returns-clause-sorted
returns-clause-sorted c =
    IfOk-weaker c.place_rows.result _ _ (λ made e. subst (λ rows. IsTrue (is_sorted tuple_cmp rows)) (sym e) (is_sorted-map tuple_cmp (λ place. place) c.loop-i.places.entries c.place_rows.ensures.ordered)) c.place_rows.ensures.rows
