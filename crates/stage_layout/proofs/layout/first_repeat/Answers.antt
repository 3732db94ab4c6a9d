use Rattle.std.proofs.Common.{not, get_or, take, ap, sym, ◌∙◌, arith}
use Rattle.std.proofs.lemmas.Grind.{common_steps}
use Rattle.stage_layout.specs.declared.layout.LayoutRow.{LayoutRow}
use Rattle.stage_layout.specs.Layout.{repeats}
use Rattle.stage_layout.proofs.Firsts.{first_is, first_none, one_more_fails}
use Rattle.stage_layout.proofs.Repeats.{either_is_known, both_are_new}
use Rattle.stage_layout.proofs.NoRow.{no_row}
use Rattle.stage_layout.proofs.layout.first_repeat.Goals as goal

pub returns-then-not-is_new_tuple : goal.returns-then-not-is_new_tuple
returns-then-not-is_new_tuple c =
    let rows = c.args.rows.now in
    let row = get_or rows c.loop-i.i no_row in
    let old = c.loop-i.invariant in
    let here = either_is_known _ _ _ _ (c.in_ok-is_new_tuple.ensures.added ∙ ap not (old.tuples row.tuple)) (c.in_ok-is_new_place.ensures.added ∙ ap not (old.places row.place)) c.then-not-is_new_tuple.either in
    sym (first_is (λ k (row : LayoutRow). repeats (take k rows) row) no_row rows c.loop-i.i (omega arith) old.fresh here)

pub loop-i-preserved : goal.loop-i-preserved
loop-i-preserved c =
    let rows = c.args.rows.now in
    let row = get_or rows c.loop-i.i no_row in
    let old = c.loop-i.invariant in
    let here = both_are_new _ _ _ _ (c.in_ok-is_new_tuple.ensures.added ∙ ap not (old.tuples row.tuple)) (c.in_ok-is_new_place.ensures.added ∙ ap not (old.places row.place)) c.if-not-is_new_tuple.false c.if-not-is_new_place.false in
    record {
      tuples = λ t. grind (arith, common_steps, old.tuples t);
      places = λ p. grind (arith, common_steps, old.places p);
      fresh = one_more_fails (λ k. repeats (take k rows) (get_or rows k no_row)) c.loop-i.i old.fresh here;
    }

pub returns : goal.returns
returns c = let rows = c.args.rows.now in sym (first_none (λ k (row : LayoutRow). repeats (take k rows) row) no_row rows (λ k lt. c.loop-i.invariant.fresh k (omega arith)))
