use Rattle.std.proofs.Common.{◌+◌, ◌-◌, ◌++◌, List, ap, ◌∙◌}
use Rattle.gap_placement.proofs.Steps.{spots_step, spots_end}
use Rattle.gap_placement.specs.Spots.{spots_from}
use Rattle.gap_placement.specs.declared.spot.Spot.{Spot}
use Rattle.gap_placement.proofs.spot.add_spots.Goals as goal

pub loop-index-preserved : goal.loop-index-preserved
loop-index-preserved c =
    ap (λ (l : List Spot). l ++ spots_from c.args.client (c.loop-index.index + 1) (c.args.count - (c.loop-index.index + 1))) c.in_ok-push.ensures.items
    ∙ spots_step c.loop-index.to.items c.args.client c.loop-index.index c.args.count c.loop-index-test.true
    ∙ c.loop-index.invariant

pub returns : goal.returns
returns c = spots_end c.loop-index.to.items c.args.client c.loop-index.index c.args.count c.loop-index-test.false ∙ c.loop-index.invariant
