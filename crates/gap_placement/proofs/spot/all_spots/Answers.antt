use Rattle.std.proofs.Common.{◌+◌, ◌++◌, List, ℕ, length, drop, map, ap, sym, ◌∙◌}
use Rattle.switch_packet.specs.Packets.{plain_log}
use Rattle.switch_packet.specs.declared.record.LogView.{LogView}
use Rattle.gap_placement.proofs.Steps.{views_step, views_end}
use Rattle.gap_placement.specs.Spots.{spots_from, spots_behind}
use Rattle.gap_placement.specs.declared.spot.Spot.{Spot}
use Rattle.gap_placement.proofs.spot.all_spots.Goals as goal

pub loop-client-preserved : goal.loop-client-preserved
loop-client-preserved c =
    let k = c.loop-client.client in
    let views = c.args.views.now in
    ap (λ (l : List Spot). l ++ spots_behind (k + 1) (map plain_log (drop (k + 1) views))) (c.in_ok-add_spots.ensures ∙ ap (λ (n : ℕ). c.loop-client.spots.items ++ spots_from k 0 n) (c.len.ensures ∙ ap (λ (v : LogView). length v.intents.items) (sym c.index-views-client.is)))
    ∙ views_step c.loop-client.spots.items views k c.index-views-client.result c.loop-client-test.true c.index-views-client.is
    ∙ c.loop-client.invariant

pub returns : goal.returns
returns c = views_end c.loop-client.spots.items c.args.views.now c.loop-client.client c.loop-client-test.false ∙ c.loop-client.invariant
