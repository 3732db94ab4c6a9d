use Rattle.std.proofs.Common.{◌+◌, ◌++◌, List, Option, Some, drop, map, get_or, subst, sym, ap, ◌∙◌}
use Rattle.std.specs.Option.{option_map}
use Rattle.switch_packet.specs.Packets.{plain_log}
use Rattle.placement_model.specs.FirstOrder.{open_ones}
use Rattle.gap_placement.proofs.Steps.{each_push, each_at, open_more, open_same, open_end}
use Rattle.gap_placement.specs.Facts.{Each, IfThere}
use Rattle.gap_placement.specs.Spots.{task_of, IsSpot}
use Rattle.gap_placement.specs.declared.spot.Spot.{Spot}
use Rattle.gap_placement.proofs.slots.open_spots.Goals as goal
use Rattle.gap_placement.proofs.slots.open_spots.Goals.{then-not-is_answered+in_ok-push, else-not-is_answered}

abbrev zero_spot : Spot
zero_spot = record { client = 0; index = 0 }

pub is_answered-requires : goal.is_answered-requires
is_answered-requires c = each_at (IsSpot (map plain_log c.args.views.now)) c.args.spots.now c.loop-spot.spot-index zero_spot c.requires c.loop-spot-test.true

pub loop-spot-preserved : goal.loop-spot-preserved
loop-spot-preserved c =
    let logs = map plain_log c.args.views.now in
    let spots = c.args.spots.now in
    let i = c.loop-spot.spot-index in
    let this = get_or spots i zero_spot in
    let front = c.loop-spot.standing.items in
    let rest = open_ones (map (task_of logs) (drop (i + 1) spots)) in
    elim c.if-not-is_answered.branch [
      | then-not-is_answered+in_ok-push w ↦
          let is = ap (λ v. v.items) w.standing-is ∙ w.in_ok-push.ensures.items in
          record {
            standing = ap (λ (l : List (Option Spot)). map (option_map (task_of logs)) l ++ rest) is ∙ open_more (task_of logs) spots i zero_spot front c.loop-spot-test.true (sym c.is_answered.ensures ∙ w.if-not-is_answered.true) ∙ c.loop-spot.invariant.standing;
            spots = subst (Each (IfThere (IsSpot logs))) (sym is) (each_push (IfThere (IsSpot logs)) front (Some this) c.loop-spot.invariant.spots (each_at (IsSpot logs) spots i zero_spot c.requires c.loop-spot-test.true));
          }
      | else-not-is_answered w ↦
          let is = ap (λ v. v.items) w.standing-is in
          record {
            standing = ap (λ (l : List (Option Spot)). map (option_map (task_of logs)) l ++ rest) is ∙ open_same (task_of logs) spots i zero_spot front c.loop-spot-test.true (sym c.is_answered.ensures ∙ w.if-not-is_answered.false) ∙ c.loop-spot.invariant.standing;
            spots = subst (Each (IfThere (IsSpot logs))) (sym is) c.loop-spot.invariant.spots;
          }
    ]

pub returns-clause-open_ones : goal.returns-clause-open_ones
returns-clause-open_ones c = open_end (task_of (map plain_log c.args.views.now)) c.args.spots.now c.loop-spot.spot-index c.loop-spot.standing.items c.loop-spot-test.false ∙ c.loop-spot.invariant.standing
