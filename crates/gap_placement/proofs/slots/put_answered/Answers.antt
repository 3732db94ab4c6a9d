use Rattle.std.proofs.Common.{◌≡◌, ◌+◌, List, Option, Some, None, drop, map, get_or, Bool, subst, sym, ap, ◌∙◌, if◌then◌else◌}
use Rattle.std.specs.Option.{option_map}
use Rattle.switch_packet.specs.Packets.{plain_log, plain_outcome}
use Rattle.placement_model.specs.FirstOrder.{put_all}
use Rattle.gap_placement.proofs.Putting.{put_step, put_skip, put_end, put_each}
use Rattle.gap_placement.proofs.Steps.{each_at}
use Rattle.gap_placement.specs.Facts.{Each, IfThere, IsAnswered}
use Rattle.gap_placement.specs.Spots.{task_of, IsSpot}
use Rattle.gap_placement.specs.declared.spot.Spot.{Spot}
use Rattle.gap_placement.proofs.slots.put_answered.Goals as goal
use Rattle.gap_placement.proofs.slots.put_answered.Goals.{then-is_answered+else-not-put, else-is_answered}

abbrev zero_spot : Spot
zero_spot = record { client = 0; index = 0 }

pub is_answered-requires : goal.is_answered-requires
is_answered-requires c = each_at (IsSpot (map plain_log c.args.views.now)) c.args.spots.now c.loop-spot.spot-index zero_spot c.requires.spots c.loop-spot-test.true

pub outcome_at-requires : goal.outcome_at-requires
outcome_at-requires c = record {
  spot = each_at (IsSpot (map plain_log c.args.views.now)) c.args.spots.now c.loop-spot.spot-index zero_spot c.requires.spots c.loop-spot-test.true;
  answered = sym c.is_answered.ensures ∙ c.if-is_answered.true;
}

pub loop-spot-preserved : goal.loop-spot-preserved
loop-spot-preserved c =
    let logs = map plain_log c.args.views.now in
    let spots = c.args.spots.now in
    let i = c.loop-spot.spot-index in
    let this = get_or spots i zero_spot in
    let old = c.loop-spot.slots.items in
    let stands = each_at (IsSpot logs) spots i zero_spot c.requires.spots c.loop-spot-test.true in
    elim c.if-is_answered.branch [
      | then-is_answered+else-not-put w ↦
          let slots_is = ap (λ v. v.items) w.slots-is in
          let next = w.put.new.slots.items in
          let made : Some next ≡ (if w.put.result then Some next else None) = ap (λ (b : Bool). if b then Some next else None) (sym w.if-not-put.false) in
          record {
            put = ap (λ (l : List (Option Spot)). put_all (map (task_of logs) (drop (i + 1) spots)) (map (option_map (task_of logs)) l)) slots_is
                ∙ sym (put_step (task_of logs) spots i zero_spot old (plain_outcome w.outcome_at.result.now) (Some next) c.loop-spot-test.true w.outcome_at.ensures (made ∙ w.put.ensures))
                ∙ c.loop-spot.invariant.put;
            slots = subst (Each (IfThere (IsAnswered logs))) (sym slots_is)
                (put_each (task_of logs) (IfThere (IsAnswered logs)) w.outcome_at.result.now.number this old next (made ∙ w.put.ensures) c.loop-spot.invariant.slots (record { stands = stands; answered = sym c.is_answered.ensures ∙ w.if-is_answered.true }));
          }
      | else-is_answered w ↦
          let slots_is = ap (λ v. v.items) w.slots-is in
          record {
            put = ap (λ (l : List (Option Spot)). put_all (map (task_of logs) (drop (i + 1) spots)) (map (option_map (task_of logs)) l)) slots_is
                ∙ put_skip (task_of logs) spots i zero_spot old c.loop-spot-test.true (sym c.is_answered.ensures ∙ w.if-is_answered.false)
                ∙ c.loop-spot.invariant.put;
            slots = subst (Each (IfThere (IsAnswered logs))) (sym slots_is) c.loop-spot.invariant.slots;
          }
    ]

pub returns-clause-put : goal.returns-clause-put
returns-clause-put c = put_end (task_of (map plain_log c.args.views.now)) c.args.spots.now c.loop-spot.spot-index c.loop-spot.slots.items c.loop-spot-test.false ∙ c.loop-spot.invariant.put

pub returns-then-not-put-clause-put : goal.returns-then-not-put-clause-put
returns-then-not-put-clause-put c =
    let logs = map plain_log c.args.views.now in
    let next = c.put.new.slots.items in
    let made : ◌≡◌ {A = Option (List (Option Spot))} None (if c.put.result then Some next else None) = ap (λ (b : Bool). if b then Some next else None) (sym c.if-not-put.true) in
    sym (put_step (task_of logs) c.args.spots.now c.loop-spot.spot-index zero_spot c.loop-spot.slots.items (plain_outcome c.outcome_at.result.now) None c.loop-spot-test.true c.outcome_at.ensures (made ∙ c.put.ensures)) ∙ c.loop-spot.invariant.put
