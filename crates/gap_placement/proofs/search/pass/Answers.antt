use Rattle.std.proofs.Common.{◌≡◌, List, subst, sym, ap, ◌∙◌}
use Rattle.txn_model.specs.Places.{Places}
use Rattle.switch_packet.specs.Packets.{plain}
use Rattle.switch_packet.specs.Replay.{replay}
use Rattle.gap_placement.proofs.Walking.{places_same, replay_same}
use Rattle.gap_placement.specs.Replays.{HasPlaces}
use Rattle.gap_placement.specs.declared.change.Change.{Change}
use Rattle.gap_placement.proofs.search.pass.Goals as goal

pub walk-requires : goal.walk-requires
walk-requires c =
    let m = c.args.registers.now in
    let p = plain c.args.intent.now.packet in
    let after_is : c.replay_packet.new.map ≡ (replay p m).after = c.in_ok-_pairs.ensures.after ∙ ap (λ (x : Places). (replay p x).after) c.in_ok-after.ensures in
    subst (λ (cs : List Change). HasPlaces c.replay_packet.new.map cs) (sym c.as_slice.ensures.value)
    (subst (λ (x : Places). HasPlaces x c.args.leg.now.changes.items) (sym after_is) (places_same m (replay p m).after c.args.leg.now.changes.items (replay_same m p c.requires.replay) c.requires.places))
