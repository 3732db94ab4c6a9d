use Rattle.std.proofs.Common.{◌≡◌, ℕ, ◌+◌, ◌<◌, None, map, get_or, length, subst, sym, arith}
use Rattle.std.specs.BTreeSet as set
use Rattle.std.specs.FinMap as fin
use Rattle.std.specs.Option.{option_map}
use Rattle.txn_model.specs.Places.{place_cmp}
use Rattle.switch_packet.specs.Packets.{PlainIntent, plain_log}
use Rattle.gap_placement.proofs.Joining.{if_ok, near_part, near_touches, one_more_slot}
use Rattle.gap_placement.proofs.Steps.{each_at}
use Rattle.gap_placement.specs.Facts.{IfThere, IsUsable}
use Rattle.gap_placement.specs.Near.{AllTouch, AreIn, IsPart}
use Rattle.gap_placement.specs.Spots.{task_of}
use Rattle.gap_placement.proofs.near.near_registers.Goals as goal
use Rattle.gap_placement.proofs.near.near_registers.Goals.{in-Some+in_ok-add_places, in_default}

pub intent_at-requires : goal.intent_at-requires
intent_at-requires c =
    let P = IsUsable (map plain_log c.args.views.now) c.args.first.now in
    (subst (IfThere P) c.in-Some.is (each_at (IfThere P) c.args.standing.now c.loop-i.i None c.requires c.loop-i-test.true)).stands

pub loop-i-preserved : goal.loop-i-preserved
loop-i-preserved c =
    let logs = map plain_log c.args.views.now in
    let standing = c.args.standing.now in
    let i = c.loop-i.i in
    elim c.match-slot.branch [
      | in-Some+in_ok-add_places w ↦
          let more = w.add_places.new.to in
          let here : AreIn more (task_of logs w.in-Some.spot).intent.packet.ops = subst (λ (x : PlainIntent). AreIn more x.packet.ops) w.intent_at.ensures w.in_ok-add_places.ensures.added in
          subst (λ m. (k : ℕ) → k < i + 1 → IfThere (λ s. AreIn m (task_of logs s).intent.packet.ops) (get_or standing k None)) (sym w.places-is)
          (one_more_slot logs c.loop-i.places more standing i w.in_ok-add_places.ensures.kept (subst (IfThere (λ s. AreIn more (task_of logs s).intent.packet.ops)) (sym w.in-Some.is) here) c.loop-i.invariant)
      | in_default w ↦
          subst (λ m. (k : ℕ) → k < i + 1 → IfThere (λ s. AreIn m (task_of logs s).intent.packet.ops) (get_or standing k None)) (sym w.places-is)
          (one_more_slot logs c.loop-i.places c.loop-i.places standing i (λ q e. e) (subst (IfThere (λ s. AreIn c.loop-i.places (task_of logs s).intent.packet.ops)) (sym w.in_default.is) tt) c.loop-i.invariant)
    ]

pub returns : goal.returns
returns c =
    let logs = map plain_log c.args.views.now in
    let first = c.args.first.now in
    let places = c.loop-i.places in
    let standing = c.args.standing.now in
    let all = λ (k : ℕ) (lt : k < length standing). c.loop-i.invariant k (omega arith) in
    record {
      part = if_ok (λ m. m ≡ fin.retain_keys first (set.contains place_cmp places)) (λ m. IsPart m first) c.registers_at.result c.registers_at.ensures (λ m is. near_part places first m is);
      touch = if_ok (λ m. m ≡ fin.retain_keys first (set.contains place_cmp places)) (λ m. AllTouch m (map (option_map (task_of logs)) standing)) c.registers_at.result c.registers_at.ensures (λ m is. near_touches places logs first m is standing all c.requires);
    }
