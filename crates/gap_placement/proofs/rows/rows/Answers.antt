use Rattle.std.proofs.Common.{◌≡◌, ◌+◌, ◌++◌, List, drop, map, get_or, is_some, subst, sym, ap, ap₂, ◌∙◌}
use Rattle.std.specs.FinMap as fin
use Rattle.std.proofs.lemmas.List.{map-append}
use Rattle.txn_model.specs.Places.{Places}
use Rattle.switch_packet.specs.Packets.{PlainIntent, PlainPacket, plain_log}
use Rattle.switch_packet.specs.Replay.{replay, replay_all}
use Rattle.placement_model.specs.Placements.{PlainSlotted, packets_of, rows_from}
use Rattle.gap_placement.proofs.RowSteps.{rows_step, registers_step, rows_end, registers_end}
use Rattle.gap_placement.proofs.Steps.{each_at}
use Rattle.gap_placement.proofs.Walking.{can_same, replay_same}
use Rattle.gap_placement.specs.Answers.{plain_slotted}
use Rattle.gap_placement.specs.Facts.{IsUsable}
use Rattle.gap_placement.specs.Replays.{CanReplay}
use Rattle.gap_placement.specs.Spots.{task_of}
use Rattle.gap_placement.specs.declared.placement.Slotted.{Slotted}
use Rattle.gap_placement.specs.declared.spot.Spot.{Spot}
use Rattle.gap_placement.proofs.rows.rows.Goals as goal

abbrev zero_spot : Spot
zero_spot = record { client = 0; index = 0 }

pub loop-i-init : goal.loop-i-init
loop-i-init c =
    let f = task_of (map plain_log c.args.views.now) in
    let order = map f c.args.order.now in
    record {
      rows = ap₂ (λ (l : List Slotted) (x : Places). map plain_slotted l ++ rows_from 1 x order) c.new-rows.ensures.items c.in_ok-registers.ensures;
      registers = ap (λ (x : Places). (replay_all (packets_of order) x).after) c.in_ok-registers.ensures;
      same = λ place. ap (λ (x : Places). is_some (fin.get x place)) c.in_ok-registers.ensures;
    }

pub intent_at-requires : goal.intent_at-requires
intent_at-requires c = (each_at (IsUsable (map plain_log c.args.views.now) c.args.first.now) c.args.order.now c.loop-i.i zero_spot c.requires.usable c.loop-i-test.true).stands

pub replay_packet-requires : goal.replay_packet-requires
replay_packet-requires c =
    let logs = map plain_log c.args.views.now in
    let this = get_or c.args.order.now c.loop-i.i zero_spot in
    let usable = each_at (IsUsable logs c.args.first.now) c.args.order.now c.loop-i.i zero_spot c.requires.usable c.loop-i-test.true in
    subst (CanReplay c.loop-i.registers) (sym (ap (λ (x : PlainIntent). x.packet) c.intent_at.ensures)) (can_same c.args.first.now c.loop-i.registers (task_of logs this).intent.packet c.loop-i.invariant.same usable.replay)

pub loop-i-preserved : goal.loop-i-preserved
loop-i-preserved c =
    let logs = map plain_log c.args.views.now in
    let f = task_of logs in
    let order = c.args.order.now in
    let i = c.loop-i.i in
    let m = c.loop-i.registers in
    let this = get_or order i zero_spot in
    let t = f this in
    let packet_is = ap (λ (x : PlainIntent). x.packet) c.intent_at.ensures in
    let usable = each_at (IsUsable logs c.args.first.now) order i zero_spot c.requires.usable c.loop-i-test.true in
    let can = can_same c.args.first.now m t.intent.packet c.loop-i.invariant.same usable.replay in
    let next_is : c.replay_packet.new.map ≡ (replay t.intent.packet m).after = c.in_ok-pairs.ensures.after ∙ ap (λ (p : PlainPacket). (replay p m).after) packet_is in
    let pairs_is = c.in_ok-pairs.ensures.pairs ∙ ap (λ (p : PlainPacket). (replay p m).pairs) packet_is in
    let row : PlainSlotted = record { number = i + 1; client = this.client; seq = c.intent_at.result.now.packet.seq; pairs = c.in_ok-pairs.pairs.items } in
    let row_is : row ≡ record { number = i + 1; client = t.client; seq = t.intent.packet.seq; pairs = (replay t.intent.packet m).pairs } = λ j. record { number = i + 1; client = this.client; seq = (packet_is j).seq; pairs = pairs_is j } in
    record {
      rows = ap (λ (l : List Slotted). map plain_slotted l ++ rows_from (i + 1 + 1) c.replay_packet.new.map (map f (drop (i + 1) order))) c.in_ok-push.ensures.items
          ∙ ap (λ (l : List PlainSlotted). l ++ rows_from (i + 1 + 1) c.replay_packet.new.map (map f (drop (i + 1) order))) (map-append plain_slotted c.loop-i.rows.items _)
          ∙ rows_step f order i m zero_spot (map plain_slotted c.loop-i.rows.items) row c.replay_packet.new.map c.loop-i-test.true row_is next_is
          ∙ c.loop-i.invariant.rows;
      registers = registers_step f order i m zero_spot c.replay_packet.new.map c.loop-i-test.true next_is ∙ c.loop-i.invariant.registers;
      same = λ place. ap (λ (x : Places). is_some (fin.get x place)) next_is ∙ replay_same m t.intent.packet can place ∙ c.loop-i.invariant.same place;
    }

pub returns-clause-rows : goal.returns-clause-rows
returns-clause-rows c =
    ap (map plain_slotted) c.of.ensures.items
    ∙ rows_end (task_of (map plain_log c.args.views.now)) c.args.order.now c.loop-i.i c.loop-i.registers (map plain_slotted c.loop-i.rows.items) c.loop-i-test.false
    ∙ c.loop-i.invariant.rows

pub returns-clause-registers : goal.returns-clause-registers
returns-clause-registers c = registers_end (task_of (map plain_log c.args.views.now)) c.args.order.now c.loop-i.i c.loop-i.registers c.loop-i-test.false ∙ c.loop-i.invariant.registers
