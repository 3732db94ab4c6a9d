use Rattle.std.proofs.Common.{◌≡◌, ◌<◌, ◌≤◌, ◌+◌, ◌++◌, ◌∷◌, [], ℕ, SFits, w64, to_z, of_z, List, length, map, get_or, take, pos, slice_get, Some, true, rules, ap, ap₂, sym, subst, refl, ◌∙◌, arith}
use Rattle.std.specs.List.{zip, AllByRecursion}
use Rattle.std.proofs.lemmas.Int.{to_z-of_z}
use Rattle.std.proofs.lemmas.List.{length_push}
use Rattle.std.proofs.lemmas.List.Elements.{All-from_recursion}
use Rattle.txn_model.specs.Listed.{Listed}
use Rattle.txn_model.specs.Needs.{needs_list, needs_of}
use Rattle.txn_model.specs.Serial.{operand}
use Rattle.txn_model.specs.declared.op.Need.{Need}
use Rattle.txn_model.specs.declared.op.Op.{Op}
use Rattle.txn_model.specs.declared.pairs.Pair.{Pair}
use Rattle.txn_model.proofs.NeedsLaws.{needs_of-needs_list}
use Rattle.txn_model.proofs.SerialLaws.{sound_length, sound_needs, below_more_room}
use Rattle.stage_layout.specs.Late.{is_hot, parts_of}
use Rattle.stage_layout.specs.declared.layout.LayoutRow.{LayoutRow}
use Rattle.switch_packet.specs.declared.packet.PacketOp.{PacketOp}
use Rattle.warm_split.specs.Resolved.{packet_op}
use Rattle.warm_split.specs.Sides.{hot_ops}
use Rattle.warm_split.proofs.JoinedLaws.{in_switch_at}
use Rattle.warm_split.proofs.PackedLaws.{hot_before, hot_upto, packed_size, packed_none, packed_push, packed_skip, cold_all}
use Rattle.warm_split.proofs.packets.push_ops.Goals as goal
use Rattle.warm_split.proofs.packets.push_ops.Goals.{then-has, else-has}

pub overflow_cast-len : goal.overflow_cast-len
overflow_cast-len c = omega (arith, sound_length c.args.script.now.items c.requires.visit.script)

pub loop-i-init : goal.loop-i-init
loop-i-init c = record {
  ops = c.requires.none ∙ sym (packed_none c.args.layout.now (parts_of c.args.layout.now c.args.script.now.items) c.args.pairs.now.items c.args.plan.now.passes);
  room = omega (arith, ap length c.requires.none);
}

-- as many operations in the packet as hot ones so far
so_far : (rows : List LayoutRow) (ops : List Op) (pairs : List Pair) (passes : List ℕ) (i : ℕ) (o : Op) (items : List PacketOp) → slice_get ops i ≡ Some o → is_hot rows o.tuple ≡ true → length passes ≡ length (hot_ops rows ops)
    → items ≡ map (λ (step : ℕ × Op). packet_op rows (parts_of rows ops) pairs step.0 step.1) (zip passes (hot_ops rows (take i ops))) → length items ≡ length (hot_ops rows (take i ops))
so_far rows ops pairs passes i o items at hot size is =
    ap length is ∙ packed_size rows (parts_of rows ops) pairs passes (hot_ops rows (take i ops)) (omega (arith, hot_before rows ops i o at hot, size))

pub overflow_cast-len-then-has : goal.overflow_cast-len-then-has
overflow_cast-len-then-has c =
    let rows = c.args.layout.now in
    let ops = c.args.script.now.items in
    let i = c.loop-i.i in
    let at = c.op-this.ensures in
    let hot = sym (in_switch_at rows ops i c.op-this.result at) ∙ sym (c.requires.sets i) ∙ sym c.has.ensures ∙ c.if-has.true in
    let here = so_far rows ops c.args.pairs.now.items c.args.plan.now.passes i c.op-this.result c.loop-i.to.items at hot c.requires.passes c.loop-i.invariant.ops in
    let few = sound_length ops c.requires.visit.script in
    let upto = hot_upto rows ops i (omega (arith, c.loop-i-test.true, c.len-len.ensures)) in
    omega (arith, here, few, upto, c.len.ensures, c.loop-i-test.true, c.len-len.ensures)

pub pass-pass-requires : goal.pass-pass-requires
pass-pass-requires c =
    let rows = c.args.layout.now in
    let ops = c.args.script.now.items in
    let i = c.loop-i.i in
    let at = c.op-this.ensures in
    let hot = sym (in_switch_at rows ops i c.op-this.result at) ∙ sym (c.requires.sets i) ∙ sym c.has.ensures ∙ c.if-has.true in
    let here = so_far rows ops c.args.pairs.now.items c.args.plan.now.passes i c.op-this.result c.loop-i.to.items at hot c.requires.passes c.loop-i.invariant.ops in
    omega (arith, here, c.len.ensures, c.requires.passes, hot_before rows ops i c.op-this.result at hot)

pub operand-bias-requires : goal.operand-bias-requires
operand-bias-requires c =
    let rows = c.args.layout.now in
    let ops = c.args.script.now.items in
    let parts = parts_of rows ops in
    let i = c.loop-i.i in
    let n = length c.args.pairs.now.items in
    let needs = needs_list c.op-this.result.needs in
    let earlier = sound_needs ops i c.op-this.result c.requires.visit.script c.op-this.ensures in
    let all = cold_all parts (λ (m : Need). m.from < n) needs (below_more_room i n (omega (arith, c.loop-i-test.true, c.len-len.ensures, c.requires.size)) needs earlier) in
    All-from_recursion (λ (m : Need). m.from < n) (needs_list c.cold_needs-cold.result) (subst (λ (l : List Need). AllByRecursion (λ m. m.from < n) l) (sym (c.cold_needs-cold.ensures parts c.requires.sets)) all)

pub push-requires : goal.push-requires
push-requires c =
    let rows = c.args.layout.now in
    let ops = c.args.script.now.items in
    let i = c.loop-i.i in
    let at = c.op-this.ensures in
    let hot = sym (in_switch_at rows ops i c.op-this.result at) ∙ sym (c.requires.sets i) ∙ sym c.has.ensures ∙ c.if-has.true in
    let here = so_far rows ops c.args.pairs.now.items c.args.plan.now.passes i c.op-this.result c.loop-i.to.items at hot c.requires.passes c.loop-i.invariant.ops in
    let few = sound_length ops c.requires.visit.script in
    let upto = hot_upto rows ops i (omega (arith, c.loop-i-test.true, c.len-len.ensures)) in
    omega (arith, here, few, upto, c.requires.room, c.loop-i.invariant.room, c.loop-i-test.true, c.len-len.ensures)

pub loop-i-preserved : goal.loop-i-preserved
loop-i-preserved c =
    let rows = c.args.layout.now in
    let ops = c.args.script.now.items in
    let parts = parts_of rows ops in
    let pairs = c.args.pairs.now.items in
    let passes = c.args.plan.now.passes in
    let i = c.loop-i.i in
    let o = c.op-this.result in
    let at = c.op-this.ensures in
    let had = c.loop-i.invariant in
    let switch = in_switch_at rows ops i o at in
    elim c.if-has.branch [
      | then-has w ↦
          let hot = sym switch ∙ sym (c.requires.sets i) ∙ sym c.has.ensures ∙ w.if-has.true in
          let here = so_far rows ops pairs passes i o c.loop-i.to.items at hot c.requires.passes had.ops in
          let more : length (hot_ops rows (take i ops)) < length passes = omega (arith, hot_before rows ops i o at hot, c.requires.passes) in
          let bias_fits : SFits w64 w.operand-bias.result = search rules in
          let pass_is = w.pass-pass.ensures ∙ ap (λ (k : ℕ). get_or passes k 0) (w.len.ensures ∙ here) in
          let bias_is = to_z-of_z w64 w.operand-bias.result bias_fits ∙ w.operand-bias.ensures ∙ ap (λ (l : List Need). operand l (pos 0) pairs) (w.cold_needs-cold.ensures parts c.requires.sets) in
          let needs_is = sym (needs_of-needs_list w.hot_needs-needs.result) ∙ ap needs_of (w.hot_needs-needs.ensures parts c.requires.sets) in
          let item : PacketOp = record { pass = w.pass-pass.result; place = w.hot_place-place.result; act = o.act; bias = to_z w64 (of_z w64 w.operand-bias.result); needs = w.hot_needs-needs.result } in
          let item_is : item ≡ packet_op rows parts pairs (get_or passes (length (hot_ops rows (take i ops))) 0) o =
          λ j. record { pass = pass_is j; place = w.hot_place-place.ensures j; act = o.act; bias = bias_is j; needs = needs_is j } in
          let items = ap (λ (p : Listed PacketOp). p.items) w.to-is ∙ w.push.ensures.items in
          let spare = ap (λ (p : Listed PacketOp). p.spare) w.to-is in
          record {
            ops = items ∙ ap₂ (λ (l : List PacketOp) (x : PacketOp). l ++ x ∷ []) had.ops item_is ∙ sym (packed_push rows parts pairs passes ops i o at hot more);
            room = omega (arith, ap length items, length_push c.loop-i.to.items item, spare, w.push.ensures.spare, had.room);
          }
      | else-has w ↦
          let cold = sym switch ∙ sym (c.requires.sets i) ∙ sym c.has.ensures ∙ w.if-has.false in
          record {
            ops = ap (λ (p : Listed PacketOp). p.items) w.to-is ∙ had.ops ∙ sym (packed_skip rows parts pairs passes ops i o at cold);
            room = ap (λ (p : Listed PacketOp). length p.items + p.spare) w.to-is ∙ had.room;
          }
    ]
