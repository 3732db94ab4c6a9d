use Rattle.std.proofs.Common.{◌≡◌, ◌+◌, ℕ, [], List, length, map, ap, sym, refl, ◌∙◌, arith, append-nil}
use Rattle.std.specs.List.{zip}
use Rattle.txn_model.specs.declared.op.Op.{Op}
use Rattle.stage_layout.specs.Late.{parts_of}
use Rattle.stage_layout.specs.Passes.{Plan, greatest, plan_of}
use Rattle.switch_packet.specs.Packets.{PlainPacket}
use Rattle.switch_packet.specs.declared.packet.PacketOp.{PacketOp}
use Rattle.warm_split.specs.Joined.{joined}
use Rattle.warm_split.specs.Resolved.{planned_ops, packet_from}
use Rattle.warm_split.specs.Sides.{found_values}
use Rattle.warm_split.proofs.JoinSteps.{known_joined}
use Rattle.warm_split.proofs.JoinedLaws.{packed, length-plan}
use Rattle.warm_split.proofs.PackedLaws.{packed_same}
use Rattle.warm_split.proofs.ScriptFits.{all_fit}
use Rattle.warm_split.proofs.Sets.{hot_set}
use Rattle.warm_split.proofs.packets.resolve.Goals as goal

pub push_ops-requires-clause-sets : goal.push_ops-requires-clause-sets
push_ops-requires-clause-sets c = hot_set (parts_of c.args.layout.now c.args.script.now.items) c.args.parts.now c.requires.sets

pub push_ops-requires-clause-passes : goal.push_ops-requires-clause-passes
push_ops-requires-clause-passes c =
    ap (λ (p : Plan). length p.passes) c.hot_plan-plan.ensures ∙ length-plan c.args.shape.now c.args.layout.now c.args.script.now.items

pub returns : goal.returns
unfolding packet_from
returns c =
    let shape = c.args.shape.now in
    let rows = c.args.layout.now in
    let ops = c.args.script.now.items in
    let pairs = c.args.pairs.now.items in
    let parts = parts_of rows ops in
    let plan = plan_of shape (planned_ops rows ops) in
    let known = joined rows ops (found_values rows ops pairs) [] in
    let is = c.hot_plan-plan.ensures in
    let passes = c.passes-to.ensures ∙ ap (λ (p : Plan). greatest p.passes) is in
    let halves = c.halves-to.ensures ∙ ap (λ (p : Plan). p.halves) is in
    let list = c.push_ops.ensures.ops ∙ ap (λ (p : Plan). packed rows parts pairs p.passes ops) is
    ∙ packed_same rows parts pairs known plan.passes 0 ops (all_fit rows ops c.requires.visit) (known_joined rows ops c.args.parts.now pairs [] c.requires.visit c.requires.sets c.requires.filled) in
    record {
      packet = λ j. record { client = c.args.client; seq = c.args.seq; passes = passes j; halves = halves j; ops = list j };
      room = c.push_ops.ensures.room ∙ c.clear.ensures.room;
    }
