use Rattle.std.proofs.Common.{◌≡◌, ◌<◌, ℤ, pos, SFits, w64, to_z, of_z, Option, unwrap_or, IsSome, length, rules, arith, sym, ap, ap₂, ◌∙◌}
use Rattle.std.specs.FinMap as fin
use Rattle.std.proofs.lemmas.Int.{to_z-of_z}
use Rattle.std.proofs.lemmas.List.{length-set}
use Rattle.std.proofs.lemmas.List.Elements.{All-from_recursion}
use Rattle.txn_model.specs.Needs.{needs_list}
use Rattle.txn_model.specs.Tuples.{value_at}
use Rattle.txn_model.specs.Serial.{pair_of, effect}
use Rattle.txn_model.specs.declared.op.Need.{Need}
use Rattle.txn_model.specs.declared.pairs.Pair.{Pair}
use Rattle.txn_model.proofs.SerialLaws.{item_of_all, sound_needs, serial_step, serial_end, there-insert, below_more_room}
use Rattle.txn_model.proofs.serial.run_serial.Goals as goal

pub operand-requires : goal.operand-requires
operand-requires c =
    let ops = c.args.script.now.items in
    let before = sound_needs ops c.loop-i.i c.op-op.result c.requires.fit c.op-op.ensures in
    All-from_recursion (λ (n : Need). n.from < length c.loop-i.out.items) (needs_list c.op-op.result.needs) (below_more_room c.loop-i.i _ (omega arith) _ before)

pub set-requires : goal.set-requires
set-requires c = record { there = item_of_all (λ op. IsSome (fin.get c.loop-i.map op.tuple)) c.args.script.now.items c.loop-i.i c.op-op.result c.loop-i.invariant.there c.op-op.ensures }

pub loop-i-preserved : goal.loop-i-preserved
loop-i-preserved c =
    let ops = c.args.script.now.items in
    let op = c.op-op.result in
    let out = c.loop-i.out.items in
    let needs = needs_list op.needs in
    let before = sound_needs ops c.loop-i.i op c.requires.fit c.op-op.ensures in
    let was_fits : SFits w64 c.unwrap_or-was.result = search rules in
    let operand_fits : SFits w64 c.operand.result = search rules in
    let now_fits : SFits w64 c.effect-now.result = search rules in
    let was_is = to_z-of_z w64 c.unwrap_or-was.result was_fits ∙ c.unwrap_or-was.ensures ∙ ap (λ (o : Option ℤ). unwrap_or o (pos 0)) c.get.ensures in
    let operand_is = to_z-of_z w64 c.operand.result operand_fits ∙ c.operand.ensures in
    let now_is = to_z-of_z w64 c.effect-now.result now_fits ∙ c.effect-now.ensures ∙ ap₂ (effect op.act) was_is operand_is in
    let pair : Pair = record { was = to_z w64 (of_z w64 c.unwrap_or-was.result); now = to_z w64 (of_z w64 c.effect-now.result) } in
    let pair_is : pair ≡ pair_of op out (value_at c.loop-i.map op.tuple) = λ i. record { was = was_is i; now = now_is i } in
    record {
      room = ap length c.set-in-loop-i.ensures.items ∙ length-set out c.loop-i.i pair ∙ c.loop-i.invariant.room;
      spare = c.set-in-loop-i.ensures.spare ∙ c.loop-i.invariant.spare;
      there = rw c.set.ensures (there-insert c.loop-i.map op.tuple pair.now ops c.loop-i.invariant.there);
      run = rw (c.set-in-loop-i.ensures.items, c.set.ensures) (serial_step ops c.loop-i.i op out c.loop-i.map c.op-op.ensures (omega arith) before pair pair_is ∙ c.loop-i.invariant.run);
    }

pub returns-clause-reply : goal.returns-clause-reply
returns-clause-reply c = ap (λ e. e.reply) (sym (serial_end c.args.script.now.items c.loop-i.i c.loop-i.out.items c.loop-i.map (omega arith) (omega arith)) ∙ c.loop-i.invariant.run)

pub returns-clause-map : goal.returns-clause-map
returns-clause-map c = ap (λ e. e.after) (sym (serial_end c.args.script.now.items c.loop-i.i c.loop-i.out.items c.loop-i.map (omega arith) (omega arith)) ∙ c.loop-i.invariant.run)
