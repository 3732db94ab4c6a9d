use Rattle.std.proofs.Common.{◌≡◌, ℕ, ◌+◌, ◌<◌, ◌++◌, ◌∷◌, [], ℤ, List, take, length, w64, SFits, to_z, of_z, rules, arith, sym, ap, ap₂, ◌∙◌}
use Rattle.std.specs.List.{AllByRecursion}
use Rattle.std.proofs.lemmas.Int.{to_z-of_z}
use Rattle.std.proofs.lemmas.List.Elements.{All-from_recursion}
use Rattle.std.proofs.lemmas.Option.{slice_get_within}
use Rattle.txn_model.specs.Needs.{needs_list}
use Rattle.txn_model.specs.Serial.{operand, effect}
use Rattle.txn_model.specs.declared.op.Need.{Need}
use Rattle.txn_model.specs.declared.pairs.Pair.{Pair}
use Rattle.switch_packet.specs.declared.packet.PacketOp.{PacketOp}
use Rattle.txn_model.proofs.SerialLaws.{below_more_room}
use Rattle.gap_placement.proofs.Steps.{same_held, operand_take, change_at, left_changes, behind_front, changes_step, changes_stop, changes_end, changes_unequal}
use Rattle.gap_placement.specs.declared.change.Change.{Change}
use Rattle.gap_placement.proofs.change.add_changes.Goals as goal

pub returns-then-len : goal.returns-then-len
returns-then-len c = sym (ap (behind_front c.args.to.now.items) (changes_unequal c.args.packet.now.ops.items c.args.pairs.now.items [] (λ e. c.if-len.true (c.len.ensures.value ∙ e ∙ sym c.len-2.ensures))))

pub operand-requires : goal.operand-requires
operand-requires c =
    let op = c.get-op.result.now in
    let lt = slice_get_within c.args.pairs.now.items c.loop-i.i c.get-pair.result c.get-pair.ensures in
    All-from_recursion (λ (n : Need). n.from < length c.args.pairs.now.items) (needs_list op.needs) (below_more_room c.loop-i.i (length c.args.pairs.now.items) (omega arith) (needs_list op.needs) (c.requires c.loop-i.i op c.get-op.ensures))

-- what the code compares with
wanted_is : (op : PacketOp) (p : Pair) (pairs : List Pair) (i : ℕ) (effect_result operand_result : ℤ) → SFits w64 operand_result → SFits w64 op.bias → SFits w64 p.was → AllByRecursion (λ n. n.from < i) (needs_list op.needs)
    → operand_result ≡ operand (needs_list op.needs) (to_z w64 (of_z w64 op.bias)) pairs → effect_result ≡ effect op.act (to_z w64 (of_z w64 p.was)) (to_z w64 (of_z w64 operand_result))
    → effect_result ≡ effect op.act p.was (operand (needs_list op.needs) op.bias (take i pairs))
wanted_is op p pairs i effect_result operand_result operand_fits bias_fits was_fits earlier o e =
    let needs = needs_list op.needs in
    let operand_is = to_z-of_z w64 operand_result operand_fits ∙ o ∙ ap (λ (b : ℤ). operand needs b pairs) (to_z-of_z w64 op.bias bias_fits) ∙ sym (operand_take needs op.bias i pairs earlier) in
    e ∙ ap₂ (effect op.act) (to_z-of_z w64 p.was was_fits) operand_is

pub returns-then-pair-effect : goal.returns-then-pair-effect
returns-then-pair-effect c =
    let op = c.get-op.result.now in
    let p = c.get-pair.result in
    let operand_fits : SFits w64 c.operand.result = search rules in
    let bias_fits : SFits w64 op.bias = search rules in
    let was_fits : SFits w64 p.was = search rules in
    let is = wanted_is op p c.args.pairs.now.items c.loop-i.i c.effect.result c.operand.result operand_fits bias_fits was_fits (c.requires c.loop-i.i op c.get-op.ensures) c.operand.ensures c.effect.ensures in
    changes_stop c.args.packet.now.ops.items c.args.pairs.now.items c.loop-i.i op p c.get-op.ensures c.get-pair.ensures c.loop-i.to.items (λ e. c.if-pair-effect.true (ap (of_z w64) (e ∙ sym is))) ∙ c.loop-i.invariant

pub loop-i-preserved : goal.loop-i-preserved
loop-i-preserved c =
    let ops = c.args.packet.now.ops.items in
    let pairs = c.args.pairs.now.items in
    let op = c.get-op.result.now in
    let p = c.get-pair.result in
    let operand_fits : SFits w64 c.operand.result = search rules in
    let effect_fits : SFits w64 c.effect.result = search rules in
    let bias_fits : SFits w64 op.bias = search rules in
    let was_fits : SFits w64 p.was = search rules in
    let now_fits : SFits w64 p.now = search rules in
    let is = wanted_is op p pairs c.loop-i.i c.effect.result c.operand.result operand_fits bias_fits was_fits (c.requires c.loop-i.i op c.get-op.ensures) c.operand.ensures c.effect.ensures in
    let now_is = same_held p.now c.effect.result now_fits effect_fits c.if-pair-effect.false ∙ is in
    let held : Change = record { place = op.place; was = to_z w64 (of_z w64 p.was); now = to_z w64 (of_z w64 p.now) } in
    let held_is : held ≡ change_at op p = λ j. record { place = op.place; was = to_z-of_z w64 p.was was_fits j; now = to_z-of_z w64 p.now now_fits j } in
    ap (λ (l : List Change). behind_front l (left_changes ops pairs (c.loop-i.i + 1))) (c.in_ok-push.ensures.items ∙ ap (λ (x : Change). c.loop-i.to.items ++ x ∷ []) held_is)
    ∙ changes_step ops pairs c.loop-i.i op p c.get-op.ensures c.get-pair.ensures c.loop-i.to.items now_is
    ∙ c.loop-i.invariant

pub returns : goal.returns
returns c = changes_end c.args.packet.now.ops.items c.args.pairs.now.items c.loop-i.i c.loop-i.to.items (omega (arith, c.if-len.false, c.len.ensures.value, c.len-2.ensures, c.len-i-end.ensures.value, c.loop-i-test.false)) (omega (arith, c.len-i-end.ensures.value, c.loop-i-test.false)) ∙ c.loop-i.invariant
