use Rattle.std.proofs.Common.{◌≡◌, ◌<◌, SFits, w64, to_z, of_z, Some, length, set, rules, arith, sym, ap, ap₂, subst, ◌∙◌}
use Rattle.std.specs.List.{AllByRecursion}
use Rattle.std.proofs.lemmas.Int.{to_z-of_z}
use Rattle.std.proofs.lemmas.List.Elements.{All-from_recursion}
use Rattle.std.proofs.lemmas.Option.{get_or_from_slice_get}
use Rattle.txn_model.specs.Needs.{needs_list}
use Rattle.txn_model.specs.Serial.{pair_at, pair_of, effect}
use Rattle.txn_model.specs.declared.op.Need.{Need}
use Rattle.txn_model.specs.declared.op.Op.{Op}
use Rattle.txn_model.specs.declared.pairs.Pair.{Pair}
use Rattle.txn_model.proofs.SerialLaws.{sound_needs, below_more_room}
use Rattle.warm_split.proofs.pairs.execute.Goals as goal

pub operand-requires : goal.operand-requires
operand-requires c =
    let ops = c.args.script.now.items in
    let before = sound_needs ops c.args.op c.op-this.result c.requires.fit c.op-this.ensures in
    All-from_recursion (λ (n : Need). n.from < length c.args.pairs.now.items) (needs_list c.op-this.result.needs) (below_more_room c.args.op (length c.args.pairs.now.items) (omega (arith, c.requires.size, c.requires.there)) (needs_list c.op-this.result.needs) before)

pub returns-clause-items : goal.returns-clause-items
returns-clause-items c = λ o at.
    let op = c.op-this.result in
    let pairs = c.args.pairs.now.items in
    let was_fits : SFits w64 c.get-was.result.was = search rules in
    let operand_fits : SFits w64 c.operand.result = search rules in
    let now_fits : SFits w64 c.effect-now.result = search rules in
    let was_is = to_z-of_z w64 c.get-was.result.was was_fits in
    let operand_is = to_z-of_z w64 c.operand.result operand_fits ∙ c.operand.ensures in
    let now_is = to_z-of_z w64 c.effect-now.result now_fits ∙ c.effect-now.ensures ∙ ap₂ (effect op.act) was_is operand_is in
    let pair : Pair = record { was = to_z w64 (of_z w64 c.get-was.result.was); now = to_z w64 (of_z w64 c.effect-now.result) } in
    let pair_is : pair ≡ pair_of op pairs c.get-was.result.was = λ i. record { was = was_is i; now = now_is i } in
    let found : pair_at pairs c.args.op ≡ c.get-was.result = get_or_from_slice_get pairs c.args.op c.get-was.result _ c.get-was.ensures in
    let same : op ≡ o = cc (c.op-this.ensures, at) in
    c.set.ensures.items ∙ ap (λ (p : Pair). set pairs c.args.op p) (pair_is ∙ ap (λ (p : Pair). pair_of op pairs p.was) (sym found) ∙ ap (λ (x : Op). pair_of x pairs (pair_at pairs c.args.op).was) same)
