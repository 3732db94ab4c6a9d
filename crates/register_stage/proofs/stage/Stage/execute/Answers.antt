use Rattle.std.proofs.Common.{◌≡◌, ℤ, pos, SFits, w64, to_z, of_z, rules, Option, unwrap_or, set, take, sym, ap, ap₂, ◌∙◌}
use Rattle.std.specs.FinMap as fin
use Rattle.std.proofs.lemmas.Int.{to_z-of_z}
use Rattle.txn_model.specs.Needs.{needs_list}
use Rattle.txn_model.specs.Serial.{operand, effect}
use Rattle.txn_model.specs.declared.pairs.Pair.{Pair}
use Rattle.txn_model.specs.declared.place.Place.{Place}
use Rattle.switch_packet.specs.Replay.{register_at, packet_pair}
use Rattle.register_stage.specs.Registers.{Registers}
use Rattle.register_stage.proofs.Steps.{operand-take, place_in-is}
use Rattle.register_stage.proofs.stage.Stage.execute.Goals as goal

-- the pair that was made is that of the operation
made : (c : goal.After-set) → (record { was = to_z w64 (of_z w64 c.cell-was.result); now = to_z w64 (of_z w64 c.effect-now.result) } ≡ packet_pair c.args.op.now (take c.args.i c.args.pairs.now.items) (register_at c.args.self.now.numbers c.args.op.now.place))
made c =
    let op = c.args.op.now in
    let needs = needs_list op.needs in
    let pairs = c.args.pairs.now.items in
    let numbers = c.args.self.now.numbers in
    let was_fits : SFits w64 c.cell-was.result = search rules in
    let operand_fits : SFits w64 c.operand.result = search rules in
    let now_fits : SFits w64 c.effect-now.result = search rules in
    let bias_fits : SFits w64 op.bias = search rules in
    let was_is = to_z-of_z w64 c.cell-was.result was_fits ∙ sym (ap (λ (o : Option ℤ). unwrap_or o (pos 0)) (ap (fin.get numbers) (sym (place_in-is op.place c.args.self.now.stage c.requires.here)) ∙ c.cell-was.ensures)) in
    let operand_is = to_z-of_z w64 c.operand.result operand_fits ∙ c.operand.ensures ∙ ap (λ (b : ℤ). operand needs b pairs) (to_z-of_z w64 op.bias bias_fits) ∙ sym (operand-take needs op.bias c.args.i pairs c.requires.can.earlier) in
    let now_is = to_z-of_z w64 c.effect-now.result now_fits ∙ c.effect-now.ensures ∙ ap₂ (effect op.act) was_is operand_is in
    λ j. record { was = was_is j; now = now_is j }

pub returns-clause-numbers : goal.returns-clause-numbers
returns-clause-numbers c =
    let s = c.args.self.now in
    c.set_cell.ensures
    ∙ ap₂ (λ (p : Place) (v : ℤ). let r : Registers = record { stage = s.stage; numbers = fin.insert s.numbers p v } in r) (place_in-is c.args.op.now.place s.stage c.requires.here) (ap (λ (p : Pair). p.now) (made c))

pub returns-clause-pairs : goal.returns-clause-pairs
returns-clause-pairs c = c.set.ensures.items ∙ ap (set c.args.pairs.now.items c.args.i) (made c)
