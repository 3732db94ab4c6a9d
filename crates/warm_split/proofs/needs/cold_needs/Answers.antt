use Rattle.std.proofs.Common.{◌≡◌, ◌≤◌, ◌+◌, ◌++◌, ◌∷◌, [], List, Bool, length, true, false, not, ap, refl, sym, ◌∙◌, arith}
use Rattle.std.proofs.lemmas.List.{length_push, take_all}
use Rattle.txn_model.specs.Needs.{needs_list}
use Rattle.txn_model.specs.declared.op.Need.{Need}
use Rattle.txn_model.specs.declared.op.Needs.{Needs}
use Rattle.stage_layout.specs.Late.{Part, is_in_switch, part_at}
use Rattle.warm_split.specs.Parts.{IsHotSet}
use Rattle.warm_split.specs.Resolved.{cold_needs}
use Rattle.warm_split.proofs.NeedsOf.{cold_more, cold_skip}
use Rattle.warm_split.proofs.needs.cold_needs.Goals as goal
use Rattle.warm_split.proofs.needs.cold_needs.Goals.{then-not-has, else-not-has}

pub loop-i-preserved : goal.loop-i-preserved
loop-i-preserved c =
    let needs = needs_list c.args.needs.now in
    let i = c.loop-i.i in
    let need = c.get-need.result in
    let had = c.loop-i.invariant in
    elim c.if-not-has.branch [
      | then-not-has w ↦
          let cold = c.has.ensures in
          let more = ap needs_list w.found-is ∙ w.push.ensures in
          record {
            few = omega (arith, had.few, ap length more, length_push (needs_list c.loop-i.found) need);
            found = λ parts sets. more ∙ ap (λ (l : List Need). l ++ need ∷ []) (had.found parts sets) ∙ sym (cold_more parts needs i need c.get-need.ensures (sym (sets need.from) ∙ sym cold ∙ w.if-not-has.true));
          }
      | else-not-has w ↦ record {
        few = omega (arith, had.few, ap (λ (n : Needs). length (needs_list n)) w.found-is);
        found = λ parts sets. ap needs_list w.found-is ∙ had.found parts sets ∙ sym (cold_skip parts needs i need c.get-need.ensures (sym (sets need.from) ∙ sym c.has.ensures ∙ w.if-not-has.false));
      }
    ]
