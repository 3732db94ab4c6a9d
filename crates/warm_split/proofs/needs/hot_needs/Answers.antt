use Rattle.std.proofs.Common.{◌≡◌, ◌≤◌, ◌+◌, ◌++◌, ◌∷◌, [], ℕ, List, Bool, length, true, false, ap, ap₂, refl, sym, ◌∙◌, arith}
use Rattle.std.proofs.lemmas.List.{length_push, take_all}
use Rattle.txn_model.specs.Needs.{needs_list}
use Rattle.txn_model.specs.declared.op.Need.{Need}
use Rattle.txn_model.specs.declared.op.Needs.{Needs}
use Rattle.stage_layout.specs.Late.{Part, is_in_switch, part_at}
use Rattle.warm_split.specs.Parts.{IsHotSet}
use Rattle.warm_split.specs.Resolved.{packet_number, hot_needs}
use Rattle.warm_split.proofs.NeedsOf.{hot_more, hot_skip}
use Rattle.warm_split.proofs.needs.hot_needs.Goals as goal
use Rattle.warm_split.proofs.needs.hot_needs.Goals.{then-has, else-has}

pub loop-i-preserved : goal.loop-i-preserved
loop-i-preserved c =
    let needs = needs_list c.args.needs.now in
    let i = c.loop-i.i in
    let need = c.get-need.result in
    let had = c.loop-i.invariant in
    elim c.if-has.branch [
      | then-has w ↦
          let more = ap needs_list w.found-is ∙ w.push.ensures in
          record {
            few = omega (arith, had.few, ap length more, length_push (needs_list c.loop-i.found) (record { from = w.packet_number.result; which = need.which }));
            found = λ parts sets. more ∙ ap₂ (λ (l : List Need) (k : ℕ). l ++ record { from = k; which = need.which } ∷ []) (had.found parts sets) (w.packet_number.ensures.number parts sets)
                ∙ sym (hot_more parts needs i need c.get-need.ensures (sym (sets need.from) ∙ sym c.has.ensures ∙ w.if-has.true));
          }
      | else-has w ↦ record {
        few = omega (arith, had.few, ap (λ (n : Needs). length (needs_list n)) w.found-is);
        found = λ parts sets. ap needs_list w.found-is ∙ had.found parts sets ∙ sym (hot_skip parts needs i need c.get-need.ensures (sym (sets need.from) ∙ sym c.has.ensures ∙ w.if-has.false));
      }
    ]

pub returns : goal.returns
returns c = λ parts sets. c.loop-i.invariant.found parts sets ∙ ap (hot_needs parts) (take_all c.loop-i.i (needs_list c.args.needs.now) (omega arith))
