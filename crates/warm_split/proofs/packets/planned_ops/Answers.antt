use Rattle.std.proofs.Common.{◌≡◌, ◌<◌, ◌≤◌, ◌+◌, ◌++◌, ◌∷◌, [], ℕ, List, length, map, set, take, ap, ap₂, sym, refl, ◌∙◌, arith}
use Rattle.std.proofs.lemmas.List.{length-set, map-append, take_all, take_more_set}
use Rattle.txn_model.specs.Needs.{needs_list, needs_of}
use Rattle.txn_model.specs.declared.op.Op.{Op}
use Rattle.txn_model.proofs.NeedsLaws.{needs_of-needs_list}
use Rattle.txn_model.proofs.SerialLaws.{sound_length}
use Rattle.stage_layout.specs.Late.{is_hot, parts_of}
use Rattle.stage_layout.specs.declared.pass_plan.HotOp.{HotOp}
use Rattle.warm_split.specs.Resolved.{planned_op}
use Rattle.warm_split.specs.Sides.{hot_ops}
use Rattle.warm_split.proofs.JoinedLaws.{in_switch_at}
use Rattle.warm_split.proofs.PackedLaws.{hot_more, hot_same}
use Rattle.warm_split.proofs.packets.planned_ops.Goals as goal
use Rattle.warm_split.proofs.packets.planned_ops.Goals.{then-has, else-has}

pub overflow_cast-len : goal.overflow_cast-len
overflow_cast-len c = omega (arith, sound_length c.args.script.now.items c.requires.fit)

pub offset_bounds-ops-count : goal.offset_bounds-ops-count
offset_bounds-ops-count c = omega (arith, sound_length c.args.script.now.items c.requires.fit, c.loop-i.invariant.few)

pub bounds-ops-count : goal.bounds-ops-count
bounds-ops-count c = omega (arith, sound_length c.args.script.now.items c.requires.fit, c.loop-i.invariant.few)

pub loop-i-preserved : goal.loop-i-preserved
loop-i-preserved c =
    let rows = c.args.layout.now in
    let ops = c.args.script.now.items in
    let parts = parts_of rows ops in
    let i = c.loop-i.i in
    let o = c.op-this.result in
    let at = c.op-this.ensures in
    let had = c.loop-i.invariant in
    let count = c.loop-i.count in
    let switch = in_switch_at rows ops i o at in
    elim c.if-has.branch [
      | then-has w ↦
          let hot = sym switch ∙ sym (c.requires.sets i) ∙ sym c.has.ensures ∙ w.if-has.true in
          let needs = sym (needs_of-needs_list w.hot_needs-needs.result) ∙ ap needs_of (w.hot_needs-needs.ensures parts c.requires.sets) in
          let made : HotOp = record { place = w.hot_place-place.result; needs = w.hot_needs-needs.result } in
          let made_is : made ≡ planned_op rows parts o = λ j. record { place = w.hot_place-place.ensures j; needs = needs j } in
          let inside : count < length c.loop-i.ops = omega (arith, sound_length ops c.requires.fit, had.few, had.size) in
          record {
            size = ap length w.ops-is ∙ length-set c.loop-i.ops count made ∙ had.size;
            few = omega (arith, had.few, w.count-is);
            ops = ap₂ (λ (n : ℕ) (l : List HotOp). take n l) w.count-is w.ops-is ∙ take_more_set c.loop-i.ops count made inside
                ∙ ap₂ (λ (l : List HotOp) (x : HotOp). l ++ x ∷ []) had.ops made_is
                ∙ sym (ap (map (planned_op rows parts)) (hot_more rows ops i o at hot) ∙ map-append (planned_op rows parts) (hot_ops rows (take i ops)) (o ∷ []));
          }
      | else-has w ↦
          let cold = sym switch ∙ sym (c.requires.sets i) ∙ sym c.has.ensures ∙ w.if-has.false in
          record {
            size = ap length w.ops-is ∙ had.size;
            few = omega (arith, had.few, w.count-is);
            ops = ap₂ (λ (n : ℕ) (l : List HotOp). take n l) w.count-is w.ops-is ∙ had.ops ∙ sym (ap (map (planned_op rows parts)) (hot_same rows ops i o at cold));
          }
    ]

pub returns-clause-ops : goal.returns-clause-ops
returns-clause-ops c =
    let rows = c.args.layout.now in
    let ops = c.args.script.now.items in
    c.loop-i.invariant.ops ∙ ap (λ (l : List Op). map (planned_op rows (parts_of rows ops)) (hot_ops rows l)) (take_all c.loop-i.i ops (omega arith))

pub returns-clause-few : goal.returns-clause-few
returns-clause-few c = omega (arith, sound_length c.args.script.now.items c.requires.fit, c.loop-i.invariant.few)
