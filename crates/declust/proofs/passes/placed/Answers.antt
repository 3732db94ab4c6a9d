use Rattle.std.proofs.Common.{◌≡◌, true, false, rules, sym, ◌∙◌}
use Rattle.txn_model.specs.Needs.{needs_list}
use Rattle.stage_layout.specs.Late.{is_hot}
use Rattle.warm_split.proofs.Sets.{needs_switch, with_hot, with_late, with_before}
use Rattle.declust.proofs.passes.placed.Goals as goal

pub returns-then-is_some : goal.returns-then-is_some
returns-then-is_some c = λ done len sets.
    let hot : is_hot c.args.layout.now c.args.op.now.tuple ≡ true = search rules in
    rw hot (with_hot done c.args.parts sets c.args.number len c.with-hot.result c.with-hot.ensures)

pub returns-then-needs_any : goal.returns-then-needs_any
returns-then-needs_any c = λ done len sets.
    let cold : is_hot c.args.layout.now c.args.op.now.tuple ≡ false = search rules in
    let needed = sym (needs_switch done c.args.parts sets c.or.result c.or.ensures (needs_list c.args.op.now.needs)) ∙ sym c.needs_any.ensures ∙ c.if-needs_any.true in
    rw (cold, needed) (with_late done c.args.parts sets c.args.number len c.with-after.result c.with-after.ensures)

pub returns : goal.returns
returns c = λ done len sets.
    let cold : is_hot c.args.layout.now c.args.op.now.tuple ≡ false = search rules in
    let needed = sym (needs_switch done c.args.parts sets c.or.result c.or.ensures (needs_list c.args.op.now.needs)) ∙ sym c.needs_any.ensures ∙ c.if-needs_any.false in
    rw (cold, needed) (with_before done c.args.parts sets c.args.number len c.with-before.result c.with-before.ensures)
