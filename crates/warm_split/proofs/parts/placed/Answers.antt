use Rattle.std.proofs.Common.{◌≡◌, true, false, rules, refl, sym, ◌∙◌}
use Rattle.txn_model.specs.Needs.{needs_list}
use Rattle.stage_layout.specs.Late.{is_hot}
use Rattle.warm_split.proofs.Sets.{needs_late, needs_switch, with_hot, with_late, with_before}
use Rattle.warm_split.proofs.parts.placed.Goals as goal

pub returns-then-needs_any-clause-turn : goal.returns-then-needs_any-clause-turn
returns-then-needs_any-clause-turn c = λ done sets.
    let hot : is_hot c.args.layout.now c.args.op.now.tuple ≡ true = search rules in
    let bad = sym (needs_late done c.args.parts sets (needs_list c.args.op.now.needs)) ∙ sym c.needs_any.ensures ∙ c.if-needs_any.true in
    rw (hot, bad) refl

pub returns-then-is_some-clause-turn : goal.returns-then-is_some-clause-turn
returns-then-is_some-clause-turn c = λ done sets.
    let hot : is_hot c.args.layout.now c.args.op.now.tuple ≡ true = search rules in
    let good = sym (needs_late done c.args.parts sets (needs_list c.args.op.now.needs)) ∙ sym c.needs_any.ensures ∙ c.if-needs_any.false in
    rw (hot, good) refl

pub returns-then-is_some-clause-parts : goal.returns-then-is_some-clause-parts
returns-then-is_some-clause-parts c = λ done len sets.
    let hot : is_hot c.args.layout.now c.args.op.now.tuple ≡ true = search rules in
    rw hot (with_hot done c.args.parts sets c.args.number len c.with-hot.result c.with-hot.ensures)

pub returns-then-needs_any-2-clause-parts : goal.returns-then-needs_any-2-clause-parts
returns-then-needs_any-2-clause-parts c = λ done len sets.
    let cold : is_hot c.args.layout.now c.args.op.now.tuple ≡ false = search rules in
    let needed = sym (needs_switch done c.args.parts sets c.or.result c.or.ensures (needs_list c.args.op.now.needs)) ∙ sym c.needs_any-2.ensures ∙ c.if-needs_any-2.true in
    rw (cold, needed) (with_late done c.args.parts sets c.args.number len c.with-after.result c.with-after.ensures)

pub returns-clause-parts : goal.returns-clause-parts
returns-clause-parts c = λ done len sets.
    let cold : is_hot c.args.layout.now c.args.op.now.tuple ≡ false = search rules in
    let needed = sym (needs_switch done c.args.parts sets c.or.result c.or.ensures (needs_list c.args.op.now.needs)) ∙ sym c.needs_any-2.ensures ∙ c.if-needs_any-2.false in
    rw (cold, needed) (with_before done c.args.parts sets c.args.number len c.with-before.result c.with-before.ensures)
