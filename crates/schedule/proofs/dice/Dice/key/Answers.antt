use Rattle.std.proofs.Common.{◌+◌, ap, sym, ◌∙◌, arith}
use Rattle.schedule.specs.Dice.{words_of, key, key_by}
use Rattle.schedule.proofs.Keys.{key_of_all, key_of_hot, key_of_cold}
use Rattle.schedule.proofs.dice.Dice.key.Goals as goal

pub returns-then-hot-n-clause-value : goal.returns-then-hot-n-clause-value
unfolding key
returns-then-hot-n-clause-value c =
    c.draw.ensures.value
    ∙ sym (key_of_all c.draw-at.result c.args.n c.args.hot c.args.share (words_of c.draw-at.new.self) c.if-hot-n.either)
    ∙ ap (λ p. key_by p.0 c.args.n c.args.hot c.args.share p.1) c.draw-at.ensures.value

pub returns-then-at-from-clause-value : goal.returns-then-at-from-clause-value
unfolding key
returns-then-at-from-clause-value c =
    c.draw-then-at-from.ensures.value
    ∙ sym (key_of_hot c.draw-at.result c.args.n c.args.hot c.args.share (words_of c.draw-at.new.self) c.if-hot-n.false (omega arith))
    ∙ ap (λ p. key_by p.0 c.args.n c.args.hot c.args.share p.1) c.draw-at.ensures.value

pub returns-else-at-from-clause-value : goal.returns-else-at-from-clause-value
unfolding key
returns-else-at-from-clause-value c =
    ap (λ p. (c.args.hot + p.0, p.1)) c.draw-else-at-from.ensures.value
    ∙ sym (key_of_cold c.draw-at.result c.args.n c.args.hot c.args.share (words_of c.draw-at.new.self) c.if-hot-n.false (omega arith))
    ∙ ap (λ p. key_by p.0 c.args.n c.args.hot c.args.share p.1) c.draw-at.ensures.value
