use Rattle.std.proofs.Common.{◌≡◌, ◌≤◌, ◌<◌, true, length, get_or, arith, sym, ap, ◌∙◌}
use Rattle.schedule.specs.Words.{is_digit, below, read_digits}
use Rattle.schedule.proofs.Digits.{read_too_large, read_all}
use Rattle.schedule.proofs.word.read_below.Goals as goal

pub returns-then-number-limit : goal.returns-then-number-limit
returns-then-number-limit c =
    let digits = c.args.digits.now in
    let i = c.loop-digit.digit-index in
    let digit : is_digit (get_or digits i 0) ≡ true = sym c.is_ascii_digit.ensures.value ∙ c.if-not-is_ascii_digit.false in
    let large = read_too_large c.from-limit.result c.loop-digit.number i digits (omega arith) digit (omega arith) in
    sym (ap (λ n. below n (read_digits 0 digits)) (sym c.from-limit.ensures) ∙ sym c.loop-digit.invariant.rest ∙ large)

pub returns : goal.returns
returns c =
    let past : length c.args.digits.now ≤ c.loop-digit.digit-index = omega arith in
    let less : c.loop-digit.number < c.from-limit.result = omega arith in
    sym (ap (λ n. below n (read_digits 0 c.args.digits.now)) (sym c.from-limit.ensures) ∙ sym c.loop-digit.invariant.rest ∙ read_all c.from-limit.result c.loop-digit.number c.loop-digit.digit-index c.args.digits.now past less)
