use Rattle.std.proofs.Common.{◌≡◌, ◌<◌, drop}
use Rattle.schedule.specs.Words.{below, read_digits}
use Rattle.schedule.proofs.word.read_below.Given as goal

-- the number so far, and the digits that are left, make the whole
abbrev pub invariant-loop-digit : goal.invariant-loop-digit
invariant-loop-digit l = record {
  small : l.number < 256;
  begun : 0 < l.digit-index → l.number < l.limit;
  rest : below l.limit (read_digits l.number (drop l.digit-index l.digits)) ≡ below l.limit (read_digits 0 l.digits);
}
