use Rattle.std.proofs.Common.{◌≡◌, take, drop}
use Rattle.intent_log.proofs.check.first_difference.Given as goal

abbrev pub invariant-loop-i : goal.invariant-loop-i
invariant-loop-i l = take l.i l.found ≡ take l.i (drop l.done l.text)
