use Rattle.std.proofs.Common.{◌≡◌, drop, is_none}
use Rattle.std.specs.FinMap.{get}
use Rattle.std.specs.List.{position_from}
use Rattle.session_reader.specs.Rules.{first_unknown}
use Rattle.session_reader.proofs.rule.first_unknown.Given as goal

-- each tuple so far is there
abbrev pub invariant-loop-i : goal.invariant-loop-i
invariant-loop-i l = position_from (λ op. is_none (get l.tuples op.tuple)) l.i (drop l.i l.ops) ≡ first_unknown l.tuples l.ops
