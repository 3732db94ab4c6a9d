use Rattle.std.proofs.Common.{◌≡◌, drop, replicate, None}
use Rattle.report_text.specs.Refused.{all_noted}
use Rattle.report_text.proofs.refused.last_refusals.Given as goal

-- what is left is noted behind what was
abbrev pub invariant-loop-refusal : goal.invariant-loop-refusal
invariant-loop-refusal l = all_noted l.client (drop l.refusal-index l.refusals) l.last.items ≡ all_noted l.fn.client l.fn.refusals (replicate l.items None)
