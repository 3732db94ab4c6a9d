use Rattle.std.proofs.Common.{◌≡◌, ◌+◌, drop, length, sum_by}
use Rattle.history_core.proofs.history.History.len.Given as goal

abbrev pub invariant-loop-own : goal.invariant-loop-own
invariant-loop-own l = l.entries + sum_by (λ own. length own.entries) (drop l.own-index l.own-items) ≡ sum_by (λ own. length own.entries) l.own-items
