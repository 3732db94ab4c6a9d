use Rattle.std.proofs.Common.{◌≡◌, ◌++◌, map, take, drop}
use Rattle.history_core.specs.Own.{dropped}
use Rattle.history_core.proofs.history.History.drop_unanswered.Given as goal

abbrev pub invariant-loop-own : goal.invariant-loop-own
invariant-loop-own l = l.own-items ≡ map dropped (take l.own-index l.initial.own-items) ++ drop l.own-index l.initial.own-items
