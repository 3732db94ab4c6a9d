use Rattle.std.proofs.Common.{◌≡◌, ◌+◌, length, drop, sym, ap, ◌∙◌, arith}
use Rattle.history_core.specs.Recorded.{Recorded}
use Rattle.history_core.proofs.Changes.{many_in, many_next, none_behind_end, length_is, few_all}
use Rattle.history_core.proofs.history.History.len.Goals as goal

pub overflow_add-entries : goal.overflow_add-entries
overflow_add-entries c = omega (arith, c.loop-own.invariant, many_next _ c.loop-own.own-index c.own-item.result c.loop-own-test.true c.own-item.is, c.len-entries.ensures, few_all c.self.inside.owns.items c.self.invariant, ap many_in c.deref-own-items.ensures.value)

pub returns-clause-value : goal.returns-clause-value
returns-clause-value c =
    omega (arith, c.loop-own.invariant, none_behind_end c.deref-own-items.result.now c.loop-own.own-index c.loop-own-test.false, ap many_in c.deref-own-items.ensures.value, length_is c.self.inside.owns.items, ap (λ (h : Recorded). length h.items) c.self.view_is)

pub returns-clause-bound : goal.returns-clause-bound
returns-clause-bound c = omega (arith, c.loop-own.invariant, few_all c.self.inside.owns.items c.self.invariant, ap many_in c.deref-own-items.ensures.value)
