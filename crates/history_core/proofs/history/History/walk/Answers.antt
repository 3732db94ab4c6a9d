use Rattle.history_core.proofs.Changes.{in_order, none_twice}
use Rattle.history_core.proofs.history.History.walk.Goals as goal

pub returns-clause-order : goal.returns-clause-order
returns-clause-order c = in_order c.self.inside.owns.items c.self.invariant _ c.self.view_is

pub returns-clause-once : goal.returns-clause-once
returns-clause-once c = none_twice c.self.inside.owns.items c.self.invariant _ c.self.view_is
