use Rattle.std.proofs.Common.{◌≡◌, true, sym, ◌∙◌}
use Rattle.pipeline.specs.Rows.{may_leave}
use Rattle.pipeline.proofs.Advances.{Seen, seen_at, still_at, still_may, advance_shown}
use Rattle.pipeline.proofs.pipeline.Pipeline.advance.Goals as goal

pub execute-requires : goal.execute-requires
execute-requires c = sym c.slot.ensures ∙ c.in-Some.is

seen : (c : goal.After-leave-arg-1) → Seen c.args.self.now c.args.stage c.in-Some.client
seen c = seen_at c.args.self.now c.args.stage c.in-Some.client (sym c.slot.ensures ∙ c.in-Some.is)

may : (c : goal.After-leave-arg-1) → may_leave c.args.self.now c.args.stage ≡ true
may c = sym c.may_leave.ensures ∙ c.if-not-may_leave.false

pub leave-requires-clause-there : goal.leave-requires-clause-there
leave-requires-clause-there c = let s = seen c in still_at c.args.self.now c.execute.new.self c.args.stage c.in-Some.client s.flight s.is s.client (c.execute.ensures s.flight s.is)

pub leave-requires-clause-may : goal.leave-requires-clause-may
leave-requires-clause-may c = let s = seen c in still_may c.args.self.now c.execute.new.self c.args.stage s.flight (c.execute.ensures s.flight s.is) (may c)

pub returns : goal.returns
returns c =
    let s : Seen c.args.self.now c.args.stage c.in-Some.client = seen_at c.args.self.now c.args.stage c.in-Some.client (sym c.slot.ensures ∙ c.in-Some.is) in
    advance_shown c.args.self.now c.execute.new.self c.leave.new.self c.args.stage s.flight s.is (sym c.may_leave.ensures ∙ c.if-not-may_leave.false) (c.execute.ensures s.flight s.is) c.leave.ensures
