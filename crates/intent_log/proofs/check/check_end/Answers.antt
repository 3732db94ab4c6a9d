use Rattle.std.proofs.Common.{ℕ, length, subst, sym, ◌∙◌, arith}
use Rattle.intent_log.specs.Told.{GivesSome}
use Rattle.intent_log.proofs.AheadLaws.{gives, no_bytes, some_bytes}
use Rattle.intent_log.proofs.CheckLaws.{ended, further}
use Rattle.intent_log.proofs.check.check_end.Goals as goal

pub returns-then-is_empty-clause-ends : goal.returns-then-is_empty-clause-ends
returns-then-is_empty-clause-ends g c =
    let found = c.from.result.now in
    let gave = gives _ c.args.at 1 _ found c.in_ok-reach.ensures.piece c.in_ok-reach.ensures.reaches c.from.ensures (omega arith) in
    let none = no_bytes found (sym c.is_empty.ensures ∙ c.if-is_empty.true) in
    λ front is b. ended _ c.args.at found front (subst (λ (n : ℕ). GivesSome (g.L.LogRack.told c.args.rack.now c.args.client) c.args.at n found) none gave) is b

pub returns-else-is_empty-clause-ends : goal.returns-else-is_empty-clause-ends
returns-else-is_empty-clause-ends g c =
    let found = c.from.result.now in
    let gave = gives _ c.args.at 1 _ found c.in_ok-reach.ensures.piece c.in_ok-reach.ensures.reaches c.from.ensures (omega arith) in
    let some = some_bytes found (sym c.is_empty.ensures ∙ c.if-is_empty.false) in
    λ front is b. further _ c.args.at (length found) found front some (omega arith) gave is b
