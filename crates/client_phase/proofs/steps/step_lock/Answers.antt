use Rattle.std.proofs.Common.{sym, arith}
use Rattle.client_phase.specs.Shown.{plain_client}
use Rattle.client_phase.proofs.Acting.{lock_is}
use Rattle.client_phase.proofs.Numbers.{within-numbers}
use Rattle.client_phase.proofs.steps.step_lock.Goals as goal

pub grant-requires-clause-there : goal.grant-requires-clause-there
grant-requires-clause-there c =
    let p = plain_client c.args.state.now in
    let next = lock_is c.args.parts.now c.args.script.now.items p p.phase c.args.op (sym c.requires.action) in
    let within = within-numbers c.args.parts.now.hot 0 c.args.script.now.items p.locked next.1 in
    omega (arith, next.0, within)
