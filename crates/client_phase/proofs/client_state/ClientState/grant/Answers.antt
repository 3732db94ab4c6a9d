use Rattle.std.proofs.Common.{arith, ap}
use Rattle.txn_model.proofs.SerialLaws.{sound_length}
use Rattle.client_phase.specs.Shown.{PlainClient}
use Rattle.client_phase.proofs.Numbers.{few-numbers}
use Rattle.client_phase.proofs.client_state.ClientState.grant.Goals as goal

pub overflow_cast-len : goal.overflow_cast-len
overflow_cast-len c = omega (arith, c.len.ensures, sound_length _ c.requires.fit)

pub prepare-requires-clause-few : goal.prepare-requires-clause-few
prepare-requires-clause-few c = omega (arith, c.len.ensures, sound_length _ c.requires.fit)

pub overflow_add-self : goal.overflow_add-self
overflow_add-self c =
    let same = ap (λ (p : PlainClient). p.locked) c.prepare.ensures.client in
    omega (arith, same, c.requires.next, few-numbers c.args.parts.now.hot 0 c.args.script.now.items, sound_length _ c.requires.fit)
