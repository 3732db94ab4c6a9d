use Rattle.std.proofs.Common.{sym, ◌∙◌}
use Rattle.std.proofs.lemmas.Result.{err_from_is_err_and}
use Rattle.switch_packet.proofs.Loops.{zeros_more, zeros_fail, zeros_done}
use Rattle.switch_packet.proofs.reader.Reader.zeros.Goals as goal

pub returns-in_err-byte : goal.returns-in_err-byte
returns-in_err-byte c =
    let fault = err_from_is_err_and c.from_residual.result c.from_residual.ensures.1 in
    rw (fault.1, fault.2) (sym c.loop.invariant ∙ zeros_fail c.loop.counter c.args.count c.loop.self _ c.loop-test.true c.in_err-byte.ensures.value)

pub loop-preserved : goal.loop-preserved
loop-preserved c =
    sym (zeros_more c.loop.counter c.args.count _ _ _ c.loop-test.true c.in_ok-byte.ensures.value) ∙ c.loop.invariant

pub returns : goal.returns
returns c = sym c.loop.invariant ∙ zeros_done c.loop.counter c.args.count c.loop.self c.loop-test.false
