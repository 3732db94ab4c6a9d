use Rattle.std.proofs.Common.{arith}
use Rattle.std.proofs.lemmas.List.{length_push}
use Rattle.std.proofs.lemmas.Result.{err_from_is_err_and}
use Rattle.switch_packet.proofs.Loops.{each_more, each_fails, each_done}
use Rattle.intent_log.specs.Reading.{pair_at}
use Rattle.intent_log.proofs.entry.read_pairs.Goals as goal

pub returns-in_err-read_pair : goal.returns-in_err-read_pair
returns-in_err-read_pair c =
    let fault = err_from_is_err_and c.from_residual.result c.from_residual.ensures.1 in
    rw (fault.1, fault.2) (each_fails (λ _. pair_at) c.loop.to.items c.loop.counter c.args.count c.loop.reader _ _ c.loop-test.true c.in_err-read_pair.ensures c.loop.invariant.0)

pub loop-preserved : goal.loop-preserved
loop-preserved c = (
  rw c.push.ensures.items (each_more (λ _. pair_at) c.loop.to.items c.loop.counter c.args.count _ _ _ _ c.loop-test.true c.in_ok-read_pair.ensures c.loop.invariant.0),
  rw c.push.ensures.items (omega (arith, length_push c.loop.to.items c.in_ok-read_pair.field-0)),
  rw c.push.ensures.items (omega (arith, length_push c.loop.to.items c.in_ok-read_pair.field-0)),
)

pub returns : goal.returns
returns c =
    each_done (λ _. pair_at) c.loop.to.items c.loop.counter c.args.count c.loop.reader _ c.loop-test.false c.loop.invariant.0
