use Rattle.std.proofs.Common.{refl, arith}
use Rattle.std.proofs.lemmas.List.{length_push}
use Rattle.std.proofs.lemmas.Result.{err_from_is_err_and}
use Rattle.txn_model.specs.Needs.{needs_list}
use Rattle.txn_model.proofs.NeedsLaws.{needs_of-needs_list}
use Rattle.switch_packet.specs.PacketReading.{need_at, needs_at}
use Rattle.switch_packet.proofs.Loops.{each_more, each_fails, each_done}
use Rattle.switch_packet.proofs.decode.read_needs.Goals as goal

pub returns-in_err-read_need : goal.returns-in_err-read_need
unfolding needs_at
returns-in_err-read_need c =
    let fault = err_from_is_err_and c.from_residual.result c.from_residual.ensures.1 in
    let failed = each_fails (λ _. need_at c.args.number) (needs_list c.loop.needs) c.loop.counter c.args.count c.loop.reader _ _ c.loop-test.true c.in_err-read_need.ensures c.loop.invariant.0 in
    rw (fault.1, fault.2, failed) refl

pub loop-preserved : goal.loop-preserved
loop-preserved c = (
  rw c.push.ensures (each_more (λ _. need_at c.args.number) (needs_list c.loop.needs) c.loop.counter c.args.count _ _ _ _ c.loop-test.true c.in_ok-read_need.ensures c.loop.invariant.0),
  rw c.push.ensures (omega (arith, length_push (needs_list c.loop.needs) c.in_ok-read_need.field-0)),
)

pub returns : goal.returns
unfolding needs_at
returns c =
    let done = each_done (λ _. need_at c.args.number) (needs_list c.loop.needs) c.loop.counter c.args.count c.loop.reader _ c.loop-test.false c.loop.invariant.0 in
    rw done (rw needs_of-needs_list refl)
