use Rattle.std.proofs.Common.{arith}
use Rattle.std.proofs.lemmas.List.{length_push}
use Rattle.std.proofs.lemmas.Result.{err_from_is_err_and}
use Rattle.switch_packet.specs.PacketReading.{op_at}
use Rattle.switch_packet.proofs.Loops.{each_more, each_fails, each_done}
use Rattle.switch_packet.proofs.decode.read_ops.Goals as goal

pub returns-in_err-read_op-clause-value : goal.returns-in_err-read_op-clause-value
returns-in_err-read_op-clause-value c =
    let fault = err_from_is_err_and c.from_residual.result c.from_residual.ensures.1 in
    rw (fault.1, fault.2) (each_fails (op_at c.args.passes) c.loop-number.to.items c.loop-number.number c.args.count c.loop-number.reader _ _ c.loop-number-test.true c.in_err-read_op.ensures c.loop-number.invariant.0)

pub loop-number-preserved : goal.loop-number-preserved
loop-number-preserved c = (
  rw c.push.ensures.items (each_more (op_at c.args.passes) c.loop-number.to.items c.loop-number.number c.args.count _ _ _ _ c.loop-number-test.true c.in_ok-read_op.ensures c.loop-number.invariant.0),
  rw c.push.ensures.items (omega (arith, length_push c.loop-number.to.items c.in_ok-read_op.field-0)),
  rw c.push.ensures.items (omega (arith, length_push c.loop-number.to.items c.in_ok-read_op.field-0)),
)

pub returns-clause-value : goal.returns-clause-value
returns-clause-value c =
    each_done (op_at c.args.passes) c.loop-number.to.items c.loop-number.number c.args.count c.loop-number.reader _ c.loop-number-test.false c.loop-number.invariant.0
