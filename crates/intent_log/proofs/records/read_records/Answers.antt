use Rattle.std.proofs.Common.{sym, subst, arith}
use Rattle.switch_packet.specs.Packets.{PlainLog}
use Rattle.intent_log.specs.Reading.{plain_entry}
use Rattle.intent_log.proofs.ReadingLaws.{HasCome, come_on, come_to_misfit, come_to_stop}
use Rattle.intent_log.proofs.records.read_records.Goals as goal

pub returns-then-not-fits : goal.returns-then-not-fits
returns-then-not-fits c =
    rw c.place-place.ensures (
    come_to_misfit c.args.client c.args.bytes.now c.loop-reader.records c.loop-reader.reader c.loop-reader.invariant.come (plain_entry c.in-Ok.entry) c.read_entry.new.reader
    (λ i. omega (arith, c.type_inv.bytes i)) c.in-Ok.ensures.value (λ f. let fits = c.fits.ensures.1 f in let misfit = c.if-not-fits.true in cc)
    )

pub loop-reader-smaller : goal.loop-reader-smaller
loop-reader-smaller c =
    (come_on c.args.client c.args.bytes.now c.loop-reader.records c.loop-reader.reader c.loop-reader.invariant.come (plain_entry c.in-Ok.entry) c.read_entry.new.reader
    (λ i. omega (arith, c.type_inv.bytes i)) c.in-Ok.ensures.value (c.fits.ensures.0 c.if-not-fits.false)).1

pub loop-reader-preserved : goal.loop-reader-preserved
loop-reader-preserved c = record {
  come = subst (λ (l : PlainLog). HasCome c.args.client c.args.bytes.now l c.read_entry.new.reader) (sym c.in_ok-push-in-Ok.ensures)
      (come_on c.args.client c.args.bytes.now c.loop-reader.records c.loop-reader.reader c.loop-reader.invariant.come (plain_entry c.in-Ok.entry) c.read_entry.new.reader
      (λ i. omega (arith, c.type_inv.bytes i)) c.in-Ok.ensures.value (c.fits.ensures.0 c.if-not-fits.false)).0;
  room = omega (arith, c.in-Ok.ensures.room, c.loop-reader.invariant.room);
}

pub returns-in-Err : goal.returns-in-Err
returns-in-Err c =
    come_to_stop c.args.client c.args.bytes.now c.loop-reader.records c.loop-reader.reader c.loop-reader.invariant.come c.in-Err.fault c.place-place.result c.read_entry.new.reader c.stopped.result
    (λ i. omega (arith, c.type_inv.bytes i)) (λ e. let at_end = c.is_at_end.ensures.1 e in let goes = c.loop-reader-test.true in cc) c.place-place.ensures c.in-Err.ensures.value c.stopped.ensures
