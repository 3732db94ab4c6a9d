use Rattle.gap_placement.proofs.Joining.{stays_in, one_more_in}
use Rattle.gap_placement.proofs.near.add_places.Goals as goal

pub loop-i-preserved : goal.loop-i-preserved
loop-i-preserved c =
    let op = c.get.result.now in
    let l = c.loop-i in
    let made = c.in_ok-insert.ensures.updates in
    record {
      kept = λ q e. stays_in l.to c.insert.new.self op.place made q (l.invariant.kept q e);
      added = one_more_in l.to c.insert.new.self c.args.packet.now.ops.items l.i op c.get.ensures made l.invariant.added;
    }
