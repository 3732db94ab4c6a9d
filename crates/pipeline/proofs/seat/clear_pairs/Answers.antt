use Rattle.std.proofs.Common.{ℕ, ◌<◌, ◌+◌, ◌++◌, ◌∷◌, [], List, length, sym, ap, ◌∙◌, arith}
use Rattle.std.proofs.lemmas.List.{length_push}
use Rattle.txn_model.specs.declared.pairs.Pair.{Pair}
use Rattle.switch_model.specs.Flight.{zero_pair}
use Rattle.pipeline.proofs.SeatLaws.{zeros_more}
use Rattle.pipeline.proofs.seat.clear_pairs.Goals as goal

pub loop-op-preserved : goal.loop-op-preserved
loop-op-preserved c =
    let had = c.loop-op.invariant in
    let ops = c.args.packet.now.ops.items in
    let i = c.loop-op._op-index in
    let within : i < length ops = omega (arith, ap length had.all) in
    record {
      all = had.all;
      items = c.push.ensures.items ∙ ap (λ (l : List Pair). l ++ zero_pair ∷ []) had.items ∙ sym (zeros_more ops i within);
      count = ap length c.push.ensures.items ∙ length_push c.loop-op.pairs.items zero_pair ∙ ap (λ (n : ℕ). n + 1) had.count;
      room = omega (arith, c.push.ensures.spare, ap length c.push.ensures.items, length_push c.loop-op.pairs.items zero_pair, had.room);
    }
