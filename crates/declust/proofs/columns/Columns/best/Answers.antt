use Rattle.std.proofs.Common.{◌+◌, arith, sym, subst, ◌∙◌}
use Rattle.declust.specs.Columns.{has_room, touching}
use Rattle.declust.proofs.Choices.{IsBest, IsPriced, best_skips, best_takes, priced_takes}
use Rattle.declust.proofs.columns.Columns.best.Goals as goal
use Rattle.declust.proofs.columns.Columns.best.Goals.{then-has_room+else-shared-eq0, else-has_room}

pub loop-array-preserved : goal.loop-array-preserved
loop-array-preserved c =
    let self = c.args.self.now in
    let test = has_room self c.args.cells in
    let cost = touching self c.args.uses.now in
    let n = c.loop-array.array in
    let had = c.loop-array.invariant in
    elim c.if-has_room.branch [
      | then-has_room+else-shared-eq0 w ↦ record {
        best = subst (IsBest test cost (n + 1)) (sym w.best-is)
            (best_takes test cost n w.touching-shared.result c.loop-array.best w.better-best.result had.best (sym c.has_room.ensures ∙ w.if-has_room.true) w.touching-shared.ensures w.better-best.ensures);
        priced = subst IsPriced (sym w.best-is) (priced_takes n w.touching-shared.result c.loop-array.best w.better-best.result had.priced (omega (arith, w.if-shared-eq0.false)) w.better-best.ensures);
      }
      | else-has_room w ↦ record {
        best = subst (IsBest test cost (n + 1)) (sym w.best-is) (best_skips test cost n c.loop-array.best had.best (sym c.has_room.ensures ∙ w.if-has_room.false));
        priced = subst IsPriced (sym w.best-is) had.priced;
      }
    ]
