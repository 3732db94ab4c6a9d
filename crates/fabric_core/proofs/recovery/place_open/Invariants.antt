use Rattle.std.proofs.Common.{◌≡◌, map, drop}
use Rattle.pipeline.specs.ModelLaws.{with_answers}
use Rattle.gap_placement.specs.Answers.{plain_slotted}
use Rattle.fabric_core.specs.Recovering.{CanPlace, answers_in, with_rows}
use Rattle.fabric_core.proofs.recovery.place_open.Given as goal

-- what is left to be placed leads to what all leads to
abbrev pub invariant-loop-row : goal.invariant-loop-row
invariant-loop-row l = record {
  can : CanPlace l.logs l.history.runs l.pipeline l.history.items (map plain_slotted (drop l.row-index l.rows));
  pipeline : with_answers l.pipeline (answers_in l.logs (map plain_slotted (drop l.row-index l.rows))) ≡ with_answers l.initial.pipeline (answers_in l.logs (map plain_slotted l.rows));
  history : with_rows l.logs (map plain_slotted (drop l.row-index l.rows)) l.history.items ≡ with_rows l.logs (map plain_slotted l.rows) l.initial.history.items;
  runs : l.history.runs ≡ l.initial.history.runs;
}
