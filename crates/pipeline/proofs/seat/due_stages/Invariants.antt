use Rattle.std.proofs.Common.{◌≡◌, ℕ, false, length, get_or, take}
use Rattle.std.specs.List.{list_any}
use Rattle.switch_model.specs.Flight.{is_due}
use Rattle.pipeline.proofs.seat.due_stages.Given as goal

abbrev pub invariant-loop-op : goal.invariant-loop-op
invariant-loop-op l = record {
  len : length l.due ≡ 12;
  marks : (x : ℕ) → get_or l.due x false ≡ list_any (is_due l.pass x) (take l.op-index l.ops);
}
