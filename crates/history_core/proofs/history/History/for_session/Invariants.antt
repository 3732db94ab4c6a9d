use Rattle.std.proofs.Common.{◌≡◌, [], map, take}
use Rattle.std.specs.List.{All}
use Rattle.history_core.specs.Merge.{all_runs}
use Rattle.history_core.specs.Runs.{ops_of}
use Rattle.history_core.proofs.history.History.for_session.Given as goal

abbrev pub invariant-loop-client : goal.invariant-loop-client
invariant-loop-client l = record {
  runs : all_runs l.owns.items ≡ map (map ops_of) (take l.client l.session.clients);
  none : All (λ own. own.entries ≡ []) l.owns.items;
}
