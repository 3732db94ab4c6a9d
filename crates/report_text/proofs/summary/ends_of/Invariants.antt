use Rattle.std.proofs.Common.{◌≡◌}
use Rattle.std.specs.List.{flat_map, range_with_len}
use Rattle.fabric_core.specs.Running.{state_in}
use Rattle.report_text.specs.Summary.{client_ends}
use Rattle.report_text.proofs.summary.ends_of.Given as goal

abbrev pub invariant-loop-client : goal.invariant-loop-client
invariant-loop-client g l = l.ends.items ≡ flat_map (client_ends l.world.plan (state_in l.world)) (range_with_len 0 l.client)
