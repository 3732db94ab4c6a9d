use Rattle.std.proofs.Common.{◌≤◌}
use Rattle.client_phase.specs.Shown.{room_of}
use Rattle.client_phase.proofs.tests.a_cold_script_is_refused_and_tried_again.Given as goal

abbrev pub invariant-loop-met : goal.invariant-loop-met
invariant-loop-met g l = 16 ≤ room_of l.state
