use Rattle.std.proofs.Common.{◌≤◌}
use Rattle.client_phase.specs.Shown.{room_of}
use Rattle.client_phase.proofs.tests.a_hot_script_takes_no_lock.Given as goal

abbrev pub invariant-loop-met : goal.invariant-loop-met
invariant-loop-met g l = 16 ≤ room_of l.state
