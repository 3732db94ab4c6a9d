use Rattle.std.proofs.Common.{◌≡◌, ◌<◌, ℕ, length, get_or}
use Rattle.catalogue.specs.PlanOf.{plan_of}
use Rattle.core_model.specs.Run.{first_clients}
use Rattle.fabric_core.specs.Standing.{IsRunner, client_in}
use Rattle.fabric_core.specs.declared.runner.Runner.{Runner}
use Rattle.fabric_core.proofs.first.first_runners.Given as goal

-- the clients so far are kept
abbrev pub invariant-loop-client : goal.invariant-loop-client
invariant-loop-client l = record {
  count : length l.runners.items ≡ l.client;
  each : (c : ℕ) (other : Runner) → c < l.client → IsRunner (plan_of l.fn.session) c (client_in (first_clients (plan_of l.fn.session).clients) c) (get_or l.runners.items c other);
}
