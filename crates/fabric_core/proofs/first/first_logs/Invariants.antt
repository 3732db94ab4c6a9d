use Rattle.std.proofs.Common.{◌≡◌, ◌<◌, ℕ, length, get_or}
use Rattle.catalogue.specs.PlanOf.{plan_of}
use Rattle.fabric_model.specs.State.{no_records}
use Rattle.log_records.specs.Records.{PlainRecords}
use Rattle.fabric_core.specs.Standing.{IsLog}
use Rattle.fabric_core.proofs.first.first_logs.Given as goal

-- the logs so far are empty
abbrev pub invariant-loop-client : goal.invariant-loop-client
invariant-loop-client l = record {
  count : length l.logs.items ≡ l.client;
  each : (c : ℕ) (other : PlainRecords) → c < l.client → IsLog (plan_of l.fn.session) c no_records (get_or l.logs.items c other);
}
