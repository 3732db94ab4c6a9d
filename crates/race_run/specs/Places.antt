-- How many clients and stages the actors of a session are for.
use Rattle.std.specs.Prelude.{◌≡◌, ℕ, ◌+◌, ◌*◌, length}
use Rattle.catalogue.specs.Plan.{Plan}
use Rattle.race_run.specs.declared.places.Places.{Places}

pub record AreOf (plan : Plan) (p : Places) : Type 0 where
  pub clients : p.clients ≡ length plan.clients
  pub stages : p.stages ≡ plan.shape.stages

-- recovery, each client twice, for itself and for its port, and each stage
abbrev pub count_of : Places → ℕ
count_of p = 1 + 2 * p.clients + p.stages
