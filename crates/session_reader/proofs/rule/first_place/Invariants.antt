use Rattle.std.proofs.Common.{◌≡◌, drop}
use Rattle.catalogue.specs.PlanOf.{plan_of}
use Rattle.session_reader.specs.FirstPlace.{first_place}
use Rattle.session_reader.specs.Rules.{breaks}
use Rattle.session_reader.proofs.Searches.{first_in_clients}
use Rattle.session_reader.proofs.rule.first_place.Given as goal

-- no client so far breaks the rule
abbrev pub invariant-loop-client : goal.invariant-loop-client
invariant-loop-client l =
    first_in_clients (breaks l.rule (plan_of l.session)) l.client (drop l.client (plan_of l.session).clients)
    ≡ first_place (breaks l.rule (plan_of l.session)) (plan_of l.session).clients
