-- Runs of the fabric: the opening of a session, and the state that a list of moves makes of it.
use Rattle.std.specs.Prelude.{ℤ, not, List, [], ◌∷◌, map, filter, length, Option, Some, option_and_then, unwrap_or}
use Rattle.std.specs.FinMap as fin
use Rattle.txn_model.specs.declared.op.TupleId.{TupleId}
use Rattle.stage_layout.specs.Late.{is_hot}
use Rattle.switch_model.specs.Switch.{fresh_switch}
use Rattle.catalogue.specs.Plan.{Plan, hot_cells}
use Rattle.catalogue.specs.declared.actor.Actor.{Actor}
use Rattle.core_model.specs.Run.{first_rows, first_clients}
use Rattle.fabric_model.specs.State.{State, no_records}
use Rattle.fabric_model.specs.Step.{step}

-- the rows of the tuples that are on hosts
abbrev pub host_rows : Plan → List (TupleId × ℤ)
host_rows plan = filter (λ row. not (is_hot plan.layout row.0)) (fin.entries plan.tuples)

-- each client at its first item, the tuples of hosts with their first values and the stamp 0.0, the switch with those of the
-- hot tuples and nothing under way
unfoldable pub opening : Plan → State
opening plan = record {
  clients = first_clients plan.clients;
  logs = map (λ items. no_records) plan.clients;
  switch = Some (fresh_switch (hot_cells plan) (length plan.clients));
  store = first_rows (host_rows plan);
  history = [];
  refusals = [];
  moves = 0;
}

-- the state behind these moves; None where one of the actors doesn't move
abbrev pub state_behind : Plan → State → List Actor → Option State
state_behind plan s [] = Some s
state_behind plan s (actor ∷ actors) = option_and_then (λ next. state_behind plan next actors) (step plan s actor)

-- the state that a trace makes of the opening
unfoldable pub state_of : Plan → List Actor → Option State
state_of plan trace = state_behind plan (opening plan) trace

-- the state behind a trace; the opening where it is none
abbrev pub state_now : Plan → List Actor → State
state_now plan trace = unwrap_or (state_of plan trace) (opening plan)
