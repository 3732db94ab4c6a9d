-- What is claimed of the clients' logs when the switch is lost, and of its recovery.
use Rattle.std.specs.Prelude.{◌≡◌, ◌+◌, List, length, Some}
use Rattle.history_model.specs.History.{IsInStampOrder}
use Rattle.history_model.specs.Legal.{IsLegal}
use Rattle.placement_model.specs.Placements.{Task, IsPlacement, IsFirstPlacement, packets_of}
use Rattle.switch_packet.specs.Replay.{replay_all}
use Rattle.switch_model.specs.Switch.{Switch, next_number}
use Rattle.catalogue.specs.Plan.{Plan, script_at, hot_cells}
use Rattle.fabric_model.specs.Recovery.{plain_logs, filled}
use Rattle.fabric_model.specs.State.{State, answered_ones}
use Rattle.fabric_model.specs.Step.{recovered}

-- The clients' logs have a placement. With each of their placements the history is in stamp order and legal, where each open intent
-- has an unanswered entry with its number there.
pub record HasPlacements (plan : Plan) (s : State) : Type 0 where
  pub order : List Task
  pub placed : IsPlacement (plain_logs s.logs) (hot_cells plan) order
  pub sorted : (other : List Task) → IsPlacement (plain_logs s.logs) (hot_cells plan) other → IsInStampOrder (filled other (answered_ones s.history))
  pub legal : (other : List Task) → IsPlacement (plain_logs s.logs) (hot_cells plan) other → IsLegal (script_at plan) plan.tuples (filled other (answered_ones s.history))

-- Recovery takes the first placement of the clients' logs. Registers and the next number are what all packets leave that are executed
-- whole in its order. Each open intent has an unanswered entry with its number, all else is as before, and the history is legal.
pub record IsRecovered (plan : Plan) (s next : State) : Type 0 where
  pub order : List Task
  pub first : IsFirstPlacement (plain_logs s.logs) (hot_cells plan) order
  pub is : next ≡ recovered plan s order
  pub history : next.history ≡ filled order s.history
  pub now : Switch
  pub up : next.switch ≡ Some now
  pub registers : now.registers ≡ (replay_all (packets_of order) (hot_cells plan)).after
  pub number : next_number now ≡ length order + 1
  pub legal : IsLegal (script_at plan) plan.tuples next.history
