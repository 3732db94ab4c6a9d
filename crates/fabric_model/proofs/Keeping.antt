-- What holds, and what the logs have, is kept by every move.
use Rattle.std.proofs.Common.{◌≡◌, ℕ, List, length, Some, None}
use Rattle.placement_model.specs.Placements.{Task, IsPlacement, IsFirstPlacement}
use Rattle.placement_model.proofs.First.{first_order_is_first}
use Rattle.catalogue.specs.Plan.{Plan, hot_cells}
use Rattle.catalogue.specs.Sound.{IsSound}
use Rattle.catalogue.specs.declared.actor.Actor.{Actor}
use Rattle.fabric_model.specs.Fits.{PacketsFit}
use Rattle.fabric_model.specs.Holds.{HoldsNow, WhileUp, WhileLost}
use Rattle.fabric_model.specs.Laws.{IsReached}
use Rattle.fabric_model.specs.Recovery.{plain_logs}
use Rattle.fabric_model.specs.Run.{opening}
use Rattle.fabric_model.specs.State.{State, client_at, log_at}
use Rattle.fabric_model.specs.Step.{order_now, step}
use Rattle.fabric_model.proofs.AnsweredButOne.{answered_but_one}
use Rattle.fabric_model.proofs.AnsweredRecords.{AreKept, kept_step, kept_at_opening, records_kept}
use Rattle.fabric_model.proofs.Either.{up_of}
use Rattle.fabric_model.proofs.Kept.{kept_up}
use Rattle.fabric_model.proofs.KeptLost.{kept_lost}
use Rattle.fabric_model.proofs.Losing.{lost_holds}
use Rattle.fabric_model.proofs.MoveKinds.{Moved, move_of}
use Rattle.fabric_model.proofs.Opening.{holds_at_opening}
use Rattle.fabric_model.proofs.PerClient.{logs_stay}
use Rattle.fabric_model.proofs.Tasks.{KnownLog}

pub record Stands (plan : Plan) (s : State) : Type 0 where
  pub now : HoldsNow plan s
  pub kept : AreKept plan s

pub known_of : (plan : Plan) (s : State) → AreKept plan s → (d : ℕ) → KnownLog plan (client_at s) s.history s.switch d (log_at s d)
known_of plan s kept d =
    let r = records_kept plan s kept d in
    record { answered = r.answered; intents = r.intents; outcomes = r.outcomes; ascending = r.ascending; told = r.told }

-- the order that a recovery takes is the first placement
pub first_is_first : (plan : Plan) (s : State) → IsReached plan s → (order : List Task) → order_now plan s ≡ Some order → IsFirstPlacement (plain_logs s.logs) (hot_cells plan) order
unfolding order_now
first_is_first plan s reached order is = first_order_is_first (plain_logs s.logs) (hot_cells plan) order (answered_but_one plan s reached) is

module _ (plan : Plan) (sound : IsSound plan) (fits : PacketsFit plan) (s after : State) (actor : Actor) (reached : IsReached plan s) (stands : Stands plan s) (is : step plan s actor ≡ Some after) where
  known : (d : ℕ) → KnownLog plan (client_at s) s.history s.switch d (log_at s d)
  known = known_of plan s stands.kept

  as_many : length s.logs ≡ length s.clients
  as_many = logs_stay plan s reached

  first : (order : List Task) → s.switch ≡ None → order_now plan s ≡ Some order → IsPlacement (plain_logs s.logs) (hot_cells plan) order
  first order down found = (first_is_first plan s reached order found).placement

  moved : Moved plan s after actor
  moved = move_of plan s actor after is

  next_now : HoldsNow plan s → HoldsNow plan after
  next_now (WhileUp h) = kept_up plan sound fits s h (λ c lt ready. lost_holds plan s h known as_many sound c lt ready) after actor moved
  next_now (WhileLost h) = kept_lost plan sound fits s h known as_many first after actor moved

  pub stands_step : Stands plan after
  stands_step = record {
    now = next_now stands.now;
    kept = kept_step plan s after actor reached (λ now up. up_of plan s stands.now now up) first stands.kept is moved;
  }

pub stands_at_opening : (plan : Plan) → IsSound plan → Stands plan (opening plan)
stands_at_opening plan sound = record { now = WhileUp (holds_at_opening plan sound); kept = kept_at_opening plan }
