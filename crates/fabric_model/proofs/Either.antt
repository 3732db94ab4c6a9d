-- What holds whether the switch is up or lost.
use Rattle.std.proofs.Common.{◌≡◌, ℕ, length, Option, Some, None}
use Rattle.placement_model.specs.Placements.{tasks_of}
use Rattle.switch_model.specs.Switch.{Switch, entered}
use Rattle.catalogue.specs.Plan.{Plan}
use Rattle.fabric_model.specs.ColdFacts.{FitsPhase}
use Rattle.fabric_model.specs.Holds.{HostFacts, Holds, HoldsLost, HoldsNow, WhileUp, WhileLost}
use Rattle.fabric_model.specs.Laws.{IsReached}
use Rattle.fabric_model.specs.Recovery.{plain_logs}
use Rattle.fabric_model.specs.State.{State, client_at}

pub not_lost : {now : Switch} {o : Option Switch} → o ≡ None → o ≡ Some now → ⊥
not_lost e f = cc

-- the facts on the hosts, with a number that no stamp is above
pub record FactsOf (plan : Plan) (s : State) : Type 0 where
  pub most : ℕ
  pub facts : HostFacts plan most (client_at s) s.store s.history

pub facts_up : (plan : Plan) (s : State) (h : Holds plan s) → HostFacts plan (length (entered h.now)) (client_at s) s.store s.history
facts_up plan s h = record { cold = h.ties.cold; installs = h.ties.installs; hot_ones = h.ties.hot_ones; sorted = h.ties.sorted; unanswered = h.ties.unanswered; hosts = h.ties.hosts; covered = h.ties.covered }

pub facts_of : (plan : Plan) (s : State) → HoldsNow plan s → FactsOf plan s
facts_of plan s (WhileUp h) = record { most = length (entered h.now); facts = facts_up plan s h }
facts_of plan s (WhileLost h) = record { most = length (tasks_of (plain_logs s.logs)); facts = h.facts }

pub up_of : (plan : Plan) (s : State) → HoldsNow plan s → (now : Switch) → s.switch ≡ Some now → Holds plan s
up_of plan s (WhileUp h) now up = h
up_of plan s (WhileLost h) now up = absurd (not_lost h.lost up)

pub lost_of : (plan : Plan) (s : State) → HoldsNow plan s → s.switch ≡ None → HoldsLost plan s
lost_of plan s (WhileUp h) down = absurd (not_lost down h.up)
lost_of plan s (WhileLost h) down = h

-- each client has as many locks as its phase says
pub fits_now : (plan : Plan) → ((z : State) → IsReached plan z → HoldsNow plan z) → (s : State) → IsReached plan s → (c : ℕ) → FitsPhase plan c (client_at s c) (client_at s c).phase
fits_now plan holds s reached c = (facts_of plan s (holds s reached)).facts.cold.fits c
