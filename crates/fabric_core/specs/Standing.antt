-- When what the code keeps of a run stands for a state of the model.
use Rattle.std.specs.Prelude.{◌≡◌, ◌<◌, ◌≤◌, ◌+◌, ◌*◌, ◌&&◌, ℕ, Bool, List, [], ◌∷◌, length, not, true, false, is_some, slice_index_or, Option, Some, None}
use Rattle.std.specs.FinMap as fin
use Rattle.txn_model.specs.declared.op.TupleId.{TupleId}
use Rattle.stage_layout.specs.Late.{is_hot}
use Rattle.stage_layout.specs.declared.layout.LayoutRow.{LayoutRow}
use Rattle.warm_split.specs.Parts.{IsParts}
use Rattle.catalogue.specs.Plan.{Plan, PlainItem, item_of, items_of}
use Rattle.catalogue.specs.Sound.{IsActor, item_count}
use Rattle.catalogue.specs.declared.actor.Actor.{Actor}
use Rattle.catalogue.specs.declared.actor.Actor.TheVariants.{Client}
use Rattle.host_locks.specs.Locks.{has_tuple}
use Rattle.switch_model.specs.Switch.{Switch}
use Rattle.pipeline.specs.Plain.{PlainPipeline}
use Rattle.pipeline.specs.Rows.{erased}
use Rattle.pipeline.specs.Shows.{Shows}
use Rattle.log_records.specs.Records.{PlainRecords}
use Rattle.core_model.specs.State.{ClientState, at_item, script_now, zero_stamp}
use Rattle.history_core.specs.Runs.{runs_of}
use Rattle.client_phase.specs.NextAction.{next_action}
use Rattle.client_phase.specs.Shown.{plain_client, room_of, shown}
use Rattle.client_phase.specs.declared.action.Action.{Action}
use Rattle.fabric_model.specs.Laws.{IsReached}
use Rattle.fabric_model.specs.State.{Records, State, client_at, no_records}
use Rattle.fabric_model.specs.Step.{step}
use Rattle.fabric_core.specs.Drafts.{HasDraftRoom}
use Rattle.fabric_core.specs.Held.{HasLocks}
use Rattle.fabric_core.specs.declared.core_state.CoreState.{CoreState}
use Rattle.fabric_core.specs.declared.runner.Runner.{Runner}

-- what is kept of a client shows this one of the model, has room for 16 pairs, and has the parts of its present script
pub record IsRunner (plan : Plan) (c : ℕ) (x : ClientState) (runner : Runner) : Type 0 where
  pub kept : plain_client runner.state ≡ shown plan.layout (script_now plan c x) x
  pub space : 16 ≤ room_of runner.state
  pub parts : IsParts plan.layout (script_now plan c x) runner.parts

abbrev pub client_in : List ClientState → ℕ → ClientState
client_in clients c = slice_index_or clients c (at_item 0 1 zero_stamp)

-- each client is kept, in order
pub record AreRunners (plan : Plan) (clients : List ClientState) (runners : List Runner) : Type 0 where
  pub count : length runners ≡ length clients
  pub each : (c : ℕ) (other : Runner) → c < length clients → IsRunner plan c (client_in clients c) (slice_index_or runners c other)

-- how many records of each kind a client with so many items makes at most: one for each of them, and none where no tuple is in
-- the switch
abbrev pub log_room : List LayoutRow → ℕ → ℕ
log_room [] items = 0
log_room (row ∷ rows) items = items

-- the log of a client has these records, and room for all that it makes
pub record IsLog (plan : Plan) (c : ℕ) (records : Records) (log : PlainRecords) : Type 0 where
  pub intents : log.intents ≡ records.intents
  pub outcomes : log.outcomes ≡ records.outcomes
  pub space : log.room ≡ log_room plan.layout (length (items_of plan c))

-- each client has its log, in order
pub record AreLogs (plan : Plan) (logs : List Records) (kept : List PlainRecords) : Type 0 where
  pub count : length kept ≡ length logs
  pub each : (c : ℕ) (other : PlainRecords) → c < length logs → IsLog plan c (slice_index_or logs c no_records) (slice_index_or kept c other)

-- the switch is up, and the pipeline shows it
pub record IsUp (plan : Plan) (switch : Option Switch) (pipeline : PlainPipeline) : Type 0 where
  pub now : Switch
  pub up : switch ≡ Some now
  pub shows : Shows plan.shape pipeline now

-- the switch is lost, and the pipeline has what is left then
pub record IsLost (plan : Plan) (switch : Option Switch) (pipeline : PlainPipeline) : Type 0 where
  pub lost : switch ≡ None
  pub erased : pipeline ≡ erased pipeline
  pub shape : pipeline.shape ≡ plan.shape
  pub clients : length pipeline.waiting ≡ length plan.clients

-- the switch is up exactly where the code says so
pub record IsSwitch (plan : Plan) (switch : Option Switch) (is_up : Bool) (pipeline : PlainPipeline) : Type 0 where
  pub up : is_up ≡ true → IsUp plan switch pipeline
  pub lost : is_up ≡ false → IsLost plan switch pipeline

-- the code has the state's clients, logs, switch, locks, store, history and refusals, and room for all that may come; locks are
-- those of the tuples on hosts
pub record StandsFor (plan : Plan) (s : State) (core : CoreState) : Type 0 where
  pub runners : AreRunners plan s.clients core.runners.items
  pub logs : AreLogs plan s.logs core.logs.items
  pub switch : IsSwitch plan s.switch core.is_up core.pipeline
  pub locks : HasLocks plan s core.locks
  pub tuples : (t : TupleId) → has_tuple core.locks t ≡ (is_some (fin.get plan.tuples t) && not (is_hot plan.layout t))
  pub store : core.store ≡ s.store
  pub history : core.history.items ≡ s.history
  pub runs : core.history.runs ≡ runs_of plan
  pub refusals : core.refusals.items ≡ s.refusals
  pub refused : plan.tries * item_count plan ≤ length core.refusals.items + core.refusals.spare
  pub draft : HasDraftRoom core.draft

-- it is the turn of one of the session's actors, and the code stands for a state that is reached, behind this many moves
pub record IsTurnIn (plan : Plan) (core : CoreState) (actor : Actor) (at : ℕ) (s : State) : Type 0 where
  pub reached : IsReached plan s
  pub stands : StandsFor plan s core
  pub within : IsActor plan actor
  pub moves : s.moves ≡ at

-- it is the turn of a client at this item, and this is its next action
pub record IsActionIn (plan : Plan) (core : CoreState) (c at : ℕ) (present : PlainItem) (action : Action) (s : State) : Type 0 where
  pub turn : IsTurnIn plan core (Client c) at s
  pub item : item_of plan c (client_at s c).seq ≡ Some present
  pub next : (other : Runner) → let runner = slice_index_or core.runners.items c other in next_action runner.parts (plain_client runner.state) (Some present) ≡ action

-- the actor moves, and the code stands for the state behind its move
pub record Follows (plan : Plan) (s : State) (actor : Actor) (core : CoreState) : Type 0 where
  pub next : State
  pub step : step plan s actor ≡ Some next
  pub stands : StandsFor plan next core
