-- What is kept of a client against the client of the fabric's model.
use Rattle.std.specs.Prelude.{◌≡◌, ◌⊎◌, ℕ, ◌<◌, ◌≤◌, true, false, not, List, [], length, slice_get, Option, Some, None}
use Rattle.txn_model.specs.declared.op.Op.{Op}
use Rattle.txn_model.specs.declared.stamp.Seen.{Seen}
use Rattle.stage_layout.specs.declared.layout.LayoutRow.{LayoutRow}
use Rattle.host_store.specs.Store.{seen_at}
use Rattle.history_model.specs.Chain.{Step}
use Rattle.switch_model.specs.Switch.{Switch, Answer}
use Rattle.warm_split.specs.Filled.{AreExecuted}
use Rattle.warm_split.specs.Joined.{joined}
use Rattle.warm_split.specs.Parts.{IsParts}
use Rattle.warm_split.specs.Sides.{IsOneVisit, found_values}
use Rattle.warm_split.specs.declared.parts.Parts.{Parts}
use Rattle.catalogue.specs.Plan as catalogue
use Rattle.catalogue.specs.Plan.{Plan, PlainItem, items_of, item_of, script_of}
use Rattle.core_model.specs.Asking.{IsAsking}
use Rattle.core_model.specs.Locks.{cold_ops}
use Rattle.core_model.specs.State.{ClientState, script_now}
use Rattle.core_model.specs.declared.phase.Phase.TheVariants.{Ready, Locking, Logged, Waiting, Installing, Finished}
use Rattle.fabric_model.specs.ColdFacts.{FitsPhase}
use Rattle.fabric_model.specs.Intents.{values_of}
use Rattle.fabric_model.specs.Laws.{IsReached}
use Rattle.fabric_model.specs.State.{State, client_at}
use Rattle.fabric_model.specs.Step as model
use Rattle.client_phase.specs.declared.action.Action.{Action}
use Rattle.client_phase.specs.declared.action.Action.TheVariants.{Lock, Release, Decide, LogIntent, Post, LogOutcome, Install, Lose}
use Rattle.client_phase.specs.declared.action.Met.{Met}
use Rattle.client_phase.specs.declared.action.Met.TheVariants.{Granted, HeldBy, Answered, Done}
use Rattle.client_phase.specs.ColdNumbers.{cold_count, cold_number, is_cold}
use Rattle.client_phase.specs.Fits.{FitsAny}
use Rattle.client_phase.specs.Moves.{move_of}
use Rattle.client_phase.specs.NextAction.{next_action}
use Rattle.client_phase.specs.Shown.{PlainClient, shown_now, taking_pairs}
use Rattle.client_phase.specs.Stepped.{stepped}

-- the parts are those of the client's present script, where it has one
abbrev pub HasParts : Plan → ℕ → ClientState → Parts → Type 0
HasParts plan c x parts = (ops : List Op) → script_of plan c x.seq ≡ Some ops → IsParts plan.layout ops parts

-- a client of the model at a script that has these parts
pub record IsAtScript (plan : Plan) (c : ℕ) (x : ClientState) (parts : Parts) : Type 0 where
  pub visit : IsOneVisit plan.layout (script_now plan c x)
  pub sets : IsParts plan.layout (script_now plan c x) parts
  pub unfinished : x.phase ≡ Finished → ⊥
  pub fits : FitsPhase plan c x x.phase
  -- one that takes locks has one
  pub locks : x.phase ≡ Locking → 1 ≤ length x.noted
  -- one with a packet has an operation in the switch
  pub hot : (x.phase ≡ Logged) ⊎ (x.phase ≡ Waiting) → model.has_hot plan (script_now plan c x) ≡ true
  -- one that installs has a value left, and a reply
  pub installs : x.phase ≡ Installing → x.installed < length x.noted
  pub reply : x.phase ≡ Installing → length x.reply ≡ length (script_now plan c x)

-- a client of the model at its present item, whose parts are these where it is a script
abbrev pub IsAt : Plan → ℕ → ClientState → Parts → Option PlainItem → Type 0
IsAt plan c x parts (Some (catalogue.Run ops)) = IsAtScript plan c x parts
IsAt plan c x parts (Some catalogue.Lose) = (x.phase ≡ Ready) × (x.noted ≡ []) × (x.installed ≡ 0)
IsAt plan c x parts None = x.phase ≡ Finished

-- each client of a reached state is at its present item, and what is kept of it fits that
pub record ClientsFit (plan : Plan) (s : State) (c : ℕ) (parts : Parts) : Type 0 where
  pub at : IsAt plan c (client_at s c) parts (item_of plan c (client_at s c).seq)
  pub fits : FitsAny parts (shown_now plan c (client_at s c)) (item_of plan c (client_at s c).seq)

-- a client's next action is its move
abbrev pub ActionsAreMoves : Type 0
ActionsAreMoves = (plan : Plan) (s : State) (c : ℕ) (x : ClientState) (parts : Parts) → let item = item_of plan c x.seq in
    IsAt plan c x parts item → model.client_step plan s c x x.phase ≡ move_of plan s c x (next_action parts (shown_now plan c x) item)

-- as many operations of a script are on hosts as the model takes locks for, and their numbers are those of the model's operations
pub record HasTheLocks (rows : List LayoutRow) (ops : List Op) (parts : Parts) : Type 0 where
  pub count : cold_count parts ops ≡ length (cold_ops rows ops)
  pub numbers : (nth : ℕ) → nth < cold_count parts ops → slice_get ops (cold_number parts ops nth) ≡ slice_get (cold_ops rows ops) nth

abbrev pub LocksAreTheModels : Type 0
LocksAreTheModels = (rows : List LayoutRow) (ops : List Op) (parts : Parts) → IsParts rows ops parts → HasTheLocks rows ops parts

-- a script is decided, and its intent not logged, where the model has it so
abbrev pub CommitsAreTheModels : Type 0
CommitsAreTheModels = (plan : Plan) (ops : List Op) (parts : Parts) → IsParts plan.layout ops parts → is_cold parts ops ≡ not (model.has_hot plan ops)

-- with all locks, the pairs of a script have what was read with them, and the operations before the switch are executed
pub record ArePairsFound (rows : List LayoutRow) (ops : List Op) (parts : Parts) (noted : List Seen) : Type 0 where
  pub found : found_values rows ops (taking_pairs rows ops noted) ≡ values_of noted
  pub filled : AreExecuted parts.before ops (taking_pairs rows ops noted)

abbrev pub PairsAreFound : Type 0
PairsAreFound = (rows : List LayoutRow) (ops : List Op) (parts : Parts) (noted : List Seen) → IsOneVisit rows ops → IsParts rows ops parts
    → length noted ≡ length (cold_ops rows ops) → ArePairsFound rows ops parts noted

-- what is shown of the client behind a move is what the action makes of this, by what the move met
abbrev pub Makes : Plan → ℕ → ClientState → Parts → State → Action → Met → PlainClient → Type 0
Makes plan c x parts next action met p =
    shown_now plan c (client_at next c) ≡ stepped parts (script_now plan c x) (length (items_of plan c)) plan.tries action met p

-- the moves of a client at a script, one for each row of the step
pub record AreStepped (plan : Plan) (s : State) (c : ℕ) (x : ClientState) (parts : Parts) : Type 0 where
  pub granted : (op : Op) → IsAsking x → model.next_op plan c x ≡ Some op
      → Makes plan c x parts (model.granted s c x op) (Lock (cold_number parts (script_now plan c x) (length x.noted))) (Granted (seen_at s.store op.tuple)) (shown_now plan c x)
  pub refused : (op : Op) (k by : ℕ) → Makes plan c x parts (model.refused plan s c x op by) (Lock k) (HeldBy by) (shown_now plan c x)
  pub released : (k : ℕ) → Makes plan c x parts (model.released plan s c x) (Release k) Done (shown_now plan c x)
  pub decided : IsAsking x → model.next_op plan c x ≡ None → model.has_hot plan (script_now plan c x) ≡ false → 0 < length x.noted
      → Makes plan c x parts (model.decided plan s c x) Decide Done (shown_now plan c x)
  pub logged : IsAsking x → model.next_op plan c x ≡ None → Makes plan c x parts (model.logged plan s c x) LogIntent Done (shown_now plan c x)
  pub posted : (after : Switch) → x.phase ≡ Logged → Makes plan c x parts (model.posted s c x after) Post Done (shown_now plan c x)
  -- the answer's pairs have been joined into the client's
  pub taken : (answer : Answer) (after : Switch) → x.phase ≡ Waiting
      → Makes plan c x parts (model.taken plan s c x answer after) LogOutcome (Answered answer.number) (record (shown_now plan c x) { pairs = joined plan.layout (script_now plan c x) (values_of x.noted) answer.pairs })
  pub installed : (step : Step) (k : ℕ) → x.phase ≡ Installing → Makes plan c x parts (model.installed plan s c x step) (Install k) Done (shown_now plan c x)

abbrev pub RowsAreStepped : Type 0
RowsAreStepped = (plan : Plan) (s : State) (c : ℕ) (x : ClientState) (parts : Parts) → c < length s.clients → IsAtScript plan c x parts → AreStepped plan s c x parts

-- so is a loss of the switch
abbrev pub LossesAreStepped : Type 0
LossesAreStepped = (plan : Plan) (s : State) (c : ℕ) (x : ClientState) (parts : Parts) → c < length s.clients → Makes plan c x parts (model.lost plan s c x) Lose Done (shown_now plan c x)

abbrev pub ClientsFitTheirScripts : Type 0
ClientsFitTheirScripts = (plan : Plan) (s : State) (c : ℕ) (parts : Parts) → IsReached plan s → HasParts plan c (client_at s c) parts → ClientsFit plan s c parts
