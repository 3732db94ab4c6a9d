-- When what is kept of a client fits its present item, and what a move meets fits its action.
use Rattle.std.specs.Prelude.{◌≡◌, ◌<◌, ◌≤◌, false, List, [], length, Option, Some, None}
use Rattle.txn_model.specs.ScriptCheck.{script_fault}
use Rattle.txn_model.specs.declared.op.Op.{Op}
use Rattle.warm_split.specs.declared.parts.Parts.{Parts}
use Rattle.catalogue.specs.Plan as plan
use Rattle.catalogue.specs.Plan.{PlainItem}
use Rattle.core_model.specs.declared.phase.Phase.{Phase}
use Rattle.core_model.specs.declared.phase.Phase.TheVariants.{Ready, Locking, Aborting, Logged, Waiting, Installing, Finished}
use Rattle.client_phase.specs.declared.action.Action.{Action}
use Rattle.client_phase.specs.declared.action.Action.TheVariants.{Lock, Release, Decide, LogIntent, Post, LogOutcome, Install, Lose, Rest}
use Rattle.client_phase.specs.declared.action.Met.{Met}
use Rattle.client_phase.specs.declared.action.Met.TheVariants.{Granted, HeldBy, Answered, Done}
use Rattle.client_phase.specs.ColdNumbers.{cold_count, is_cold}
use Rattle.client_phase.specs.Shown.{PlainClient}

-- the operations of an item; a loss has none
abbrev pub ops_of : PlainItem → List Op
ops_of (plan.Run ops) = ops
ops_of plan.Lose = []

-- a script can be run
abbrev pub HasNoFault : PlainItem → Type 0
HasNoFault (plan.Run ops) = script_fault ops ≡ None
HasNoFault plan.Lose = Unit {0}

-- at a script, by phase: it has pairs from its first lock or its intent on, until it aborts; a client with a packet has an operation
-- in the switch; one that installs has a value left
abbrev pub FitsScript : Parts → List Op → PlainClient → Phase → Type 0
FitsScript parts ops p Ready = (p.locked ≡ 0) × (p.pairs ≡ [])
FitsScript parts ops p Locking = (1 ≤ p.locked) × (length p.pairs ≡ length ops)
FitsScript parts ops p Aborting = (1 ≤ p.locked) × (p.pairs ≡ [])
FitsScript parts ops p Logged = (is_cold parts ops ≡ false) × (length p.pairs ≡ length ops)
FitsScript parts ops p Waiting = (is_cold parts ops ≡ false) × (length p.pairs ≡ length ops)
FitsScript parts ops p Installing = (p.installed < cold_count parts ops) × (length p.pairs ≡ length ops)
FitsScript parts ops p Finished = ⊥

-- at an item
abbrev pub FitsPhase : Parts → PlainItem → PlainClient → Type 0
FitsPhase parts (plan.Run ops) p = FitsScript parts ops p p.phase
FitsPhase parts plan.Lose p = (p.phase ≡ Ready) × (p.pairs ≡ [])

-- it fits the item: it has no more locks, and has installed no more values, than there are operations on hosts
pub record Fits (parts : Parts) (item : PlainItem) (p : PlainClient) : Type 0 where
  pub phase : FitsPhase parts item p
  pub locked : p.locked ≤ cold_count parts (ops_of item)
  pub installed : p.installed ≤ cold_count parts (ops_of item)

-- where there is an item, it can be run, and what is kept fits it
abbrev pub FitsAny : Parts → PlainClient → Option PlainItem → Type 0
FitsAny parts p None = Unit {0}
FitsAny parts p (Some item) = HasNoFault item × Fits parts item p

-- the answer to a client that asks for a lock
abbrev pub IsLockMet : Met → Type 0
IsLockMet (Granted seen) = Unit {0}
IsLockMet (HeldBy other) = Unit {0}
IsLockMet (Answered number) = ⊥
IsLockMet Done = ⊥

-- the answer to its packet
abbrev pub IsAnswerMet : Met → Type 0
IsAnswerMet (Granted seen) = ⊥
IsAnswerMet (HeldBy other) = ⊥
IsAnswerMet (Answered number) = Unit {0}
IsAnswerMet Done = ⊥

-- what a move meets fits its action
abbrev pub FitsMet : Action → Met → Type 0
FitsMet (Lock k) met = IsLockMet met
FitsMet (Release k) met = met ≡ Done
FitsMet Decide met = met ≡ Done
FitsMet LogIntent met = met ≡ Done
FitsMet Post met = met ≡ Done
FitsMet LogOutcome met = IsAnswerMet met
FitsMet (Install k) met = met ≡ Done
FitsMet Lose met = met ≡ Done
FitsMet Rest met = met ≡ Done
