-- What a client does next.
use Rattle.std.specs.Prelude.{ℕ, ◌-◌, nat_lt, List, Option, Some, None, if◌then◌else◌}
use Rattle.txn_model.specs.declared.op.Op.{Op}
use Rattle.warm_split.specs.declared.parts.Parts.{Parts}
use Rattle.catalogue.specs.Plan as plan
use Rattle.catalogue.specs.Plan.{PlainItem}
use Rattle.core_model.specs.declared.phase.Phase.{Phase}
use Rattle.core_model.specs.declared.phase.Phase.TheVariants.{Ready, Locking, Aborting, Logged, Waiting, Installing, Finished}
use Rattle.client_phase.specs.declared.action.Action.{Action}
use Rattle.client_phase.specs.declared.action.Action.TheVariants.{Lock, Release, Decide, LogIntent, Post, LogOutcome, Install, Lose, Rest}
use Rattle.client_phase.specs.ColdNumbers.{cold_count, cold_number, is_cold}
use Rattle.client_phase.specs.Shown.{PlainClient}

-- a client with so many locks asks for the next one; with all of them it decides, or logs its intent where the switch has a part in it
abbrev pub locks_or_goes_on : Parts → List Op → ℕ → Action
locks_or_goes_on parts ops locked =
    if nat_lt locked (cold_count parts ops) then Lock (cold_number parts ops locked) else
    (if is_cold parts ops then Decide else LogIntent)

-- at a script
abbrev pub script_action : Parts → List Op → PlainClient → Phase → Action
script_action parts ops p Ready = locks_or_goes_on parts ops p.locked
script_action parts ops p Locking = locks_or_goes_on parts ops p.locked
script_action parts ops p Aborting = Release (cold_number parts ops (p.locked - 1))
script_action parts ops p Logged = Post
script_action parts ops p Waiting = LogOutcome
script_action parts ops p Installing = Install (cold_number parts ops p.installed)
script_action parts ops p Finished = Rest

-- at its present item; a client without one rests
abbrev pub next_action : Parts → PlainClient → Option PlainItem → Action
next_action parts p None = Rest
next_action parts p (Some (plan.Run ops)) = script_action parts ops p p.phase
next_action parts p (Some plan.Lose) = Lose
