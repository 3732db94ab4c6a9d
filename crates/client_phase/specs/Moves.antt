-- Which move of the fabric an action of a client is.
use Rattle.std.specs.Prelude.{ℕ, slice_get, Option, Some, None, option_map}
use Rattle.history_model.specs.Chain.{steps_of}
use Rattle.switch_model.specs.Event as switch
use Rattle.switch_model.specs.Switch.{answer_of}
use Rattle.catalogue.specs.Plan.{Plan}
use Rattle.core_model.specs.State.{ClientState, script_now}
use Rattle.fabric_model.specs.Intents.{packet_now}
use Rattle.fabric_model.specs.State.{State}
use Rattle.fabric_model.specs.Step.{lost, asked, holder, released, decided, logged, posted, takes, installed, up}
use Rattle.client_phase.specs.declared.action.Action.{Action}
use Rattle.client_phase.specs.declared.action.Action.TheVariants.{Lock, Release, Decide, LogIntent, Post, LogOutcome, Install, Lose, Rest}

-- what the action makes of the state; None where the client can't move
abbrev pub move_of : Plan → State → ℕ → ClientState → Action → Option State
move_of plan s c x (Lock k) = option_map (λ op. asked plan s c x op (holder plan s c op)) (slice_get (script_now plan c x) k)
move_of plan s c x (Release k) = Some (released plan s c x)
move_of plan s c x Decide = Some (decided plan s c x)
move_of plan s c x LogIntent = Some (logged plan s c x)
move_of plan s c x Post = option_map (posted s c x) (up s (λ now. switch.post now c (packet_now plan c x)))
move_of plan s c x LogOutcome = up s (λ now. takes plan s c x now (answer_of now c))
move_of plan s c x (Install k) = option_map (installed plan s c x) (slice_get (steps_of (script_now plan c x) x.reply) k)
move_of plan s c x Lose = option_map (λ now. lost plan s c x) s.switch
move_of plan s c x Rest = None
