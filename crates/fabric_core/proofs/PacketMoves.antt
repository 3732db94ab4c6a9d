-- The moves of packets in the model, where the switch is up.
use Rattle.std.proofs.Common.{◌≡◌, ℕ, ◌<◌, nat_lt, Bool, true, length, Option, Some, None, option_map, ap, ◌∙◌, arith, if◌then◌else◌}
use Rattle.std.specs.Option.{option_and_then}
use Rattle.std.proofs.lemmas.Bool.Decides.{nat_tests}
use Rattle.switch_model.specs.Event as switch
use Rattle.switch_model.specs.Switch.{Switch, Answer, desk_at, next_number, answer_of}
use Rattle.catalogue.specs.Plan.{Plan}
use Rattle.catalogue.specs.declared.actor.Actor.TheVariants.{Client, Port, Stage}
use Rattle.core_model.specs.declared.phase.Phase.{Phase}
use Rattle.core_model.specs.declared.phase.Phase.TheVariants.{Logged, Waiting}
use Rattle.fabric_model.specs.Intents.{packet_now}
use Rattle.fabric_model.specs.State.{State, client_at}
use Rattle.fabric_model.specs.Step.{posted, taken, takes, switched, behind_entry, client_step, enters, step, up}

below : (a b : ℕ) → a < b → nat_lt a b ≡ true
below a b lt = grind (arith, nat_tests)

-- a client's move is that of its phase
pub client_moves : (plan : Plan) (s : State) (c : ℕ) (p : Phase) → c < length s.clients → (client_at s c).phase ≡ p → step plan s (Client c) ≡ client_step plan s c (client_at s c) p
unfolding step
client_moves plan s c p lt is = ap (λ (b : Bool). if b then client_step plan s c (client_at s c) (client_at s c).phase else None) (below c (length s.clients) lt) ∙ ap (client_step plan s c (client_at s c)) is

module _ (plan : Plan) (s : State) (c : ℕ) (now : Switch) (is_up : s.switch ≡ Some now) where
  -- what the switch makes of it
  up_now : {T : Type 0} (f : Switch → Option T) → up s f ≡ f now
  up_now f = ap (λ (o : Option Switch). option_and_then f o) is_up

  pub posts_move : (next : Switch) → c < length s.clients → (client_at s c).phase ≡ Logged → switch.post now c (packet_now plan c (client_at s c)) ≡ Some next → step plan s (Client c) ≡ Some (posted s c (client_at s c) next)
  posts_move next lt is to =
      client_moves plan s c Logged lt is ∙ ap (option_map (posted s c (client_at s c))) (up_now (λ w. switch.post w c (packet_now plan c (client_at s c))) ∙ to)

  pub takes_move : (answer : Answer) (next : Switch) → c < length s.clients → (client_at s c).phase ≡ Waiting → answer_of now c ≡ Some answer → switch.take_answer now c ≡ Some next
      → step plan s (Client c) ≡ Some (taken plan s c (client_at s c) answer next)
  takes_move answer next lt is has to =
      client_moves plan s c Waiting lt is ∙ up_now (λ w. takes plan s c (client_at s c) w (answer_of w c)) ∙ ap (takes plan s c (client_at s c) now) has
      ∙ ap (option_map (taken plan s c (client_at s c) answer)) to

  pub takes_nothing : c < length s.clients → (client_at s c).phase ≡ Waiting → answer_of now c ≡ None → step plan s (Client c) ≡ None
  takes_nothing lt is none = client_moves plan s c Waiting lt is ∙ up_now (λ w. takes plan s c (client_at s c) w (answer_of w c)) ∙ ap (takes plan s c (client_at s c) now) none

  pub enters_move : step plan s (Port c) ≡ option_map (behind_entry s c (desk_at now c) (next_number now)) (switch.enter plan.shape now c)
  unfolding step
  enters_move = up_now (enters plan s c)

  pub stage_moves : (x : ℕ) → step plan s (Stage x) ≡ option_map (switched s) (switch.advance plan.shape now x)
  unfolding step
  stage_moves x = ap (option_map (switched s)) (up_now (λ w. switch.advance plan.shape w x))

-- where the switch is lost, no packet moves
module _ (plan : Plan) (s : State) (c : ℕ) (lost : s.switch ≡ None) where
  lost_now : {T : Type 0} (f : Switch → Option T) → up s f ≡ None
  lost_now f = ap (λ (o : Option Switch). option_and_then f o) lost

  pub posts_nowhere : c < length s.clients → (client_at s c).phase ≡ Logged → step plan s (Client c) ≡ None
  posts_nowhere lt is = client_moves plan s c Logged lt is ∙ ap (option_map (posted s c (client_at s c))) (lost_now (λ w. switch.post w c (packet_now plan c (client_at s c))))

  pub takes_from_none : c < length s.clients → (client_at s c).phase ≡ Waiting → step plan s (Client c) ≡ None
  takes_from_none lt is = client_moves plan s c Waiting lt is ∙ lost_now (λ w. takes plan s c (client_at s c) w (answer_of w c))

  pub enters_nowhere : step plan s (Port c) ≡ None
  unfolding step
  enters_nowhere = lost_now (enters plan s c)

  pub stage_rests : (x : ℕ) → step plan s (Stage x) ≡ None
  unfolding step
  stage_rests x = ap (option_map (switched s)) (lost_now (λ w. switch.advance plan.shape w x))
