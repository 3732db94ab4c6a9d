-- A client whose packet stands in its log, and the switch, at which it has nothing under way.
use Rattle.std.proofs.Common.{◌≡◌, ℕ, ◌<◌, true, length, Some, IsSome, inl, inr, refl, sym, ap, subst, ◌∙◌, arith}
use Rattle.switch_model.specs.Event.{post}
use Rattle.switch_model.specs.Switch.{Switch, Desk, Vacant, Posted, Entered, desk_at}
use Rattle.switch_model.proofs.Effects.{can_post}
use Rattle.warm_split.specs.Resolved.{packet_from}
use Rattle.catalogue.specs.Plan.{Plan}
use Rattle.core_model.specs.declared.phase.Phase.TheVariants.{Logged, Waiting}
use Rattle.core_model.specs.State.{ClientState, script_now}
use Rattle.fabric_model.specs.Carried.{FitsDesk}
use Rattle.fabric_model.specs.Holds.{Holds}
use Rattle.fabric_model.specs.Intents.{packet_now}
use Rattle.fabric_model.specs.Laws.{IsReached}
use Rattle.fabric_model.specs.State.{State, client_at}
use Rattle.fabric_model.specs.Step.{has_hot}
use Rattle.fabric_model.proofs.Legal.{holds_up, facts_now}

pub client_of_packet : (plan : Plan) (c : ℕ) (x : ClientState) → (packet_now plan c x).client ≡ c
unfolding packet_from
client_of_packet plan c x = refl

module _ (plan : Plan) (s : State) (reached : IsReached plan s) (c : ℕ) (now : Switch) (up : s.switch ≡ Some now) (logged : (client_at s c).phase ≡ Logged) where
  abbrev x : ClientState
  x = client_at s c

  h : Holds plan s
  h = holds_up plan s reached now up

  same_some : {T : Type 0} {a b : T} → Some a ≡ Some b → a ≡ b
  same_some e = cc

  here : h.now ≡ now
  here = same_some (sym h.up ∙ up)

  pub has_hot_now : has_hot plan (script_now plan c x) ≡ true
  has_hot_now = h.ties.hot_ones c (inl logged)

  pub desks_now : length now.desks ≡ length s.clients
  desks_now = ap (λ (w : Switch). length w.desks) (sym here) ∙ h.desks

  -- nothing of the client's is under way
  pub vacant : desk_at now c ≡ Vacant
  vacant = by (desk_at now c) refl (subst (λ (w : Switch). FitsDesk plan s.history c x (desk_at w c)) here (h.ties.under_way c))
    where
      clash : Logged ≡ Waiting → ⊥
      clash e = cc

      by : (desk : Desk) → desk_at now c ≡ desk → FitsDesk plan s.history c x desk → desk ≡ Vacant
      by Vacant is fits = refl
      by (Posted p) is fits = absurd (clash (sym logged ∙ fits.0))
      by (Entered k) is fits = absurd (clash (sym logged ∙ fits.0))

  -- so it can post its packet
  pub can_post_now : c < length s.clients → IsSome (post now c (packet_now plan c x))
  can_post_now lt = can_post now c (packet_now plan c x) vacant (omega (arith, lt, desks_now))

-- the packet of a client that waits has an operation in the switch
pub has_hot_waiting : (plan : Plan) (s : State) → IsReached plan s → (c : ℕ) → (client_at s c).phase ≡ Waiting → has_hot plan (script_now plan c (client_at s c)) ≡ true
has_hot_waiting plan s reached c waiting = (facts_now plan s reached).facts.hot_ones c (inr waiting)
