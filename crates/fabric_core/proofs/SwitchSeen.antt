-- The switch as a world shows it: registers and slots.
use Rattle.std.proofs.Common.{◌≡◌, ℕ, zero, suc, ◌&&◌, not, pos, Bool, true, false, get_or, replicate, Option, Some, None, IsSome, is_some, unwrap_or, option_map, refl, sym, ap, subst, ◌∙◌}
use Rattle.std.specs.FinMap as fin
use Rattle.std.specs.List.{position}
use Rattle.txn_model.specs.declared.op.TupleId.{TupleId}
use Rattle.txn_model.specs.declared.place.Place.{Place}
use Rattle.txn_model.specs.declared.stamp.Seen.{Seen}
use Rattle.stage_layout.specs.Layout.{place_of}
use Rattle.stage_layout.specs.Shape.{has_place}
use Rattle.host_store.specs.Store.{Store, first_seen}
use Rattle.switch_packet.specs.Replay.{register_at}
use Rattle.switch_model.specs.Flight.{flight_at, is_in_slot}
use Rattle.switch_model.specs.Reached as machine
use Rattle.switch_model.specs.Switch.{Switch}
use Rattle.pipeline.specs.Plain.{PlainFlight, PlainPipeline}
use Rattle.pipeline.specs.Rows.{in_slot}
use Rattle.pipeline.specs.Seen.{seen_flight}
use Rattle.pipeline.proofs.Numbered.{register-numbers_of}
use Rattle.pipeline.proofs.Shown.{register_is, shape_is, slot_is}
use Rattle.catalogue.specs.Plan.{Plan, hot_cells}
use Rattle.fabric_model.specs.Laws.{IsReached, register_in, tuple_now, value_in}
use Rattle.fabric_model.specs.State.{State}
use Rattle.fabric_model.proofs.Legal.{holds_up}
use Rattle.fabric_model.proofs.MovesLeft.{same_switch}
use Rattle.fabric_core.specs.Slots.{slot_in, slot_now}
use Rattle.fabric_core.specs.Standing.{StandsFor, IsUp, IsLost}
use Rattle.fabric_core.specs.declared.core_state.CoreState.{CoreState}
use Rattle.fabric_core.proofs.HotPlaces.{place_is_there}
use Rattle.fabric_core.proofs.Stored.{stored_same}

abbrev no_packet : Option PlainFlight
no_packet = None

no_flight : (n x : ℕ) → get_or (replicate n no_packet) x no_packet ≡ None
no_flight zero x = refl
no_flight (suc n) zero = refl
no_flight (suc n) (suc x) = no_flight n x

module _ (plan : Plan) (s : State) (core : CoreState) (reached : IsReached plan s) (stands : StandsFor plan s core) where
  -- a packet in a slot, while the switch is up
  slot_up : (up : IsUp plan s.switch core.pipeline) (x : ℕ) → option_map (λ (f : PlainFlight). f.packet.client) (in_slot core.pipeline x) ≡ slot_now s x
  slot_up is x =
      let now = is.now in
      let h = holds_up plan s reached now is.up in
      let run = subst (machine.IsReached plan.shape (hot_cells plan)) (same_switch h.up is.up) h.reached in
      ap (option_map (λ (f : PlainFlight). f.packet.client)) (slot_is plan.shape (hot_cells plan) core.pipeline now x run is.shows)
      ∙ seen (position (is_in_slot x) now.flights)
      ∙ sym (ap (λ (o : Option Switch). slot_in o x) is.up)
    where
      seen : (o : Option ℕ) → option_map (λ (f : PlainFlight). f.packet.client) (option_map (seen_flight is.now.flights) o) ≡ option_map (λ (k : ℕ). (flight_at is.now.flights k).packet.client) o
      seen None = refl
      seen (Some k) = refl

  -- there is none while it is lost
  slot_lost : (lost : IsLost plan s.switch core.pipeline) (x : ℕ) → option_map (λ (f : PlainFlight). f.packet.client) (in_slot core.pipeline x) ≡ slot_now s x
  slot_lost is x =
      ap (λ (p : PlainPipeline). option_map (λ (f : PlainFlight). f.packet.client) (in_slot p x)) is.erased
      ∙ ap (option_map (λ (f : PlainFlight). f.packet.client)) (no_flight core.pipeline.shape.stages x)
      ∙ sym (ap (λ (o : Option Switch). slot_in o x) is.lost)

  pub slot_shown : (x : ℕ) → option_map (λ (f : PlainFlight). f.packet.client) (in_slot core.pipeline x) ≡ slot_now s x
  slot_shown x = by core.is_up refl
    where
      by : (b : Bool) → core.is_up ≡ b → option_map (λ (f : PlainFlight). f.packet.client) (in_slot core.pipeline x) ≡ slot_now s x
      by true is = slot_up (stands.switch.up is) x
      by false is = slot_lost (stands.switch.lost is) x

  -- a tuple in the switch
  module _ (t : TupleId) (place : Place) (is : place_of plan.layout t ≡ Some place) where
    there : has_place plan.shape place ≡ true
    there = place_is_there plan.shape plan.tuples plan.layout t place reached.sound.layout is

    shape_kept : core.pipeline.shape ≡ plan.shape
    shape_kept = by core.is_up refl
      where
        by : (b : Bool) → core.is_up ≡ b → core.pipeline.shape ≡ plan.shape
        by true up = let is_up = stands.switch.up up in shape_is plan.shape core.pipeline is_up.now is_up.shows
        by false lost = (stands.switch.lost lost).shape

    pub place_there : has_place core.pipeline.shape place ≡ true
    place_there = ap (λ z. has_place z place) shape_kept ∙ there

    pub register_shown : register_at core.pipeline.registers place ≡ tuple_now plan s t
    register_shown = by core.is_up refl ∙ sym (ap (λ (o : Option Place). value_in s t o) is)
      where
        by : (b : Bool) → core.is_up ≡ b → register_at core.pipeline.registers place ≡ register_in s.switch place
        by true up =
            let is_up = stands.switch.up up in
            register_is plan.shape core.pipeline is_up.now place is_up.shows there ∙ sym (ap (λ (o : Option Switch). register_in o place) is_up.up)
        by false lost =
            let is_lost = stands.switch.lost lost in
            ap (λ (p : PlainPipeline). register_at p.registers place) is_lost.erased
            ∙ register-numbers_of core.pipeline.shape (λ _. pos 0) place place_there
            ∙ sym (ap (λ (o : Option Switch). register_in o place) is_lost.lost)

  -- a tuple on a host
  module _ (t : TupleId) (is : place_of plan.layout t ≡ None) where
    pub stored_there : IsSome (fin.get plan.tuples t) → IsSome (fin.get core.store t)
    stored_there some =
        ap (λ (m : Store). is_some (fin.get m t)) stands.store ∙ stored_same plan s reached t
        ∙ ap (λ (o : Option Place). is_some (fin.get plan.tuples t) && not (is_some o)) is ∙ ap (λ (b : Bool). b && true) some

    pub value_shown : (seen : Seen) → fin.get core.store t ≡ Some seen → seen.value ≡ tuple_now plan s t
    value_shown seen found =
        ap (λ (o : Option Seen). (unwrap_or o (first_seen (pos 0))).value) (sym found ∙ ap (λ (m : Store). fin.get m t) stands.store)
        ∙ sym (ap (λ (o : Option Place). value_in s t o) is)
