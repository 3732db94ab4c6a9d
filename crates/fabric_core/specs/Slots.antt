-- Which client's packet stands in a slot of the switch.
use Rattle.std.specs.Prelude.{ℕ, position, Option, Some, None, option_map}
use Rattle.switch_model.specs.Flight.{flight_at, is_in_slot}
use Rattle.switch_model.specs.Switch.{Switch}
use Rattle.fabric_model.specs.State.{State}

-- the client of the packet in slot x; None where the slot is empty, or the switch is lost
abbrev pub slot_in : Option Switch → ℕ → Option ℕ
slot_in None x = None
slot_in (Some now) x = option_map (λ k. (flight_at now.flights k).packet.client) (position (is_in_slot x) now.flights)

abbrev pub slot_now : State → ℕ → Option ℕ
slot_now s x = slot_in s.switch x
