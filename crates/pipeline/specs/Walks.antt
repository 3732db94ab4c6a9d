-- A stage's work in two parts: what is executed, and where the packet goes.
use Rattle.std.specs.Prelude.{◌≡◌, ℕ, set, Some}
use Rattle.std.specs.Option.{option_map}
use Rattle.pipeline.specs.Plain.{PlainPipeline, PlainFlight}
use Rattle.pipeline.specs.Rows.{in_slot, executed_at}

-- the client's packet stands in the slot of stage x
abbrev pub IsAt : PlainPipeline → ℕ → ℕ → Type 0
IsAt s x c = option_map (λ flight. flight.packet.client) (in_slot s x) ≡ Some c

-- the packet with the pairs that it has behind stage x
abbrev pub flight_behind : PlainPipeline → ℕ → PlainFlight → PlainFlight
flight_behind s x f = record { packet = f.packet; pairs = (executed_at s x f).pairs; pass = f.pass; number = f.number }

-- the packet in slot x has these pairs, and the registers are so too
abbrev pub with_executed : PlainPipeline → ℕ → PlainFlight → PlainPipeline
with_executed s x f = record s { registers = (executed_at s x f).after; slots = set s.slots x (Some (flight_behind s x f)) }
