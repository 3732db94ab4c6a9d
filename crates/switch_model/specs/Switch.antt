-- States of the switch: its registers, all packets that have entered, and what each client has under way.
use Rattle.std.specs.Prelude.{ℕ, ◌+◌, List, [], ◌∷◌, length, map, replicate, Option, Some, None, slice_index_or, if◌then◌else◌}
use Rattle.txn_model.specs.Places.{Places}
use Rattle.txn_model.specs.declared.pairs.Pair.{Pair}
use Rattle.switch_packet.specs.Packets.{PlainPacket}
use Rattle.switch_packet.specs.Replay.{replay, replay_all}
use Rattle.switch_model.specs.Flight.{Flight, flight_at, is_done}

-- what a client has under way: nothing; a packet that waits at the port for its first pass; or the packet that entered as
-- number k + 1, until its answer is taken
pub data Desk : Type 0 where
  Vacant : Desk
  Posted : PlainPacket → Desk
  Entered : ℕ → Desk

-- the numbers in the registers, 0 where there is none; the packets that have entered, in the order of their numbers from 1
-- on; and the desk of each client
pub record Switch : Type 0 where
  pub registers : Places
  pub flights : List Flight
  pub desks : List Desk

abbrev pub desk_at : Switch → ℕ → Desk
desk_at s c = slice_index_or s.desks c Vacant

-- the packets that have entered, in the order of their numbers
abbrev pub entered : Switch → List PlainPacket
entered s = map (λ f. f.packet) s.flights

-- the number that the next packet gets
abbrev pub next_number : Switch → ℕ
next_number s = length s.flights + 1

-- an answer: the packet's number, and the pairs of its operations
pub record Answer : Type 0 where
  pub number : ℕ
  pub pairs : List Pair

abbrev pub answer_of_flight : ℕ → Flight → Option Answer
answer_of_flight k f = if is_done f then Some (record { number = k + 1; pairs = f.pairs }) else None

abbrev pub answer_on : List Flight → Desk → Option Answer
answer_on flights Vacant = None
answer_on flights (Posted p) = None
answer_on flights (Entered k) = answer_of_flight k (flight_at flights k)

-- the answer in a client's box; None where there is none
abbrev pub answer_of : Switch → ℕ → Option Answer
answer_of s c = answer_on s.flights (desk_at s c)

-- ---- beginnings

-- a packet that was executed whole on this map
abbrev pub done_flight : PlainPacket → Places → Flight
done_flight p m = record { packet = p; pass = p.passes + 1; depth = 0; pairs = (replay p m).pairs }

-- packets that were executed whole, one after another
unfoldable pub done_flights : List PlainPacket → Places → List Flight
done_flights [] m = []
done_flights (p ∷ ps) m = done_flight p m ∷ done_flights ps (replay p m).after

-- the switch after these packets were executed whole, one after another, on the first registers
unfoldable pub restored : Places → List PlainPacket → List Desk → Switch
restored first packets desks = record { registers = (replay_all packets first).after; flights = done_flights packets first; desks = desks }

-- the switch that no packet has entered, with this many clients
abbrev pub fresh_switch : Places → ℕ → Switch
fresh_switch first clients = restored first [] (replicate clients Vacant)
