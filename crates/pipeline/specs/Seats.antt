-- How the pipeline is kept: a seat for each client, and what is seen of the seats.
use Rattle.std.specs.Prelude.{ℕ, ℤ, pos, List, [], slice_index_or, Option, Some, None}
use Rattle.std.specs.FinMap as fin
use Rattle.txn_model.specs.declared.place.Place.{Place}
use Rattle.switch_packet.specs.Packets.{plain}
use Rattle.switch_packet.specs.Replay.{register_at}
use Rattle.register_stage.specs.Registers.{Registers, renumbered}
use Rattle.register_stage.specs.declared.flight.Flight.{Flight}
use Rattle.pipeline.specs.Plain.{PlainFlight, PlainBox}
use Rattle.pipeline.specs.declared.seat.Seat.{Seat}
use Rattle.pipeline.specs.declared.seat.Spot.{Spot}
use Rattle.pipeline.specs.declared.seat.Spot.TheVariants.{Vacant, AtPort, InSlot, InBox}

-- ---- seats

abbrev pub plain_flight : Flight → PlainFlight
plain_flight f = record { packet = plain f.packet; pairs = f.pairs.items; pass = f.pass; number = f.number }

abbrev pub answer_in : Flight → PlainBox
answer_in f = record { number = f.number; pairs = f.pairs.items }

-- no client
abbrev pub no_seat : Seat
no_seat = record {
  spot = Vacant;
  flight = record {
    packet = record { client = 0; seq = 0; passes = 0; halves = 0; ops = record { items = []; spare = 0 } };
    pairs = record { items = []; spare = 0 };
    pass = 0;
    number = 0;
  };
  due = [];
}

abbrev pub seat_at : List Seat → ℕ → Seat
seat_at seats c = slice_index_or seats c no_seat

-- the flight where it waits at the port
abbrev pub waiting_at : Spot → Flight → Option PlainFlight
waiting_at Vacant f = None
waiting_at AtPort f = Some (plain_flight f)
waiting_at (InSlot x) f = None
waiting_at InBox f = None

abbrev pub waiting_seat : Seat → Option PlainFlight
waiting_seat seat = waiting_at seat.spot seat.flight

-- the answer where it is in the box
abbrev pub boxed_at : Spot → Flight → Option PlainBox
boxed_at Vacant f = None
boxed_at AtPort f = None
boxed_at (InSlot x) f = None
boxed_at InBox f = Some (answer_in f)

abbrev pub boxed_seat : Seat → Option PlainBox
boxed_seat seat = boxed_at seat.spot seat.flight

-- the flight of the client in a slot
abbrev pub slotted : List Seat → Option ℕ → Option PlainFlight
slotted seats None = None
slotted seats (Some c) = Some (plain_flight (seat_at seats c).flight)

-- ---- registers

-- no stage
abbrev pub no_stage : Registers
no_stage = record { stage = 0; numbers = fin.empty }

abbrev pub stage_at : List Registers → ℕ → Registers
stage_at stages x = slice_index_or stages x no_stage

-- the number at a place, 0 where it isn't there
abbrev pub number_in : List Registers → Place → ℤ
number_in stages place = register_at (stage_at stages place.stage).numbers place

-- the stage with 0 at each of its places
abbrev pub cleared : Registers → Registers
cleared r = record { stage = r.stage; numbers = renumbered (λ _. pos 0) r.numbers }
