-- Flights: packets that have entered the pipeline, and where each of them is.
use Rattle.std.specs.Prelude.{ℕ, ◌+◌, ◌==◌, ◌&&◌, ◌||◌, Bool, List, [], map, not, nat_lt, nat_le, pos, slice_index_or}
use Rattle.std.specs.List.{list_any, list_all}
use Rattle.txn_model.specs.declared.pairs.Pair.{Pair}
use Rattle.txn_model.specs.declared.place.Place.{Place}
use Rattle.stage_layout.specs.declared.shape.Shape.{Shape}
use Rattle.stage_layout.specs.Regions.{region_of, touches}
use Rattle.switch_packet.specs.declared.packet.PacketOp.{PacketOp}
use Rattle.switch_packet.specs.Packets.{PlainPacket, blank_packet}

-- A packet that has entered: the pass that it is in or waits for, counted from 1, and one more than its passes when it is
-- done; its depth, 0 where it stands in no slot, and x + 1 in slot x; and the pairs of its operations, zeros for those that
-- weren't executed yet.
pub record Flight : Type 0 where
  pub packet : PlainPacket
  pub pass : ℕ
  pub depth : ℕ
  pub pairs : List Pair

abbrev pub zero_pair : Pair
zero_pair = record { was = pos 0; now = pos 0 }

-- a packet as it enters for its first pass: it stands in slot 0
abbrev pub fresh_flight : PlainPacket → Flight
fresh_flight p = record { packet = p; pass = 1; depth = 1; pairs = map (λ op. zero_pair) p.ops }

-- no packet: it is done, and touches nothing
abbrev pub no_flight : Flight
no_flight = record { packet = blank_packet; pass = 1; depth = 0; pairs = [] }

-- the packet that entered as number k + 1
abbrev pub flight_at : List Flight → ℕ → Flight
flight_at flights k = slice_index_or flights k no_flight

-- all its passes are behind it: its pairs are its answer
abbrev pub is_done : Flight → Bool
is_done f = nat_lt f.packet.passes f.pass

-- it waits at the port for a later pass
abbrev pub is_waiting : Flight → Bool
is_waiting f = f.depth == 0 && (nat_le 2 f.pass && nat_le f.pass f.packet.passes)

-- it stands in slot x
abbrev pub is_in_slot : ℕ → Flight → Bool
is_in_slot x f = f.depth == x + 1

abbrev pub is_free : List Flight → ℕ → Bool
is_free flights x = not (list_any (is_in_slot x) flights)

-- ---- regions

abbrev pub places_of : PlainPacket → List Place
places_of p = map (λ op. op.place) p.ops

-- one of its operations, in any pass, is at a stage of the region
abbrev pub packet_touches : Shape → PlainPacket → ℕ → Bool
packet_touches shape p region = touches shape (places_of p) region

-- it hasn't entered for its last pass
abbrev pub is_early : Flight → Bool
is_early f = nat_lt f.pass f.packet.passes || (f.pass == f.packet.passes && f.depth == 0)

-- it holds the region: it touches it, and hasn't entered for its last pass
abbrev pub holds : Shape → ℕ → Flight → Bool
holds shape region f = is_early f && packet_touches shape f.packet region

-- a packet holds the region
abbrev pub is_held : Shape → List Flight → ℕ → Bool
is_held shape flights region = list_any (holds shape region) flights

-- slot 0 is empty, and no region that the packet touches is held
abbrev pub may_enter : Shape → List Flight → PlainPacket → Bool
may_enter shape flights p = is_free flights 0 && list_all (λ place. not (is_held shape flights (region_of shape place.stage))) (places_of p)

-- ---- operations

-- the operation is due at this stage in this pass
abbrev pub is_due : ℕ → ℕ → PacketOp → Bool
is_due pass stage op = op.pass == pass && op.place.stage == stage

-- the operation was executed: in an earlier pass, or in this one at a stage behind the packet
abbrev pub is_executed : Flight → PacketOp → Bool
is_executed f op = nat_lt op.pass f.pass || (op.pass == f.pass && nat_lt (op.place.stage + 1) f.depth)
