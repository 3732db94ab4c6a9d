-- Placements as rows, and what the search for the first one answers.
use Rattle.std.specs.Prelude.{◌≡◌, List, map, Option, None, Some}
use Rattle.std.specs.Option.{option_map}
use Rattle.txn_model.specs.Listed.{Listed}
use Rattle.txn_model.specs.Places.{Places}
use Rattle.switch_packet.specs.Packets.{PlainLog}
use Rattle.switch_packet.specs.Replay.{replay_all}
use Rattle.placement_model.specs.FirstOrder.{first_order}
use Rattle.placement_model.specs.Placements.{Task, PlainSlotted, IsPlacement, IsFirstPlacement, packets_of, rows_of}
use Rattle.gap_placement.specs.declared.placement.Slotted.{Slotted}

-- a row, without the room of its pairs
abbrev pub plain_slotted : Slotted → PlainSlotted
plain_slotted s = record { number = s.number; client = s.client; seq = s.seq; pairs = s.pairs.items }

-- the rows of a placement
abbrev pub plain_rows : Listed Slotted → List PlainSlotted
plain_rows placement = map plain_slotted placement.items

-- the rows of the first order of the logs, where there is one
abbrev pub first_rows : List PlainLog → Places → Option (List PlainSlotted)
first_rows logs first = option_map (rows_of first) (first_order logs first)

-- the registers behind it
abbrev pub first_registers : List PlainLog → Places → Option Places
first_registers logs first = option_map (λ order. (replay_all (packets_of order) first).after) (first_order logs first)

-- where rows are found, they are those of the first placement; where none are, there is no placement
abbrev pub IsFirstOrNone : List PlainLog → Places → Option (Listed Slotted) → Type 0
IsFirstOrNone logs first None = (order : List Task) → IsPlacement logs first order → ⊥
IsFirstOrNone logs first (Some found) = (order : List Task) × IsFirstPlacement logs first order × (plain_rows found ≡ rows_of first order)
