-- The search for open packets at free numbers: between two free numbers stand answered packets alone, and what these change is known.
use Rattle.std.specs.Prelude.{ℕ, ◌+◌, nat_lt, List, [], ◌∷◌, ◌++◌, length, set, Option, None, Some, is_some, if◌then◌else◌}
use Rattle.std.specs.List.{list_any}
use Rattle.std.specs.Option.{option_map, option_and_then}
use Rattle.txn_model.specs.Places.{Places}
use Rattle.switch_packet.specs.Packets.{PlainIntent}
use Rattle.switch_packet.specs.Replay.{replay}
use Rattle.placement_model.specs.FirstOrder.{slot_at, first_some}
use Rattle.placement_model.specs.Placements.{Task}
use Rattle.gap_placement.specs.Changes.{walk, changes_of}
use Rattle.gap_placement.specs.declared.change.Change.{Change}
use Rattle.gap_placement.specs.declared.legs.Leg.{Leg}

-- a free number, and what the answered packets behind it change, up to the next free one
pub record PlainLeg : Type 0 where
  pub number : ℕ
  pub changes : List Change

abbrev pub plain_leg : Leg → PlainLeg
plain_leg leg = record { number = leg.number; changes = leg.changes.items }

-- the legs of slots from this number on, behind a free number and what was changed since then; None where an answered packet can't
-- have its number
abbrev pub legs_from : ℕ → List Change → ℕ → List (Option Task) → Option (List PlainLeg)
legs_from free changes number [] = Some (record { number = free; changes = changes } ∷ [])
legs_from free changes number (Some task ∷ slots) = option_and_then (λ more. legs_from free (changes ++ more) (number + 1) slots) (changes_of task number)
legs_from free changes number (None ∷ slots) = option_map (λ legs. record { number = free; changes = changes } ∷ legs) (legs_from number [] (number + 1) slots)

-- the map behind an open packet with this number and behind these changes; None where one of them contradicts
abbrev pub passed : PlainIntent → ℕ → List Change → Places → Option Places
passed intent number changes m = if nat_lt intent.floor number then walk changes (replay intent.packet m).after else None

-- an open task at a leg's number, and what is found for the later ones
abbrev pub tried : Task → PlainLeg → Places → (Places → Option (List Task)) → Option (List Task)
tried task leg m rest = option_map (λ tasks. task ∷ tasks) (option_and_then rest (passed task.intent leg.number leg.changes m))

-- the open tasks at the legs' numbers: each number gets the first one with which the rest can go on
unfoldable pub seek : List PlainLeg → Places → List (Option Task) → Option (List Task)
seek [] m standing = if list_any is_some standing then None else Some []
seek (leg ∷ legs) m standing =
    first_some (λ k. option_and_then (λ task. tried task leg m (λ after. seek legs after (set standing k None))) (slot_at standing k)) 0 (length standing)

-- what is found from the changes before the first free number on
abbrev pub start : List PlainLeg → Places → List (Option Task) → Option (List Task)
start [] m standing = None
start (leg ∷ legs) m standing = option_and_then (λ after. seek legs after standing) (walk leg.changes m)
