-- The first order of the tasks of logs, as a function.
use Rattle.std.specs.Prelude.{ℕ, zero, suc, ◌+◌, ◌-◌, ◌==◌, ◌&&◌, nat_lt, nat_le, Bool, true, false, List, [], ◌∷◌, filter, map, replicate, length, set, slice_index_or, Option, None, Some, is_none, is_some, if◌then◌else◌}
use Rattle.std.specs.List.{list_any}
use Rattle.std.specs.Option.{option_map, option_and_then}
use Rattle.std.specs.Ordering.{int_eq}
use Rattle.txn_model.specs.Places.{Places}
use Rattle.txn_model.specs.declared.pairs.Pair.{Pair}
use Rattle.switch_packet.specs.Packets.{PlainOutcome, PlainLog}
use Rattle.switch_packet.specs.Replay.{Replayed, replay}
use Rattle.placement_model.specs.Placements.{Task, tasks_of}

abbrev pub same_pairs : List Pair → List Pair → Bool
same_pairs [] [] = true
same_pairs [] (q ∷ qs) = false
same_pairs (p ∷ ps) [] = false
same_pairs (p ∷ ps) (q ∷ qs) = (int_eq p.was q.was && int_eq p.now q.now) && same_pairs ps qs

abbrev pub has_answer : Option PlainOutcome → ℕ → List Pair → Bool
has_answer None number pairs = true
has_answer (Some outcome) number pairs = (outcome.number == number) && same_pairs outcome.pairs pairs

-- the test of what a packet can have had
abbrev pub can_have : Task → ℕ → List Pair → Bool
can_have task number pairs = nat_lt task.intent.floor number && has_answer task.outcome number pairs

-- the task at this place; None where none is there
abbrev pub slot_at : List (Option Task) → ℕ → Option Task
slot_at slots k = slice_index_or slots k None

-- a task that is answered by this outcome is put at its number, which counts from 1; None where the number is beyond the slots, or
-- another task has it
abbrev pub put_answered : Task → List (Option Task) → Option PlainOutcome → Option (List (Option Task))
put_answered task slots None = Some slots
put_answered task slots (Some outcome) =
    if nat_lt 0 outcome.number && (nat_le outcome.number (length slots) && is_none (slot_at slots (outcome.number - 1)))
    then Some (set slots (outcome.number - 1) (Some task)) else None

-- all answered ones of these tasks are put at their numbers
abbrev pub put_all : List Task → List (Option Task) → Option (List (Option Task))
put_all [] slots = Some slots
put_all (task ∷ tasks) slots = option_and_then (put_all tasks) (put_answered task slots task.outcome)

-- a slot for each number, with the answered tasks
abbrev pub slots_of : List Task → Option (List (Option Task))
slots_of tasks = put_all tasks (replicate (length tasks) None)

-- the tasks without an outcome, which stand open
abbrev pub open_ones : List Task → List (Option Task)
open_ones tasks = map (λ task. Some task) (filter (λ task. is_none task.outcome) tasks)

-- the first of two, where there is one
abbrev pub or_else : {X : Type 0} → Option X → Option X → Option X
or_else None other = other
or_else (Some x) other = Some x

-- the task, and what follows it from the map that its packet leaves, where it can have had this number
abbrev pub follow : Task → ℕ → Replayed → (Places → Option (List Task)) → Option (List Task)
follow task number made rest = if can_have task number made.pairs then option_map (λ tasks. task ∷ tasks) (rest made.after) else None

-- the first that the function finds at n numbers, from k on
abbrev pub first_some : {X : Type 0} → (ℕ → Option X) → ℕ → ℕ → Option X
first_some f k zero = None
first_some f k (suc n) = or_else (f k) (first_some f (k + 1) n)

-- the slots are filled from this number and this map on: a free slot gets the first open task with which the rest can be filled
unfoldable pub fill : ℕ → Places → List (Option Task) → List (Option Task) → Option (List Task)
fill number m [] standing = if list_any is_some standing then None else Some []
fill number m (Some task ∷ slots) standing = follow task number (replay task.intent.packet m) (λ after. fill (number + 1) after slots standing)
fill number m (None ∷ slots) standing =
    first_some (λ k. option_and_then (λ task. follow task number (replay task.intent.packet m) (λ after. fill (number + 1) after slots (set standing k None))) (slot_at standing k)) 0 (length standing)

-- the first order; None where the logs have no placement
abbrev pub first_order : List PlainLog → Places → Option (List Task)
first_order logs first = let tasks = tasks_of logs in option_and_then (λ slots. fill 1 first slots (open_ones tasks)) (slots_of tasks)
