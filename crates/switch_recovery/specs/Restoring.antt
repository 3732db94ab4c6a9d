-- Restoring the switch from what the clients' logs say.
use Rattle.std.specs.Prelude.{◌≡◌, ℕ, ◌+◌, Bool, List, [], ◌∷◌, Option, None, Some, is_none, Result, Ok, Err, ⊤, length, if◌then◌else◌}
use Rattle.std.specs.List.{list_any}
use Rattle.std.specs.FinMap as fin
use Rattle.txn_model.specs.Places.{Places}
use Rattle.catalogue.specs.Plan.{Plan, hot_cells}
use Rattle.switch_packet.specs.Packets.{PlainIntent, PlainLog}
use Rattle.switch_packet.specs.Replay.{replay_all}
use Rattle.placement_model.specs.Placements.{Task, IsPlacement, IsFirstPlacement, packets_of, rows_of}
use Rattle.intent_log.specs.Grammar.{IsView}
use Rattle.gap_placement.specs.Answers.{plain_rows}
use Rattle.switch_recovery.specs.declared.restored.RestoreFault.{RestoreFault}
use Rattle.switch_recovery.specs.declared.restored.RestoreFault.TheVariants.{BadIntent, NoOrder, NoMemory}
use Rattle.switch_recovery.specs.declared.restored.Restored.{Restored}

-- whether an operation of the intent's packet names a place that isn't one of these
abbrev pub is_bad : Places → PlainIntent → Bool
is_bad cells i = list_any (λ op. is_none (fin.get cells op.place)) i.packet.ops

-- the item of the first such intent
abbrev pub bad_item : Places → List PlainIntent → Option ℕ
bad_item cells [] = None
bad_item cells (i ∷ intents) = if is_bad cells i then Some i.packet.seq else bad_item cells intents

abbrev pub or_of_client : ℕ → Option ℕ → Option (ℕ × ℕ) → Option (ℕ × ℕ)
or_of_client client None later = later
or_of_client client (Some seq) later = Some (client, seq)

-- the first client with such an intent, from this one on, and the item of its first one
abbrev pub bad_from : Places → ℕ → List PlainLog → Option (ℕ × ℕ)
bad_from cells client [] = None
bad_from cells client (log ∷ logs) = or_of_client client (bad_item cells log.intents) (bad_from cells (client + 1) logs)

-- the first intent of all logs that names a place outside the layout
abbrev pub bad_intent : Plan → List PlainLog → Option (ℕ × ℕ)
bad_intent plan logs = bad_from (hot_cells plan) 0 logs

-- log k is what some log of client k says, from this client on
abbrev pub AreViews : ℕ → List PlainLog → Type 0
AreViews client [] = ⊤
AreViews client (log ∷ logs) = IsView client log × AreViews (client + 1) logs

-- the rows are those of the first placement, the registers those that the replay of all packets in its order leaves, and the next
-- number is the one behind them
pub record IsRestored (plan : Plan) (logs : List PlainLog) (restored : Restored) : Type 0 where
  pub order : List Task
  pub first : IsFirstPlacement logs (hot_cells plan) order
  pub rows : plain_rows restored.placement ≡ rows_of (hot_cells plan) order
  pub registers : restored.registers ≡ (replay_all (packets_of order) (hot_cells plan)).after
  pub next : restored.next ≡ length order + 1

-- what restoring answers, unless memory ran out
abbrev pub Restores : Plan → List PlainLog → Result Restored RestoreFault → Type 0
Restores plan logs (Ok restored) = (bad_intent plan logs ≡ None) × IsRestored plan logs restored
Restores plan logs (Err (BadIntent client seq)) = bad_intent plan logs ≡ Some (client, seq)
Restores plan logs (Err NoOrder) = (bad_intent plan logs ≡ None) × ((order : List Task) → IsPlacement logs (hot_cells plan) order → ⊥)
Restores plan logs (Err NoMemory) = ⊤
