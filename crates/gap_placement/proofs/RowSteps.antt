-- The rows of an order, packet by packet.
use Rattle.std.proofs.Common.{◌≡◌, ℕ, ◌+◌, ◌<◌, ◌≤◌, List, [], ◌∷◌, ◌++◌, drop, length, map, get_or, sym, ap, ap₂, ◌∙◌}
use Rattle.std.proofs.lemmas.List.{append_assoc, append-nil, drop_more, drop_all}
use Rattle.txn_model.specs.Places.{Places}
use Rattle.switch_packet.specs.Replay.{replay, replay_all}
use Rattle.placement_model.specs.Placements.{Task, PlainSlotted, packets_of, rows_from}

module _ {X : Type 0} (f : X → Task) (order : List X) (i : ℕ) (m : Places) where
  abbrev left : List Task
  left = map f (drop i order)

  pub rows_step : (d : X) (front : List PlainSlotted) (row : PlainSlotted) (next : Places) → i < length order
      → row ≡ record { number = i + 1; client = (f (get_or order i d)).client; seq = (f (get_or order i d)).intent.packet.seq; pairs = (replay (f (get_or order i d)).intent.packet m).pairs }
      → next ≡ (replay (f (get_or order i d)).intent.packet m).after
      → (front ++ row ∷ []) ++ rows_from (i + 1 + 1) next (map f (drop (i + 1) order)) ≡ front ++ rows_from (i + 1) m left
  rows_step d front row next lt row_is next_is =
      append_assoc front (row ∷ []) (rows_from (i + 1 + 1) next (map f (drop (i + 1) order)))
      ∙ ap₂ (λ (r : PlainSlotted) (n : Places). front ++ r ∷ rows_from (i + 1 + 1) n (map f (drop (i + 1) order))) row_is next_is
      ∙ ap (λ (l : List X). front ++ rows_from (i + 1) m (map f l)) (sym (drop_more order i d lt))

  pub registers_step : (d : X) (next : Places) → i < length order → next ≡ (replay (f (get_or order i d)).intent.packet m).after
      → (replay_all (packets_of (map f (drop (i + 1) order))) next).after ≡ (replay_all (packets_of left) m).after
  unfolding replay_all
  registers_step d next lt next_is =
      ap (λ (n : Places). (replay_all (packets_of (map f (drop (i + 1) order))) n).after) next_is
      ∙ ap (λ (l : List X). (replay_all (packets_of (map f l)) m).after) (sym (drop_more order i d lt))

  pub rows_end : (front : List PlainSlotted) → length order ≤ i → front ≡ front ++ rows_from (i + 1) m left
  rows_end front le = sym (ap (λ (l : List X). front ++ rows_from (i + 1) m (map f l)) (drop_all i order le) ∙ append-nil front)

  pub registers_end : length order ≤ i → m ≡ (replay_all (packets_of left) m).after
  unfolding replay_all
  registers_end le = sym (ap (λ (l : List X). (replay_all (packets_of (map f l)) m).after) (drop_all i order le))
