-- Entries that are put in, and items at places of lists.
use Rattle.std.proofs.Common.{◌≡◌, ℕ, zero, suc, ◌<◌, true, false, List, [], ◌∷◌, length, slice_get, Some, refl, arith, is_lt, if◌then◌else◌}
use Rattle.std.specs.List.{AllByRecursion}
use Rattle.history_model.specs.History.{HistoryEntry, History, entry_cmp, with_entry}

-- what holds of each entry and of the new one holds of each
pub all-with_entry : (P : HistoryEntry → Type 0) (e : HistoryEntry) (h : History) → AllByRecursion P h → P e → AllByRecursion P (with_entry e h)
all-with_entry P e [] all new = (new, tt)
all-with_entry P e (f ∷ h) all new =
    elim (is_lt (entry_cmp e.entry f.entry)) as (λ b. AllByRecursion P (if b then e ∷ f ∷ h else f ∷ with_entry e h)) [
      | true ↦ (new, all)
      | false ↦ (all.0, all-with_entry P e h all.1 new)
    ]

-- a place below the length has an item
pub item_at_place : {X : Type 0} (xs : List X) (k : ℕ) → k < length xs → (x : X) × (slice_get xs k ≡ Some x)
item_at_place [] k h = absurd (omega arith)
item_at_place (x ∷ xs) zero h = (x, refl)
item_at_place (x ∷ xs) (suc k) h = item_at_place xs k (omega arith)
