-- The last refusals of a client's items, kept by the items' numbers.
use Rattle.std.specs.Prelude.{ℕ, zero, suc, ◌==◌, if◌then◌else◌, List, [], ◌∷◌, set, Option, Some}
use Rattle.core_model.specs.declared.refusal.Refusal.{Refusal}

-- the refusal at the place of the item with this number, counted from 1; there is none with the number 0
abbrev pub put_at : ℕ → Refusal → List (Option Refusal) → List (Option Refusal)
put_at zero refusal last = last
put_at (suc k) refusal last = set last k (Some refusal)

-- the refusal at the place of its item, if it is one of this client
abbrev pub noted : ℕ → Refusal → List (Option Refusal) → List (Option Refusal)
noted client refusal last = if refusal.client == client then put_at refusal.seq refusal last else last

-- the refusals, one after another
abbrev pub all_noted : ℕ → List Refusal → List (Option Refusal) → List (Option Refusal)
all_noted client [] last = last
all_noted client (refusal ∷ refusals) last = all_noted client refusals (noted client refusal last)
