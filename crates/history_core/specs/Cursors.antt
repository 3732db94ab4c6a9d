-- A walk over the lists of entries: how many of each were given.
use Rattle.std.specs.Prelude.{◌≡◌, ◌≢◌, ℕ, ◌<◌, List, [], ◌∷◌, drop, length, slice_get, slice_index, slice_index_or, Option, Some, None, false, if◌then◌else◌}
use Rattle.std.specs.Ordering.{is_lt}
use Rattle.history_model.specs.History.{HistoryEntry, History, entry_cmp}
use Rattle.history_core.specs.Plain.{Own}
use Rattle.history_core.specs.Merge.{AreOwn, merged}

-- the entries that are left of each list
abbrev pub rests : List Own → List ℕ → List History
rests [] given = []
rests (own ∷ owns) [] = own.entries ∷ rests owns []
rests (own ∷ owns) (n ∷ given) = drop n own.entries ∷ rests owns given

-- all that are left, in stamp order
abbrev pub left_of : List Own → List ℕ → History
left_of owns given = merged (rests owns given)

-- the lists are clients' entries, and this many are left
pub record IsWalk (owns : List Own) (given : List ℕ) (left : ℕ) : Type 0 where
  pub lists : AreOwn owns
  pub many : left ≡ length (left_of owns given)

-- the next entry of a list; None where all of them were given
abbrev pub head_of : List Own → List ℕ → ℕ → Option HistoryEntry
head_of owns given i = slice_get (slice_index_or owns i (record { ops = []; entries = [] })).entries (slice_index given i)

-- the next entry of this list, before which none of the first n lists has one
pub record IsFirstOf (n : ℕ) (owns : List Own) (given : List ℕ) (at : ℕ) (e : HistoryEntry) : Type 0 where
  pub within : at < n
  pub head : head_of owns given at ≡ Some e
  pub least : (i : ℕ) (f : HistoryEntry) → i < n → head_of owns given i ≡ Some f → is_lt (entry_cmp f.entry e.entry) ≡ false

-- the same of all lists
abbrev pub IsFirst : List Own → List ℕ → ℕ → HistoryEntry → Type 0
IsFirst owns given at e = IsFirstOf (length owns) owns given at e

-- of a list's next entry and the least one of the lists before it, with their lists, the one that stands before the other; the
-- earlier list's where they tie
abbrev pub earlier_of : Option (ℕ × HistoryEntry) → ℕ → Option HistoryEntry → Option (ℕ × HistoryEntry)
earlier_of None i None = None
earlier_of None i (Some f) = Some (i, f)
earlier_of (Some x) i None = Some x
earlier_of (Some x) i (Some f) = if is_lt (entry_cmp f.entry x.1.entry) then Some (i, f) else Some x
