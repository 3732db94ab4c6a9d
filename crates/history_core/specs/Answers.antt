-- The entries of an item, and how they are answered.
use Rattle.std.specs.Prelude.{◌≡◌, ℕ, ◌<◌, ◌==◌, ◌&&◌, Bool, false, List, [], ◌∷◌, ◌++◌, filter, is_some, IsSome, Option, Some, None, ⊤, if◌then◌else◌}
use Rattle.std.specs.List.{AllByRecursion}
use Rattle.std.specs.declared.cmp.Ordering.TheVariants.{Less}
use Rattle.txn_model.specs.declared.pairs.Pair.{Pair}
use Rattle.txn_model.specs.declared.stamp.Stamp.{Stamp}
use Rattle.history_model.specs.History.{HistoryEntry, History, stamp_cmp}
use Rattle.history_model.specs.declared.entry.Entry.{Entry}

-- the entry is that of this item
abbrev pub is_of_item : ℕ → ℕ → HistoryEntry → Bool
is_of_item client seq e = (e.entry.client == client) && (e.entry.seq == seq)

-- no entry is that of this item
abbrev pub HasNone : ℕ → ℕ → History → Type 0
HasNone client seq h = AllByRecursion (λ e. is_of_item client seq e ≡ false) h

-- no item has two entries
abbrev pub HasNoneTwice : History → Type 0
HasNoneTwice [] = ⊤
HasNoneTwice (e ∷ h) = HasNone e.entry.client e.entry.seq h × HasNoneTwice h

-- the entries of a client, in their order
abbrev pub entries_of : ℕ → History → History
entries_of client h = filter (λ e. e.entry.client == client) h

-- the entry of an item; None where it has none
abbrev pub entry_of : ℕ → ℕ → History → Option HistoryEntry
entry_of client seq [] = None
entry_of client seq (e ∷ h) = if is_of_item client seq e then Some e else entry_of client seq h

-- the pairs of an item's entry; None where it has none, or it is unanswered
abbrev pub reply_of : ℕ → ℕ → History → Option (List Pair)
reply_of client seq [] = None
reply_of client seq (e ∷ h) = if is_of_item client seq e then e.pairs else reply_of client seq h

-- number and stamp of the entry are above those of each of its client's
abbrev pub IsAboveOwn : Entry → History → Type 0
IsAboveOwn entry h = AllByRecursion (λ e. e.entry.client ≡ entry.client → (e.entry.seq < entry.seq) × (stamp_cmp e.entry.stamp entry.stamp ≡ Less)) h

-- the client's last entry is this item's, and unanswered
pub record IsOpenLast (client seq : ℕ) (h : History) : Type 0 where
  pub before : History
  pub stamp : Stamp
  pub is : entries_of client h ≡ before ++ record { entry = record { stamp = stamp; client = client; seq = seq }; pairs = None } ∷ []

-- none but the last of the entries is unanswered
abbrev pub OnlyLastOpen : History → Type 0
OnlyLastOpen [] = ⊤
OnlyLastOpen (e ∷ []) = ⊤
OnlyLastOpen (e ∷ f ∷ h) = IsSome e.pairs × OnlyLastOpen (f ∷ h)

-- the history with an item's entry answered by these pairs
abbrev pub with_reply : ℕ → ℕ → List Pair → History → History
with_reply client seq pairs [] = []
with_reply client seq pairs (e ∷ h) = if is_of_item client seq e then record { entry = e.entry; pairs = Some pairs } ∷ h else e ∷ with_reply client seq pairs h

-- the answered entries, in order
abbrev pub answered_ones : History → History
answered_ones h = filter (λ e. is_some e.pairs) h
