-- Histories: the entries of a session's transactions in stamp order, some of them answered.
use Rattle.std.specs.Prelude.{◌≡◌, List, [], ◌∷◌, Option, ⊤, IsSome, if◌then◌else◌}
use Rattle.std.specs.List.{AllByRecursion}
use Rattle.std.specs.Ordering.{nat_cmp, ordering_then, is_lt}
use Rattle.std.specs.declared.cmp.Ordering.{Ordering}
use Rattle.std.specs.declared.cmp.Ordering.TheVariants.{Less}
use Rattle.txn_model.specs.declared.pairs.Pair.{Pair}
use Rattle.txn_model.specs.declared.stamp.Stamp.{Stamp}
use Rattle.history_model.specs.declared.entry.Entry.{Entry}

-- an entry, and its pairs where it is answered
pub record HistoryEntry : Type 0 where
  pub entry : Entry
  pub pairs : Option (List Pair)

abbrev pub History : Type 0
History = List HistoryEntry

-- stamps by number, then sub
abbrev pub stamp_cmp : Stamp → Stamp → Ordering
stamp_cmp a b = ordering_then (nat_cmp a.number b.number) (nat_cmp a.sub b.sub)

-- the greater of two stamps
abbrev pub greater : Stamp → Stamp → Stamp
greater a b = if is_lt (stamp_cmp a b) then b else a

-- stamp order: entries by stamp, then client
abbrev pub entry_cmp : Entry → Entry → Ordering
entry_cmp a b = ordering_then (stamp_cmp a.stamp b.stamp) (nat_cmp a.client b.client)

-- each entry stands before those that follow
abbrev pub IsInStampOrder : History → Type 0
IsInStampOrder [] = ⊤
IsInStampOrder (e ∷ es) = AllByRecursion (λ f. entry_cmp e.entry f.entry ≡ Less) es × IsInStampOrder es

-- no entry is unanswered
abbrev pub AllAnswered : History → Type 0
AllAnswered h = AllByRecursion (λ e. IsSome e.pairs) h

-- the history with an entry at its place in stamp order: before the first one that is behind it
abbrev pub with_entry : HistoryEntry → History → History
with_entry e [] = e ∷ []
with_entry e (f ∷ h) = if is_lt (entry_cmp e.entry f.entry) then e ∷ f ∷ h else f ∷ with_entry e h
