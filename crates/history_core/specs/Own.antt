-- The entries of one client.
use Rattle.std.specs.Prelude.{◌≡◌, ℕ, ◌+◌, ◌<◌, ◌≤◌, List, [], ◌∷◌, All, Option, Some, None, IsSome, MatchOption, ⊤, Vec, if◌then◌else◌, is_some, length, vec_capacity}
use Rattle.std.specs.Global.{Global}
use Rattle.std.specs.List.{AllByRecursion}
use Rattle.std.specs.declared.cmp.Ordering.TheVariants.{Less}
use Rattle.txn_model.specs.Listed.{Listed}
use Rattle.txn_model.specs.declared.pairs.Pair.{Pair}
use Rattle.history_model.specs.History.{HistoryEntry, History, stamp_cmp}
use Rattle.history_core.specs.Plain.{Own}
use Rattle.history_core.specs.Runs.{ops_in}
use Rattle.history_core.specs.declared.own_entries.Kept.{Kept}

-- an entry, with its pairs where it is answered
abbrev pub plain_kept : Kept → HistoryEntry
plain_kept kept = record { entry = kept.entry; pairs = if kept.is_answered then Some kept.pairs.items else None }

abbrev pub room_in : Listed Pair → ℕ
room_in pairs = length pairs.items + pairs.spare

-- each item has room for an entry and a reply, or has them
pub record HasRoom (ops : List (Option ℕ)) (entries : Vec Kept Global) (rooms : Vec (Listed Pair) Global) : Type 0 where
  pub all : length rooms.items + length entries.items ≡ length ops
  pub for_entries : length ops ≤ vec_capacity entries
  pub for_rooms : length ops ≤ vec_capacity rooms
  pub wide : All (λ room. 16 ≤ room_in room) rooms.items
  pub used : All (λ kept. 16 ≤ room_in kept.pairs) entries.items

-- the first stands before the second, and is of an earlier item
pub record IsBefore (e f : HistoryEntry) : Type 0 where
  pub seq : e.entry.seq < f.entry.seq
  pub stamp : stamp_cmp e.entry.stamp f.entry.stamp ≡ Less

-- the entries' numbers and stamps rise
abbrev pub IsRising : History → Type 0
IsRising [] = ⊤
IsRising (e ∷ es) = AllByRecursion (IsBefore e) es × IsRising es

-- it has no more than 16 operations
abbrev pub IsShort : Option ℕ → Type 0
IsShort ops = MatchOption ops ⊤ (λ n. n ≤ 16)

-- the entries are of this client, of items that are transactions, and rise; a transaction has at most 16 operations
pub record IsOwn (client : ℕ) (own : Own) : Type 0 where
  pub by : AllByRecursion (λ e. e.entry.client ≡ client) own.entries
  pub items : AllByRecursion (λ e. IsSome (ops_in own.ops e.entry.seq)) own.entries
  pub short : AllByRecursion IsShort own.ops
  pub rising : IsRising own.entries

-- the lists are those of the clients from this one on
abbrev pub AreOwnFrom : ℕ → List Own → Type 0
AreOwnFrom client [] = ⊤
AreOwnFrom client (own ∷ owns) = IsOwn client own × AreOwnFrom (client + 1) owns

-- the entries but for the last one, where that is unanswered
abbrev pub without_open : History → History
without_open [] = []
without_open (e ∷ []) = if is_some e.pairs then e ∷ [] else []
without_open (e ∷ f ∷ es) = e ∷ without_open (f ∷ es)

abbrev pub dropped : Own → Own
dropped own = record { ops = own.ops; entries = without_open own.entries }
