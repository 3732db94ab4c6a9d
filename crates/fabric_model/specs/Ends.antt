-- How the items of the clients end.
use Rattle.std.specs.Prelude.{◌≡◌, ◌≢◌, ℕ, ◌<◌, ◌==◌, ◌&&◌, nat_lt, find, Option, Some, None, IsSome, if◌then◌else◌}
use Rattle.history_model.specs.History.{HistoryEntry, History}
use Rattle.catalogue.specs.Plan.{Plan, PlainItem, Run, Lose, item_of}
use Rattle.core_model.specs.declared.item_end.ItemEnd.{ItemEnd}
use Rattle.core_model.specs.declared.item_end.ItemEnd.TheVariants.{Pending, Aborted, Lost}
use Rattle.core_model.specs.Ends.{answered_entry, script_end, refused_times}
use Rattle.fabric_model.specs.State.{State, client_at}

-- the entry of an item, answered or not
abbrev pub entry_of : ℕ → ℕ → History → Option HistoryEntry
entry_of client seq h = find (λ e. (e.entry.client == client) && (e.entry.seq == seq)) h

-- a transaction is committed where it has an answered entry, and aborted where it has none and its client is behind it; a loss
-- of the switch has ended where its client is behind it
abbrev pub end_of : State → ℕ → ℕ → Option PlainItem → ItemEnd
end_of s client seq (Some (Run ops)) = script_end (answered_entry client seq s.history) seq (client_at s client).seq
end_of s client seq (Some Lose) = if nat_lt seq (client_at s client).seq then Lost else Pending
end_of s client seq None = Pending

-- the end of a client's item with this number
abbrev pub item_end : Plan → State → ℕ → ℕ → ItemEnd
item_end plan s client seq = end_of s client seq (item_of plan client seq)

-- the item has ended, and if it was aborted, each of its tries was refused a lock, and it has no entry
pub record IsEnded (plan : Plan) (s : State) (client seq : ℕ) : Type 0 where
  pub ended : item_end plan s client seq ≢ Pending
  pub tries : item_end plan s client seq ≡ Aborted → refused_times client seq s.refusals ≡ plan.tries
  pub none : item_end plan s client seq ≡ Aborted → entry_of client seq s.history ≡ None

-- each item before a client's present one has ended
abbrev pub HasEnds : Plan → State → Type 0
HasEnds plan s = (client seq : ℕ) → IsSome (item_of plan client seq) → seq < (client_at s client).seq → IsEnded plan s client seq
