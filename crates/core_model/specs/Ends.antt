-- How the items of the clients end.
use Rattle.std.specs.Prelude.{ℕ, ◌==◌, ◌&&◌, nat_lt, List, length, filter, find, Option, Some, None, is_some, option_and_then, if◌then◌else◌}
use Rattle.history_model.specs.History.{HistoryEntry, History}
use Rattle.core_model.specs.declared.item_end.ItemEnd.{ItemEnd}
use Rattle.core_model.specs.declared.item_end.ItemEnd.TheVariants.{Pending, Committed, Aborted}
use Rattle.core_model.specs.declared.refusal.Refusal.{Refusal}

-- the entry, where it is answered
abbrev pub where_answered : HistoryEntry → Option HistoryEntry
where_answered e = if is_some e.pairs then Some e else None

-- the answered entry of an item; None where it has no entry, or an unanswered one
abbrev pub answered_entry : ℕ → ℕ → History → Option HistoryEntry
answered_entry client seq h = option_and_then where_answered (find (λ e. (e.entry.client == client) && (e.entry.seq == seq)) h)

-- a transaction is committed where it has an answered entry, and aborted where it has none and its client is behind it
abbrev pub script_end : Option HistoryEntry → (seq present : ℕ) → ItemEnd
script_end (Some e) seq present = Committed e.entry.stamp
script_end None seq present = if nat_lt seq present then Aborted else Pending

-- how often an item of the client was refused a lock
abbrev pub refused_times : ℕ → ℕ → List Refusal → ℕ
refused_times c seq rs = length (filter (λ r. r.client == c && r.seq == seq) rs)
