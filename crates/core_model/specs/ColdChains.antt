-- The stamps of a client's entries.
use Rattle.std.specs.Prelude.{ℕ, ◌==◌, ◌&&◌, List, map, filter, None, is_some, unwrap_or}
use Rattle.std.specs.List.{last_or}
use Rattle.txn_model.specs.declared.stamp.Stamp.{Stamp}
use Rattle.history_model.specs.History.{History}
use Rattle.core_model.specs.State.{zero_stamp}

-- the stamps of a client's answered entries, in history order
abbrev pub stamps_of : ℕ → History → List Stamp
stamps_of client h = map (λ e. e.entry.stamp) (filter (λ e. (e.entry.client == client) && is_some e.pairs) h)

-- the stamp of a client's last answered entry; 0.0 where it has none
abbrev pub last_stamp : ℕ → History → Stamp
last_stamp client h = unwrap_or (last_or None (stamps_of client h)) zero_stamp
