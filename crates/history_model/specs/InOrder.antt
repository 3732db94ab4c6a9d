-- The entries of one client.
use Rattle.std.specs.Prelude.{ℕ, List, map, filter, ◌==◌}
use Rattle.history_model.specs.History.{History}

-- the numbers of a client's items that have an entry, in history order
abbrev pub seqs_of : ℕ → History → List ℕ
seqs_of client h = map (λ e. e.entry.seq) (filter (λ e. e.entry.client == client) h)
