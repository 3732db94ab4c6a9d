-- Lists of entries merged in stamp order.
use Rattle.std.specs.Prelude.{◌≡◌, ℕ, ◌≤◌, List, [], ◌∷◌, map, length, sum_by}
use Rattle.history_model.specs.History.{HistoryEntry, History, with_entry}
use Rattle.history_core.specs.Own.{AreOwnFrom}
use Rattle.history_core.specs.Plain.{Own}
use Rattle.history_core.specs.Runs.{Runs}

-- the entries put in one after another, the last one first
abbrev pub with_entries : History → History → History
with_entries [] h = h
with_entries (e ∷ es) h = with_entry e (with_entries es h)

-- the entries of all lists in stamp order
abbrev pub merged : List History → History
merged [] = []
merged (es ∷ lists) = with_entries es (merged lists)

abbrev pub all_entries : List Own → History
all_entries owns = merged (map (λ own. own.entries) owns)

abbrev pub all_runs : List Own → Runs
all_runs owns = map (λ own. own.ops) owns

-- the lists of at most 8 clients, for at most 4,096 items
pub record AreOwn (owns : List Own) : Type 0 where
  pub few : length owns ≤ 8
  pub items : sum_by length (all_runs owns) ≤ 4096
  pub own : AreOwnFrom 0 owns
