-- A history as its callers see it.
use Rattle.std.specs.Prelude.{refl, ℕ, ℤ, List, Option}
use Rattle.std.specs.Coded.{Coded, code_by, coded×, coded_ℕ, coded_ℤ, coded_list, coded_option}
use Rattle.txn_model.specs.declared.pairs.Pair.{Pair}
use Rattle.history_model.specs.History.{HistoryEntry, History}
use Rattle.history_core.specs.Runs.{Runs}

-- the entries in stamp order, each with its pairs where it is answered; and the transactions of the session that it was made for
pub record Recorded : Type 0 where
  pub items : History
  pub runs : Runs

abbrev pub coded_pair : Coded Pair
coded_pair = code_by (ℤ × ℤ) (coded× coded_ℤ coded_ℤ) (λ p. (p.was, p.now)) (λ n. record { was = n.0; now = n.1 }) (λ _. refl)

abbrev pub coded_entry : Coded HistoryEntry
coded_entry =
    code_by ((ℕ × ℕ) × ((ℕ × ℕ) × Option (List Pair))) (coded× (coded× coded_ℕ coded_ℕ) (coded× (coded× coded_ℕ coded_ℕ) (coded_option (coded_list coded_pair))))
    (λ e. ((e.entry.stamp.number, e.entry.stamp.sub), ((e.entry.client, e.entry.seq), e.pairs)))
    (λ n. record { entry = record { stamp = record { number = n.0.0; sub = n.0.1 }; client = n.1.0.0; seq = n.1.0.1 }; pairs = n.1.1 })
    (λ _. refl)

abbrev pub coded_runs : Coded Runs
coded_runs = coded_list (coded_list (coded_option coded_ℕ))

abbrev pub recorded_code : Coded Recorded
recorded_code = code_by (History × Runs) (coded× (coded_list coded_entry) coded_runs) (λ h. (h.items, h.runs)) (λ n. record { items = n.0; runs = n.1 }) (λ _. refl)
