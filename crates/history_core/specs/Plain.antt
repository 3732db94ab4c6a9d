-- What is kept of one client, as plain data.
use Rattle.std.specs.Prelude.{ℕ, List, Option, refl}
use Rattle.std.specs.Coded.{Coded, code_by, coded×, coded_list, coded_option, coded_ℕ}
use Rattle.history_model.specs.History.{HistoryEntry, History}
use Rattle.history_core.specs.Recorded.{coded_entry}

-- how many operations each of its items has, None where that is no transaction; and its entries, as they came
pub record Own : Type 0 where
  pub ops : List (Option ℕ)
  pub entries : History

abbrev pub own_code : Coded Own
own_code = code_by (List (Option ℕ) × History) (coded× (coded_list (coded_option coded_ℕ)) (coded_list coded_entry)) (λ x. (x.ops, x.entries)) (λ n. record { ops = n.0; entries = n.1 }) (λ _. refl)
