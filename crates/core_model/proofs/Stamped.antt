-- A client's last stamp is that of its last entry, and above those that it read before it was decided.
use Rattle.std.proofs.Common.{[], ◌∷◌}
use Rattle.std.specs.List.{AllByRecursion}
use Rattle.history_model.specs.History.{HistoryEntry, History}

-- two facts on each entry
pub both_facts : {P Q R : HistoryEntry → Type 0} (h : History) → ((e : HistoryEntry) → P e → Q e → R e) → AllByRecursion P h → AllByRecursion Q h → AllByRecursion R h
both_facts [] f p q = tt
both_facts (e ∷ h) f p q = (f e p.0 q.0, both_facts h f p.1 q.1)
