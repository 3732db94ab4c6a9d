-- Where the numbers of stamps come from.
use Rattle.std.specs.Prelude.{◌≡◌, ◌⊎◌, ℕ, true, false, IsSome}
use Rattle.std.specs.List.{AllByRecursion}
use Rattle.txn_model.specs.declared.op.TupleId.{TupleId}
use Rattle.history_model.specs.History.{HistoryEntry, History}
use Rattle.host_store.specs.Store.{seen_at}
use Rattle.core_model.specs.ColdChains.{last_stamp}
use Rattle.fabric_model.specs.Carried.{is_carried}
use Rattle.fabric_model.specs.Laws.{HasEntry}
use Rattle.fabric_model.specs.State.{State, client_at}

-- the number is that of a packet whose transaction is answered
pub record IsAnswered (h : History) (n : ℕ) : Type 0 where
  pub entry : HistoryEntry
  pub there : HasEntry h entry
  pub carried : is_carried entry ≡ true
  pub answered : IsSome entry.pairs
  pub number : entry.entry.stamp.number ≡ n

-- it is, or it is 0
abbrev pub IsKnown : History → ℕ → Type 0
IsKnown h n = (n ≡ 0) ⊎ IsAnswered h n

-- the numbers of all stamps that a client or a tuple has, and of the entries of transactions on hosts
pub record HasKnownNumbers (s : State) : Type 0 where
  pub last : (c : ℕ) → IsKnown s.history (client_at s c).last.number
  pub noted : (c : ℕ) → AllByRecursion (λ seen. IsKnown s.history seen.stamp.number) (client_at s c).noted
  pub store : (t : TupleId) → IsKnown s.history (seen_at s.store t).stamp.number
  pub hosts : AllByRecursion (λ e. is_carried e ≡ false → IsKnown s.history e.entry.stamp.number) s.history

-- each client's last stamp is that of its last answered entry, or 0.0 where it has none
abbrev pub HasLastStamps : State → Type 0
HasLastStamps s = (c : ℕ) → (client_at s c).last ≡ last_stamp c s.history
