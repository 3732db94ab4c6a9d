-- What holds of the items that a client is behind.
use Rattle.std.proofs.Common.{◌≡◌, ◌≢◌, ◌⊎◌, ℕ, ◌+◌, ◌<◌, ◌≤◌, ◌==◌, Bool, true, false, nat_le, refl, if◌then◌else◌}
use Rattle.std.specs.List.{list_any}
use Rattle.history_model.specs.History.{History}
use Rattle.history_model.specs.InOrder.{seqs_of}
use Rattle.core_model.specs.declared.phase.Phase.{Phase}
use Rattle.core_model.specs.declared.phase.Phase.TheVariants.{Ready, Locking, Aborting, Logged, Waiting, Installing, Finished}
use Rattle.core_model.specs.State.{ClientState, at_item}

-- an item of the client has an entry
abbrev pub has_entry : ℕ → ℕ → History → Bool
has_entry c seq h = list_any (λ q. q == seq) (seqs_of c h)

-- the refusal that a client in this phase aborts for
abbrev pub in_abort : Phase → ℕ
in_abort Ready = 0
in_abort Locking = 0
in_abort Aborting = 1
in_abort Logged = 0
in_abort Waiting = 0
in_abort Installing = 0
in_abort Finished = 0

-- what holds of a client's items, given which have an entry and how often each was refused
pub record Ends (tries : ℕ) (x : ClientState) (has : ℕ → Bool) (times : ℕ → ℕ) : Type 0 where
  pub past : (q : ℕ) → 1 ≤ q → q < x.seq → (has q ≡ true) ⊎ ((times q ≡ tries) × (has q ≡ false))
  pub later : (q : ℕ) → x.seq < q → times q ≡ 0
  pub now : x.phase ≢ Installing → times x.seq ≡ x.refused + in_abort x.phase
  pub decided : x.phase ≡ Installing → has x.seq ≡ true

pub begun : (items seq : ℕ) (x : ClientState) → ((at_item items seq x.last).phase ≢ Installing) × (in_abort (at_item items seq x.last).phase ≡ 0)
begun items seq x = by (nat_le seq items)
  where
    by : (b : Bool) → ((if b then Ready else Finished) ≢ Installing) × (in_abort (if b then Ready else Finished) ≡ 0)
    by true = (λ i. cc, refl)
    by false = (λ i. cc, refl)
