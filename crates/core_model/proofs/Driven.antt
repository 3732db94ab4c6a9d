-- A client that has something left to do.
use Rattle.std.proofs.Common.{◌≢◌, ℕ, ◌<◌, List, length, get_or}
use Rattle.core_model.specs.declared.phase.Phase.TheVariants.{Finished}
use Rattle.core_model.specs.State.{ClientState, at_item, zero_stamp}

-- a client that hasn't finished
pub record Unfinished (clients : List ClientState) : Type 0 where
  pub client : ℕ
  pub within : client < length clients
  pub active : (get_or clients client (at_item 0 1 zero_stamp)).phase ≢ Finished
