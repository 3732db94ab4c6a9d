-- When a client asks for locks.
use Rattle.std.specs.Prelude.{◌≡◌, ◌⊎◌}
use Rattle.core_model.specs.declared.phase.Phase.TheVariants.{Ready, Locking}
use Rattle.core_model.specs.State.{ClientState}

-- a client that asks for a lock or decides
abbrev pub IsAsking : ClientState → Type 0
IsAsking x = (x.phase ≡ Ready) ⊎ (x.phase ≡ Locking)
