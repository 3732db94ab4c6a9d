-- What becomes of a client when its item or its try ends, or a lock of it.
use Rattle.std.specs.Prelude.{ℕ, ◌+◌, ◌==◌, List, [], ◌∷◌, length, if◌then◌else◌}
use Rattle.txn_model.specs.declared.stamp.Seen.{Seen}
use Rattle.catalogue.specs.Plan.{Plan, items_of}
use Rattle.core_model.specs.declared.phase.Phase.TheVariants.{Ready, Aborting}
use Rattle.core_model.specs.State.{ClientState, at_item}

-- the client at its next item
abbrev pub next_item : Plan → ℕ → ClientState → ClientState
next_item plan c client = at_item (length (items_of plan c)) (client.seq + 1) client.last

-- the client behind a refused try: it begins the item again, or gives it up where that was the last try
abbrev pub try_ended : Plan → ℕ → ClientState → ClientState
try_ended plan c client =
    if client.refused + 1 == plan.tries then next_item plan c client else
    record { phase = Ready; seq = client.seq; refused = client.refused + 1; noted = []; installed = 0; last = client.last; reply = [] }

-- the client that aborts, with the locks that are left
abbrev pub aborting : Plan → ℕ → ClientState → List Seen → ClientState
aborting plan c client [] = try_ended plan c client
aborting plan c client (seen ∷ others) = record client { phase = Aborting; noted = seen ∷ others }

-- the client behind an installation: at its next item where that was the last one of this many
abbrev pub installed_one : Plan → ℕ → ClientState → ℕ → ClientState
installed_one plan c client all = if client.installed + 1 == all then next_item plan c client else record client { installed = client.installed + 1 }
