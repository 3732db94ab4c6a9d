-- What is kept of a client, as the model's client shows it.
use Rattle.std.specs.Prelude.{ℕ, ◌+◌, ◌==◌, pos, List, [], ◌∷◌, ◌++◌, drop, length, if◌then◌else◌}
use Rattle.txn_model.specs.Serial.{pair_of}
use Rattle.txn_model.specs.declared.op.Op.{Op}
use Rattle.txn_model.specs.declared.pairs.Pair.{Pair}
use Rattle.txn_model.specs.declared.stamp.Seen.{Seen}
use Rattle.txn_model.specs.declared.stamp.Stamp.{Stamp}
use Rattle.stage_layout.specs.Late.{Part, is_hot, is_before, part_at, parts_of}
use Rattle.stage_layout.specs.declared.layout.LayoutRow.{LayoutRow}
use Rattle.catalogue.specs.Plan.{Plan}
use Rattle.core_model.specs.declared.phase.Phase.{Phase}
use Rattle.core_model.specs.declared.phase.Phase.TheVariants.{Ready, Locking, Aborting, Logged, Waiting, Installing, Finished}
use Rattle.core_model.specs.Decision.{greatest}
use Rattle.core_model.specs.Locks.{cold_ops}
use Rattle.core_model.specs.State as model
use Rattle.core_model.specs.State.{zero_stamp, script_now}
use Rattle.client_phase.specs.declared.client_state.ClientState.{ClientState}

-- what is kept of a client, without the spare room of its pairs
pub record PlainClient : Type 0 where
  pub phase : Phase
  pub seq : ℕ
  pub refused : ℕ
  pub locked : ℕ
  pub installed : ℕ
  pub last : Stamp
  pub met : Stamp
  pub pairs : List Pair

abbrev pub plain_client : ClientState → PlainClient
plain_client a = record {
  phase = a.phase;
  seq = a.seq;
  refused = a.refused;
  locked = a.locked;
  installed = a.installed;
  last = a.last;
  met = a.met;
  pairs = a.pairs.items;
}

-- how many pairs a client can keep without memory
abbrev pub room_of : ClientState → ℕ
room_of a = length a.pairs.items + a.pairs.spare

abbrev pub zero_pair : Pair
zero_pair = record { was = pos 0; now = pos 0 }

-- the pair of the operation whose lock was granted first
abbrev pub first_found : List Seen → Pair
first_found [] = zero_pair
first_found (seen ∷ noted) = record { was = seen.value; now = pos 0 }

-- a pair for each operation: one on a host has what was read with its lock, where that was granted, and every other number is 0
abbrev pub found_pairs : List LayoutRow → List Op → List Seen → List Pair
found_pairs rows [] noted = []
found_pairs rows (op ∷ ops) noted =
    if is_hot rows op.tuple then zero_pair ∷ found_pairs rows ops noted else first_found noted ∷ found_pairs rows ops (drop 1 noted)

-- the pairs of operations, behind the pairs in done: one before the switch leaves the effect of what it found, and the others keep
-- their pairs
abbrev pub filled_from : List Part → List Pair → List Op → List Pair → List Pair
filled_from parts done [] pairs = []
filled_from parts done (op ∷ ops) [] = []
filled_from parts done (op ∷ ops) (p ∷ ps) =
    let pair = if is_before (part_at parts (length done)) then pair_of op done p.was else p in
    pair ∷ filled_from parts (done ++ pair ∷ []) ops ps

-- the pairs of a script, once its operations before the switch are executed
abbrev pub filled : List LayoutRow → List Op → List Pair → List Pair
filled rows ops pairs = filled_from (parts_of rows ops) [] ops pairs

-- the pairs of a client that takes locks: what it read, and once it holds them all also what its operations before the switch leave
abbrev pub taking_pairs : List LayoutRow → List Op → List Seen → List Pair
taking_pairs rows ops noted =
    let found = found_pairs rows ops noted in
    if length noted == length (cold_ops rows ops) then filled rows ops found else found

-- the pairs that are kept in a phase
abbrev pub shown_pairs : List LayoutRow → List Op → model.ClientState → Phase → List Pair
shown_pairs rows ops x Ready = []
shown_pairs rows ops x Locking = taking_pairs rows ops x.noted
shown_pairs rows ops x Aborting = []
shown_pairs rows ops x Logged = taking_pairs rows ops x.noted
shown_pairs rows ops x Waiting = taking_pairs rows ops x.noted
shown_pairs rows ops x Installing = x.reply
shown_pairs rows ops x Finished = []

-- the greatest stamp that it noted, until its transaction has a stamp
abbrev pub shown_met : model.ClientState → Phase → Stamp
shown_met x Ready = zero_stamp
shown_met x Locking = greatest zero_stamp x.noted
shown_met x Aborting = zero_stamp
shown_met x Logged = greatest zero_stamp x.noted
shown_met x Waiting = greatest zero_stamp x.noted
shown_met x Installing = zero_stamp
shown_met x Finished = zero_stamp

-- what is kept of a client of the model whose present item has these operations
abbrev pub shown : List LayoutRow → List Op → model.ClientState → PlainClient
shown rows ops x = record {
  phase = x.phase;
  seq = x.seq;
  refused = x.refused;
  locked = length x.noted;
  installed = x.installed;
  last = x.last;
  met = shown_met x x.phase;
  pairs = shown_pairs rows ops x x.phase;
}

-- what is kept of a client of the model at its present item
abbrev pub shown_now : Plan → ℕ → model.ClientState → PlainClient
shown_now plan c x = shown plan.layout (script_now plan c x) x
