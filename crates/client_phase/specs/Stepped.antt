-- What a move makes of what is kept of a client.
use Rattle.std.specs.Prelude.{ℕ, ◌+◌, ◌-◌, ◌==◌, nat_le, pos, List, [], length, replicate, slice_set, if◌then◌else◌}
use Rattle.txn_model.specs.declared.op.Op.{Op}
use Rattle.txn_model.specs.declared.pairs.Pair.{Pair}
use Rattle.txn_model.specs.declared.stamp.Seen.{Seen}
use Rattle.txn_model.specs.declared.stamp.Stamp.{Stamp}
use Rattle.history_model.specs.History.{greater}
use Rattle.warm_split.specs.Filled.{executed}
use Rattle.warm_split.specs.declared.parts.Parts.{Parts}
use Rattle.core_model.specs.declared.phase.Phase.TheVariants.{Ready, Locking, Aborting, Logged, Waiting, Installing, Finished}
use Rattle.core_model.specs.Decision.{next_sub}
use Rattle.core_model.specs.State.{zero_stamp}
use Rattle.client_phase.specs.declared.action.Action.{Action}
use Rattle.client_phase.specs.declared.action.Action.TheVariants.{Lock, Release, Decide, LogIntent, Post, LogOutcome, Install, Lose, Rest}
use Rattle.client_phase.specs.declared.action.Met.{Met}
use Rattle.client_phase.specs.declared.action.Met.TheVariants.{Granted, HeldBy, Answered, Done}
use Rattle.client_phase.specs.ColdNumbers.{cold_count}
use Rattle.client_phase.specs.Shown.{PlainClient, zero_pair}

-- a client at the beginning of the item with this number, where it has so many items; else it has finished
abbrev pub begins : ℕ → ℕ → Stamp → PlainClient
begins items seq last = record {
  phase = if nat_le seq items then Ready else Finished;
  seq = seq;
  refused = 0;
  locked = 0;
  installed = 0;
  last = last;
  met = zero_stamp;
  pairs = [];
}

-- behind a refused try: it begins the item again, or goes on to the next one where that was the last of so many tries
abbrev pub try_ended : ℕ → ℕ → PlainClient → PlainClient
try_ended items tries p =
    if p.refused + 1 == tries then begins items (p.seq + 1) p.last else
    record p { phase = Ready; refused = p.refused + 1; locked = 0; installed = 0; met = zero_stamp; pairs = [] }

-- it aborts, with so many locks left
abbrev pub aborted : ℕ → ℕ → ℕ → PlainClient → PlainClient
aborted items tries locked p =
    if locked == 0 then try_ended items tries p else
    record p { phase = Aborting; locked = locked; met = zero_stamp; pairs = [] }

-- the pairs of a client at a script of so many operations: before its first lock they are zeros
abbrev pub pairs_to_fill : ℕ → PlainClient → List Pair
pairs_to_fill count p = if p.locked == 0 then replicate count zero_pair else p.pairs

-- the lock of operation k is granted, and this was read with it; with the last lock the operations before the switch are executed
abbrev pub granted : Parts → List Op → ℕ → Seen → PlainClient → PlainClient
granted parts ops k seen p =
    let found = slice_set (pairs_to_fill (length ops) p) k (record { was = seen.value; now = pos 0 }) in
    record p {
      phase = Locking;
      locked = p.locked + 1;
      met = greater p.met seen.stamp;
      pairs = if p.locked + 1 == cold_count parts ops then executed parts.before ops found else found;
    }

-- it asked for the lock of operation k
abbrev pub asked : Parts → List Op → ℕ → ℕ → ℕ → PlainClient → Met → PlainClient
asked parts ops items tries k p (Granted seen) = granted parts ops k seen p
asked parts ops items tries k p (HeldBy other) = aborted items tries p.locked p
asked parts ops items tries k p (Answered number) = p
asked parts ops items tries k p Done = p

-- the stamp of a transaction whose packet has this number
abbrev pub packet_stamp : ℕ → Stamp
packet_stamp number = record { number = number; sub = 0 }

-- its packet has this number; where no value is to be installed, that was its item
abbrev pub answered : Parts → List Op → ℕ → ℕ → PlainClient → PlainClient
answered parts ops items number p =
    if cold_count parts ops == 0 then begins items (p.seq + 1) (packet_stamp number) else
    record p { phase = Installing; last = packet_stamp number; met = zero_stamp }

-- it took the answer to its packet, whose pairs its own have by now
abbrev pub taken : Parts → List Op → ℕ → PlainClient → Met → PlainClient
taken parts ops items p (Granted seen) = p
taken parts ops items p (HeldBy other) = p
taken parts ops items p (Answered number) = answered parts ops items number p
taken parts ops items p Done = p

-- one more value is installed
abbrev pub installed : Parts → List Op → ℕ → PlainClient → PlainClient
installed parts ops items p =
    if p.installed + 1 == cold_count parts ops then begins items (p.seq + 1) p.last else
    record p { installed = p.installed + 1 }

-- what the action makes of a client whose item has these operations, which has so many items and so many tries for each, by what the
-- move met
abbrev pub stepped : Parts → List Op → ℕ → ℕ → Action → Met → PlainClient → PlainClient
stepped parts ops items tries (Lock k) met p = asked parts ops items tries k p met
stepped parts ops items tries (Release k) met p = aborted items tries (p.locked - 1) p
stepped parts ops items tries Decide met p = record p { phase = Installing; last = next_sub (greater p.last p.met); met = zero_stamp }
stepped parts ops items tries LogIntent met p = record p { phase = Logged; pairs = pairs_to_fill (length ops) p }
stepped parts ops items tries Post met p = record p { phase = Waiting }
stepped parts ops items tries LogOutcome met p = taken parts ops items p met
stepped parts ops items tries (Install k) met p = installed parts ops items p
stepped parts ops items tries Lose met p = begins items (p.seq + 1) p.last
stepped parts ops items tries Rest met p = p
