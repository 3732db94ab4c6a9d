-- How large the parts of a state are at most: what code that keeps it needs room for.
use Rattle.std.specs.Prelude.{◌≡◌, ℕ, ◌*◌, ◌≤◌, length, Some}
use Rattle.std.specs.List.{AllByRecursion}
use Rattle.txn_model.specs.declared.op.TupleId.{TupleId}
use Rattle.txn_model.specs.declared.stamp.Stamp.{Stamp}
use Rattle.host_store.specs.Store.{seen_at}
use Rattle.switch_model.specs.Switch.{Switch}
use Rattle.catalogue.specs.Plan.{Plan, items_of}
use Rattle.catalogue.specs.Sound.{item_count}
use Rattle.fabric_model.specs.Bound.{move_bound}
use Rattle.fabric_model.specs.State.{State, client_at, log_at}

-- the stamp's number is no greater than there are items, and its sub no greater than the moves so far
pub record IsSmall (plan : Plan) (s : State) (stamp : Stamp) : Type 0 where
  pub number : stamp.number ≤ item_count plan
  pub sub : stamp.sub ≤ s.moves

-- There are no more entries and packets than items, no more records of a client than it has items, no more refusals than tries,
-- and no more moves than the session's bound. Each stamp is a small one.
pub record FitsRoom (plan : Plan) (s : State) : Type 0 where
  pub history : length s.history ≤ item_count plan
  pub refusals : length s.refusals ≤ plan.tries * item_count plan
  pub moves : s.moves ≤ move_bound plan
  pub packets : (now : Switch) → s.switch ≡ Some now → length now.flights ≤ item_count plan
  pub intents : (c : ℕ) → length (log_at s c).intents ≤ length (items_of plan c)
  pub outcomes : (c : ℕ) → length (log_at s c).outcomes ≤ length (items_of plan c)
  pub last : (c : ℕ) → IsSmall plan s (client_at s c).last
  pub noted : (c : ℕ) → AllByRecursion (λ seen. IsSmall plan s seen.stamp) (client_at s c).noted
  pub store : (t : TupleId) → IsSmall plan s (seen_at s.store t).stamp
