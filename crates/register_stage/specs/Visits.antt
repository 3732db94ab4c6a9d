-- What a packet does that visits a stage.
use Rattle.std.specs.Prelude.{◌≡◌, ◌<◌, ℕ, true, [], length, slice_get, Some, IsSome}
use Rattle.std.specs.FinMap as fin
use Rattle.std.specs.List.{AllByRecursion}
use Rattle.txn_model.specs.Needs.{needs_list}
use Rattle.txn_model.specs.Places.{Places}
use Rattle.switch_packet.specs.Replay.{Replayed, execute}
use Rattle.switch_packet.specs.declared.packet.PacketOp.{PacketOp}
use Rattle.register_stage.specs.Registers.{Registers, is_due}
use Rattle.register_stage.specs.declared.flight.Flight.{Flight}

-- operation i of a packet finds its place, and needs earlier operations alone
pub record CanExecute (numbers : Places) (i : ℕ) (op : PacketOp) : Type 0 where
  pub place : IsSome (fin.get numbers op.place)
  pub earlier : AllByRecursion (λ need. need.from < i) (needs_list op.needs)

-- there is a pair for each operation, and those that are due can be executed
pub record CanVisit (registers : Registers) (flight : Flight) : Type 0 where
  pub paired : length flight.pairs.items ≡ length flight.packet.ops.items
  pub due : (i : ℕ) (op : PacketOp) → slice_get flight.packet.ops.items i ≡ Some op → is_due registers.stage flight.pass op ≡ true → CanExecute registers.numbers i op

-- the operations of this stage and of the flight's pass are executed in order: the pairs then, and the numbers
abbrev pub visited : Registers → Flight → Replayed
visited registers flight = execute (is_due registers.stage flight.pass) flight.packet.ops.items [] flight.pairs.items registers.numbers
