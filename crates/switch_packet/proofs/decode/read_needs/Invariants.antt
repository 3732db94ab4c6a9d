use Rattle.std.proofs.Common.{◌≡◌, ◌-◌, length}
use Rattle.txn_model.specs.Needs.{needs_list}
use Rattle.switch_packet.specs.Reading.{each_at}
use Rattle.switch_packet.specs.PacketReading.{need_at}
use Rattle.switch_packet.proofs.Loops.{with_front}
use Rattle.switch_packet.proofs.decode.read_needs.Given as goal

abbrev pub invariant-loop : goal.invariant-loop
invariant-loop l =
    (with_front (needs_list l.needs) (each_at (λ _. need_at l.number) l.counter (l.count - l.counter) l.reader) ≡ each_at (λ _. need_at l.number) 0 l.count l.fn.reader)
    × (length (needs_list l.needs) ≡ l.counter)
