use Rattle.std.proofs.Common.{◌≡◌, ◌+◌, ◌-◌, length}
use Rattle.switch_packet.specs.Reading.{each_at}
use Rattle.switch_packet.proofs.Loops.{with_front}
use Rattle.intent_log.specs.Reading.{pair_at}
use Rattle.intent_log.proofs.entry.read_pairs.Given as goal

abbrev pub invariant-loop : goal.invariant-loop
invariant-loop l =
    (with_front l.to.items (each_at (λ _. pair_at) l.counter (l.count - l.counter) l.reader) ≡ each_at (λ _. pair_at) 0 l.count l.fn.reader)
    × (length l.to.items ≡ l.counter) × (length l.to.items + l.to.spare ≡ l.fn.to.spare)
