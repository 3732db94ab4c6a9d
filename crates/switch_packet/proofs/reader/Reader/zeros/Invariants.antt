use Rattle.std.proofs.Common.{◌≡◌, ◌-◌}
use Rattle.switch_packet.specs.Reading.{zeros_at}
use Rattle.switch_packet.proofs.reader.Reader.zeros.Given as goal

abbrev pub invariant-loop : goal.invariant-loop
invariant-loop l = zeros_at (l.count - l.counter) l.self ≡ zeros_at l.count l.fn.self
