use Rattle.std.proofs.Common.{◌+◌, ◌≤◌, length}
use Rattle.intent_log.proofs.ReadingLaws.{HasCome}
use Rattle.intent_log.proofs.records.read_records.Given as goal

abbrev pub invariant-loop-reader : goal.invariant-loop-reader
invariant-loop-reader l = record {
  come : HasCome l.client l.bytes l.records l.reader;
  room : 16 ≤ length l.scratch.ops.items + l.scratch.ops.spare;
}

abbrev pub decreases-loop-reader : goal.decreases-loop-reader
decreases-loop-reader l = length l.reader.left
