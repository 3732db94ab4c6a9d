use Rattle.std.proofs.Common.{drop}
use Rattle.std.specs.List.{flat_map}
use Rattle.switch_packet.proofs.WritingLaws.{IsAdding}
use Rattle.intent_log.specs.LogText.{pair_text}
use Rattle.intent_log.proofs.encode.push_pairs.Given as goal

abbrev pub invariant-loop-pair : goal.invariant-loop-pair
invariant-loop-pair l = IsAdding l.fn.to l.to (flat_map pair_text (drop l.pair-index l.pair-items)) (flat_map pair_text l.pair-items)
