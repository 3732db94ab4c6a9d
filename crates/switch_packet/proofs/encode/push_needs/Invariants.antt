use Rattle.std.proofs.Common.{drop}
use Rattle.std.specs.List.{flat_map}
use Rattle.txn_model.specs.Needs.{needs_list}
use Rattle.switch_packet.specs.PacketText.{need_text}
use Rattle.switch_packet.proofs.WritingLaws.{IsAdding}
use Rattle.switch_packet.proofs.encode.push_needs.Given as goal

abbrev pub invariant-loop-i : goal.invariant-loop-i
invariant-loop-i l = IsAdding l.fn.to l.to (flat_map need_text (drop l.i (needs_list l.needs))) (flat_map need_text (needs_list l.needs))
