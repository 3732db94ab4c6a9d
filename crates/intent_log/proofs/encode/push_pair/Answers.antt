use Rattle.std.proofs.Common.{rules, w64, SFits}
use Rattle.std.proofs.lemmas.Int.{to_z-of_z}
use Rattle.switch_packet.proofs.WritingLaws.{Adds-then}
use Rattle.intent_log.specs.LogText.{pair_text}
use Rattle.intent_log.proofs.encode.push_pair.Goals as goal

pub returns : goal.returns
unfolding pair_text
returns c =
    let was : SFits w64 c.args.pair.was = search rules in
    let now : SFits w64 c.args.pair.now = search rules in
    let first = rw (to_z-of_z w64 c.args.pair.was was) at c.push_i64.ensures in
    let second = rw (to_z-of_z w64 c.args.pair.now now) at c.push_i64-2.ensures in
    Adds-then first second
