use Rattle.std.proofs.Common.{rules, w64, SFits}
use Rattle.std.proofs.lemmas.Int.{to_z-of_z}
use Rattle.switch_packet.proofs.WritingLaws.{Adds-then}
use Rattle.switch_packet.proofs.encode.push_act.Goals as goal

pub returns-in-Choose-clause-added : goal.returns-in-Choose-clause-added
returns-in-Choose-clause-added c =
    let limit : SFits w64 c.in-Choose.limit = search rules in
    let above : SFits w64 c.in-Choose.above = search rules in
    let below : SFits w64 c.in-Choose.below = search rules in
    let first = rw (to_z-of_z w64 c.in-Choose.limit limit) at c.push_i64-in-Choose.ensures in
    let second = rw (to_z-of_z w64 c.in-Choose.above above) at c.push_i64-in-Choose-2.ensures in
    let third = rw (to_z-of_z w64 c.in-Choose.below below) at c.push_i64-in-Choose-3.ensures in
    rw c.in-Choose.is (Adds-then (Adds-then first second) third)
