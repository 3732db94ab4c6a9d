use Rattle.std.proofs.Common.{◌≡◌, length, ap, sym, ◌∙◌, arith}
use Rattle.warm_split.specs.Filled.{AreExecuted}
use Rattle.warm_split.specs.OpSet.{members}
use Rattle.warm_split.proofs.JoinSteps.{join_all}
use Rattle.warm_split.proofs.pairs.join_pairs.Goals as goal

pub place-requires : goal.place-requires
place-requires c =
    let ops = c.args.script.now.items in
    let sets = c.args.parts.now in
    let filled : AreExecuted sets.before ops c.args.pairs.now.items = assumption c.requires in
    let hot : length c.args.hot.now.items ≡ members sets.hot (length ops) = assumption c.requires in
    let size = ap (members sets.hot) filled.size in
    record { enough = omega (arith, size, hot) }

pub returns-clause-items : goal.returns-clause-items
returns-clause-items c =
    let ops = c.args.script.now.items in
    let sets = c.args.parts.now in
    let filled : AreExecuted sets.before ops c.args.pairs.now.items = assumption c.requires in
    λ rows visit are. c.execute_all.ensures.items
    ∙ join_all rows ops sets c.args.pairs.now.items c.args.hot.now.items c.place.new.pairs.items visit are filled
    c.place.ensures.size c.place.ensures.placed c.place.ensures.others
