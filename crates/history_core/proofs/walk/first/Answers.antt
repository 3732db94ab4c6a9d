use Rattle.std.proofs.Common.{◌≡◌, List, ℕ, get_or, slice_get, sym, ap, ◌∙◌, arith}
use Rattle.history_core.specs.Plain.{Own}
use Rattle.history_core.proofs.Changes.{own_is}
use Rattle.history_core.proofs.Walked.{next_first, all_first}
use Rattle.history_core.proofs.walk.first.Goals as goal

pub loop-i-preserved : goal.loop-i-preserved
loop-i-preserved c =
    let owns = c.args.owns.now in
    let given = c.args.given.now in
    let i = c.loop-i.i in
    next_first owns given i c.loop-i.first c.earlier-first.result _ c.loop-i.invariant
    (c.get.ensures ∙ ap (λ (o : Own). slice_get o.entries (get_or given i 0)) (own_is owns i c.index-owns-i.result c.loop-i-test.true c.index-owns-i.is)) c.earlier-first.ensures

pub returns : goal.returns
returns c = all_first c.args.owns.now c.args.given.now c.loop-i.i c.loop-i.first (omega (arith, c.loop-i-test.false, c.loop-i.auto.i-end)) c.loop-i.invariant
