use Rattle.std.proofs.Common.{ℤ, pos, List, get_or, w64, SFits, rules, subst, sym, ap, ◌∙◌}
use Rattle.std.specs.FinMap as fin
use Rattle.std.proofs.lemmas.Int.{to_z-of_z}
use Rattle.gap_placement.proofs.Shortening.{next_change, contradicted, through}
use Rattle.gap_placement.proofs.Steps.{places_here}
use Rattle.gap_placement.specs.Near.{Contradicts, IsShortLeg, leaving}
use Rattle.gap_placement.specs.declared.change.Change.{Change}
use Rattle.gap_placement.proofs.short.shorten.Goals as goal

abbrev zero_change : Change
zero_change = record { place = record { stage = 0; array = 0; cell = 0 }; was = pos 0; now = pos 0 }

pub returns-then-not-fits-clause-short : goal.returns-then-not-fits-clause-short
returns-then-not-fits-clause-short c =
    let cs = c.as_slice-changes.result.now in
    let l = c.loop-change in
    subst (λ (x : List Change). Contradicts c.args.near.now c.args.known.now x) c.as_slice-changes.ensures.value
    (contradicted c.args.near.now c.args.known.now l.known l.demands.items l.touched cs l.change-index l.invariant zero_change c.loop-change-test.true (sym c.in_ok-fits.ensures.fits ∙ c.if-not-fits.true))

pub set-requires : goal.set-requires
set-requires c = record { there = (places_here c.as_slice-changes.result.now c.loop-change.change-index zero_change c.loop-change.known c.loop-change-test.true c.loop-change.invariant.there).0 }

pub loop-change-preserved : goal.loop-change-preserved
loop-change-preserved c =
    let cs = c.as_slice-changes.result.now in
    let l = c.loop-change in
    let this = get_or cs l.change-index zero_change in
    let now_fits : SFits w64 this.now = search rules in
    next_change c.args.near.now c.args.known.now l.known l.demands.items l.touched cs l.change-index l.invariant zero_change c.loop-change-test.true _ _ _
    (c.set.ensures ∙ ap (λ (v : ℤ). fin.insert l.known this.place v) (to_z-of_z w64 this.now now_fits)) c.in_ok-fits.ensures.demands c.in_ok-fits.ensures.touched (sym c.in_ok-fits.ensures.fits ∙ c.if-not-fits.false)

pub returns-clause-short : goal.returns-clause-short
returns-clause-short c =
    let cs = c.as_slice-changes.result.now in
    let l = c.loop-change in
    subst (λ (x : List Change). IsShortLeg c.args.near.now c.args.known.now (record { number = c.args.leg.now.number; changes = x }) l.known (record { number = c.args.leg.now.number; changes = c.in_ok-lasting.lasting.items })) c.as_slice-changes.ensures.value
    (through c.args.near.now c.args.known.now l.known l.demands.items l.touched cs l.change-index l.invariant c.loop-change-test.false c.args.leg.now.number c.in_ok-lasting.lasting.items
    (c.in_ok-lasting.ensures ∙ ap (leaving l.known) c.as_slice.ensures.value))
