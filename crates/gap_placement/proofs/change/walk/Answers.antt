use Rattle.std.proofs.Common.{◌≡◌, ℤ, pos, ◌+◌, drop, get_or, Option, unwrap_or, w64, of_z, SFits, rules, arith, sym, ap, ◌∙◌}
use Rattle.std.specs.FinMap as fin
use Rattle.std.proofs.lemmas.Int.{to_z-of_z}
use Rattle.switch_packet.specs.Replay.{register_at}
use Rattle.gap_placement.specs.Changes.{walk}
use Rattle.gap_placement.specs.declared.change.Change.{Change}
use Rattle.gap_placement.proofs.Steps.{same_held, walk_on, walk_off, walk_end, places_here, places_on}
use Rattle.gap_placement.proofs.change.walk.Goals as goal

abbrev zero_change : Change
zero_change = record { place = record { stage = 0; array = 0; cell = 0 }; was = pos 0; now = pos 0 }

pub loop-change-preserved : goal.loop-change-preserved
loop-change-preserved c =
    let cs = c.args.changes.now in
    let i = c.loop-change.change-index in
    let m = c.loop-change.map in
    let this = get_or cs i zero_change in
    let was_fits : SFits w64 c.unwrap_or.result = search rules in
    let this_fits : SFits w64 this.was = search rules in
    let found : register_at m this.place ≡ this.was = sym (c.unwrap_or.ensures ∙ ap (λ (o : Option ℤ). unwrap_or o (pos 0)) c.get.ensures) ∙ same_held c.unwrap_or.result this.was was_fits this_fits c.if-unwrap_or-change.false in
    let now_fits : SFits w64 this.now = search rules in
    let set_is = c.set.ensures ∙ ap (λ (v : ℤ). fin.insert m this.place v) (to_z-of_z w64 this.now now_fits) in
    record {
      walked = ap (walk (drop (i + 1) cs)) set_is ∙ walk_on cs i zero_change m c.loop-change-test.true found ∙ c.loop-change.invariant.walked;
      places = places_on cs i zero_change m c.set.new.self c.loop-change-test.true c.loop-change.invariant.places set_is;
    }

pub set-requires : goal.set-requires
set-requires c = record { there = (places_here c.args.changes.now c.loop-change.change-index zero_change c.loop-change.map c.loop-change-test.true c.loop-change.invariant.places).0 }

pub returns-then-unwrap_or-change : goal.returns-then-unwrap_or-change
returns-then-unwrap_or-change c =
    let this = get_or c.args.changes.now c.loop-change.change-index zero_change in
    walk_off c.args.changes.now c.loop-change.change-index zero_change c.loop-change.map c.loop-change-test.true (λ e. c.if-unwrap_or-change.true (ap (of_z w64) (c.unwrap_or.ensures ∙ ap (λ (o : Option ℤ). unwrap_or o (pos 0)) c.get.ensures ∙ e))) ∙ c.loop-change.invariant.walked

pub returns : goal.returns
returns c = walk_end c.args.changes.now c.loop-change.change-index c.loop-change.map (omega arith) ∙ c.loop-change.invariant.walked
