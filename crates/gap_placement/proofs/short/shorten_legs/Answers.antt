use Rattle.std.proofs.Common.{◌+◌, ◌++◌, ◌∷◌, [], List, Option, map, take, drop, subst, sym, ap, ◌∙◌}
use Rattle.std.specs.Option.{option_map}
use Rattle.std.specs.FinMap as fin
use Rattle.std.proofs.Common.{is_some}
use Rattle.std.proofs.lemmas.List.{map-append}
use Rattle.txn_model.specs.Places.{Places}
use Rattle.gap_placement.proofs.Nearing.{AreShort, short_more, start_alike, start_fails}
use Rattle.gap_placement.proofs.Shortening.{one_more_leg, legs_around, all_legs}
use Rattle.gap_placement.proofs.Steps.{each_at, each_push}
use Rattle.gap_placement.proofs.Walking.{places_same}
use Rattle.gap_placement.specs.Facts.{Each}
use Rattle.gap_placement.specs.Legs.{PlainLeg, plain_leg, start}
use Rattle.gap_placement.specs.Near.{IsShortLeg, IsShortOrNone, Contradicts}
use Rattle.gap_placement.specs.Replays.{HasPlaces}
use Rattle.gap_placement.specs.declared.legs.Leg.{Leg}
use Rattle.gap_placement.proofs.short.shorten_legs.Goals as goal

pub loop-i-init : goal.loop-i-init
loop-i-init c =
    let none = c.new-short.ensures.items in
    record {
      short = subst (λ (l : List Leg). AreShort c.args.near.now c.args.first.now [] c.in_ok-known.known (map plain_leg l)) (sym none) (sym c.in_ok-known.ensures);
      places = subst (Each (λ (l : Leg). HasPlaces c.args.near.now l.changes.items)) (sym none) (λ i x e. cc);
      same = λ place. ap (λ (m : Places). is_some (fin.get m place)) c.in_ok-known.ensures;
    }

pub shorten-requires : goal.shorten-requires
shorten-requires c =
    let legs = c.args.legs.now in
    let leg = c.index-legs-i.result in
    let P = λ (l : Leg). HasPlaces c.args.first.now l.changes.items in
    places_same c.args.first.now c.loop-i.known leg.changes.items c.loop-i.invariant.same
    (subst P (sym c.index-legs-i.is) (each_at P legs c.loop-i.i leg c.requires.legs c.loop-i-test.true))

pub loop-i-preserved : goal.loop-i-preserved
loop-i-preserved c =
    let legs = c.args.legs.now in
    let leg = c.index-legs-i.result in
    let near = c.args.near.now in
    let first = c.args.first.now in
    let l = c.loop-i in
    let after = c.shorten.new.known in
    let short = c.in-Some.leg in
    let is : IsShortLeg near l.known (plain_leg leg) after (plain_leg short) = subst (λ (o : Option Leg). IsShortOrNone near l.known (plain_leg leg) after (option_map plain_leg o)) c.in-Some.is c.in_ok-leg.ensures.short in
    let shorts_are = ap (map plain_leg) c.in_ok-push.ensures.items ∙ map-append plain_leg l.short.items (short ∷ []) in
    record {
      short = subst (λ (x : List PlainLeg). AreShort near first x after (map plain_leg c.push.new.self.items)) (sym (one_more_leg legs l.i leg c.loop-i-test.true c.index-legs-i.is))
          (subst (λ (x : List PlainLeg). AreShort near first (map plain_leg (take l.i legs) ++ plain_leg leg ∷ []) after x) (sym shorts_are)
          (short_more (map plain_leg (take l.i legs)) (map plain_leg l.short.items) near first l.known after (plain_leg leg) (plain_leg short) l.invariant.short is));
      places = subst (Each (λ (x : Leg). HasPlaces near x.changes.items)) (sym c.in_ok-push.ensures.items) (each_push (λ (x : Leg). HasPlaces near x.changes.items) l.short.items short l.invariant.places is.places);
      same = λ place. c.in_ok-leg.ensures.same place ∙ l.invariant.same place;
    }

pub returns-in-None : goal.returns-in-None
returns-in-None c =
    let legs = c.args.legs.now in
    let leg = c.index-legs-i.result in
    let near = c.args.near.now in
    let first = c.args.first.now in
    let l = c.loop-i in
    let bad : Contradicts near l.known leg.changes.items = subst (λ (o : Option Leg). IsShortOrNone near l.known (plain_leg leg) c.shorten.new.known (option_map plain_leg o)) c.in-None.is c.in_ok-leg.ensures.short in
    record {
      found = λ standing touch.
          start_fails (map plain_leg (take l.i legs)) (map plain_leg l.short.items) (plain_leg leg) (map plain_leg (drop (l.i + 1) legs)) near first l.known standing l.invariant.short bad c.requires.part touch
          ∙ ap (λ (x : List PlainLeg). start x first standing) (legs_around legs l.i leg c.loop-i-test.true c.index-legs-i.is);
      places = tt;
    }

pub returns : goal.returns
returns c =
    let legs = c.args.legs.now in
    let near = c.args.near.now in
    let first = c.args.first.now in
    let l = c.loop-i in
    let whole : AreShort near first (map plain_leg legs) l.known (map plain_leg l.short.items) = subst (λ (x : List Leg). AreShort near first (map plain_leg x) l.known (map plain_leg l.short.items)) (all_legs legs l.i c.loop-i-test.false) l.invariant.short in
    record {
      found = λ standing touch. start_alike (map plain_leg legs) (map plain_leg l.short.items) near first l.known standing whole c.requires.part touch;
      places = l.invariant.places;
    }
