use Rattle.std.proofs.Common.{◌≡◌, List, Option, map, subst, sym, ap, ◌∙◌}
use Rattle.std.specs.Option.{option_map}
use Rattle.switch_packet.specs.Packets.{plain_log}
use Rattle.gap_placement.proofs.Joining.{usable_near, found_usable}
use Rattle.gap_placement.proofs.Seeking.{search_found}
use Rattle.gap_placement.specs.Facts.{Each, IfThere, IsUsable}
use Rattle.gap_placement.specs.Legs.{plain_leg, start}
use Rattle.gap_placement.specs.Near.{AllTouch, start_any}
use Rattle.gap_placement.specs.Replays.{HasPlaces}
use Rattle.gap_placement.specs.Spots.{task_of}
use Rattle.gap_placement.specs.declared.legs.Leg.{Leg}
use Rattle.gap_placement.specs.declared.spot.Spot.{Spot}
use Rattle.gap_placement.proofs.search.search.Goals as goal

pub near_registers-requires : goal.near_registers-requires
near_registers-requires c = subst (Each (IfThere (IsUsable (map plain_log c.args.views.now) c.args.first.now))) (sym c.as_slice.ensures.value) c.requires.standing

pub shorten_legs-requires : goal.shorten_legs-requires
shorten_legs-requires c = record { legs = c.requires.legs; part = c.in_ok-near.ensures.part }

pub search_from-requires : goal.search_from-requires
search_from-requires c =
    let logs = map plain_log c.args.views.now in
    let near = c.in_ok-near.near in
    let standing = c.args.standing.now.items in
    let touch : AllTouch near (map (option_map (task_of logs)) standing) = subst (λ (l : List (Option Spot)). AllTouch near (map (option_map (task_of logs)) l)) c.as_slice.ensures.value c.in_ok-near.ensures.touch in
    record {
      legs = subst (Each (λ (l : Leg). HasPlaces near l.changes.items)) (sym c.as_slice-2.ensures.value) (subst (IfThere (λ v. Each (λ (l : Leg). HasPlaces near l.changes.items) v.items)) c.in-Some.is c.in_ok-short.ensures.places);
      standing = usable_near logs c.args.first.now near standing c.requires.standing touch;
    }

pub returns-in-None : goal.returns-in-None
returns-in-None c =
    let logs = map plain_log c.args.views.now in
    let near = c.in_ok-near.near in
    let seen = map (option_map (task_of logs)) c.args.standing.now.items in
    let touch : AllTouch near seen = subst (λ (l : List (Option Spot)). AllTouch near (map (option_map (task_of logs)) l)) c.as_slice.ensures.value c.in_ok-near.ensures.touch in
    record {
      found = ap (λ o. start_any (option_map (λ v. map plain_leg v.items) o) near seen) (sym c.in-None.is) ∙ c.in_ok-short.ensures.found seen touch;
      usable = tt;
    }

pub returns : goal.returns
returns c =
    let logs = map plain_log c.args.views.now in
    let first = c.args.first.now in
    let near = c.in_ok-near.near in
    let seen = map (option_map (task_of logs)) c.args.standing.now.items in
    let touch : AllTouch near seen = subst (λ (l : List (Option Spot)). AllTouch near (map (option_map (task_of logs)) l)) c.as_slice.ensures.value c.in_ok-near.ensures.touch in
    let alike : start (map plain_leg c.in-Some.short.items) near seen ≡ start (map plain_leg c.args.legs.now) first seen = ap (λ o. start_any (option_map (λ v. map plain_leg v.items) o) near seen) (sym c.in-Some.is) ∙ c.in_ok-short.ensures.found seen touch in
    record {
      found = search_found (task_of logs) c.search_from.result _ (start (map plain_leg c.args.legs.now) first seen) (ap (λ (l : List Leg). start (map plain_leg l) near seen) c.as_slice-2.ensures.value ∙ alike) c.search_from.ensures.found;
      usable = found_usable logs near first c.in_ok-near.ensures.part c.search_from.result c.search_from.ensures.usable;
    }
