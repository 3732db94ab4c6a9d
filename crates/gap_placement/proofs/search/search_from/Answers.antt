use Rattle.std.proofs.Common.{◌≡◌, List, Option, Some, None, Bool, drop, map, if◌then◌else◌, subst, sym, ap, ap₂, ◌∙◌}
use Rattle.std.specs.Option.{option_map}
use Rattle.std.proofs.lemmas.List.{take_rest}
use Rattle.txn_model.specs.Places.{Places}
use Rattle.switch_packet.specs.Packets.{plain_log}
use Rattle.placement_model.specs.Placements.{Task}
use Rattle.gap_placement.proofs.Seeking.{usable_then, not_empty, is_nothing, legs_whole, first_leg, later_legs, each_other, start_is, search_usable, search_found}
use Rattle.gap_placement.proofs.Walking.{places_same, walk_same}
use Rattle.gap_placement.specs.Changes.{walk}
use Rattle.gap_placement.specs.Facts.{Each, IfThere, IsUsable}
use Rattle.gap_placement.specs.Legs.{PlainLeg, plain_leg, seek, start}
use Rattle.gap_placement.specs.Replays.{HasPlaces}
use Rattle.gap_placement.specs.Spots.{task_of}
use Rattle.gap_placement.specs.declared.legs.Leg.{Leg}
use Rattle.gap_placement.specs.declared.spot.Spot.{Spot}
use Rattle.gap_placement.proofs.search.search_from.Goals as goal

abbrev seen_of : (Spot → Task) → List (Option Spot) → List (Option Task)
seen_of f xs = map (option_map f) xs

pub walk-requires : goal.walk-requires
walk-requires c =
    let legs = c.args.legs.now in
    let leg = c.index-legs-0.result in
    let some_legs = not_empty legs (sym c.is_empty.ensures ∙ c.if-is_empty.false) in
    let places = first_leg (λ (l : Leg). HasPlaces c.args.first.now l.changes.items) legs leg c.requires.legs some_legs c.index-legs-0.is in
    subst (λ (m : Places). HasPlaces m c.as_slice.result.now) (sym c.in_ok-registers.ensures)
    (subst (HasPlaces c.args.first.now) (sym (c.as_slice.ensures.value ∙ ap (λ (l : Leg). l.changes.items) (sym c.index-legs-0.is))) places)

pub seek-requires : goal.seek-requires
seek-requires c =
    let logs = map plain_log c.args.views.now in
    let legs = c.args.legs.now in
    let leg = c.index-legs-0.result in
    let first = c.args.first.now in
    let after = c.walk.new.map in
    let some_legs = not_empty legs (sym c.is_empty.ensures ∙ c.if-is_empty.false) in
    let places = first_leg (λ (l : Leg). HasPlaces first l.changes.items) legs leg c.requires.legs some_legs c.index-legs-0.is in
    let walked : walk leg.changes.items first ≡ Some after =
    ap₂ walk (sym (c.as_slice.ensures.value ∙ ap (λ (l : Leg). l.changes.items) (sym c.index-legs-0.is))) (sym c.in_ok-registers.ensures) ∙ sym c.walk.ensures ∙ ap (λ (b : Bool). if b then Some after else None) c.if-not-walk.false in
    let same = walk_same leg.changes.items first after places walked in
    record {
      legs = subst (Each (λ (l : Leg). HasPlaces after l.changes.items)) (sym (take_rest legs 1)) (later_legs (λ (l : Leg). HasPlaces first l.changes.items) (λ (l : Leg). HasPlaces after l.changes.items) legs c.requires.legs (λ l h. places_same first after l.changes.items same h));
      standing = each_other (IfThere (IsUsable logs first)) (IfThere (IsUsable logs after)) c.args.standing.now.items c.requires.standing (λ o h. usable_then logs first after same o h);
    }

pub returns : goal.returns
returns c =
    let logs = map plain_log c.args.views.now in
    let f = task_of logs in
    let legs = c.args.legs.now in
    let leg = c.index-legs-0.result in
    let first = c.args.first.now in
    let after = c.walk.new.map in
    let some_legs = not_empty legs (sym c.is_empty.ensures ∙ c.if-is_empty.false) in
    let places = first_leg (λ (l : Leg). HasPlaces first l.changes.items) legs leg c.requires.legs some_legs c.index-legs-0.is in
    let walked : walk leg.changes.items first ≡ Some after =
    ap₂ walk (sym (c.as_slice.ensures.value ∙ ap (λ (l : Leg). l.changes.items) (sym c.index-legs-0.is))) (sym c.in_ok-registers.ensures) ∙ sym c.walk.ensures ∙ ap (λ (b : Bool). if b then Some after else None) c.if-not-walk.false in
    let same = walk_same leg.changes.items first after places walked in
    let seen = seen_of f c.args.standing.now.items in
    let whole : seek (map plain_leg (drop 1 legs)) after seen ≡ start (map plain_leg legs) first seen =
    start_is (plain_leg leg) (map plain_leg (drop 1 legs)) first seen (Some after) walked ∙ ap (λ (l : List PlainLeg). start l first seen) (legs_whole legs leg some_legs c.index-legs-0.is) in
    record {
      found = search_found f c.seek.result _ (start (map plain_leg legs) first seen) (ap (λ (l : List Leg). seek (map plain_leg l) after seen) (take_rest legs 1) ∙ whole) c.seek.ensures.found;
      usable = search_usable logs first after same c.seek.result c.seek.ensures.usable;
    }

pub returns-then-is_empty : goal.returns-then-is_empty
returns-then-is_empty c =
    let none = is_nothing c.args.legs.now (sym c.is_empty.ensures ∙ c.if-is_empty.true) in
    record {
      found = sym (ap (λ (l : List Leg). start (map plain_leg l) c.args.first.now (seen_of (task_of (map plain_log c.args.views.now)) c.args.standing.now.items)) none);
      usable = tt;
    }

pub returns-then-not-walk : goal.returns-then-not-walk
returns-then-not-walk c =
    let f = task_of (map plain_log c.args.views.now) in
    let legs = c.args.legs.now in
    let leg = c.index-legs-0.result in
    let first = c.args.first.now in
    let some_legs = not_empty legs (sym c.is_empty.ensures ∙ c.if-is_empty.false) in
    let seen = seen_of f c.args.standing.now.items in
    let walked : walk leg.changes.items first ≡ None =
    ap₂ walk (sym (c.as_slice.ensures.value ∙ ap (λ (l : Leg). l.changes.items) (sym c.index-legs-0.is))) (sym c.in_ok-registers.ensures) ∙ sym c.walk.ensures ∙ ap (λ (b : Bool). if b then Some c.walk.new.map else None) c.if-not-walk.true in
    record {
      found = start_is (plain_leg leg) (map plain_leg (drop 1 legs)) first seen None walked ∙ ap (λ (l : List PlainLeg). start l first seen) (legs_whole legs leg some_legs c.index-legs-0.is);
      usable = tt;
    }
