use Rattle.std.proofs.Common.{◌≡◌, ℕ, ◌<◌, ◌∷◌, List, Option, Some, None, Ok, is_some, drop, length, map, reverse, set, get_or, refl, subst, sym, ap, ap₂, ◌∙◌, arith}
use Rattle.std.specs.List.{list_any}
use Rattle.std.specs.Option.{option_map}
use Rattle.std.proofs.lemmas.List.{get_or_read, set-set, set-get_or, take_rest, length-drop}
use Rattle.switch_packet.specs.Packets.{PlainIntent, plain_intent, plain_log}
use Rattle.placement_model.specs.FirstOrder.{first_some}
use Rattle.placement_model.specs.Placements.{Task}
use Rattle.gap_placement.proofs.Seeking.{candidate, first_next, first_here, first_past, not_usable, usable_then, free_candidate, candidate_is, seek_is, one_more, seek_none, seek_end, any_seen, not_empty, is_nothing, legs_whole, first_leg, later_legs, each_other, fails_then}
use Rattle.gap_placement.proofs.Steps.{each_at, each_set, each_push}
use Rattle.gap_placement.proofs.Walking.{places_same, passed_same}
use Rattle.gap_placement.specs.Facts.{Each, IfThere, IsUsable}
use Rattle.gap_placement.specs.Legs.{PlainLeg, plain_leg, passed, seek}
use Rattle.gap_placement.specs.Replays.{HasPlaces, CanReplay}
use Rattle.gap_placement.specs.Spots.{task_of}
use Rattle.gap_placement.specs.declared.legs.Leg.{Leg}
use Rattle.gap_placement.specs.declared.spot.Spot.{Spot}
use Rattle.gap_placement.proofs.search.+seek.Goals as goal
use Rattle.gap_placement.proofs.search.+seek.Goals.{in-Some+in_ok-next+in-Some-next+in_ok-more+in_default-more, in-Some+in_ok-next+in_default-next, in_default}

abbrev seen_of : (Spot → Task) → List (Option Spot) → List (Option Task)
seen_of f xs = map (option_map f) xs

pub loop-k-init : goal.loop-k-init
loop-k-init t c =
    let logs = map plain_log c.args.views.now in
    let legs = c.args.legs.now in
    let leg = c.index-legs-0.result in
    let standing = c.args.standing.now.items in
    let m = c.args.registers.now in
    let lt = not_empty legs (sym c.is_empty.ensures ∙ c.if-is_empty.false) in
    let cand = candidate logs (plain_leg leg) (map plain_leg (drop 1 legs)) m standing in
    record {
      same = refl;
      left = ap (λ (n : ℕ). first_some cand 0 n) {y = length standing} (omega arith)
          ∙ seek_is logs (plain_leg leg) (map plain_leg (drop 1 legs)) m standing
          ∙ ap (λ (l : List PlainLeg). seek l m (seen_of (task_of logs) standing)) (legs_whole legs leg lt c.index-legs-0.is);
    }

pub intent_at-requires : goal.intent_at-requires
intent_at-requires t c =
    let logs = map plain_log c.args.views.now in
    let f = task_of logs in
    let legs = c.args.legs.now in
    let leg = c.index-legs-0.result in
    let m = c.args.registers.now in
    let standing = c.args.standing.now.items in
    let st = c.loop-k.standing.items in
    let k = c.loop-k.k in
    let lt : k < length standing = omega arith in
    let lt_st : k < length st = omega (arith, ap length c.loop-k.invariant.same) in
    let some_legs = not_empty legs (sym c.is_empty.ensures ∙ c.if-is_empty.false) in
    let here : get_or standing k None ≡ Some c.in-Some.spot = ap (λ (l : List (Option Spot)). get_or l k None) (sym c.loop-k.invariant.same) ∙ sym (get_or_read st k c.index-slot.result.now lt_st c.index-slot.ensures None) ∙ c.in-Some.is in
    let usable : IsUsable logs m c.in-Some.spot = subst (IfThere (IsUsable logs m)) here (each_at (IfThere (IsUsable logs m)) standing k None c.requires.standing lt) in
    usable.stands

pub pass-requires : goal.pass-requires
pass-requires t c =
    let logs = map plain_log c.args.views.now in
    let f = task_of logs in
    let legs = c.args.legs.now in
    let leg = c.index-legs-0.result in
    let m = c.args.registers.now in
    let standing = c.args.standing.now.items in
    let st = c.loop-k.standing.items in
    let k = c.loop-k.k in
    let lt : k < length standing = omega arith in
    let lt_st : k < length st = omega (arith, ap length c.loop-k.invariant.same) in
    let some_legs = not_empty legs (sym c.is_empty.ensures ∙ c.if-is_empty.false) in
    let here : get_or standing k None ≡ Some c.in-Some.spot = ap (λ (l : List (Option Spot)). get_or l k None) (sym c.loop-k.invariant.same) ∙ sym (get_or_read st k c.index-slot.result.now lt_st c.index-slot.ensures None) ∙ c.in-Some.is in
    let usable : IsUsable logs m c.in-Some.spot = subst (IfThere (IsUsable logs m)) here (each_at (IfThere (IsUsable logs m)) standing k None c.requires.standing lt) in
    let can = subst (λ (x : PlainIntent). CanReplay m x.packet) (sym c.intent_at.ensures) usable.replay in
    let places = first_leg (λ (l : Leg). HasPlaces m l.changes.items) legs leg c.requires.legs some_legs c.index-legs-0.is in
    record { replay = can; places = places }

pub seek-requires : goal.seek-requires
seek-requires t c =
    let logs = map plain_log c.args.views.now in
    let f = task_of logs in
    let legs = c.args.legs.now in
    let leg = c.index-legs-0.result in
    let m = c.args.registers.now in
    let standing = c.args.standing.now.items in
    let st = c.loop-k.standing.items in
    let k = c.loop-k.k in
    let lt : k < length standing = omega arith in
    let lt_st : k < length st = omega (arith, ap length c.loop-k.invariant.same) in
    let some_legs = not_empty legs (sym c.is_empty.ensures ∙ c.if-is_empty.false) in
    let here : get_or standing k None ≡ Some c.in-Some.spot = ap (λ (l : List (Option Spot)). get_or l k None) (sym c.loop-k.invariant.same) ∙ sym (get_or_read st k c.index-slot.result.now lt_st c.index-slot.ensures None) ∙ c.in-Some.is in
    let usable : IsUsable logs m c.in-Some.spot = subst (IfThere (IsUsable logs m)) here (each_at (IfThere (IsUsable logs m)) standing k None c.requires.standing lt) in
    let can = subst (λ (x : PlainIntent). CanReplay m x.packet) (sym c.intent_at.ensures) usable.replay in
    let places = first_leg (λ (l : Leg). HasPlaces m l.changes.items) legs leg c.requires.legs some_legs c.index-legs-0.is in
    let after = c.in-Some-next.after in
    let is_passed : passed (plain_intent c.intent_at.result.now) leg.number leg.changes.items m ≡ Some after = sym c.in_ok-next.ensures ∙ c.in-Some-next.is in
    let same = passed_same (plain_intent c.intent_at.result.now) leg.number leg.changes.items m after can places is_passed in (
      omega (arith, ap length (take_rest legs 1), length-drop 1 legs, some_legs, c.decreases),
      (
        subst (Each (λ (l : Leg). HasPlaces after l.changes.items)) (sym (take_rest legs 1)) (later_legs (λ (l : Leg). HasPlaces m l.changes.items) (λ (l : Leg). HasPlaces after l.changes.items) legs c.requires.legs (λ l h. places_same m after l.changes.items same h)),
        each_set (IfThere (IsUsable logs after)) st k None (each_other (IfThere (IsUsable logs m)) (IfThere (IsUsable logs after)) st (subst (Each (IfThere (IsUsable logs m))) (sym c.loop-k.invariant.same) c.requires.standing) (λ o h. usable_then logs m after same o h)) tt,
      ),
    )

pub loop-k-preserved : goal.loop-k-preserved
loop-k-preserved t c =
    let logs = map plain_log c.args.views.now in
    let f = task_of logs in
    let legs = c.args.legs.now in
    let leg = c.index-legs-0.result in
    let m = c.args.registers.now in
    let standing = c.args.standing.now.items in
    let st = c.loop-k.standing.items in
    let k = c.loop-k.k in
    let lt : k < length standing = omega arith in
    let lt_st : k < length st = omega (arith, ap length c.loop-k.invariant.same) in
    let some_legs = not_empty legs (sym c.is_empty.ensures ∙ c.if-is_empty.false) in
    let later = map plain_leg (drop 1 legs) in
    let cand = candidate logs (plain_leg leg) later m standing in
    let slot_is = sym (get_or_read st k c.index-slot.result.now lt_st c.index-slot.ensures None) in
    let goes_on = λ (e : cand k ≡ None). first_next cand k (length standing) lt e ∙ c.loop-k.invariant.left in
    elim c.match-slot.branch [
      | in-Some+in_ok-next+in-Some-next+in_ok-more+in_default-more w ↦
          let spot = w.in-Some.spot in
          let here_st : get_or st k None ≡ Some spot = slot_is ∙ w.in-Some.is in
          let here : get_or standing k None ≡ Some spot = ap (λ (l : List (Option Spot)). get_or l k None) (sym c.loop-k.invariant.same) ∙ here_st in
          let after = w.in-Some-next.after in
          let is_passed : passed (plain_intent w.intent_at.result.now) leg.number leg.changes.items m ≡ Some after = sym w.in_ok-next.ensures ∙ w.in-Some-next.is in
          let kept = w.in_ok-more.ensures.kept (ap (λ o. Ok o) w.in_default-more.is) in
          let st_is : set st k None ≡ set standing k None = ap (λ (l : List (Option Spot)). set l k None) c.loop-k.invariant.same in
          let rest_is : None ≡ seek later after (seen_of f (set standing k None)) =
          ap (λ o. option_map (λ v. map f (reverse v.items)) o) (sym w.in_default-more.is) ∙ w.in_ok-more.ensures.found
          ∙ ap₂ (λ (l : List Leg) (x : List (Option Spot)). seek (map plain_leg l) after (seen_of f x)) (take_rest legs 1) st_is in
          record {
            same = ap (λ v. v.items) w.standing-is ∙ ap (λ (l : List (Option Spot)). set l k (Some spot)) kept ∙ set-set st k None (Some spot) ∙ ap (λ (o : Option Spot). set st k o) (sym here_st) ∙ set-get_or st k None ∙ c.loop-k.invariant.same;
            left = goes_on (candidate_is logs (plain_leg leg) later m standing k spot (Some after) here (sym is_passed ∙ ap (λ (x : PlainIntent). passed x leg.number leg.changes.items m) w.intent_at.ensures) ∙ fails_then (f spot) (seek later after (seen_of f (set standing k None))) rest_is);
          }
      | in-Some+in_ok-next+in_default-next w ↦
          let here : get_or standing k None ≡ Some w.in-Some.spot = ap (λ (l : List (Option Spot)). get_or l k None) (sym c.loop-k.invariant.same) ∙ slot_is ∙ w.in-Some.is in
          let none = sym w.in_default-next.is ∙ w.in_ok-next.ensures ∙ ap (λ (x : PlainIntent). passed x leg.number leg.changes.items m) w.intent_at.ensures in
          record {
            same = ap (λ v. v.items) w.standing-is ∙ c.loop-k.invariant.same;
            left = goes_on (candidate_is logs (plain_leg leg) later m standing k w.in-Some.spot None here none);
          }
      | in_default w ↦
          record {
            same = ap (λ v. v.items) w.standing-is ∙ c.loop-k.invariant.same;
            left = goes_on (free_candidate logs (plain_leg leg) later m standing k (ap (λ (l : List (Option Spot)). get_or l k None) (sym c.loop-k.invariant.same) ∙ slot_is ∙ w.in_default.is));
          }
    ]

pub returns : goal.returns
returns t c =
    let logs = map plain_log c.args.views.now in
    let cand = candidate logs (plain_leg c.index-legs-0.result) (map plain_leg (drop 1 c.args.legs.now)) c.args.registers.now c.args.standing.now.items in
    record {
      found = first_past cand c.loop-k.k (length c.args.standing.now.items) (omega arith) ∙ c.loop-k.invariant.left;
      usable = tt;
      kept = λ e. c.loop-k.invariant.same;
    }

pub returns-then-any_stands : goal.returns-then-any_stands
returns-then-any_stands t c =
    let f = task_of (map plain_log c.args.views.now) in
    let none = is_nothing c.args.legs.now (sym c.is_empty.ensures ∙ c.if-is_empty.true) in
    record {
      found = seek_none c.args.registers.now (seen_of f c.args.standing.now.items) (any_seen f c.args.standing.now.items ∙ ap (list_any is_some) (sym c.as_slice.ensures.value) ∙ sym c.any_stands.ensures ∙ c.if-any_stands.true)
          ∙ ap (λ (l : List Leg). seek (map plain_leg l) c.args.registers.now (seen_of f c.args.standing.now.items)) (sym none);
      usable = tt;
      kept = λ e. refl;
    }

pub returns-then-is_empty : goal.returns-then-is_empty
returns-then-is_empty t c =
    let logs = map plain_log c.args.views.now in
    let f = task_of logs in
    let none = is_nothing c.args.legs.now (sym c.is_empty.ensures ∙ c.if-is_empty.true) in
    record {
      found = ap (λ (l : List Spot). Some (map f (reverse l))) c.new.ensures.items
          ∙ seek_end c.args.registers.now (seen_of f c.args.standing.now.items) (any_seen f c.args.standing.now.items ∙ ap (list_any is_some) (sym c.as_slice.ensures.value) ∙ sym c.any_stands.ensures ∙ c.if-any_stands.false)
          ∙ ap (λ (l : List Leg). seek (map plain_leg l) c.args.registers.now (seen_of f c.args.standing.now.items)) (sym none);
      usable = subst (Each (IsUsable logs c.args.registers.now)) (sym c.new.ensures.items) (λ i x e. cc);
      kept = λ e. refl;
    }

pub returns-in-Some-more : goal.returns-in-Some-more
returns-in-Some-more t c =
    let logs = map plain_log c.args.views.now in
    let f = task_of logs in
    let legs = c.args.legs.now in
    let leg = c.index-legs-0.result in
    let m = c.args.registers.now in
    let standing = c.args.standing.now.items in
    let st = c.loop-k.standing.items in
    let k = c.loop-k.k in
    let lt : k < length standing = omega arith in
    let lt_st : k < length st = omega (arith, ap length c.loop-k.invariant.same) in
    let some_legs = not_empty legs (sym c.is_empty.ensures ∙ c.if-is_empty.false) in
    let here : get_or standing k None ≡ Some c.in-Some.spot = ap (λ (l : List (Option Spot)). get_or l k None) (sym c.loop-k.invariant.same) ∙ sym (get_or_read st k c.index-slot.result.now lt_st c.index-slot.ensures None) ∙ c.in-Some.is in
    let usable : IsUsable logs m c.in-Some.spot = subst (IfThere (IsUsable logs m)) here (each_at (IfThere (IsUsable logs m)) standing k None c.requires.standing lt) in
    let can = subst (λ (x : PlainIntent). CanReplay m x.packet) (sym c.intent_at.ensures) usable.replay in
    let places = first_leg (λ (l : Leg). HasPlaces m l.changes.items) legs leg c.requires.legs some_legs c.index-legs-0.is in
    let after = c.in-Some-next.after in
    let is_passed : passed (plain_intent c.intent_at.result.now) leg.number leg.changes.items m ≡ Some after = sym c.in_ok-next.ensures ∙ c.in-Some-next.is in
    let same = passed_same (plain_intent c.intent_at.result.now) leg.number leg.changes.items m after can places is_passed in
    let later = map plain_leg (drop 1 legs) in
    let cand = candidate logs (plain_leg leg) later m standing in
    let st_is : set st k None ≡ set standing k None = ap (λ (l : List (Option Spot)). set l k None) c.loop-k.invariant.same in
    let rest_is : Some (map f (reverse c.in-Some-more.found.items)) ≡ seek later after (seen_of f (set standing k None)) =
    ap (λ o. option_map (λ v. map f (reverse v.items)) o) (sym c.in-Some-more.is) ∙ c.in_ok-more.ensures.found
    ∙ ap₂ (λ (l : List Leg) (x : List (Option Spot)). seek (map plain_leg l) after (seen_of f x)) (take_rest legs 1) st_is in
    let tried_is : cand k ≡ Some (f c.in-Some.spot ∷ map f (reverse c.in-Some-more.found.items)) =
    candidate_is logs (plain_leg leg) later m standing k c.in-Some.spot (Some after) here (sym is_passed ∙ ap (λ (x : PlainIntent). passed x leg.number leg.changes.items m) c.intent_at.ensures)
    ∙ ap (option_map (λ (tasks : List Task). f c.in-Some.spot ∷ tasks)) (sym rest_is) in
    record {
      found = ap (λ (l : List Spot). Some (map f (reverse l))) c.in_ok-push.ensures.items
          ∙ ap (λ (l : List Task). Some l) (one_more logs c.in-Some-more.found.items c.in-Some.spot)
          ∙ first_here cand k (length standing) (f c.in-Some.spot ∷ map f (reverse c.in-Some-more.found.items)) lt tried_is
          ∙ c.loop-k.invariant.left;
      usable = subst (Each (IsUsable logs m)) (sym c.in_ok-push.ensures.items) (each_push (IsUsable logs m) c.in-Some-more.found.items c.in-Some.spot (each_other (IsUsable logs after) (IsUsable logs m) c.in-Some-more.found.items (subst (IfThere (λ v. Each (IsUsable logs after) v.items)) c.in-Some-more.is c.in_ok-more.ensures.usable) (not_usable logs m after same)) usable);
      kept = λ e. cc;
    }
