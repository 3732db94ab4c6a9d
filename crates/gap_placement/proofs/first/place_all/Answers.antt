use Rattle.std.proofs.Common.{◌≡◌, ℕ, [], List, Option, Some, None, Bool, length, map, replicate, reverse, if◌then◌else◌, refl, subst, sym, ap, ap₂, ◌∙◌, arith}
use Rattle.std.specs.Option.{option_map}
use Rattle.txn_model.specs.Places.{Places}
use Rattle.switch_packet.specs.Packets.{PlainLog, plain_log}
use Rattle.switch_packet.specs.Replay.{replay_all}
use Rattle.placement_model.specs.FirstOrder.{put_all, slots_of, open_ones, first_order}
use Rattle.placement_model.specs.Placements.{Task, PlainSlotted, tasks_of, packets_of, rows_of}
use Rattle.gap_placement.proofs.Searching.{from_legs}
use Rattle.gap_placement.proofs.Seeking.{each_other}
use Rattle.gap_placement.proofs.Standing.{tasks_are, spots_stand}
use Rattle.gap_placement.proofs.Whole.{legs_places, held_places, merge_seen, each_merged, none_each, put_is_slots, no_slots, no_placement, is_first, order_is, tasks_placed, usable_there, answered_there, each_reverse}
use Rattle.gap_placement.specs.Facts.{Each, IfThere, IsAnswered, IsUsable}
use Rattle.gap_placement.specs.Legs.{plain_leg, legs_from, start}
use Rattle.gap_placement.specs.Replays.{HasPlaces}
use Rattle.gap_placement.specs.Slots.{merge}
use Rattle.gap_placement.specs.Spots.{task_of, IsSpot, spots_behind}
use Rattle.gap_placement.specs.declared.legs.Leg.{Leg}
use Rattle.gap_placement.specs.declared.spot.Spot.{Spot}
use Rattle.gap_placement.proofs.first.place_all.Goals as goal

abbrev seen_of : List PlainLog → List (Option Spot) → List (Option Task)
seen_of logs xs = map (option_map (task_of logs)) xs

-- what was put are the slots
put_is : (logs : List PlainLog) (spots : List Spot) (old : List (Option Spot)) (n : ℕ) (o : Option (List (Option Task))) → spots ≡ spots_behind 0 logs → old ≡ replicate n None → n ≡ length spots → o ≡ put_all (map (task_of logs) spots) (seen_of logs old) → o ≡ slots_of (tasks_of logs)
put_is logs spots old n o spots_are old_is count e =
    e ∙ ap (λ (l : List Spot). put_all (map (task_of logs) l) (seen_of logs old)) spots_are ∙ put_is_slots logs old (old_is ∙ ap (λ (k : ℕ). replicate k None) (count ∙ ap length spots_are))

pub put_answered-requires : goal.put_answered-requires
put_answered-requires c =
    let logs = map plain_log c.args.views.now in
    record {
      spots = subst (Each (IsSpot logs)) (sym (c.as_slice.ensures.value ∙ c.in_ok-spots.ensures)) (spots_stand logs);
      slots = subst (Each (IfThere (IsAnswered logs))) (sym c.in_ok-slots.ensures) (none_each (IsAnswered logs) c.len.result);
    }

pub open_spots-requires : goal.open_spots-requires
open_spots-requires c =
    let logs = map plain_log c.args.views.now in
    subst (Each (IsSpot logs)) (sym (c.as_slice-2.ensures.value ∙ c.in_ok-spots.ensures)) (spots_stand logs)

pub legs_of-requires : goal.legs_of-requires
legs_of-requires c =
    let logs = map plain_log c.args.views.now in
    record {
      few = omega arith;
      read = c.requires.read;
      slots = subst (Each (IfThere (IsAnswered logs))) (sym c.as_slice-3.ensures.value) (c.put_answered.ensures.slots c.if-not-put_answered.false);
    }

pub search-requires : goal.search-requires
search-requires c =
    let logs = map plain_log c.args.views.now in
    let first = c.args.first.now in
    let slots = c.as_slice-3.result.now in
    let legs = c.in-Some.legs.items in
    let answered = subst (Each (IfThere (IsAnswered logs))) (sym c.as_slice-3.ensures.value) (c.put_answered.ensures.slots c.if-not-put_answered.false) in
    let made : legs_from 0 [] 1 (seen_of logs slots) ≡ Some (map plain_leg legs) = sym c.in_ok-legs.ensures ∙ ap (option_map (λ l. map plain_leg l.items)) c.in-Some.is in
    record {
      legs = subst (Each (λ (l : Leg). HasPlaces first l.changes.items)) (sym c.as_slice-4.ensures.value)
          (held_places first legs (legs_places first (seen_of logs slots) 0 [] 1 (map plain_leg legs) (tasks_placed logs first c.requires.read c.requires.there slots answered) tt made));
      standing = each_other (IfThere (IsSpot logs)) (IfThere (IsUsable logs first)) c.in_ok-standing.standing.items c.in_ok-standing.ensures.spots (usable_there logs first c.requires.read c.requires.there);
    }

pub rows-requires : goal.rows-requires
rows-requires c =
    let logs = map plain_log c.args.views.now in
    let first = c.args.first.now in
    let slots = c.as_slice-5.result.now in
    let found = c.in-Some-2.found.items in
    let answered = subst (Each (IfThere (IsAnswered logs))) (sym c.as_slice-5.ensures.value) (c.put_answered.ensures.slots c.if-not-put_answered.false) in
    record {
      few = omega arith;
      usable = subst (Each (IsUsable logs first)) (sym (c.as_slice-6.ensures.value ∙ c.in_ok-order.ensures))
          (each_merged (IsUsable logs first) slots (reverse found) (each_other (IfThere (IsAnswered logs)) (IfThere (IsUsable logs first)) slots answered (answered_there logs first c.requires.read c.requires.there))
          (each_reverse (IsUsable logs first) found (subst (IfThere (λ v. Each (IsUsable logs first) v.items)) c.in-Some-2.is c.in_ok-found.ensures.usable)));
    }

pub returns-then-not-put_answered : goal.returns-then-not-put_answered
returns-then-not-put_answered c =
    let logs = map plain_log c.args.views.now in
    let first = c.args.first.now in
    let made = ap (λ (b : Bool). if b then Some (seen_of logs c.put_answered.new.slots.items) else None) (sym c.if-not-put_answered.true) in
    let none : first_order logs first ≡ None = no_slots logs first (put_is logs c.as_slice.result.now c.in_ok-slots.slots.items c.len.result None (c.as_slice.ensures.value ∙ c.in_ok-spots.ensures) c.in_ok-slots.ensures (omega (arith, c.len.ensures, c.as_slice.ensures.len)) (made ∙ c.put_answered.ensures.put)) in
    record {
      rows = sym (ap (option_map (rows_of first)) none);
      registers = sym (ap (option_map (λ (order : List Task). (replay_all (packets_of order) first).after)) none);
      first = no_placement logs first c.requires.read none;
    }

pub returns-in-None : goal.returns-in-None
returns-in-None c =
    let logs = map plain_log c.args.views.now in
    let first = c.args.first.now in
    let slots = c.put_answered.new.slots.items in
    let made = ap (λ (b : Bool). if b then Some (seen_of logs slots) else None) (sym c.if-not-put_answered.false) in
    let slots_are = put_is logs c.as_slice.result.now c.in_ok-slots.slots.items c.len.result (Some (seen_of logs slots)) (c.as_slice.ensures.value ∙ c.in_ok-spots.ensures) c.in_ok-slots.ensures (omega (arith, c.len.ensures, c.as_slice.ensures.len)) (made ∙ c.put_answered.ensures.put) in
    let legs_are : None ≡ legs_from 0 [] 1 (seen_of logs slots) = ap (option_map (λ l. map plain_leg l.items)) (sym c.in-None.is) ∙ c.in_ok-legs.ensures ∙ ap (λ (l : List (Option Spot)). legs_from 0 [] 1 (seen_of logs l)) c.as_slice-3.ensures.value in
    let none : first_order logs first ≡ None = order_is logs first (seen_of logs slots) None None slots_are legs_are refl in
    record {
      rows = sym (ap (option_map (rows_of first)) none);
      registers = sym (ap (option_map (λ (order : List Task). (replay_all (packets_of order) first).after)) none);
      first = no_placement logs first c.requires.read none;
    }

pub returns-in-None-2 : goal.returns-in-None-2
returns-in-None-2 c =
    let logs = map plain_log c.args.views.now in
    let first = c.args.first.now in
    let slots = c.put_answered.new.slots.items in
    let legs = map plain_leg c.in-Some.legs.items in
    let made = ap (λ (b : Bool). if b then Some (seen_of logs slots) else None) (sym c.if-not-put_answered.false) in
    let slots_are = put_is logs c.as_slice.result.now c.in_ok-slots.slots.items c.len.result (Some (seen_of logs slots)) (c.as_slice.ensures.value ∙ c.in_ok-spots.ensures) c.in_ok-slots.ensures (omega (arith, c.len.ensures, c.as_slice.ensures.len)) (made ∙ c.put_answered.ensures.put) in
    let legs_are : Some legs ≡ legs_from 0 [] 1 (seen_of logs slots) = ap (option_map (λ l. map plain_leg l.items)) (sym c.in-Some.is) ∙ c.in_ok-legs.ensures ∙ ap (λ (l : List (Option Spot)). legs_from 0 [] 1 (seen_of logs l)) c.as_slice-3.ensures.value in
    let open_is = c.in_ok-standing.ensures.open_ones ∙ ap (λ (l : List Spot). open_ones (map (task_of logs) l)) (c.as_slice-2.ensures.value ∙ c.in_ok-spots.ensures) ∙ ap open_ones (tasks_are logs) in
    let found_is : None ≡ from_legs first (open_ones (tasks_of logs)) (Some legs) = ap (option_map (λ v. map (task_of logs) (reverse v.items))) (sym c.in-None-2.is) ∙ c.in_ok-found.ensures.found ∙ ap₂ (λ (l : List Leg) (s : List (Option Task)). start (map plain_leg l) first s) c.as_slice-4.ensures.value open_is in
    let none : first_order logs first ≡ None = order_is logs first (seen_of logs slots) (Some legs) None slots_are legs_are found_is in
    record {
      rows = sym (ap (option_map (rows_of first)) none);
      registers = sym (ap (option_map (λ (order : List Task). (replay_all (packets_of order) first).after)) none);
      first = no_placement logs first c.requires.read none;
    }

pub returns : goal.returns
returns c =
    let logs = map plain_log c.args.views.now in
    let first = c.args.first.now in
    let slots = c.put_answered.new.slots.items in
    let legs = map plain_leg c.in-Some.legs.items in
    let free = reverse c.in-Some-2.found.items in
    let made = ap (λ (b : Bool). if b then Some (seen_of logs slots) else None) (sym c.if-not-put_answered.false) in
    let slots_are = put_is logs c.as_slice.result.now c.in_ok-slots.slots.items c.len.result (Some (seen_of logs slots)) (c.as_slice.ensures.value ∙ c.in_ok-spots.ensures) c.in_ok-slots.ensures (omega (arith, c.len.ensures, c.as_slice.ensures.len)) (made ∙ c.put_answered.ensures.put) in
    let legs_are : Some legs ≡ legs_from 0 [] 1 (seen_of logs slots) = ap (option_map (λ l. map plain_leg l.items)) (sym c.in-Some.is) ∙ c.in_ok-legs.ensures ∙ ap (λ (l : List (Option Spot)). legs_from 0 [] 1 (seen_of logs l)) c.as_slice-3.ensures.value in
    let open_is = c.in_ok-standing.ensures.open_ones ∙ ap (λ (l : List Spot). open_ones (map (task_of logs) l)) (c.as_slice-2.ensures.value ∙ c.in_ok-spots.ensures) ∙ ap open_ones (tasks_are logs) in
    let found_is : Some (map (task_of logs) free) ≡ from_legs first (open_ones (tasks_of logs)) (Some legs) = ap (option_map (λ v. map (task_of logs) (reverse v.items))) (sym c.in-Some-2.is) ∙ c.in_ok-found.ensures.found ∙ ap₂ (λ (l : List Leg) (s : List (Option Task)). start (map plain_leg l) first s) c.as_slice-4.ensures.value open_is in
    let order = map (task_of logs) c.as_slice-6.result.now in
    let whole = ap (map (task_of logs)) (c.as_slice-6.ensures.value ∙ c.in_ok-order.ensures ∙ ap (λ (l : List (Option Spot)). merge l free) c.as_slice-5.ensures.value) ∙ merge_seen (task_of logs) slots free in
    let found : first_order logs first ≡ Some order = order_is logs first (seen_of logs slots) (Some legs) (Some (map (task_of logs) free)) slots_are legs_are found_is ∙ ap (λ (l : List Task). Some l) (sym whole) in
    record {
      rows = ap (λ (l : List PlainSlotted). Some l) c.in_ok-rows.ensures.rows ∙ sym (ap (option_map (rows_of first)) found);
      registers = ap (λ (m : Places). Some m) c.in_ok-rows.ensures.registers ∙ sym (ap (option_map (λ (o : List Task). (replay_all (packets_of o) first).after)) found);
      first = (order, is_first logs first order c.requires.read found, c.in_ok-rows.ensures.rows);
    }
