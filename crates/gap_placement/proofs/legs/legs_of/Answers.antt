use Rattle.std.proofs.Common.{◌≡◌, ℕ, ◌+◌, ◌++◌, ◌∷◌, [], List, Option, Some, None, drop, map, Bool, if◌then◌else◌, refl, subst, sym, ap, ap₂, ◌∙◌}
use Rattle.std.specs.Option.{option_map}
use Rattle.std.proofs.lemmas.List.{map-append}
use Rattle.switch_packet.specs.Packets.{plain_log}
use Rattle.placement_model.specs.Placements.{Task}
use Rattle.gap_placement.proofs.Putting.{legs_more, legs_free, legs_end}
use Rattle.gap_placement.proofs.Steps.{each_at}
use Rattle.gap_placement.specs.Facts.{IfThere, IsAnswered}
use Rattle.gap_placement.specs.Legs.{PlainLeg, plain_leg, legs_from}
use Rattle.gap_placement.specs.Spots.{task_of}
use Rattle.gap_placement.specs.declared.change.Change.{Change}
use Rattle.gap_placement.specs.declared.legs.Leg.{Leg}
use Rattle.gap_placement.specs.declared.spot.Spot.{Spot}
use Rattle.gap_placement.proofs.legs.legs_of.Goals as goal
use Rattle.gap_placement.proofs.legs.legs_of.Goals.{in-Some+in_ok-can-in-Some+else-not-can, in-None+in_ok-push-in-None}

nothing_before : (o : Option (List PlainLeg)) → option_map (λ later. [] ++ later) o ≡ o
nothing_before None = refl
nothing_before (Some l) = refl

-- what is left, behind these legs
abbrev behind : List PlainLeg → ℕ → List Change → ℕ → List (Option Spot) → (Spot → Task) → Option (List PlainLeg)
behind front free changes i slots f = option_map (λ later. front ++ later) (legs_from free changes (i + 1) (map (option_map f) (drop i slots)))

pub loop-i-init : goal.loop-i-init
loop-i-init c =
    let seen = map (option_map (task_of (map plain_log c.args.views.now))) c.args.slots.now in
    ap₂ (λ (a : List Leg) (b : List Change). option_map (λ later. map plain_leg a ++ later) (legs_from 0 b 1 seen)) c.new-legs.ensures.items c.new-changes.ensures.items ∙ nothing_before (legs_from 0 [] 1 seen)

pub add_answered-requires-clause-spot : goal.add_answered-requires-clause-spot
add_answered-requires-clause-spot c =
    let P = IsAnswered (map plain_log c.args.views.now) in
    subst (IfThere P) c.in-Some.is (each_at (IfThere P) c.args.slots.now c.loop-i.i None c.requires.slots c.loop-i-test.true)

pub returns-then-not-can : goal.returns-then-not-can
returns-then-not-can c =
    let f = task_of (map plain_log c.args.views.now) in
    let made : ◌≡◌ {A = Option (List Change)} None (if c.in_ok-can-in-Some.can then Some c.add_answered.new.to.items else None) = ap (λ (b : Bool). if b then Some c.add_answered.new.to.items else None) (sym c.if-not-can.true) in
    sym (legs_more f (map plain_leg c.loop-i.legs.items) c.loop-i.free c.loop-i.changes.items c.args.slots.now c.loop-i.i c.in-Some.spot None c.loop-i-test.true c.in-Some.is (made ∙ c.in_ok-can-in-Some.ensures)) ∙ c.loop-i.invariant

pub loop-i-preserved : goal.loop-i-preserved
loop-i-preserved c =
    let f = task_of (map plain_log c.args.views.now) in
    let slots = c.args.slots.now in
    let i = c.loop-i.i in
    let front = map plain_leg c.loop-i.legs.items in
    elim c.match-slot.branch [
      | in-Some+in_ok-can-in-Some+else-not-can w ↦
          let next = w.add_answered.new.to.items in
          let made : Some next ≡ (if w.in_ok-can-in-Some.can then Some next else None) = ap (λ (b : Bool). if b then Some next else None) (sym w.if-not-can.false) in
          ap₂ (λ (a : List PlainLeg) (n : ℕ). behind a n c.match-slot.changes.items (i + 1) slots f) (ap (λ v. map plain_leg v.items) w.legs-is) w.free-is
          ∙ ap (λ v. behind front c.loop-i.free v.items (i + 1) slots f) w.changes-is
          ∙ sym (legs_more f front c.loop-i.free c.loop-i.changes.items slots i w.in-Some.spot (Some next) c.loop-i-test.true w.in-Some.is (made ∙ w.in_ok-can-in-Some.ensures))
          ∙ c.loop-i.invariant
      | in-None+in_ok-push-in-None w ↦
          let leg : Leg = record { number = c.loop-i.free; changes = c.loop-i.changes } in
          let legs_are = ap (λ v. map plain_leg v.items) w.legs-is ∙ ap (map plain_leg) w.in_ok-push-in-None.ensures.items ∙ map-append plain_leg c.loop-i.legs.items (leg ∷ []) in
          let changes_are = ap (λ v. v.items) w.changes-is ∙ w.new-changes-in-None.ensures.items in
          ap₂ (λ (a : List PlainLeg) (n : ℕ). behind a n c.match-slot.changes.items (i + 1) slots f) legs_are w.free-is
          ∙ ap (λ (l : List Change). behind (front ++ plain_leg leg ∷ []) (i + 1) l (i + 1) slots f) changes_are
          ∙ legs_free f front c.loop-i.free c.loop-i.changes.items slots i c.loop-i-test.true w.in-None.is
          ∙ c.loop-i.invariant
    ]

pub returns : goal.returns
returns c =
    let f = task_of (map plain_log c.args.views.now) in
    let leg : Leg = record { number = c.loop-i.free; changes = c.loop-i.changes } in
    let legs_are = ap (map plain_leg) c.in_ok-push.ensures.items ∙ map-append plain_leg c.loop-i.legs.items (leg ∷ []) in
    ap (λ (l : List PlainLeg). Some l) legs_are
    ∙ legs_end f (map plain_leg c.loop-i.legs.items) c.loop-i.free c.loop-i.changes.items c.args.slots.now c.loop-i.i c.loop-i-test.false
    ∙ c.loop-i.invariant
