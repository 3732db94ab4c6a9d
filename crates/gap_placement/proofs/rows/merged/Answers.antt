use Rattle.std.proofs.Common.{◌≡◌, ◌++◌, [], ◌∷◌, ◌+◌, List, Option, drop, reverse, None, sym, ap, ◌∙◌}
use Rattle.std.proofs.lemmas.List.{append_assoc, append-nil, drop_more, drop_all}
use Rattle.gap_placement.specs.Slots.{merge, one_or_none}
use Rattle.gap_placement.specs.declared.spot.Spot.{Spot}
use Rattle.gap_placement.proofs.rows.merged.Goals as goal
use Rattle.gap_placement.proofs.rows.merged.Goals.{in-Some+in_ok-push, in_default}

pub loop-i-init : goal.loop-i-init
loop-i-init c = ap (λ (l : List Spot). l ++ merge c.args.slots.now (reverse c.args.found.items)) c.new-order.ensures.items

pub loop-i-preserved : goal.loop-i-preserved
loop-i-preserved c =
    let slots = c.args.slots.now in
    let i = c.loop-i.i in
    let order = c.loop-i.order.items in
    let rest = merge (drop (i + 1) slots) (reverse c.next_of-next.new.found.items) in
    let e : merge (drop i slots) (reverse c.loop-i.found.items) ≡ one_or_none c.next_of-next.result ++ rest =
    ap (λ (l : List (Option Spot)). merge l (reverse c.loop-i.found.items)) (drop_more slots i None c.loop-i-test.true) ∙ c.next_of-next.ensures (drop (i + 1) slots) in
    elim c.match-next.branch [
      | in-Some+in_ok-push w ↦
          ap (λ (l : List Spot). l ++ rest) (ap (λ v. v.items) w.order-is ∙ w.in_ok-push.ensures.items)
          ∙ append_assoc order (w.in-Some.spot ∷ []) rest
          ∙ ap (λ (o : Option Spot). order ++ (one_or_none o ++ rest)) (sym w.in-Some.is)
          ∙ ap (λ (l : List Spot). order ++ l) (sym e)
          ∙ c.loop-i.invariant
      | in_default w ↦
          ap (λ v. v.items ++ rest) w.order-is
          ∙ ap (λ (o : Option Spot). order ++ (one_or_none o ++ rest)) (sym w.in_default.is)
          ∙ ap (λ (l : List Spot). order ++ l) (sym e)
          ∙ c.loop-i.invariant
    ]

pub returns : goal.returns
returns c = sym (ap (λ (l : List (Option Spot)). c.loop-i.order.items ++ merge l (reverse c.loop-i.found.items)) (drop_all c.loop-i.i c.args.slots.now c.loop-i-test.false) ∙ append-nil c.loop-i.order.items) ∙ c.loop-i.invariant
