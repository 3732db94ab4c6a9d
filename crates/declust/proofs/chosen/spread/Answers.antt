use Rattle.std.proofs.Common.{◌≡◌, ℕ, ◌*◌, ◌<◌, ◌≤◌, List, [], length, arith, refl, sym, ap, subst, ◌∙◌}
use Rattle.std.specs.Prelude.{None}
use Rattle.std.proofs.lemmas.List.{length-map}
use Rattle.stage_layout.specs.Layout.{layout_fault}
use Rattle.stage_layout.specs.declared.layout.LayoutRow.{LayoutRow}
use Rattle.stage_layout.specs.declared.shape.Shape.{Shape}
use Rattle.catalogue.specs.Plan.{Plan}
use Rattle.catalogue.specs.PlanOf.{plan_of}
use Rattle.hot_set.specs.declared.ranking.HotRow.{HotRow}
use Rattle.declust.specs.Arrays.{array_count}
use Rattle.declust.specs.Greedy.{IsGreedy}
use Rattle.declust.specs.Plain.{plain_rows, tuples_of}
use Rattle.declust.specs.Spread.{IsSpread}
use Rattle.declust.specs.Total.{AreInside}
use Rattle.declust.specs.declared.chosen.SpreadLayout.{SpreadLayout}
use Rattle.declust.proofs.Filling.{few_cells}
use Rattle.declust.proofs.Spreads.{plain_is_chosen, greedy_is_chosen}
use Rattle.declust.proofs.Valid.{greedy_length, plain_length, plain_inside, greedy_inside, plain_valid, greedy_valid}
use Rattle.declust.proofs.chosen.spread.Goals as goal
use Rattle.declust.proofs.chosen.spread.Goals.{then-plain_total-greedy_total, else-plain_total-greedy_total}

pub of-requires : goal.of-requires
of-requires c =
    let slice = c.as_slice-hot.result.now in
    record {
      few = omega (arith, ap length c.in_ok-plain_rows.ensures, plain_length c.args.session.now.shape (tuples_of slice), length-map slice (λ (row : HotRow). row.tuple), ap length c.as_slice-hot.ensures, c.requires.fit, few_cells c.args.session.now.shape c.requires.sound.limits.shape);
    }

pub of-requires-2 : goal.of-requires-2
of-requires-2 c =
    let slice = c.as_slice-hot.result.now in
    record {
      few = omega (
        arith,
        greedy_length (plan_of c.args.session.now) c.in_ok-greedy_rows.field-0.items (tuples_of slice) c.in_ok-greedy_rows.ensures,
        length-map slice (λ (row : HotRow). row.tuple),
        ap length c.as_slice-hot.ensures,
        c.requires.fit,
        few_cells c.args.session.now.shape c.requires.sound.limits.shape,
      );
    }

-- what is known of the two layouts
module _ (shape : Shape) (slice hot : List HotRow) (same : slice ≡ hot) (layout rows : List LayoutRow) (made : layout ≡ rows) where
  plain_is : rows ≡ plain_rows shape (tuples_of slice) → layout ≡ plain_rows shape (tuples_of hot)
  plain_is is = made ∙ is ∙ ap (λ (l : List HotRow). plain_rows shape (tuples_of l)) same

  greedy_is : (plan : Plan) → IsGreedy plan (tuples_of slice) rows → IsGreedy plan (tuples_of hot) layout
  greedy_is plan is = subst (IsGreedy plan (tuples_of hot)) (sym made) (subst (λ (l : List HotRow). IsGreedy plan (tuples_of l) rows) same is)

pub total-plain_total-requires-clause-inside : goal.total-plain_total-requires-clause-inside
total-plain_total-requires-clause-inside c =
    let shape = c.args.session.now.shape in
    let hot = c.args.hot.now.items in
    let plain = plain_is shape c.as_slice-hot.result.now hot c.as_slice-hot.ensures c.in_ok-plain.plain c.in_ok-plain_rows.field-0.items c.in_ok-plain.ensures c.in_ok-plain_rows.ensures in
    let size : length (tuples_of hot) ≤ array_count shape * shape.cells = omega (arith, c.requires.fit, length-map hot (λ (row : HotRow). row.tuple)) in
    subst (AreInside shape) (sym plain) (plain_inside shape (tuples_of hot) c.requires.sound.limits.shape size)

pub total-greedy_total-requires-clause-inside : goal.total-greedy_total-requires-clause-inside
total-greedy_total-requires-clause-inside c =
    let shape = c.args.session.now.shape in
    let plan = plan_of c.args.session.now in
    let hot = c.args.hot.now.items in
    let greedy = greedy_is shape c.as_slice-hot.result.now hot c.as_slice-hot.ensures c.in_ok-greedy.greedy c.in_ok-greedy_rows.field-0.items c.in_ok-greedy.ensures plan c.in_ok-greedy_rows.ensures in
    greedy_inside plan [] c.in_ok-greedy.greedy (tuples_of hot) c.requires.sound.limits.shape greedy

pub returns-clause-spread : goal.returns-clause-spread
returns-clause-spread c =
    let shape = c.args.session.now.shape in
    let plan = plan_of c.args.session.now in
    let hot = c.args.hot.now.items in
    let plain = plain_is shape c.as_slice-hot.result.now hot c.as_slice-hot.ensures c.in_ok-plain.plain c.in_ok-plain_rows.field-0.items c.in_ok-plain.ensures c.in_ok-plain_rows.ensures in
    let greedy = greedy_is shape c.as_slice-hot.result.now hot c.as_slice-hot.ensures c.in_ok-greedy.greedy c.in_ok-greedy_rows.field-0.items c.in_ok-greedy.ensures plan c.in_ok-greedy_rows.ensures in
    elim c.if-plain_total-greedy_total.branch as (λ _. IsSpread plan (tuples_of hot) c.if-plain_total-greedy_total.result) [
      | then-plain_total-greedy_total w ↦
          subst (IsSpread plan (tuples_of hot)) (sym w.result-is)
          (plain_is_chosen plan (tuples_of hot) c.in_ok-plain.plain c.in_ok-greedy.greedy c.total-plain_total.result c.total-greedy_total.result plain greedy c.total-plain_total.ensures c.total-greedy_total.ensures w.if-plain_total-greedy_total.true)
      | else-plain_total-greedy_total w ↦
          subst (IsSpread plan (tuples_of hot)) (sym w.result-is)
          (greedy_is_chosen plan (tuples_of hot) c.in_ok-plain.plain c.in_ok-greedy.greedy c.total-plain_total.result c.total-greedy_total.result plain greedy c.total-plain_total.ensures c.total-greedy_total.ensures w.if-plain_total-greedy_total.false)
    ]

pub returns-clause-valid : goal.returns-clause-valid
returns-clause-valid c =
    let shape = c.args.session.now.shape in
    let tuples = c.args.session.now.tuples in
    let plan = plan_of c.args.session.now in
    let hot = c.args.hot.now.items in
    let plain = plain_is shape c.as_slice-hot.result.now hot c.as_slice-hot.ensures c.in_ok-plain.plain c.in_ok-plain_rows.field-0.items c.in_ok-plain.ensures c.in_ok-plain_rows.ensures in
    let greedy = greedy_is shape c.as_slice-hot.result.now hot c.as_slice-hot.ensures c.in_ok-greedy.greedy c.in_ok-greedy_rows.field-0.items c.in_ok-greedy.ensures plan c.in_ok-greedy_rows.ensures in
    elim c.if-plain_total-greedy_total.branch as (λ _. layout_fault shape tuples c.if-plain_total-greedy_total.result.layout ≡ None) [
      | then-plain_total-greedy_total w ↦
          ap (λ (s : SpreadLayout). layout_fault shape tuples s.layout) w.result-is ∙ ap (layout_fault shape tuples) plain ∙ plain_valid shape tuples hot c.requires.there c.requires.once c.requires.sound.limits.shape c.requires.fit
      | else-plain_total-greedy_total w ↦
          ap (λ (s : SpreadLayout). layout_fault shape tuples s.layout) w.result-is ∙ greedy_valid shape tuples hot c.requires.there c.requires.once plan c.in_ok-greedy.greedy refl c.requires.sound.limits.shape greedy
    ]
