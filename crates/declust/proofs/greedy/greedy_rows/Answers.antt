use Rattle.std.proofs.Common.{◌≡◌, ℕ, ◌+◌, ◌*◌, ◌<◌, ◌≤◌, List, [], ◌∷◌, ◌++◌, length, get_or, take, arith, rules, refl, sym, ap, subst, ◌∙◌}
use Rattle.std.proofs.lemmas.List.{length_push}
use Rattle.txn_model.specs.declared.place.Place.{Place}
use Rattle.stage_layout.specs.declared.layout.LayoutRow.{LayoutRow}
use Rattle.catalogue.specs.PlanOf.{plan_of}
use Rattle.hot_set.specs.declared.ranking.HotRow.{HotRow}
use Rattle.declust.specs.Arrays.{array_count, place_in}
use Rattle.declust.specs.Columns.{AreColumns}
use Rattle.declust.specs.Greedy.{IsGreedy}
use Rattle.declust.specs.Plain.{tuples_of}
use Rattle.declust.proofs.Growing.{few_users, user_items, some_room, next_row, grown, greedy_more}
use Rattle.declust.proofs.greedy.greedy_rows.Goals as goal

abbrev no_row : HotRow
no_row = record { tuple = record { 0 = 0 }; uses = 0 }

pub best-requires-clause-items : goal.best-requires-clause-items
best-requires-clause-items c =
    user_items (plan_of c.args.session.now) c.requires.sound c.in_ok-uses.uses c.in_ok-uses.ensures c.loop-row.rows.items c.loop-row.columns c.loop-row.invariant.columns _ c.of-of_tuple.result.now c.of-of_tuple.ensures

pub best-requires-clause-few : goal.best-requires-clause-few
best-requires-clause-few c =
    few_users (plan_of c.args.session.now) c.requires.sound c.in_ok-uses.uses c.in_ok-uses.ensures c.loop-row.rows.items c.loop-row.columns c.loop-row.invariant.columns _ c.of-of_tuple.result.now c.of-of_tuple.ensures

pub take_cell-cell-requires-clause-items : goal.take_cell-cell-requires-clause-items
take_cell-cell-requires-clause-items c =
    user_items (plan_of c.args.session.now) c.requires.sound c.in_ok-uses.uses c.in_ok-uses.ensures c.loop-row.rows.items c.loop-row.columns c.loop-row.invariant.columns _ c.of-of_tuple.result.now c.of-of_tuple.ensures

pub unreachable-requires : goal.unreachable-requires
unreachable-requires c =
    let plan = plan_of c.args.session.now in
    let left : length c.loop-row.rows.items < array_count plan.shape * plan.shape.cells = omega (arith, c.loop-row.invariant.size, c.loop-row-test.true, c.requires.fit) in
    some_room plan c.requires.sound c.in_ok-uses.uses c.in_ok-uses.ensures c.loop-row.rows.items c.loop-row.columns c.loop-row.invariant.columns _ c.of-of_tuple.result.now c.of-of_tuple.ensures
    (tuples_of (take c.loop-row.row-index c.args.hot.now)) c.loop-row.invariant.greedy left c.in_default.ensures

pub loop-row-preserved : goal.loop-row-preserved
loop-row-preserved c =
    let plan = plan_of c.args.session.now in
    let had = c.loop-row.invariant in
    let rows = c.loop-row.rows.items in
    let hot = c.args.hot.now in
    let i = c.loop-row.row-index in
    let a = c.in-Some.array in
    let cell = c.take_cell-cell.result in
    let t = (get_or hot i no_row).tuple in
    let row : LayoutRow = record { tuple = t; place = place_in plan.shape a cell } in
    let pushed : c.push.new.self.items ≡ rows ++ row ∷ [] = c.in_ok-push.ensures.items ∙ ap (λ (p : Place). rows ++ record { tuple = t; place = p } ∷ []) c.place_in-place.ensures in
    let next = next_row plan c.requires.sound c.in_ok-uses.uses c.in_ok-uses.ensures rows c.loop-row.columns had.columns t c.of-of_tuple.result.now c.of-of_tuple.ensures a cell c.in-Some.ensures c.take_cell-cell.ensures.cell in
    let more = grown plan c.requires.sound c.in_ok-uses.uses c.in_ok-uses.ensures rows c.loop-row.columns had.columns t c.of-of_tuple.result.now c.of-of_tuple.ensures a cell c.in-Some.ensures c.take_cell-cell.ensures.cell
    c.take_cell-cell.new.self c.take_cell-cell.ensures.taken c.take_cell-cell.ensures.items c.take_cell-cell.ensures.touched in
    record {
      greedy = subst (IsGreedy plan (tuples_of (take (i + 1) hot))) (sym pushed) (greedy_more plan hot i no_row rows row c.loop-row-test.true had.greedy next);
      size = omega (arith, ap length pushed, length_push rows row, had.size);
      columns = subst (λ (l : List LayoutRow). AreColumns plan l c.take_cell-cell.new.self) (sym pushed) more;
    }
