use Rattle.std.proofs.Common.{◌≡◌, [], ◌∷◌, ◌++◌, length, ap, sym, ◌∙◌, arith}
use Rattle.std.proofs.lemmas.List.FromFn.{length-map-range_with_len, map-range_with_len_more}
use Rattle.load_base.specs.Load.{hot_row}
use Rattle.load_base.proofs.rows.hot_layout.Goals as goal

pub loop-id-preserved : goal.loop-id-preserved
loop-id-preserved c = record {
  bound = omega arith;
  rows = c.in_ok-push.ensures.items ∙ ap (λ row. c.loop-id.rows.items ++ row ∷ []) c.hot_row.ensures ∙ ap (λ rs. rs ++ hot_row c.loop-id.id ∷ []) c.loop-id.invariant.rows ∙ sym (map-range_with_len_more hot_row 0 c.loop-id.id c.loop-id.id (omega arith));
}

pub of-requires : goal.of-requires
of-requires c =
    let size : length c.loop-id.rows.items ≡ c.loop-id.id = ap length c.loop-id.invariant.rows ∙ length-map-range_with_len hot_row 0 c.loop-id.id in
    record { few = omega arith }
