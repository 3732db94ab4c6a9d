use Rattle.std.proofs.Common.{IsTrue, sym, subst, ◌∙◌}
use Rattle.std.specs.FinMap.{is_sorted}
use Rattle.txn_model.specs.Tuples.{tuple_cmp}
use Rattle.load_base.proofs.TupleRows.{are_sorted}
use Rattle.load_base.proofs.rows.first_tuples.Goals as goal

pub of-requires : goal.of-requires
of-requires c = record { ascending = subst (λ rs. IsTrue (is_sorted tuple_cmp rs)) (sym (c.as_slice.ensures.value ∙ c.loop-id.invariant.rows)) (are_sorted c.loop-id.id _) }
