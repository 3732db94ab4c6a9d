use Rattle.std.proofs.Common.{IsTrue, ap, sym, subst, ◌∙◌}
use Rattle.std.specs.FinMap.{find, is_sorted}
use Rattle.txn_model.specs.Tuples.{tuple_cmp}
use Rattle.stage_layout.proofs.Apart.{find-listed}
use Rattle.stage_layout.proofs.layout.places_of.Goals as goal

pub returns-then-ascend-clause-indexed : goal.returns-then-ascend-clause-indexed
returns-then-ascend-clause-indexed c = λ t. ap (find tuple_cmp t) c.in_ok-listed.ensures ∙ find-listed c.args.rows.now t

pub returns-then-ascend-clause-apart : goal.returns-then-ascend-clause-apart
returns-then-ascend-clause-apart c =
    λ _. subst (λ rows. IsTrue (is_sorted tuple_cmp rows)) (c.as_slice.ensures.value ∙ c.in_ok-listed.ensures) (sym c.ascend.ensures ∙ c.if-ascend.true)
