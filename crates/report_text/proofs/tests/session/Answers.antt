use Rattle.std.proofs.Common.{ℤ, List, [], length, refl, sym, ap, subst, ◌∙◌, arith}
use Rattle.std.specs.FinMap as fin
use Rattle.txn_model.specs.Tuples.{tuple_cmp}
use Rattle.txn_model.specs.declared.op.TupleId.{TupleId}
use Rattle.stage_layout.specs.Layout.{layout_fault}
use Rattle.stage_layout.specs.declared.shape.Shape.{Shape}
use Rattle.catalogue.specs.Items.{plain_lists}
use Rattle.catalogue.specs.Plan.{Plan}
use Rattle.catalogue.specs.Sound.{IsSound}
use Rattle.report_text.proofs.tests.session.Goals as goal

abbrev rows : List (TupleId × ℤ)
rows = []

abbrev shape : Shape
shape = record { stages = 1; arrays = 1; cells = 1; split = 0; hosts = 1 }

abbrev plan : Plan
plan = record { shape = shape; tuples = fin.from_sorted rows; layout = []; tries = 1; clients = []; schedule = [] }

sound : IsSound plan
unfolding layout_fault
sound = record {
  limits = record {
    shape = record { stages = (omega arith, omega arith); arrays = (omega arith, omega arith); cells = (omega arith, omega arith); split = omega arith; hosts = (omega arith, omega arith) };
    tuples = omega (arith, fin.len-entries plan.tuples, ap length (fin.entries-from_sorted tuple_cmp rows tt));
    rows = omega arith;
    tries = (omega arith, omega arith);
    clients = omega arith;
    items = omega arith;
  };
  layout = refl;
  items = λ k d lt. absurd (omega arith);
  schedule = λ k d lt. absurd (omega arith);
}

pub returns-clause-sound : goal.returns-clause-sound
returns-clause-sound c =
    let tuples = c.in_ok-of.ensures in
    let layout = c.in_ok-of-2.ensures ∙ c.new.ensures.items in
    let clients = c.of-3.ensures ∙ ap plain_lists c.new-2.ensures.items in
    let schedule = c.of-4.ensures.items ∙ c.new-3.ensures.items in
    subst IsSound (λ i. record { shape = shape; tuples = sym tuples i; layout = sym layout i; tries = 1; clients = sym clients i; schedule = sym schedule i }) sound
