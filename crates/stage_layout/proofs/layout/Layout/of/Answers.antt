use Rattle.std.proofs.Common.{sym, ◌∙◌}
use Rattle.stage_layout.proofs.Apart.{no_repeat}
use Rattle.stage_layout.proofs.layout.Layout.of.Goals as goal
use Rattle.stage_layout.proofs.layout.Layout.of.Goals.{then-ascend, else-ascend}

pub invariant_of-result : goal.invariant_of-result
invariant_of-result c =
    let places = rw c.as_slice.ensures.value at c.in_ok-places.ensures in
    let tuples = rw c.as_slice-2.ensures.value at c.in_ok-tuples.ensures in
    record {
      few = c.requires.few;
      sorted = c.in_ok-places.ensures.sorted;
      by_tuple = places.indexed;
      by_place = tuples.indexed;
      apart = λ yes. elim c.if-ascend.branch [
        | then-ascend w ↦ no_repeat c.args.rows.items (places.apart w.if-ascend.true) (tuples.apart (sym w.result-is ∙ yes))
        | else-ascend w ↦ cc (sym w.result-is ∙ yes)
      ];
    }
