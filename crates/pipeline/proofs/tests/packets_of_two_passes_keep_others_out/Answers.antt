use Rattle.std.proofs.Common.{ap, ◌∙◌}
use Rattle.stage_layout.specs.declared.shape.Shape.{Shape}
use Rattle.pipeline.specs.Plain.{PlainPipeline}
use Rattle.pipeline.proofs.TestPackets.{crossing_has_plan, single_has_plan}
use Rattle.pipeline.proofs.tests.packets_of_two_passes_keep_others_out.Goals as goal

abbrev shape_of : PlainPipeline → Shape
shape_of p = p.shape

pub post-requires-clause-planned : goal.post-requires-clause-planned
post-requires-clause-planned g c = crossing_has_plan 0 _ _ (ap shape_of c.in_ok-pipeline.ensures.1) c.in_ok-crossing.ensures

pub post-requires-2-clause-planned : goal.post-requires-2-clause-planned
post-requires-2-clause-planned g c = crossing_has_plan 1 _ _ (ap shape_of c.in_ok-post.ensures ∙ ap shape_of c.in_ok-pipeline.ensures.1) c.in_ok-crossing-2.ensures

pub post-requires-3-clause-planned : goal.post-requires-3-clause-planned
post-requires-3-clause-planned g c = single_has_plan 2 _ _ (ap shape_of c.in_ok-post-2.ensures ∙ ap shape_of c.in_ok-post.ensures ∙ ap shape_of c.in_ok-pipeline.ensures.1) c.in_ok-single.ensures
