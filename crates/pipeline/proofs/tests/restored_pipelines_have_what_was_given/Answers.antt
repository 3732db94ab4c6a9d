use Rattle.std.proofs.Common.{ap, ◌∙◌, pos}
use Rattle.std.proofs.Common.{[], ◌∷◌}
use Rattle.std.specs.FinMap as fin
use Rattle.txn_model.specs.declared.place.Place.{Place}
use Rattle.txn_model.specs.Places.{Places}
use Rattle.stage_layout.specs.declared.shape.Shape.{Shape}
use Rattle.pipeline.specs.Plain.{PlainPipeline}
use Rattle.pipeline.proofs.TestPackets.{crossing_has_plan, places_are_there}
use Rattle.pipeline.proofs.tests.restored_pipelines_have_what_was_given.Goals as goal

abbrev shape_of : PlainPipeline → Shape
shape_of p = p.shape

pub post-requires-clause-planned : goal.post-requires-clause-planned
post-requires-clause-planned g c = crossing_has_plan 0 _ _ (ap shape_of c.in_ok-pipeline.ensures.1) c.in_ok-crossing.ensures

pub restore-requires-clause-places : goal.restore-requires-clause-places
restore-requires-clause-places g c = places_are_there _ _ (pos 9) (ap shape_of c.erase.ensures ∙ ap shape_of c.in_ok-post.ensures ∙ ap shape_of c.in_ok-pipeline.ensures.1) (c.in_ok-of.ensures ∙ ap (λ (p : Place). let m : Places = fin.from_sorted ((p, pos 9) ∷ []) in m) c.place-2.ensures)
