use Rattle.std.proofs.Common.{◌≡◌, drop, IsTrue}
use Rattle.std.specs.FinMap.{find}
use Rattle.std.specs.Option.{unwrap_or}
use Rattle.txn_model.specs.Places.{place_cmp}
use Rattle.txn_model.specs.declared.place.Place.{Place}
use Rattle.stage_layout.specs.Shape.{has_place}
use Rattle.pipeline.specs.Keeps.{AreStages}
use Rattle.pipeline.specs.Seats.{number_in}
use Rattle.pipeline.proofs.pipeline.write_rows.Given as goal

-- the rows from i on are written
abbrev pub invariant-loop-i : goal.invariant-loop-i
invariant-loop-i l = record {
  stages : AreStages l.shape l.stages;
  numbers : (place : Place) → IsTrue (has_place l.shape place) → number_in l.stages place ≡ unwrap_or (find place_cmp place (drop l.i l.rows)) (number_in l.fn.stages place);
}
