-- The layout that is chosen for a list of tuples, with its passes.
use Rattle.std.specs.Prelude.{◌≡◌, List, nat_lt, if◌then◌else◌}
use Rattle.txn_model.specs.declared.op.TupleId.{TupleId}
use Rattle.stage_layout.specs.declared.layout.LayoutRow.{LayoutRow}
use Rattle.catalogue.specs.Plan.{Plan}
use Rattle.declust.specs.Greedy.{IsGreedy}
use Rattle.declust.specs.Plain.{plain_rows}
use Rattle.declust.specs.Total.{total}
use Rattle.declust.specs.declared.chosen.SpreadLayout.{SpreadLayout}

-- the greedy layout, or the plain one where that has the smaller total
pub record IsSpread (plan : Plan) (tuples : List TupleId) (spread : SpreadLayout) : Type 0 where
  pub greedy : List LayoutRow
  pub filled : IsGreedy plan tuples greedy
  pub layout : spread.layout ≡ (let plain = plain_rows plan.shape tuples in if nat_lt (total plan plain) (total plan greedy) then plain else greedy)
  pub passes : spread.passes ≡ total plan spread.layout
  pub plain : spread.plain ≡ total plan (plain_rows plan.shape tuples)
