-- The operations of a script on each side: those in the switch, and those on hosts.
use Rattle.std.specs.Prelude.{◌≡◌, ℤ, not, List, map, filter, None, unwrap_or, IsTrue}
use Rattle.std.specs.List.{zip, AllByRecursion}
use Rattle.txn_model.specs.ScriptCheck.{script_fault}
use Rattle.txn_model.specs.Tuples.{Tuples, value_at}
use Rattle.txn_model.specs.declared.op.Op.{Op}
use Rattle.txn_model.specs.declared.op.TupleId.{TupleId}
use Rattle.txn_model.specs.declared.pairs.Pair.{Pair}
use Rattle.txn_model.specs.declared.place.Place.{Place}
use Rattle.stage_layout.specs.Late.{is_hot, first_bad_turn}
use Rattle.stage_layout.specs.Layout.{place_of}
use Rattle.stage_layout.specs.Shape.{has_place}
use Rattle.stage_layout.specs.declared.layout.LayoutRow.{LayoutRow}
use Rattle.stage_layout.specs.declared.shape.Shape.{Shape}

-- the operations on tuples in the switch, in script order
abbrev pub hot_ops : List LayoutRow → List Op → List Op
hot_ops rows ops = filter (λ op. is_hot rows op.tuple) ops

-- the operations on tuples of hosts
abbrev pub cold_ops : List LayoutRow → List Op → List Op
cold_ops rows ops = filter (λ op. not (is_hot rows op.tuple)) ops

-- the place of a tuple that is in the switch
abbrev pub hot_place : List LayoutRow → TupleId → Place
hot_place rows t = unwrap_or (place_of rows t) (record { stage = 0; array = 0; cell = 0 })

-- the values of the operations on hosts in this map
abbrev pub cold_values : List LayoutRow → List Op → Tuples → List ℤ
cold_values rows ops m = map (λ op. value_at m op.tuple) (cold_ops rows ops)

-- the values that the operations on hosts found, from a pair for each operation
abbrev pub found_values : List LayoutRow → List Op → List Pair → List ℤ
found_values rows ops pairs = map (λ step. step.1.was) (filter (λ step. not (is_hot rows step.0.tuple)) (zip ops pairs))

-- the script can be run, and one visit of the switch is enough for it
pub record IsOneVisit (rows : List LayoutRow) (ops : List Op) : Type 0 where
  pub script : script_fault ops ≡ None
  pub turns : first_bad_turn rows ops ≡ None

-- the places of the script's hot operations are those of a switch of this shape
abbrev pub HasPlaces : Shape → List LayoutRow → List Op → Type 0
HasPlaces shape rows ops = AllByRecursion (λ op. IsTrue (has_place shape (hot_place rows op.tuple))) (hot_ops rows ops)
