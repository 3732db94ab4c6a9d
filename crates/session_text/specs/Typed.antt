-- Plans whose numbers are those of their types, as in every session that a program holds.
use Rattle.std.specs.Prelude.{◌<◌, ◌^◌, ℤ, List, [], ◌∷◌, FitsSigned}
use Rattle.std.specs.FinMap.{entries}
use Rattle.std.specs.Int.{w64}
use Rattle.std.specs.List.{AllByRecursion}
use Rattle.txn_model.specs.Needs.{needs_list}
use Rattle.txn_model.specs.declared.op.Act.{Act}
use Rattle.txn_model.specs.declared.op.Act.TheVariants.{Read, Put, Add, Choose}
use Rattle.txn_model.specs.declared.op.Need.{Need}
use Rattle.txn_model.specs.declared.op.Op.{Op}
use Rattle.txn_model.specs.declared.op.TupleId.{TupleId}
use Rattle.stage_layout.specs.declared.layout.LayoutRow.{LayoutRow}
use Rattle.stage_layout.specs.declared.shape.Shape.{Shape}
use Rattle.catalogue.specs.Plan.{Plan, PlainItem, Run, Lose}
use Rattle.catalogue.specs.declared.actor.Actor.{Actor}
use Rattle.catalogue.specs.declared.actor.Actor.TheVariants.{Client, Port, Stage, Recover}

-- a tuple's number has 32 bits
abbrev pub IsTypedTuple : TupleId → Type 0
IsTypedTuple tuple = tuple.0 < 2 ^ 32

-- a tuple and its first value, a signed number of 64 bits
abbrev pub IsTypedRow : TupleId × ℤ → Type 0
IsTypedRow row = IsTypedTuple row.0 × FitsSigned w64 row.1

-- a hot tuple and the three numbers of its place
pub record IsTypedLayoutRow (row : LayoutRow) : Type 0 where
  pub tuple : IsTypedTuple row.tuple
  pub stage : row.place.stage < 2 ^ 8
  pub array : row.place.array < 2 ^ 8
  pub cell : row.place.cell < 2 ^ 16

-- the number of an operation has 8 bits
abbrev pub IsTypedNeed : Need → Type 0
IsTypedNeed need = need.from < 2 ^ 8

-- the numbers that an act carries
abbrev pub act_numbers : Act → List ℤ
act_numbers Read = []
act_numbers (Put base) = base ∷ []
act_numbers (Add base) = base ∷ []
act_numbers (Choose limit above below) = limit ∷ above ∷ below ∷ []

-- an operation's tuple, its act's signed numbers and its needs
pub record IsTypedOp (op : Op) : Type 0 where
  pub tuple : IsTypedTuple op.tuple
  pub act : AllByRecursion (FitsSigned w64) (act_numbers op.act)
  pub needs : AllByRecursion IsTypedNeed (needs_list op.needs)

-- each operation of a transaction
abbrev pub IsTypedItem : PlainItem → Type 0
IsTypedItem (Run ops) = AllByRecursion IsTypedOp ops
IsTypedItem Lose = Unit {0}

-- the number of an actor has 8 bits
abbrev pub IsTypedActor : Actor → Type 0
IsTypedActor (Client client) = client < 2 ^ 8
IsTypedActor (Port client) = client < 2 ^ 8
IsTypedActor (Stage stage) = stage < 2 ^ 8
IsTypedActor Recover = Unit {0}

-- a shape's numbers have 8 bits, but its cells 16
pub record IsTypedShape (shape : Shape) : Type 0 where
  pub stages : shape.stages < 2 ^ 8
  pub arrays : shape.arrays < 2 ^ 8
  pub cells : shape.cells < 2 ^ 16
  pub split : shape.split < 2 ^ 8
  pub hosts : shape.hosts < 2 ^ 8

-- all numbers that a session writes are in the ranges of their types
pub record IsTyped (plan : Plan) : Type 0 where
  pub shape : IsTypedShape plan.shape
  pub tuples : AllByRecursion IsTypedRow (entries plan.tuples)
  pub layout : AllByRecursion IsTypedLayoutRow plan.layout
  pub tries : plan.tries < 2 ^ 8
  pub clients : AllByRecursion (AllByRecursion IsTypedItem) plan.clients
