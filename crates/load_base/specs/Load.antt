-- The session of a load: its switch, its tuples and which of them are hot, and the transactions that are drawn.
use Rattle.std.specs.Prelude.{◌≡◌, ℕ, ℤ, ◌*◌, ◌/◌, ◌%◌, ◌<◌, ◌≤◌, List, [], map, All, None}
use Rattle.std.specs.List.{range_with_len}
use Rattle.std.specs.FinMap as fin
use Rattle.txn_model.specs.ScriptCheck.{script_fault}
use Rattle.txn_model.specs.Tuples.{Tuples}
use Rattle.txn_model.specs.declared.op.Op.{Op}
use Rattle.txn_model.specs.declared.op.TupleId.{TupleId}
use Rattle.stage_layout.specs.Late.{first_bad_turn}
use Rattle.stage_layout.specs.declared.layout.LayoutRow.{LayoutRow}
use Rattle.stage_layout.specs.declared.shape.Shape.{Shape}
use Rattle.catalogue.specs.Plan.{Plan, PlainItem, Run, Lose}
use Rattle.schedule.specs.Dice.{Words, words_of, seeded}
use Rattle.load_base.specs.Times.{times}
use Rattle.load_base.specs.declared.size.Size.{Size}

abbrev pub load_shape : Shape
load_shape = record { stages = 12; arrays = 4; cells = 4096; split = 6; hosts = 4 }

abbrev pub tuple : ℕ → TupleId
tuple id = record { 0 = id }

-- each tuple with the same first value
abbrev pub first_rows : ℕ → ℤ → List (TupleId × ℤ)
first_rows tuples value = map (λ id. (tuple id, value)) (range_with_len 0 tuples)

abbrev pub first_tuples : ℕ → ℤ → Tuples
first_tuples tuples value = fin.from_sorted (first_rows tuples value)

-- hot tuples go around the stages, then the arrays, then the cells
abbrev pub hot_row : ℕ → LayoutRow
hot_row id = record { tuple = tuple id; place = record { stage = id % 12; array = id / 12 % 4; cell = id / 48 } }

abbrev pub hot_rows : ℕ → List LayoutRow
hot_rows hot = map hot_row (range_with_len 0 hot)

-- an item that runs a script which is drawn so
abbrev pub run_drawn : (Words → List Op × Words) → Words → PlainItem × Words
run_drawn script words = (Run (script words).0, (script words).1)

-- for each client in order its items in order
abbrev pub drawn_clients : Size → (Words → List Op × Words) → Words → List (List PlainItem) × Words
drawn_clients size script words = times (times (run_drawn script) size.scripts) size.clients words

-- the session of this size in which each script is drawn so
abbrev pub load_of : Size → (Words → List Op × Words) → Plan
load_of size script = record {
  shape = load_shape;
  tuples = first_tuples size.tuples size.value;
  layout = hot_rows size.hot;
  tries = 8;
  clients = (drawn_clients size script (words_of (seeded size.number))).0;
  schedule = [];
}

-- a session has room for it
pub record IsSize (size : Size) : Type 0 where
  pub clients : size.clients ≤ 8
  pub items : size.clients * size.scripts ≤ 4096
  pub tuples : size.tuples ≤ 65536
  pub hot : size.hot ≤ size.tuples

-- a session of this size can run the script
pub record IsFitFor (size : Size) (ops : List Op) : Type 0 where
  pub tuples : All (λ op. op.tuple.0 < size.tuples) ops
  pub script : script_fault ops ≡ None
  pub turns : first_bad_turn (hot_rows size.hot) ops ≡ None

abbrev pub IsFitItemFor : Size → PlainItem → Type 0
IsFitItemFor size (Run ops) = IsFitFor size ops
IsFitItemFor size Lose = Unit {0}
