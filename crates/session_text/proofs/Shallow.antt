-- The value of a session nests no deeper than its grammar.
use Rattle.std.proofs.Common.{ℕ, ◌≤◌, List, [], ◌∷◌, map, arith}
use Rattle.std.proofs.Math.Nat.{max-le}
use Rattle.std.specs.FinMap.{entries}
use Rattle.serde_json.specs.Data.{Data, depth, items_depth}
use Rattle.serde_json.specs.Read.{max_depth}
use Rattle.serde_json.specs.View.{items_of}
use Rattle.txn_model.specs.declared.op.Act.{Act}
use Rattle.txn_model.specs.declared.op.Act.TheVariants.{Read, Put, Add, Choose}
use Rattle.txn_model.specs.declared.op.Needs.{Needs}
use Rattle.txn_model.specs.declared.op.TupleId.{TupleId}
use Rattle.txn_model.specs.Needs.{needs_list}
use Rattle.txn_model.specs.Tuples.{Tuples}
use Rattle.stage_layout.specs.declared.layout.LayoutRow.{LayoutRow}
use Rattle.catalogue.specs.Plan.{Plan, PlainItem, Run, Lose}
use Rattle.session_text.specs.SessionData.{need_data, needs_data, act_data, op_data, item_data, client_data, clients_data, layout_row_data, layout_data, tuple_row_data, tuples_data, data_of}

not_deep : {A : Type 0} (n : ℕ) (f : A → Data) → ((x : A) → depth (f x) ≤ n) → (xs : List A) → items_depth (items_of (map f xs)) ≤ n
not_deep n f each [] = omega arith
not_deep n f each (x ∷ xs) = max-le (each x) (not_deep n f each xs)

needs_deep : (needs : Needs) → depth (needs_data needs) ≤ 2
needs_deep needs = let deep = not_deep 1 need_data (λ need. omega arith) (needs_list needs) in omega (arith, deep)

act_deep : (t : TupleId) (needs : Needs) (act : Act) → depth (act_data t needs act) ≤ 3
act_deep t needs Read = omega arith
act_deep t needs (Put base) = omega (arith, needs_deep needs)
act_deep t needs (Add base) = omega (arith, needs_deep needs)
act_deep t needs (Choose limit above below) = omega (arith, needs_deep needs)

item_deep : (item : PlainItem) → depth (item_data item) ≤ 4
item_deep (Run ops) = let deep = not_deep 3 op_data (λ op. act_deep op.tuple op.needs op.act) ops in omega (arith, deep)
item_deep Lose = omega arith

client_deep : (items : List PlainItem) → depth (client_data items) ≤ 5
client_deep items = let deep = not_deep 4 item_data item_deep items in omega (arith, deep)

clients_deep : (clients : List (List PlainItem)) → depth (clients_data clients) ≤ 6
clients_deep clients = let deep = not_deep 5 client_data client_deep clients in omega (arith, deep)

layout_deep : (rows : List LayoutRow) → depth (layout_data rows) ≤ 2
layout_deep rows = let deep = not_deep 1 layout_row_data (λ row. omega arith) rows in omega (arith, deep)

tuples_deep : (tuples : Tuples) → depth (tuples_data tuples) ≤ 2
tuples_deep tuples = let deep = not_deep 1 tuple_row_data (λ row. omega arith) (entries tuples) in omega (arith, deep)

pub session_deep : (plan : Plan) → depth (data_of plan) ≤ max_depth
session_deep plan = omega (arith, clients_deep plan.clients, layout_deep plan.layout, tuples_deep plan.tuples)
