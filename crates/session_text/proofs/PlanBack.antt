-- What is built of the draft of a session is the session, without its schedule.
use Rattle.std.proofs.Common.{◌≡◌, List, [], ◌∷◌, map, refl, ap, ◌∙◌}
use Rattle.std.specs.FinMap.{entries, from_sorted, entries_sorted, entries-from_sorted, same_entries_map}
use Rattle.txn_model.specs.Tuples.{Tuples, tuple_cmp}
use Rattle.txn_model.specs.declared.op.Op.{Op}
use Rattle.txn_model.proofs.NeedsLaws.{needs_of-needs_list}
use Rattle.catalogue.specs.Plan.{Plan, PlainItem, Run, Lose}
use Rattle.session_reader.specs.Built.{op_of, item_of, row_of, unscheduled}
use Rattle.session_reader.specs.SessionOf.{with_schedule}
use Rattle.session_text.specs.AsWritten.{op_written, item_written, row_written, written_of}

op_back : (op : Op) → op_of (op_written op) ≡ op
op_back op = rw (needs_of-needs_list op.needs) refl

each_back : {A B : Type 0} (f : B → A) (g : A → B) → ((a : A) → f (g a) ≡ a) → (xs : List A) → map f (map g xs) ≡ xs
each_back f g back [] = refl
each_back f g back (x ∷ xs) = ap (λ y. y ∷ map f (map g xs)) (back x) ∙ ap (λ ys. x ∷ ys) (each_back f g back xs)

item_back : (item : PlainItem) → item_of (item_written item) ≡ item
item_back (Run ops) = ap Run (each_back op_of op_written op_back ops)
item_back Lose = refl

tuples_back : (tuples : Tuples) → from_sorted (entries tuples) ≡ tuples
tuples_back tuples = same_entries_map _ _ (entries-from_sorted tuple_cmp (entries tuples) (entries_sorted tuples))

pub plan_back : (plan : Plan) → unscheduled (written_of plan) ≡ with_schedule plan []
plan_back plan =
    let layout = each_back row_of row_written (λ _. refl) plan.layout in
    let clients = each_back (map item_of) (map item_written) (each_back item_of item_written item_back) plan.clients in
    rw (tuples_back plan.tuples, layout, clients) refl
