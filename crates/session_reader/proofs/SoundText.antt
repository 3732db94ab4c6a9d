-- A session that was read is sound.
use Rattle.std.proofs.Common.{◌≡◌, ℕ, ◌+◌, ◌≤◌, ℤ, IsTrue, List, [], ◌∷◌, map, length, All, get_or, Option, Some, None, is_none, IsSome, Result, Ok, Err, IfOk, if◌then◌else◌, refl, sym, ap, subst, ◌∙◌, arith, rules}
use Rattle.std.specs.Bool.{⊤}
use Rattle.std.specs.FinMap as fin
use Rattle.std.specs.FinMap.{is_sorted}
use Rattle.std.specs.List.{position_from}
use Rattle.std.specs.Option.{ok_or}
use Rattle.std.proofs.lemmas.List.{length-map}
use Rattle.std.proofs.lemmas.List.Elements.{All-cons}
use Rattle.txn_model.specs.ScriptCheck.{first_repeat, first_bad_use, script_fault}
use Rattle.txn_model.specs.Tuples.{Tuples, tuple_cmp}
use Rattle.txn_model.specs.declared.op.Op.{Op}
use Rattle.txn_model.proofs.FirstPlaces.{first_counted}
use Rattle.txn_model.proofs.SortedRows.{rows_are_entries}
use Rattle.txn_model.proofs.TupleOrder.{tuple_cmp_total}
use Rattle.stage_layout.specs.Late.{first_bad_turn}
use Rattle.stage_layout.specs.Layout.{layout_fault}
use Rattle.catalogue.specs.PlanOf.{plan_of}
use Rattle.catalogue.specs.declared.session.Session.{Session}
use Rattle.catalogue.specs.Plan.{Plan, PlainItem, Run, Lose}
use Rattle.catalogue.specs.Sound.{IsWithinLimits, IsFit, IsFitItem, IsActor, IsSound}
use Rattle.catalogue.specs.declared.actor.Actor.{Actor}
use Rattle.catalogue.specs.declared.actor.Actor.TheVariants.{Client, Port, Stage, Recover}
use Rattle.schedule.specs.Words.{actor_of}
use Rattle.schedule.proofs.WordLaws.{actor_word-actor_of}
use Rattle.session_draft.specs.Answers.{Answers}
use Rattle.session_draft.specs.Draft.{◌>>=◌}
use Rattle.session_draft.specs.Written.{Written}
use Rattle.session_reader.specs.Built.{item_of, row_of, unscheduled}
use Rattle.session_reader.specs.Faults.{place_fault, refuse}
use Rattle.session_reader.specs.FirstPlace.{first_place}
use Rattle.session_reader.specs.Limits.{over_limit}
use Rattle.session_reader.specs.Rules.{first_unknown, HasOps, OfScript}
use Rattle.session_reader.specs.SessionOf.{scripts_fit, parts_fit, words_of, actors_of, with_schedule, checked}
use Rattle.session_reader.specs.declared.fault.SessionFault.{SessionFault}
use Rattle.session_reader.specs.declared.fault.SessionFault.TheVariants.{OverLimit, BadTuple, TupleTwice, BadUse, BadTurn, BadActor, NoMemory}
use Rattle.session_reader.proofs.ScriptLists.{FindsNone, none_found, both, ready_for_turns, scripts_have_ops}
use Rattle.session_reader.proofs.Searches.{actors_from, actors_counted}
use Rattle.session_reader.proofs.WithinLimits.{Within, within, items_built}

-- what ends well began well
record Passed {A B : Type 0} (r : Result A SessionFault) (f : A → Result B SessionFault) (b : B) : Type 0 where
  first : A
  was : r ≡ Ok first
  next : f first ≡ Ok b

passed : {A B : Type 0} (r : Result A SessionFault) (f : A → Result B SessionFault) (b : B) → (r >>= f) ≡ Ok b → Passed r f b
passed (Ok a) f b e = record { first = a; was = refl; next = e }
passed (Err fault) f b e = cc

clean : {A : Type 0} (fault : A → SessionFault) (found : Option A) (done : ⊤) → refuse fault found ≡ Ok done → found ≡ None
clean fault None done e = refl
clean fault (Some a) done e = cc

clean_first : {A B : Type 0} (fault : A → SessionFault) (found : Option A) (f : ⊤ → Result B SessionFault) (b : B) → (refuse fault found >>= f) ≡ Ok b → (found ≡ None) × (f tt ≡ Ok b)
clean_first fault None f b e = (refl, e)
clean_first fault (Some a) f b e = cc

there : (found : Option ℤ) (k : ℕ) (rest : Option ℕ) → (if is_none found then Some k else rest) ≡ None → IsSome found × (rest ≡ None)
there (Some value) k rest e = (refl, e)
there None k rest e = cc

known_from : (tuples : Tuples) (k : ℕ) (ops : List Op) → position_from (λ op. is_none (fin.get tuples op.tuple)) k ops ≡ None → All (λ op. IsSome (fin.get tuples op.tuple)) ops
known_from tuples k [] e = search (rules, arith)
known_from tuples k (op ∷ ops) e =
    let split = there (fin.get tuples op.tuple) k (position_from (λ op. is_none (fin.get tuples op.tuple)) (k + 1) ops) e in
    All-cons (λ (op : Op). IsSome (fin.get tuples op.tuple)) op ops split.0 (known_from tuples (k + 1) ops split.1)

known_tuples : (tuples : Tuples) (ops : List Op) → first_unknown tuples ops ≡ None → All (λ op. IsSome (fin.get tuples op.tuple)) ops
known_tuples tuples ops e = known_from tuples 0 ops (first_counted (λ (op : Op). is_none (fin.get tuples op.tuple)) ops ∙ e)

fit_item : (plan : Plan) (item : PlainItem) → OfScript (IsFit plan) item → IsFitItem plan item
fit_item plan (Run ops) h = h
fit_item plan Lose h = tt

-- the parts of a plan fit together, whatever its schedule
record Fits (plan : Plan) (schedule : List Actor) : Type 0 where
  layout : layout_fault plan.shape plan.tuples plan.layout ≡ None
  items : All (All (IsFitItem (with_schedule plan schedule))) plan.clients

parts : (plan : Plan) (schedule : List Actor) (done : ⊤) → All (All (OfScript HasOps)) plan.clients → parts_fit plan ≡ Ok done → Fits plan schedule
unfolding parts_fit scripts_fit
parts plan schedule done ops e =
    let clients = plan.clients in
    let tuples = clean_first BadTuple (first_place (first_unknown plan.tuples) clients) _ done e in
    let layout = clean_first place_fault (layout_fault plan.shape plan.tuples plan.layout) _ done tuples.1 in
    let once = clean_first TupleTwice (first_place first_repeat clients) _ done layout.1 in
    let earlier = clean_first BadUse (first_place first_bad_use clients) _ done once.1 in
    let turns = clean BadTurn (first_place (first_bad_turn plan.layout) clients) done earlier.1 in
    let unfaulty = ready_for_turns clients ops once.0 earlier.0 in
    let known = none_found (first_unknown plan.tuples) clients tuples.0 in
    let turned = none_found (first_bad_turn plan.layout) clients turns in
    let first_two = both (FindsNone (first_unknown plan.tuples)) (λ ops. script_fault ops ≡ None) (λ ops. (first_unknown plan.tuples ops ≡ None) × (script_fault ops ≡ None)) (λ _ p q. (p, q)) clients known unfaulty in
    let fit = both (λ ops. (first_unknown plan.tuples ops ≡ None) × (script_fault ops ≡ None)) (FindsNone (first_bad_turn plan.layout)) (IsFit (with_schedule plan schedule))
    (λ ops p q. record { tuples = known_tuples plan.tuples ops p.0; script = p.1; turns = q }) clients first_two turned in
    record {
      layout = layout.0;
      items = λ k d lt i d' below. fit_item (with_schedule plan schedule) (get_or (get_or clients k d) i d') (fit k d lt i d' below);
    }

named : (found : Option Actor) (fault : SessionFault) (actor : Actor) → ok_or found fault ≡ Ok actor → found ≡ Some actor
named (Some a) fault actor e = cc
named None fault actor e = cc

actors : (plan : Plan) (k : ℕ) (words : List (List ℕ)) (list : List Actor) → IsWithinLimits plan → actors_from plan k words ≡ Ok list → All (IsActor plan) list
actors plan k [] list limits e = let empty : [] ≡ list = cc in subst (All (IsActor plan)) empty (search (rules, arith))
actors plan k (word ∷ words) list limits e =
    let one = passed (ok_or (actor_of plan word) (BadActor k)) _ list e in
    let rest = passed (actors_from plan (k + 1) words) _ list one.next in
    let same : (one.first ∷ rest.first) ≡ list = cc in
    let is = (actor_word-actor_of plan word one.first limits (named (actor_of plan word) (BadActor k) one.first one.was)).1 in
    subst (All (IsActor plan)) same (All-cons (IsActor plan) one.first rest.first is (actors plan (k + 1) words rest.first limits rest.was))

actor_kept : (plan : Plan) (schedule : List Actor) (actor : Actor) → IsActor plan actor → IsActor (with_schedule plan schedule) actor
actor_kept plan schedule (Client client) h = h
actor_kept plan schedule (Port client) h = h
actor_kept plan schedule (Stage stage) h = h
actor_kept plan schedule Recover h = tt

limits_kept : (w : Written) → IsTrue (is_sorted tuple_cmp w.tuples) → Within w → IsWithinLimits (unscheduled w)
limits_kept w ascending h = record {
  shape = h.shape;
  tuples =
      let rows : length w.tuples ≡ fin.len (unscheduled w).tuples = ap length (rows_are_entries tuple_cmp_total w.tuples ascending) ∙ sym (fin.len-entries (unscheduled w).tuples) in
      subst (λ (n : ℕ). n ≤ 65536) rows h.tuples;
  rows = omega (arith, length-map w.layout row_of, h.layout);
  tries = h.tries;
  clients = omega (arith, length-map w.clients (map item_of), h.clients);
  items = omega (arith, items_built w.clients, h.items);
}

pub checked_is_sound : (w : Written) (plan : Plan) → IsTrue (is_sorted tuple_cmp w.tuples) → checked w ≡ Ok plan → IsSound plan
unfolding checked
checked_is_sound w plan ascending e =
    let built = unscheduled w in
    let limit = clean_first OverLimit (over_limit w) _ plan e in
    let fit = passed (parts_fit built) _ plan limit.1 in
    let read = passed (actors_of built (words_of w.schedule)) _ plan fit.next in
    let limits = limits_kept w ascending (within w limit.0) in
    let parts_of_plan = parts built read.first fit.first (scripts_have_ops w limit.0) fit.was in
    let same : with_schedule built read.first ≡ plan = cc in
    subst IsSound same (record {
      limits = record { shape = limits.shape; tuples = limits.tuples; rows = limits.rows; tries = limits.tries; clients = limits.clients; items = limits.items };
      layout = parts_of_plan.layout;
      items = parts_of_plan.items;
      schedule = λ k d lt. actor_kept built read.first (get_or read.first k d) (actors built 0 (words_of w.schedule) read.first limits (actors_counted built (words_of w.schedule) ∙ read.was) k d lt);
    })

-- the same of what a call answers
pub answer_is_sound : (w : Written) (r : Result Session SessionFault) → IsTrue (is_sorted tuple_cmp w.tuples) → Answers NoMemory plan_of r (checked w) → IfOk r (λ session. IsSound (plan_of session))
answer_is_sound w (Ok session) ascending e = checked_is_sound w (plan_of session) ascending e
answer_is_sound w (Err fault) ascending e = search rules
