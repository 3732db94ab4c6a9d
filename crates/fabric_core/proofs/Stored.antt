-- The store has the tuples of hosts, and no other.
use Rattle.std.proofs.Common.{◌≡◌, ◌⊎◌, ℕ, ◌==◌, ◌&&◌, not, ℤ, Bool, true, false, cond, List, [], ◌∷◌, filter, Option, Some, None, is_some, option_map, inl, inr, refl, sym, ap, ◌∙◌, arith, if◌then◌else◌}
use Rattle.std.specs.FinMap as fin
use Rattle.std.specs.Cmp.{unsigned_tied}
use Rattle.std.specs.Ordering.{eq_by_cmp}
use Rattle.std.proofs.lemmas.Bool.Decides.{nat_tests}
use Rattle.txn_model.specs.Tuples.{tuple_cmp}
use Rattle.txn_model.specs.declared.op.TupleId.{TupleId}
use Rattle.txn_model.specs.declared.stamp.Seen.{Seen}
use Rattle.txn_model.proofs.TupleOrder.{tuple_cmp_total}
use Rattle.history_model.specs.Chain.{Step}
use Rattle.host_store.specs.Store as stores
use Rattle.host_store.specs.Store.{Store, first_seen}
use Rattle.stage_layout.specs.Late.{is_hot}
use Rattle.stage_layout.specs.declared.layout.LayoutRow.{LayoutRow}
use Rattle.switch_model.specs.Switch.{Switch, Desk, Vacant, Posted, Entered, desk_at, next_number}
use Rattle.catalogue.specs.Plan.{Plan}
use Rattle.catalogue.specs.Sound.{IsSound}
use Rattle.catalogue.specs.declared.actor.Actor.{Actor}
use Rattle.core_model.specs.State.{script_now}
use Rattle.core_model.proofs.Opening.{first_value}
use Rattle.fabric_model.specs.Laws.{IsReached}
use Rattle.fabric_model.specs.Run.{opening, host_rows}
use Rattle.fabric_model.specs.State.{State, client_at}
use Rattle.fabric_model.specs.Step.{lost, granted, refused, released, decided, logged, posted, taken, installed, switched, entered, behind_entry, recovered}
use Rattle.fabric_model.proofs.MoveKinds.{Move, Loses, Grants, Refuses, Releases, Decides, Logs, Posts, Takes, Installs, Moved, ByClient, AtPort, AtStage, Recovers, move_of}
use Rattle.fabric_model.proofs.Runs.{of_reached}
use Rattle.fabric_core.proofs.ColdOps.{IsCold, cold_op_at, cold_there, in_session}

-- a tuple of the session that is on a host
abbrev pub is_on_host : Plan → TupleId → Bool
is_on_host plan t = is_some (fin.get plan.tuples t) && not (is_hot plan.layout t)

abbrev HasHostTuples : Plan → State → Type 0
HasHostTuples plan s = (t : TupleId) → is_some (fin.get s.store t) ≡ is_on_host plan t

equal : (a b : ℕ) → (a == b) ≡ true → a ≡ b
equal a b e = grind (arith, nat_tests)

-- at the opening

none_hot : (a : Bool) → (a && false) ≡ false
none_hot true = refl
none_hot false = refl

found_rows : (rows : List LayoutRow) (t : TupleId) (values : List (TupleId × ℤ)) → is_some (fin.find tuple_cmp t (filter (λ row. not (is_hot rows row.0)) values)) ≡ (is_some (fin.find tuple_cmp t values) && not (is_hot rows t))
found_rows rows t [] = refl
found_rows rows t (row ∷ values) = by (is_hot rows row.0) refl (found_rows rows t values)
  where
    others : List (TupleId × ℤ)
    others = filter (λ r. not (is_hot rows r.0)) values

    same : eq_by_cmp tuple_cmp t row.0 ≡ true → is_hot rows row.0 ≡ is_hot rows t
    same e = ap (λ (n : ℕ). is_hot rows (record { 0 = n })) (sym (equal t.0 row.0.0 (sym (unsigned_tied t.0 row.0.0) ∙ e)))

    dropped : (eq own : Bool) → (eq ≡ true → true ≡ own) → is_some (fin.find tuple_cmp t others) ≡ (is_some (fin.find tuple_cmp t values) && not own)
        → is_some (fin.find tuple_cmp t others) ≡ (is_some (cond eq (Some row.1) (fin.find tuple_cmp t values)) && not own)
    dropped false own e rest = rest
    dropped true true e rest = rest ∙ none_hot (is_some (fin.find tuple_cmp t values))
    dropped true false e rest = let clash : true ≡ false = e refl in cc

    taken_in : (eq own : Bool) → (eq ≡ true → false ≡ own) → is_some (fin.find tuple_cmp t others) ≡ (is_some (fin.find tuple_cmp t values) && not own)
        → is_some (cond eq (Some row.1) (fin.find tuple_cmp t others)) ≡ (is_some (cond eq (Some row.1) (fin.find tuple_cmp t values)) && not own)
    taken_in false own e rest = rest
    taken_in true true e rest = let clash : false ≡ true = e refl in cc
    taken_in true false e rest = refl

    by : (hot : Bool) → is_hot rows row.0 ≡ hot → is_some (fin.find tuple_cmp t others) ≡ (is_some (fin.find tuple_cmp t values) && not (is_hot rows t))
        → is_some (fin.find tuple_cmp t (if not hot then row ∷ others else others)) ≡ (is_some (fin.find tuple_cmp t (row ∷ values)) && not (is_hot rows t))
    by true hot rest = dropped (eq_by_cmp tuple_cmp t row.0) (is_hot rows t) (λ e. sym hot ∙ same e) rest
    by false cold rest = taken_in (eq_by_cmp tuple_cmp t row.0) (is_hot rows t) (λ e. sym cold ∙ same e) rest

at_opening : (plan : Plan) → HasHostTuples plan (opening plan)
unfolding opening
at_opening plan t =
    ap is_some (first_value (host_rows plan) t) ∙ mapped (fin.find tuple_cmp t (host_rows plan)) ∙ found_rows plan.layout t (fin.entries plan.tuples)
    ∙ ap (λ (o : Option ℤ). is_some o && not (is_hot plan.layout t)) (sym (fin.get-entries plan.tuples t))
  where
    mapped : (o : Option ℤ) → is_some (option_map first_seen o) ≡ is_some o
    mapped None = refl
    mapped (Some v) = refl

-- behind a move

record IsStored (plan : Plan) (s : State) (c : ℕ) (after : State) : Type 0 where
  pub done : Step
  pub cold : IsCold plan.layout (script_now plan c (client_at s c)) done.0
  pub store : after.store ≡ stores.installed s.store done.0.tuple done.1.now (client_at s c).last

store_moved : (plan : Plan) (s : State) (c : ℕ) (after : State) → Move plan s c after → (after.store ≡ s.store) ⊎ IsStored plan s c after
unfolding lost granted refused released decided logged posted taken installed
store_moved plan s c after (Loses now phase item up is) = inl (ap (λ (z : State). z.store) is)
store_moved plan s c after (Grants op asks next free is) = inl (ap (λ (z : State). z.store) is)
store_moved plan s c after (Refuses op by asks next held is) = inl (ap (λ (z : State). z.store) is)
store_moved plan s c after (Releases phase is) = inl (ap (λ (z : State). z.store) is)
store_moved plan s c after (Decides asks next cold some is) = inl (ap (λ (z : State). z.store) is)
store_moved plan s c after (Logs asks next hot is) = inl (ap (λ (z : State). z.store) is)
store_moved plan s c after (Posts now next phase up to is) = inl (ap (λ (z : State). z.store) is)
store_moved plan s c after (Takes now next answer phase up has to is) = inl (ap (λ (z : State). z.store) is)
store_moved plan s c after (Installs p phase at is) = let x = client_at s c in inr (record {
  done = p;
  cold = cold_there plan.layout (script_now plan c x) x.installed p.0 (cold_op_at plan.layout (script_now plan c x) x.reply x.installed p at);
  store = ap (λ (z : State). z.store) is;
})

store_at_port : (s : State) (c : ℕ) (desk : Desk) (number : ℕ) (next : Switch) → (behind_entry s c desk number next).store ≡ s.store
unfolding entered switched
store_at_port s c Vacant number next = refl
store_at_port s c (Posted p) number next = refl
store_at_port s c (Entered k) number next = refl

kept_by_client : (plan : Plan) (s : State) (c : ℕ) (after : State) → IsSound plan → HasHostTuples plan s → Move plan s c after → HasHostTuples plan after
kept_by_client plan s c after sound all move t = elim (store_moved plan s c after move) [
  | inl same ↦ ap (λ (m : Store). is_some (fin.get m t)) same ∙ all t
  | inr put ↦ ap (λ (m : Store). is_some (fin.get m t)) put.store ∙ one put
]
  where
    one : (put : IsStored plan s c after) → is_some (fin.get (stores.installed s.store put.done.0.tuple put.done.1.now (client_at s c).last) t) ≡ is_on_host plan t
    one put = ap is_some (fin.get-insert tuple_cmp_total s.store put.done.0.tuple _ t) ∙ by (eq_by_cmp tuple_cmp t put.done.0.tuple) (unsigned_tied t.0 put.done.0.tuple.0) (all t) _
      where
        here : is_on_host plan put.done.0.tuple ≡ true
        here = ap (λ (b : Bool). b && not (is_hot plan.layout put.done.0.tuple)) (in_session plan c (client_at s c).seq put.done.0 sound put.cold) ∙ ap not put.cold.host

        by : (b : Bool) → b ≡ (t.0 == put.done.0.tuple.0) → is_some (fin.get s.store t) ≡ is_on_host plan t → (seen : Seen) → is_some (cond b (Some seen) (fin.get s.store t)) ≡ is_on_host plan t
        by false e old seen = old
        by true e old seen = sym (ap (λ (n : ℕ). is_on_host plan (record { 0 = n })) (equal t.0 put.done.0.tuple.0 (sym e)) ∙ here)

kept : (plan : Plan) (s after : State) (actor : Actor) → IsSound plan → HasHostTuples plan s → Moved plan s after actor → HasHostTuples plan after
unfolding switched recovered
kept plan s after actor sound all (ByClient c within move) = kept_by_client plan s c after sound all move
kept plan s after actor sound all (AtPort c now next up to is) = λ t. ap (λ (z : State). is_some (fin.get z.store t)) is ∙ ap (λ (m : Store). is_some (fin.get m t)) (store_at_port s c (desk_at now c) (next_number now) next) ∙ all t
kept plan s after actor sound all (AtStage x now next up to is) = λ t. ap (λ (z : State). is_some (fin.get z.store t)) is ∙ all t
kept plan s after actor sound all (Recovers order down found is) = λ t. ap (λ (z : State). is_some (fin.get z.store t)) is ∙ all t

pub stored_same : (plan : Plan) (s : State) → IsReached plan s → (t : TupleId) → is_some (fin.get s.store t) ≡ is_on_host plan t
stored_same plan s reached = of_reached plan (HasHostTuples plan) (at_opening plan) (λ z next actor r all is. kept plan z next actor r.sound all (move_of plan z actor next is)) s reached
