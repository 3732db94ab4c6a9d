-- What is kept at the opening.
use Rattle.std.proofs.Common.{◌≡◌, ℕ, ◌+◌, ◌<◌, ◌==◌, ◌||◌, ◌&&◌, not, ℤ, T, Bool, true, false, cond, List, [], ◌∷◌, ◌++◌, map, filter, length, get_or, Option, Some, None, IsTrue, is_some, option_map, inl, inr, refl, sym, ap, subst, ◌∙◌, arith}
use Rattle.std.specs.Cmp.{unsigned_tied}
use Rattle.std.specs.FinMap as fin
use Rattle.std.specs.FinMap.Entries as rows
use Rattle.std.specs.List.{list_any}
use Rattle.std.specs.Ordering.{eq_by_cmp}
use Rattle.std.proofs.Math.Seq.{get_or-append_seam}
use Rattle.std.proofs.lemmas.Bool.{cases_lt}
use Rattle.std.proofs.lemmas.List.{get_or_append_left, get_or-map}
use Rattle.txn_model.specs.Tuples.{Tuples, tuple_cmp}
use Rattle.txn_model.specs.declared.op.TupleId.{TupleId}
use Rattle.txn_model.proofs.TupleOrder.{tuple_cmp_total, tuple_cmp_exact}
use Rattle.stage_layout.specs.Late.{is_hot}
use Rattle.stage_layout.specs.declared.layout.LayoutRow.{LayoutRow}
use Rattle.host_store.specs.Store.{Store, first_seen}
use Rattle.catalogue.specs.Plan.{Plan, items_of}
use Rattle.catalogue.specs.Sound.{IsSound}
use Rattle.core_model.specs.Run.{first_rows, first_clients}
use Rattle.core_model.specs.State.{at_item, zero_stamp}
use Rattle.core_model.proofs.Opening.{first_value}
use Rattle.fabric_model.specs.Run.{host_rows, opening}
use Rattle.fabric_model.proofs.Runs.{opening_is_reached}
use Rattle.fabric_core.specs.Standing.{client_in}
use Rattle.fabric_core.proofs.Stored.{stored_same}

-- the rows of the tuples on hosts ascend
ascend : (plan : Plan) → T (rows.is_sorted tuple_cmp (host_rows plan))
ascend plan = rows.is_sorted-where_key tuple_cmp (λ t. not (is_hot plan.layout t)) (fin.entries plan.tuples) (fin.entries_sorted plan.tuples)

pub host_rows_ascend : (plan : Plan) → IsTrue (rows.is_sorted tuple_cmp (host_rows plan))
host_rows_ascend plan = by (rows.is_sorted tuple_cmp (host_rows plan)) (ascend plan)
  where
    by : (b : Bool) → T b → IsTrue b
    by true h = refl
    by false h = absurd h

pub ascend_as : (plan : Plan) (found : List (TupleId × ℤ)) → found ≡ host_rows plan → IsTrue (rows.is_sorted tuple_cmp found)
ascend_as plan found same = subst (λ (l : List (TupleId × ℤ)). IsTrue (rows.is_sorted tuple_cmp l)) (sym same) (host_rows_ascend plan)

-- a tuple is among those of rows where these have it
listed : (t : TupleId) (values : List (TupleId × ℤ)) → list_any (λ tuple. t.0 == tuple.0) (map (λ row. row.0) values) ≡ is_some (rows.find tuple_cmp t values)
listed t [] = refl
listed t (row ∷ values) = ap (λ (b : Bool). b || list_any (λ tuple. t.0 == tuple.0) (map (λ r. r.0) values)) (sym (unsigned_tied t.0 row.0.0)) ∙ by (eq_by_cmp tuple_cmp t row.0) (listed t values)
  where
    by : (b : Bool) → list_any (λ tuple. t.0 == tuple.0) (map (λ r. r.0) values) ≡ is_some (rows.find tuple_cmp t values)
        → (b || list_any (λ tuple. t.0 == tuple.0) (map (λ r. r.0) values)) ≡ is_some (cond b (Some row.1) (rows.find tuple_cmp t values))
    by true rest = refl
    by false rest = rest

is_seen : (o : Option ℤ) → is_some (option_map first_seen o) ≡ is_some o
is_seen None = refl
is_seen (Some v) = refl

opening_store : (plan : Plan) → (opening plan).store ≡ first_rows (host_rows plan)
unfolding opening
opening_store plan = refl

-- the locks are those of the session's tuples on hosts
pub host_tuples : (plan : Plan) (t : TupleId) (ids : List TupleId) → IsSound plan → ids ≡ map (λ row. row.0) (host_rows plan)
    → list_any (λ tuple. t.0 == tuple.0) ids ≡ (is_some (fin.get plan.tuples t) && not (is_hot plan.layout t))
host_tuples plan t ids sound is =
    ap (λ (l : List TupleId). list_any (λ tuple. t.0 == tuple.0) l) is
    ∙ listed t (host_rows plan)
    ∙ sym (is_seen (rows.find tuple_cmp t (host_rows plan)))
    ∙ sym (ap is_some (first_value (host_rows plan) t))
    ∙ sym (ap (λ (m : Store). is_some (fin.get m t)) (opening_store plan))
    ∙ stored_same plan (opening plan) (opening_is_reached plan sound) t

-- the store that has the first value of each of them is the model's
pub first_store : (plan : Plan) (hosts : Tuples) (store : Store) → fin.entries hosts ≡ host_rows plan → ((t : TupleId) → fin.get store t ≡ option_map first_seen (fin.get hosts t)) → store ≡ (opening plan).store
first_store plan hosts store same is =
    fin.same_map tuple_cmp_total tuple_cmp_exact store (first_rows (host_rows plan))
    (λ t. is t ∙ ap (option_map first_seen) (fin.get-entries hosts t ∙ ap (rows.find tuple_cmp t) same) ∙ sym (first_value (host_rows plan) t))
    ∙ sym (opening_store plan)

-- the map of these rows has them as its entries
pub entries_of_hosts : (plan : Plan) (found : List (TupleId × ℤ)) (hosts : Tuples) → found ≡ host_rows plan → hosts ≡ fin.from_sorted found → fin.entries hosts ≡ host_rows plan
entries_of_hosts plan found hosts listed is = ap fin.entries (is ∙ ap fin.from_sorted listed) ∙ fin.entries-from_sorted tuple_cmp (host_rows plan) (ascend plan)

on_hosts : (values : List (TupleId × ℤ)) → values ≡ filter (λ row. not (is_hot [] row.0)) values
on_hosts [] = refl
on_hosts (row ∷ values) = ap (λ (l : List (TupleId × ℤ)). row ∷ l) (on_hosts values)

-- where no tuple is in the switch, the hosts have all of them
pub all_on_hosts : (plan : Plan) → plan.layout ≡ [] → fin.entries plan.tuples ≡ host_rows plan
all_on_hosts plan none = on_hosts (fin.entries plan.tuples) ∙ ap (λ (l : List LayoutRow). filter (λ row. not (is_hot l row.0)) (fin.entries plan.tuples)) (sym none)

-- a client of the model at the opening
pub begun : (plan : Plan) (c : ℕ) → c < length plan.clients → client_in (first_clients plan.clients) c ≡ at_item (length (items_of plan c)) 1 zero_stamp
begun plan c lt = get_or-map (λ items. at_item (length items) 1 zero_stamp) plan.clients c [] (at_item 0 1 zero_stamp) lt

-- what holds of each place of a list, and of one more element
pub pushed : {X : Type 0} (P : ℕ → X → Type 0) (xs more : List X) (x : X) (k : ℕ) → length xs ≡ k → more ≡ xs ++ x ∷ [] → ((c : ℕ) (other : X) → c < k → P c (get_or xs c other)) → P k x → (c : ℕ) (other : X) → c < k + 1 → P c (get_or more c other)
pushed P xs more x k len is all last c other lt = subst (λ l. P c (get_or l c other)) (sym is) (elim (cases_lt c k) [
  | inl below ↦ subst (P c) (sym (get_or_append_left xs (x ∷ []) other c (omega (arith, below, len)))) (all c other below)
  | inr above ↦ let here : length xs ≡ c = omega (arith, above, lt, len) in
      subst (λ (n : ℕ). P n (get_or (xs ++ x ∷ []) n other)) here (subst (P (length xs)) (sym (get_or-append_seam xs x [] other)) (subst (λ (n : ℕ). P n x) (sym len) last))
])
