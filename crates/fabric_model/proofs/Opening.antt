-- What holds between moves holds at the opening.
use Rattle.std.proofs.Common.{◌≡◌, ◌⊎◌, ℕ, zero, suc, ◌<◌, ◌≤◌, ℤ, pos, not, Bool, true, false, List, [], ◌∷◌, filter, replicate, length, get_or, unwrap_or, Option, Some, None, option_map, cond, inl, inr, refl, sym, ap, subst, ◌∙◌, arith, if◌then◌else◌}
use Rattle.std.specs.FinMap as fin
use Rattle.std.specs.List.{AllByRecursion}
use Rattle.std.specs.Ordering.{eq_by_cmp}
use Rattle.std.proofs.lemmas.Bool.Decides.{nat_tests}
use Rattle.std.proofs.lemmas.List.{length-map}
use Rattle.txn_model.specs.Tuples.{tuple_cmp}
use Rattle.txn_model.specs.declared.op.Op.{Op}
use Rattle.txn_model.specs.declared.op.TupleId.{TupleId}
use Rattle.txn_model.specs.declared.stamp.Seen.{Seen}
use Rattle.stage_layout.specs.Late.{is_hot}
use Rattle.stage_layout.specs.declared.layout.LayoutRow.{LayoutRow}
use Rattle.host_store.specs.Store.{first_seen}
use Rattle.switch_model.specs.Switch.{Switch, Desk, Vacant, desk_at, entered, fresh_switch, restored, done_flights}
use Rattle.switch_model.proofs.Replayed.{fresh_reached}
use Rattle.catalogue.specs.Plan.{Plan, PlainItem, hot_cells}
use Rattle.catalogue.specs.Sound.{IsSound}
use Rattle.core_model.specs.declared.phase.Phase.TheVariants.{Logged, Waiting}
use Rattle.core_model.specs.Facts.{Stands}
use Rattle.core_model.specs.Run.{first_rows, first_clients}
use Rattle.core_model.specs.State.{ClientState, at_item, zero_stamp}
use Rattle.core_model.proofs.Opening.{first_value}
use Rattle.fabric_model.specs.ColdFacts.{FitsPhase}
use Rattle.fabric_model.specs.Carried.{FitsDesk}
use Rattle.fabric_model.specs.Holds.{Ties, Holds}
use Rattle.fabric_model.specs.Run.{opening, host_rows}
use Rattle.fabric_model.specs.State.{client_at}
use Rattle.fabric_model.proofs.NextClient.{IsQuiet, at_beginning}

-- each client is at its first item
first_client : (lists : List (List PlainItem)) (d : ℕ) → (items : ℕ) × (get_or (first_clients lists) d (at_item 0 1 zero_stamp) ≡ at_item items 1 zero_stamp)
first_client [] d = (0, refl)
first_client (items ∷ lists) zero = (length items, refl)
first_client (items ∷ lists) (suc d) = first_client lists d

-- a tuple of a host is found among the rows of hosts as among all
found_on_host : (rows : List LayoutRow) (t : TupleId) (values : List (TupleId × ℤ)) → is_hot rows t ≡ false → fin.find tuple_cmp t (filter (λ row. not (is_hot rows row.0)) values) ≡ fin.find tuple_cmp t values
found_on_host rows t [] cold = refl
found_on_host rows t (row ∷ values) cold = by (is_hot rows row.0) refl (found_on_host rows t values cold)
  where
    apart : is_hot rows row.0 ≡ true → eq_by_cmp tuple_cmp t row.0 ≡ false
    apart hot = go (eq_by_cmp tuple_cmp t row.0) refl
      where
        same_number : (a b : ℕ) → eq_by_cmp tuple_cmp (record { 0 = a }) (record { 0 = b }) ≡ true → a ≡ b
        same_number a b e = grind (arith, nat_tests)

        go : (b : Bool) → eq_by_cmp tuple_cmp t row.0 ≡ b → b ≡ false
        go false e = refl
        go true e =
            let same : t.0 ≡ row.0.0 = same_number t.0 row.0.0 e in
            let here : is_hot rows row.0 ≡ false = ap (λ (n : ℕ). is_hot rows (record { 0 = n })) (sym same) ∙ cold in
            let clash : true ≡ false = sym hot ∙ here in
            cc

    by : (b : Bool) → is_hot rows row.0 ≡ b → fin.find tuple_cmp t (filter (λ r. not (is_hot rows r.0)) values) ≡ fin.find tuple_cmp t values
        → fin.find tuple_cmp t (if not b then row ∷ filter (λ r. not (is_hot rows r.0)) values else filter (λ r. not (is_hot rows r.0)) values) ≡ fin.find tuple_cmp t (row ∷ values)
    by true hot rest = rest ∙ sym (ap (λ (b : Bool). cond b (Some row.1) (fin.find tuple_cmp t values)) (apart hot))
    by false host rest = ap (λ (o : Option ℤ). cond (eq_by_cmp tuple_cmp t row.0) (Some row.1) o) rest

stored : (o : Option ℤ) → (unwrap_or (option_map first_seen o) (first_seen (pos 0))).value ≡ unwrap_or o (pos 0)
stored None = refl
stored (Some v) = refl

first_number : (o : Option ℤ) → (unwrap_or (option_map first_seen o) (first_seen (pos 0))).stamp.number ≡ 0
first_number None = refl
first_number (Some v) = refl

vacant_at : (n d : ℕ) → get_or (replicate n Vacant) d Vacant ≡ Vacant
vacant_at zero d = refl
vacant_at (suc n) zero = refl
vacant_at (suc n) (suc d) = vacant_at n d

length_vacant : (n : ℕ) → length (replicate n Vacant) ≡ n
length_vacant zero = refl
length_vacant (suc n) = ap suc (length_vacant n)

fresh_desks : (plan : Plan) → (fresh_switch (hot_cells plan) (length plan.clients)).desks ≡ replicate (length plan.clients) Vacant
unfolding restored
fresh_desks plan = refl

fresh_entered : (plan : Plan) → entered (fresh_switch (hot_cells plan) (length plan.clients)) ≡ []
unfolding restored done_flights
fresh_entered plan = refl

pub holds_at_opening : (plan : Plan) → IsSound plan → Holds plan (opening plan)
unfolding opening
holds_at_opening plan sound = record {
  now = now;
  up = refl;
  reached = fresh_reached plan.shape (hot_cells plan) (length plan.clients) sound.limits.shape.stages.0;
  desks = ap length (fresh_desks plan) ∙ length_vacant (length plan.clients) ∙ sym (length-map plan.clients _);
  ties = subst (Ties plan (client_at (opening plan)) (first_rows (host_rows plan)) [] (desk_at now)) (sym (fresh_entered plan)) (record {
    cold = record {
      fits = λ d. let at = first_client plan.clients d in subst (λ (x : ClientState). FitsPhase plan d x x.phase) (sym at.1) (at_beginning plan d at.0 1 (at_item 0 1 zero_stamp)).fit;
      apart = λ a b k j op other n sa sb e. absurd (bare a k op sa);
      value = λ d k op seen st is. absurd (bare d k op st);
      writers = λ d k op seen st is. tt;
      namers = λ d k op seen st x is. tt;
      settled = λ t cold. tt;
      own = λ d. tt;
      sorted = tt;
      local = tt;
      chains = λ t cold. tt;
      unchanged = λ t cold quiet. sym (ap (λ (o : Option Seen). (unwrap_or o (first_seen (pos 0))).value) (first_value (host_rows plan) t)
          ∙ stored (fin.find tuple_cmp t (host_rows plan)) ∙ ap (λ (o : Option ℤ). unwrap_or o (pos 0)) (found_on_host plan.layout t (fin.entries plan.tuples) cold ∙ sym (fin.get-entries plan.tuples t)));
      changed = λ d k op p st i x is. absurd (bare d k op st);
      found = λ d k op p seen st i is noted. absurd (bare d k op st);
      leaves = λ d k op p i is read. absurd ((quiet_at d).installing i);
    };
    installs = λ d i. absurd ((quiet_at d).installing i);
    hot_ones = λ d i. absurd (neither d i);
    sorted = tt;
    unanswered = tt;
    hosts = tt;
    carried_ones = tt;
    under_way = λ d. subst (FitsDesk plan [] d (client_at (opening plan) d)) (sym (ap (λ (l : List Desk). get_or l d Vacant) (fresh_desks plan) ∙ vacant_at (length plan.clients) d)) (quiet_at d).waiting;
    covered = record {
      last = λ d. let at = first_client plan.clients d in subst (λ (x : ClientState). x.last.number ≤ 0) (sym at.1) (omega arith);
      noted = λ d. let at = first_client plan.clients d in subst (λ (x : ClientState). AllByRecursion (λ seen. seen.stamp.number ≤ 0) x.noted) (sym at.1) tt;
      store_has = λ t. omega (arith, ap (λ (o : Option Seen). (unwrap_or o (first_seen (pos 0))).stamp.number) (first_value (host_rows plan) t) ∙ first_number (fin.find tuple_cmp t (host_rows plan)));
      entries = tt;
    };
  });
}
  where
    now : Switch
    now = fresh_switch (hot_cells plan) (length plan.clients)

    quiet_at : (d : ℕ) → IsQuiet (client_at (opening plan) d)
    quiet_at d = let at = first_client plan.clients d in subst IsQuiet (sym at.1) (at_beginning plan d at.0 1 (at_item 0 1 zero_stamp)).quiet

    neither : (d : ℕ) → ((client_at (opening plan) d).phase ≡ Logged) ⊎ ((client_at (opening plan) d).phase ≡ Waiting) → ⊥
    neither d (inl e) = (quiet_at d).logged e
    neither d (inr e) = (quiet_at d).waiting e

    nothing : (n k : ℕ) → n ≡ 0 → k < n → ⊥
    nothing n k e lt = omega arith

    bare : (d k : ℕ) (op : Op) → Stands plan d (client_at (opening plan) d) k op → ⊥
    bare d k op st = let at = first_client plan.clients d in nothing (length (client_at (opening plan) d).noted) k (ap (λ (x : ClientState). length x.noted) at.1) st.to
