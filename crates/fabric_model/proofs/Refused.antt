-- Refused locks are on tuples of hosts, so that scripts in the switch alone are never refused.
use Rattle.std.proofs.Common.{◌≡◌, ℕ, zero, suc, ◌==◌, ◌&&◌, not, Bool, true, false, List, [], ◌∷◌, filter, length, slice_get, Some, refl, sym, ap, subst, ◌∙◌, arith, if◌then◌else◌}
use Rattle.std.specs.List.{list_all, AllByRecursion}
use Rattle.std.proofs.lemmas.Bool.Decides.{nat_tests}
use Rattle.txn_model.specs.declared.op.Op.{Op}
use Rattle.stage_layout.specs.Late.{is_hot}
use Rattle.catalogue.specs.Plan.{Plan, script_at}
use Rattle.catalogue.specs.declared.actor.Actor.{Actor}
use Rattle.core_model.specs.declared.refusal.Refusal.{Refusal}
use Rattle.core_model.specs.Ends.{refused_times}
use Rattle.fabric_model.specs.Asking.{IsTrue, IsOnHost, HotAreNotRefused}
use Rattle.fabric_model.specs.Run.{state_of}
use Rattle.fabric_model.specs.State.{State, client_at}
use Rattle.fabric_model.proofs.Refusals.{refusals_of_run}

-- an element of a filtered list is one of the list that passes the test
abbrev IsKept : {X : Type 0} → (X → Bool) → List X → X → Type 0
IsKept f xs x = (j : ℕ) × (slice_get xs j ≡ Some x) × (f x ≡ true)

kept_element : {X : Type 0} (f : X → Bool) (xs : List X) (k : ℕ) (x : X) → slice_get (filter f xs) k ≡ Some x → IsKept f xs x
kept_element f [] k x is = cc
kept_element f (y ∷ xs) k x is = by (f y) refl k is (λ i at. kept_element f xs i x at)
  where
    by : (b : Bool) → f y ≡ b → (j : ℕ) → slice_get (if b then y ∷ filter f xs else filter f xs) j ≡ Some x → ((i : ℕ) → slice_get (filter f xs) i ≡ Some x → IsKept f xs x) → IsKept f (y ∷ xs) x
    by true passes zero at rest = let same : y ≡ x = cc in (0, at, ap f (sym same) ∙ passes)
    by true passes (suc i) at rest = let r = rest i at in (suc r.0, r.1, r.2)
    by false fails j at rest = let r = rest j at in (suc r.0, r.1, r.2)

turned : (b : Bool) → not b ≡ true → b ≡ false
turned true e = cc
turned false e = refl

on_host : (plan : Plan) (trace : List Actor) (r : Refusal) → IsTrue plan trace r → IsOnHost plan r
on_host plan trace r t =
    let found : IsKept (λ op. not (is_hot plan.layout op.tuple)) (script_at plan r.client (client_at t.before r.client).seq) t.op =
    kept_element (λ op. not (is_hot plan.layout op.tuple)) (script_at plan r.client (client_at t.before r.client).seq) (length (client_at t.before r.client).noted) t.op t.next in
    record {
      place = found.0;
      op = t.op;
      there = subst (λ (n : ℕ). slice_get (script_at plan r.client n) found.0 ≡ Some t.op) t.seq found.1;
      tuple = t.tuple;
      host = turned (is_hot plan.layout t.op.tuple) found.2;
    }

all_on_hosts : (plan : Plan) (trace : List Actor) (rs : List Refusal) → AllByRecursion (IsTrue plan trace) rs → AllByRecursion (IsOnHost plan) rs
all_on_hosts plan trace [] all = tt
all_on_hosts plan trace (r ∷ rs) all = (on_host plan trace r all.0, all_on_hosts plan trace rs all.1)

pub refused_on_hosts : (plan : Plan) (trace : List Actor) (s : State) → state_of plan trace ≡ Some s → AllByRecursion (IsOnHost plan) s.refusals
refused_on_hosts plan trace s run = all_on_hosts plan trace s.refusals (refusals_of_run plan trace s run)

both : (a b : Bool) → (a && b) ≡ true → (a ≡ true) × (b ≡ true)
both true b e = (refl, e)
both false b e = cc

each_hot : (plan : Plan) (ops : List Op) (k : ℕ) (op : Op) → list_all (λ o. is_hot plan.layout o.tuple) ops ≡ true → slice_get ops k ≡ Some op → is_hot plan.layout op.tuple ≡ true
each_hot plan [] k op all is = cc
each_hot plan (o ∷ ops) zero op all is = let same : o ≡ op = cc in ap (λ (p : Op). is_hot plan.layout p.tuple) (sym same) ∙ (both (is_hot plan.layout o.tuple) (list_all (λ p. is_hot plan.layout p.tuple) ops) all).0
each_hot plan (o ∷ ops) (suc k) op all is = each_hot plan ops k op (both (is_hot plan.layout o.tuple) (list_all (λ p. is_hot plan.layout p.tuple) ops) all).1 is

none_counted : (plan : Plan) (c seq : ℕ) (rs : List Refusal) → list_all (λ op. is_hot plan.layout op.tuple) (script_at plan c seq) ≡ true → AllByRecursion (IsOnHost plan) rs → refused_times c seq rs ≡ 0
none_counted plan c seq [] hot all = refl
none_counted plan c seq (r ∷ rs) hot all = by (r.client == c && r.seq == seq) refl (none_counted plan c seq rs hot all.1)
  where
    equal : (a b : ℕ) → (a == b) ≡ true → a ≡ b
    equal a b e = grind (arith, nat_tests)

    by : (b : Bool) → (r.client == c && r.seq == seq) ≡ b → refused_times c seq rs ≡ 0 → length (if b then r ∷ filter (λ p. p.client == c && p.seq == seq) rs else filter (λ p. p.client == c && p.seq == seq) rs) ≡ 0
    by true own rest =
        let parts = both (r.client == c) (r.seq == seq) own in
        let there : slice_get (script_at plan c seq) all.0.place ≡ Some all.0.op = subst (λ (n : ℕ). slice_get (script_at plan c n) all.0.place ≡ Some all.0.op) (equal r.seq seq parts.1) (subst (λ (d : ℕ). slice_get (script_at plan d r.seq) all.0.place ≡ Some all.0.op) (equal r.client c parts.0) all.0.there) in
        let clash : true ≡ false = sym (each_hot plan (script_at plan c seq) all.0.place all.0.op hot there) ∙ all.0.host in cc
    by false other rest = rest

pub hot_are_not_refused : (plan : Plan) (trace : List Actor) (s : State) → state_of plan trace ≡ Some s → HotAreNotRefused plan s
hot_are_not_refused plan trace s run c seq hot = none_counted plan c seq s.refusals hot (refused_on_hosts plan trace s run)
