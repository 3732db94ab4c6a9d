-- What a move changes: one client. And what it means that no lock stands in the way.
use Rattle.std.proofs.Common.{◌≡◌, ◌≢◌, ℕ, zero, suc, ◌+◌, ◌<◌, ◌≤◌, ◌==◌, ◌&&◌, Bool, true, false, not, List, [], ◌∷◌, length, take, drop, set, get_or, slice_get, Option, Some, None, refl, sym, ap, subst, ◌∙◌, arith, if◌then◌else◌}
use Rattle.std.specs.List.{list_any}
use Rattle.std.proofs.lemmas.List.{get_or-set_same, get_or-set_other}
use Rattle.txn_model.specs.declared.op.Op.{Op}
use Rattle.txn_model.specs.declared.stamp.Seen.{Seen}
use Rattle.catalogue.specs.Plan.{Plan}
use Rattle.core_model.specs.State.{ClientState, at_item, zero_stamp, script_now}
use Rattle.core_model.specs.Locks.{cold_ops, held, clashes, holder_from}
use Rattle.core_model.specs.Facts.{Stands}
use Rattle.core_model.proofs.Decided.{or_false}
use Rattle.core_model.proofs.Fewer.{KeepsLocks, OthersStay}

-- the client that moved, and the others
pub moved_client : (clients : List ClientState) (c : ℕ) (y : ClientState) → c < length clients → get_or (set clients c y) c (at_item 0 1 zero_stamp) ≡ y
moved_client clients c y lt = get_or-set_same clients c y (at_item 0 1 zero_stamp) lt

pub others_stay : (clients : List ClientState) (c : ℕ) (y : ClientState) → OthersStay c (λ d. get_or clients d (at_item 0 1 zero_stamp)) (λ d. get_or (set clients c y) d (at_item 0 1 zero_stamp))
others_stay clients c y d n = get_or-set_other clients c d y (at_item 0 1 zero_stamp) n

-- an item that stands among those between two places
pub between_places : {X : Type 0} (f : X → Bool) (xs : List X) (from to k : ℕ) (x : X) → from ≤ k → k < to → slice_get xs k ≡ Some x → list_any f (drop from (take to xs)) ≡ false → f x ≡ false
between_places f [] from to k x low high is none = cc
between_places f (y ∷ xs) from zero k x low high is none = absurd (omega arith)
between_places f (y ∷ xs) zero (suc to) zero x low high is none = let same : y ≡ x = cc in ap f (sym same) ∙ (or_false (f y) (list_any f (take to xs)) none).0
between_places f (y ∷ xs) zero (suc to) (suc k) x low high is none = between_places f xs zero to k x (omega arith) (omega arith) is ((or_false (f y) (list_any f (take to xs)) none).1)
between_places f (y ∷ xs) (suc from) (suc to) zero x low high is none = absurd (omega arith)
between_places f (y ∷ xs) (suc from) (suc to) (suc k) x low high is none = between_places f xs from to k x (omega arith) (omega arith) is none

-- where no client's lock stands in the way, none of another client's locks clashes
held_free : (plan : Plan) (d : ℕ) (x : ClientState) (op : Op) (k : ℕ) (other : Op) → list_any (clashes op) (held plan d x) ≡ false → Stands plan d x k other → clashes op other ≡ false
held_free plan d x op k other none st = between_places (clashes op) (cold_ops plan.layout (script_now plan d x)) x.installed (length x.noted) k other st.from st.to st.is none

none_of_nothing : (plan : Plan) (d k : ℕ) (op : Op) → Stands plan d (at_item 0 1 zero_stamp) k op → ⊥
none_of_nothing plan d k op st = let lt : k < 0 = st.to in omega arith

pub free_from : (plan : Plan) (me : ℕ) (op : Op) (k : ℕ) (clients : List ClientState) → holder_from plan me op k clients ≡ None
    → (j i : ℕ) (other : Op) → k + j ≢ me → Stands plan (k + j) (get_or clients j (at_item 0 1 zero_stamp)) i other → clashes op other ≡ false
free_from plan me op k [] none j i other n st = absurd (none_of_nothing plan (k + j) i other st)
free_from plan me op k (x ∷ clients) none zero i other n st =
    let here : k + 0 ≡ k = omega arith in
    let parts = skip (not (k == me)) (list_any (clashes op) (held plan k x)) k (holder_from plan me op (k + 1) clients) none in
    held_free plan k x op i other (parts.0 (differs k me (subst (λ (m : ℕ). m ≢ me) here n))) (subst (λ (m : ℕ). Stands plan m x i other) here st)
  where
    skip : (a b : Bool) (n : ℕ) (r : Option ℕ) → (if a && b then Some n else r) ≡ None → (a ≡ true → b ≡ false) × (r ≡ None)
    skip true true n r e = cc
    skip true false n r e = (λ _. refl, e)
    skip false b n r e = (λ f. cc, e)

    differs : (a b : ℕ) → a ≢ b → not (a == b) ≡ true
    differs a b n = grind arith
free_from plan me op k (x ∷ clients) none (suc j) i other n st =
    let here : k + suc j ≡ (k + 1) + j = omega arith in
    let parts = skip (not (k == me)) (list_any (clashes op) (held plan k x)) k (holder_from plan me op (k + 1) clients) none in
    free_from plan me op (k + 1) clients parts j i other (subst (λ (m : ℕ). m ≢ me) here n) (subst (λ (m : ℕ). Stands plan m (get_or clients j (at_item 0 1 zero_stamp)) i other) here st)
  where
    skip : (a b : Bool) (n : ℕ) (r : Option ℕ) → (if a && b then Some n else r) ≡ None → r ≡ None
    skip true true n r e = cc
    skip true false n r e = e
    skip false b n r e = e

-- a client without locks keeps none
pub none_kept : (plan : Plan) (c : ℕ) (x y : ClientState) → y.noted ≡ [] → KeepsLocks plan c x y
none_kept plan c x y e = record {
  lock = λ k op st. absurd (nothing k st.to);
  noted = λ k seen op st is. absurd (nothing k st.to);
}
  where
    nothing : (k : ℕ) → k < length y.noted → ⊥
    nothing k lt = let empty : length y.noted ≡ 0 = ap length e in omega arith

-- the first of what was read
pub record IsFrontOf (front whole : List Seen) : Type 0 where
  pub at : (k : ℕ) (seen : Seen) → slice_get front k ≡ Some seen → slice_get whole k ≡ Some seen
  pub fewer : length front ≤ length whole

pub whole_front : (l : List Seen) → IsFrontOf l l
whole_front l = record { at = λ k seen is. is; fewer = omega arith }

pub front_taken : (n : ℕ) (l : List Seen) → IsFrontOf (take n l) l
front_taken zero l = record { at = λ k seen is. cc; fewer = omega arith }
front_taken (suc n) [] = record { at = λ k seen is. is; fewer = omega arith }
front_taken (suc n) (s ∷ l) = let rest = front_taken n l in record { at = go rest; fewer = omega (arith, rest.fewer) }
  where
    go : IsFrontOf (take n l) l → (k : ℕ) (seen : Seen) → slice_get (s ∷ take n l) k ≡ Some seen → slice_get (s ∷ l) k ≡ Some seen
    go rest zero seen is = is
    go rest (suc k) seen is = rest.at k seen is
