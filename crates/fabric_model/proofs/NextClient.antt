-- A client whose try or item ends, and one that has installed a value.
use Rattle.std.proofs.Common.{◌≡◌, ◌≢◌, ℕ, zero, suc, ◌+◌, ◌<◌, ◌≤◌, ◌==◌, nat_le, Bool, true, false, List, [], ◌∷◌, length, take, refl, sym, ap, subst, ◌∙◌, arith, if◌then◌else◌}
use Rattle.std.proofs.lemmas.Bool.Decides.{nat_tests}
use Rattle.std.specs.List.{AllByRecursion}
use Rattle.txn_model.specs.declared.op.Op.{Op}
use Rattle.txn_model.specs.declared.stamp.Seen.{Seen}
use Rattle.catalogue.specs.Plan.{Plan, items_of}
use Rattle.core_model.specs.declared.phase.Phase.{Phase}
use Rattle.core_model.specs.declared.phase.Phase.TheVariants.{Ready, Aborting, Logged, Waiting, Installing, Finished}
use Rattle.core_model.specs.Facts.{Stands, steps_now}
use Rattle.core_model.specs.Locks.{cold_ops}
use Rattle.core_model.specs.State.{ClientState, at_item, script_now}
use Rattle.core_model.specs.Step.{next_item, try_ended, aborting, installed_one}
use Rattle.core_model.proofs.Fewer.{KeepsLocks}
use Rattle.core_model.proofs.Moves.{none_kept, IsFrontOf}
use Rattle.fabric_model.specs.ColdFacts.{FitsPhase}

-- a client that is neither about to post a packet, nor waits, nor installs
pub record IsQuiet (y : ClientState) : Type 0 where
  pub logged : y.phase ≢ Logged
  pub waiting : y.phase ≢ Waiting
  pub installing : y.phase ≢ Installing

-- a client that has no further lock
pub record Fewer (plan : Plan) (c : ℕ) (x y : ClientState) : Type 0 where
  pub keeps : KeepsLocks plan c x y
  pub quiet : IsQuiet y
  pub fit : FitsPhase plan c y y.phase
  pub last : y.last ≡ x.last
  pub noted : (most : ℕ) → AllByRecursion (λ seen. seen.stamp.number ≤ most) x.noted → AllByRecursion (λ seen. seen.stamp.number ≤ most) y.noted

ready_is_quiet : (y : ClientState) → y.phase ≡ Ready → IsQuiet y
ready_is_quiet y is = record {
  logged = λ e. let clash : Ready ≡ Logged = sym is ∙ e in cc;
  waiting = λ e. let clash : Ready ≡ Waiting = sym is ∙ e in cc;
  installing = λ e. let clash : Ready ≡ Installing = sym is ∙ e in cc;
}

finished_is_quiet : (y : ClientState) → y.phase ≡ Finished → IsQuiet y
finished_is_quiet y is = record {
  logged = λ e. let clash : Finished ≡ Logged = sym is ∙ e in cc;
  waiting = λ e. let clash : Finished ≡ Waiting = sym is ∙ e in cc;
  installing = λ e. let clash : Finished ≡ Installing = sym is ∙ e in cc;
}

aborting_is_quiet : (y : ClientState) → y.phase ≡ Aborting → IsQuiet y
aborting_is_quiet y is = record {
  logged = λ e. let clash : Aborting ≡ Logged = sym is ∙ e in cc;
  waiting = λ e. let clash : Aborting ≡ Waiting = sym is ∙ e in cc;
  installing = λ e. let clash : Aborting ≡ Installing = sym is ∙ e in cc;
}

-- at the beginning of an item
pub at_beginning : (plan : Plan) (c items seq : ℕ) (x : ClientState) → Fewer plan c x (at_item items seq x.last)
at_beginning plan c items seq x = begun (nat_le seq items) refl
  where
    y : ClientState
    y = at_item items seq x.last

    begun : (b : Bool) → nat_le seq items ≡ b → Fewer plan c x (at_item items seq x.last)
    begun true e =
        let is : y.phase ≡ Ready = ap (λ (t : Bool). if t then Ready else Finished) e in
        record { keeps = none_kept plan c x y refl; quiet = ready_is_quiet y is; fit = subst (λ (p : Phase). FitsPhase plan c y p) (sym is) (refl, refl); last = refl; noted = λ P all. tt }
    begun false e =
        let is : y.phase ≡ Finished = ap (λ (t : Bool). if t then Ready else Finished) e in
        record { keeps = none_kept plan c x y refl; quiet = finished_is_quiet y is; fit = subst (λ (p : Phase). FitsPhase plan c y p) (sym is) (refl, refl); last = refl; noted = λ P all. tt }

-- where a try ends
pub try_is_over : (plan : Plan) (c : ℕ) (x : ClientState) → Fewer plan c x (try_ended plan c x)
try_is_over plan c x = over (x.refused + 1 == plan.tries)
  where
    again : ClientState
    again = record { phase = Ready; seq = x.seq; refused = x.refused + 1; noted = []; installed = 0; last = x.last; reply = [] }

    over : (b : Bool) → Fewer plan c x (if b then next_item plan c x else record { phase = Ready; seq = x.seq; refused = x.refused + 1; noted = []; installed = 0; last = x.last; reply = [] })
    over true = at_beginning plan c (length (items_of plan c)) (x.seq + 1) x
    over false = record { keeps = none_kept plan c x again refl; quiet = ready_is_quiet again refl; fit = (refl, refl); last = refl; noted = λ P all. tt }

-- where it aborts with the first of its locks
pub aborts : (plan : Plan) (c : ℕ) (x : ClientState) (front : List Seen) → IsFrontOf front x.noted → ((most : ℕ) → AllByRecursion (λ seen. seen.stamp.number ≤ most) x.noted → AllByRecursion (λ seen. seen.stamp.number ≤ most) front) → x.installed ≡ 0 → length x.noted ≤ length (cold_ops plan.layout (script_now plan c x)) → Fewer plan c x (aborting plan c x front)
aborts plan c x [] is all none room = try_is_over plan c x
aborts plan c x (seen ∷ others) is all none room =
    let y : ClientState = record x { phase = Aborting; noted = seen ∷ others } in
    record {
      keeps = record {
        lock = λ k op st. record { from = st.from; to = omega (arith, st.to, is.fewer); is = st.is };
        noted = λ k s op st at. is.at k s at;
      };
      quiet = aborting_is_quiet y refl;
      fit = (none, omega arith, omega (arith, is.fewer, room));
      last = refl;
      noted = all;
    }

pub all_taken : (n : ℕ) (l : List Seen) (most : ℕ) → AllByRecursion (λ seen. seen.stamp.number ≤ most) l → AllByRecursion (λ seen. seen.stamp.number ≤ most) (take n l)
all_taken zero l P all = tt
all_taken (suc n) [] P all = tt
all_taken (suc n) (s ∷ l) P all = (all.0, all_taken n l P all.1)

-- the client behind an installation
pub record IsInstalled (plan : Plan) (c : ℕ) (x y : ClientState) : Type 0 where
  pub fit : FitsPhase plan c y y.phase
  pub last : y.last ≡ x.last
  pub keeps : KeepsLocks plan c x y
  pub later : (k : ℕ) (o : Op) → Stands plan c y k o → x.installed < k
  pub still : (k : ℕ) (o : Op) → Stands plan c x k o → x.installed < k → Stands plan c y k o × (y.phase ≡ Installing) × (y.seq ≡ x.seq)
  pub same_steps : y.phase ≡ Installing → steps_now plan c y ≡ steps_now plan c x
  pub installs : y.phase ≡ Installing → y.installed < length y.noted
  pub logged : y.phase ≢ Logged
  pub waiting : y.phase ≢ Waiting
  pub noted : (most : ℕ) → AllByRecursion (λ seen. seen.stamp.number ≤ most) x.noted → AllByRecursion (λ seen. seen.stamp.number ≤ most) y.noted

goes_on : (plan : Plan) (c : ℕ) (x : ClientState) → (x.installed + 1 == length (steps_now plan c x)) ≡ false → x.phase ≡ Installing → FitsPhase plan c x Installing → x.installed < length x.noted → IsInstalled plan c x (record x { installed = x.installed + 1 })
goes_on plan c x more is fit room = record {
  fit = subst (λ (p : Phase). FitsPhase plan c (record x { installed = x.installed + 1 }) p) (sym is) (fit.0, fit.1, omega arith);
  last = refl;
  keeps = record { lock = λ k op st. record { from = omega (arith, st.from); to = st.to; is = st.is }; noted = λ k seen op st at. at };
  later = λ k o st. omega (arith, st.from);
  still = λ k o st lt. (record { from = omega (arith, lt); to = st.to; is = st.is }, is, refl);
  same_steps = λ _. refl;
  installs = λ _. not_all x.installed (length (steps_now plan c x)) (length x.noted) more fit.1 room;
  logged = λ e. let clash : Installing ≡ Logged = sym is ∙ e in cc;
  waiting = λ e. let clash : Installing ≡ Waiting = sym is ∙ e in cc;
  noted = λ P all. all;
}
  where
    not_all : (i all n : ℕ) → (i + 1 == all) ≡ false → all ≡ n → i < n → i + 1 < n
    not_all i all n more same lt = grind (arith, nat_tests)

ends : (plan : Plan) (c : ℕ) (x : ClientState) → (x.installed + 1 == length (steps_now plan c x)) ≡ true → FitsPhase plan c x Installing → IsInstalled plan c x (next_item plan c x)
ends plan c x all fit =
    let next = at_beginning plan c (length (items_of plan c)) (x.seq + 1) x in
    record {
      fit = next.fit;
      last = refl;
      keeps = next.keeps;
      later = λ k o st. absurd (nothing k st.to);
      still = λ k o st lt. absurd (past k lt st.to);
      same_steps = λ i. absurd (next.quiet.installing i);
      installs = λ i. absurd (next.quiet.installing i);
      logged = next.quiet.logged;
      waiting = next.quiet.waiting;
      noted = λ P given. tt;
    }
  where
    nothing : (k : ℕ) → k < 0 → ⊥
    nothing k lt = omega arith

    equal : (a b : ℕ) → (a == b) ≡ true → a ≡ b
    equal a b e = grind (arith, nat_tests)

    past : (k : ℕ) → x.installed < k → k < length x.noted → ⊥
    past k low high = omega (arith, equal (x.installed + 1) (length (steps_now plan c x)) all, fit.1)

pub installs : (plan : Plan) (c : ℕ) (x : ClientState) → x.phase ≡ Installing → FitsPhase plan c x Installing → x.installed < length x.noted → IsInstalled plan c x (installed_one plan c x (length (steps_now plan c x)))
installs plan c x is fit room = by (x.installed + 1 == length (steps_now plan c x)) refl
  where
    by : (b : Bool) → (x.installed + 1 == length (steps_now plan c x)) ≡ b → IsInstalled plan c x (if b then next_item plan c x else record x { installed = x.installed + 1 })
    by true all = ends plan c x all fit
    by false more = goes_on plan c x more is fit room
