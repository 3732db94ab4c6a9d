-- Every refusal is true of the trace.
use Rattle.std.proofs.Common.{◌≡◌, ◌⊎◌, ℕ, ◌+◌, List, [], ◌∷◌, ◌++◌, length, length-append, append_assoc, take, slice_get, Some, inl, inr, refl, sym, ap, subst, ◌∙◌, arith}
use Rattle.std.specs.List.{AllByRecursion}
use Rattle.txn_model.specs.declared.op.Op.{Op}
use Rattle.catalogue.specs.Plan.{Plan}
use Rattle.catalogue.specs.declared.actor.Actor.{Actor}
use Rattle.catalogue.specs.declared.actor.Actor.TheVariants.{Client}
use Rattle.core_model.specs.declared.refusal.Refusal.{Refusal}
use Rattle.core_model.specs.Asking.{IsAsking}
use Rattle.core_model.proofs.Holders.{least_of_holder}
use Rattle.core_model.proofs.Refusals.{taken_front, at_front}
use Rattle.core_model.proofs.StepsOf.{all_append}
use Rattle.switch_model.specs.Switch.{Switch, Desk, Vacant, Posted, Entered, desk_at, next_number}
use Rattle.fabric_model.specs.Asking.{IsTrue}
use Rattle.fabric_model.specs.Run.{opening, state_behind, state_of}
use Rattle.fabric_model.specs.State.{State, client_at}
use Rattle.fabric_model.specs.Step.{lost, granted, refused, released, decided, logged, posted, taken, installed, switched, entered, behind_entry, recovered, holder, next_op}
use Rattle.fabric_model.proofs.MoveKinds.{Move, Loses, Grants, Refuses, Releases, Decides, Logs, Posts, Takes, Installs, Moved, ByClient, AtPort, AtStage, Recovers, move_of}
use Rattle.fabric_model.proofs.Runs.{first_move, one_more, step_is_counted}

abbrev refusal : State → ℕ → Op → ℕ → Refusal
refusal s c op by = record { client = c; seq = (client_at s c).seq; tuple = op.tuple; holder = by; at = s.moves }

-- a move that refuses a lock
pub record IsRefusal (plan : Plan) (s : State) (actor : Actor) (after : State) : Type 0 where
  pub client : ℕ
  pub is : actor ≡ Client client
  pub op : Op
  pub by : ℕ
  pub asks : IsAsking (client_at s client)
  pub next : next_op plan client (client_at s client) ≡ Some op
  pub held : holder plan s client op ≡ Some by
  pub refusals : after.refusals ≡ s.refusals ++ refusal s client op by ∷ []

of_client : (plan : Plan) (s : State) (c : ℕ) (after : State) → Move plan s c after → (after.refusals ≡ s.refusals) ⊎ IsRefusal plan s (Client c) after
unfolding lost granted refused released decided logged posted taken installed
of_client plan s c after (Loses now phase item up is) = inl (ap (λ (z : State). z.refusals) is)
of_client plan s c after (Grants op asks next free is) = inl (ap (λ (z : State). z.refusals) is)
of_client plan s c after (Refuses op by asks next held is) = inr (record { client = c; is = refl; op = op; by = by; asks = asks; next = next; held = held; refusals = ap (λ (z : State). z.refusals) is })
of_client plan s c after (Releases phase is) = inl (ap (λ (z : State). z.refusals) is)
of_client plan s c after (Decides asks next cold some is) = inl (ap (λ (z : State). z.refusals) is)
of_client plan s c after (Logs asks next hot is) = inl (ap (λ (z : State). z.refusals) is)
of_client plan s c after (Posts now next phase up to is) = inl (ap (λ (z : State). z.refusals) is)
of_client plan s c after (Takes now next answer phase up has to is) = inl (ap (λ (z : State). z.refusals) is)
of_client plan s c after (Installs p phase at is) = inl (ap (λ (z : State). z.refusals) is)

at_port : (s : State) (c : ℕ) (desk : Desk) (number : ℕ) (next : Switch) → (behind_entry s c desk number next).refusals ≡ s.refusals
unfolding entered switched
at_port s c Vacant number next = refl
at_port s c (Posted p) number next = refl
at_port s c (Entered k) number next = refl

pub refusals_of : (plan : Plan) (s after : State) (actor : Actor) → Moved plan s after actor → (after.refusals ≡ s.refusals) ⊎ IsRefusal plan s actor after
unfolding switched recovered
refusals_of plan s after actor (ByClient c within move) = of_client plan s c after move
refusals_of plan s after actor (AtPort c now next up to is) = inl (ap (λ (z : State). z.refusals) is ∙ at_port s c (desk_at now c) (next_number now) next)
refusals_of plan s after actor (AtStage x now next up to is) = inl (ap (λ (z : State). z.refusals) is)
refusals_of plan s after actor (Recovers order down found is) = inl (ap (λ (z : State). z.refusals) is)

true_refusals : (plan : Plan) (rest done : List Actor) (s after : State) → state_of plan done ≡ Some s → s.moves ≡ length done → AllByRecursion (IsTrue plan (done ++ rest)) s.refusals → state_behind plan s rest ≡ Some after
    → AllByRecursion (IsTrue plan (done ++ rest)) after.refusals
true_refusals plan [] done s after run count all e = subst (λ (z : State). AllByRecursion (IsTrue plan (done ++ [])) z.refusals) (same e) all
  where
    same : {a b : State} → Some a ≡ Some b → a ≡ b
    same e = cc
true_refusals plan (actor ∷ rest) done s after run count all e =
    first_move plan s after actor rest (AllByRecursion (IsTrue plan (done ++ actor ∷ rest)) after.refusals) e (λ next is g.
    let longer = append_assoc done (actor ∷ []) rest in
    subst (λ (l : List Actor). AllByRecursion (IsTrue plan l) after.refusals) longer
    (true_refusals plan rest (done ++ actor ∷ []) next after (one_more plan done actor s next run is) (step_is_counted plan s next actor is ∙ counted) (subst (λ (l : List Actor). AllByRecursion (IsTrue plan l) next.refusals) (sym longer) (all_true next (move_of plan s actor next is))) g))
  where
    counted : s.moves + 1 ≡ length (done ++ actor ∷ [])
    counted = omega (arith, count, length-append done (actor ∷ []))

    new_true : (next : State) (r : IsRefusal plan s actor next) → IsTrue plan (done ++ actor ∷ rest) (refusal s r.client r.op r.by)
    new_true next r = record {
      before = s;
      run = ap (state_of plan) (ap (λ (n : ℕ). take n (done ++ actor ∷ rest)) count ∙ taken_front done (actor ∷ rest)) ∙ run;
      actor = ap (λ (n : ℕ). slice_get (done ++ actor ∷ rest) n) count ∙ at_front done rest actor ∙ ap Some r.is;
      seq = refl;
      asking = r.asks;
      op = r.op;
      next = r.next;
      tuple = refl;
      holder = least_of_holder plan s.clients r.client r.op r.by r.held;
    }

    all_true : (next : State) → Moved plan s next actor → AllByRecursion (IsTrue plan (done ++ actor ∷ rest)) next.refusals
    all_true next moved = elim (refusals_of plan s next actor moved) [
      | inl same ↦ subst (AllByRecursion (IsTrue plan (done ++ actor ∷ rest))) (sym same) all
      | inr r ↦ subst (AllByRecursion (IsTrue plan (done ++ actor ∷ rest))) (sym r.refusals) (all_append (IsTrue plan (done ++ actor ∷ rest)) s.refusals (refusal s r.client r.op r.by ∷ []) all (new_true next r, tt))
    ]

pub refusals_of_run : (plan : Plan) (trace : List Actor) (after : State) → state_of plan trace ≡ Some after → AllByRecursion (IsTrue plan trace) after.refusals
unfolding state_of opening
refusals_of_run plan trace after run = true_refusals plan trace [] (opening plan) after refl refl tt run
