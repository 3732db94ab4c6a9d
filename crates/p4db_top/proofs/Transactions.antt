-- Each entry of a run is that of a transaction of the session.
use Rattle.std.proofs.Common.{ℕ, ◌≤◌, List, [], ◌∷◌, ◌++◌, length, unwrap_or, Option, Some, None, IsSome, inl, inr, refl, sym, subst, arith}
use Rattle.std.specs.List.{AllByRecursion}
use Rattle.txn_model.specs.declared.op.Op.{Op}
use Rattle.history_model.specs.History.{HistoryEntry, History}
use Rattle.history_model.specs.InOrder.{seqs_of}
use Rattle.switch_model.specs.Switch.{Desk}
use Rattle.catalogue.specs.Plan.{Plan, script_of}
use Rattle.core_model.specs.declared.phase.Phase.{Phase}
use Rattle.core_model.specs.declared.phase.Phase.TheVariants.{Installing}
use Rattle.core_model.specs.State.{ClientState, script_now}
use Rattle.core_model.proofs.Fewer.{same_or_not}
use Rattle.core_model.proofs.StepsOf.{all_append}
use Rattle.fabric_model.specs.ColdFacts.{FitsPhase}
use Rattle.fabric_model.specs.Holds.{HostFacts}
use Rattle.fabric_model.specs.Laws.{IsReached}
use Rattle.fabric_model.specs.Run.{opening}
use Rattle.fabric_model.specs.State.{State, client_at}
use Rattle.fabric_model.proofs.FromCore.{seqs_of-own, seqs_of-other}
use Rattle.fabric_model.proofs.InOrder.{HasIts, desk_in, Goes, Stays, Passes, Leaves, Adds, goes_of}
use Rattle.fabric_model.proofs.Kept.{some_cold, some_hot}
use Rattle.fabric_model.proofs.Legal.{holds_now, facts_now}
use Rattle.fabric_model.proofs.MoveKinds.{move_of}
use Rattle.fabric_model.proofs.Runs.{of_reached, reached_step}

-- the item is a transaction
abbrev IsRun : Plan → ℕ → ℕ → Type 0
IsRun plan c q = IsSome (script_of plan c q)

script_there : (o : Option (List Op)) → 1 ≤ length (unwrap_or o []) → IsSome o
script_there (Some ops) some = refl
script_there None some = absurd (omega arith)

-- a present item that may have an entry is a transaction
module _ (plan : Plan) (s : State) (reached : IsReached plan s) (c : ℕ) where
  abbrev x : ClientState
  x = client_at s c

  facts : HostFacts plan (facts_now plan s reached).most (client_at s) s.store s.history
  facts = (facts_now plan s reached).facts

  present_is_run : (desk : Desk) → HasIts x desk → IsRun plan c x.seq
  present_is_run desk (inl installs) =
      let fit : FitsPhase plan c x Installing = subst (λ (p : Phase). FitsPhase plan c x p) installs (facts.cold.fits c) in
      script_there (script_of plan c x.seq) (some_cold plan (script_now plan c x) (omega (arith, facts.installs c installs, fit.0)))
  present_is_run desk (inr waits) = script_there (script_of plan c x.seq) (some_hot plan (script_now plan c x) (facts.hot_ones c (inr waits.0)))

front_of : (P : ℕ → Type 0) (a b : List ℕ) → AllByRecursion P (a ++ b) → AllByRecursion P a
front_of P [] b all = tt
front_of P (q ∷ a) b all = (all.0, front_of P a b all.1)

runs_on : (P : ℕ → Type 0) (x : ClientState) (desk : Desk) (y : ClientState) (desk_new : Desk) (l l_new : List ℕ) → (HasIts y desk_new → P y.seq) → Goes x desk y desk_new l l_new → AllByRecursion P l → AllByRecursion P l_new
runs_on P x desk y desk_new l l_new present (Stays is same on) all = subst (AllByRecursion P) (sym is) all
runs_on P x desk y desk_new l l_new present (Passes is later) all = subst (AllByRecursion P) (sym is) all
runs_on P x desk y desk_new l l_new present (Leaves is same waits) all = front_of P l_new (x.seq ∷ []) (subst (AllByRecursion P) is all)
runs_on P x desk y desk_new l l_new present (Adds is none same its) all = subst (AllByRecursion P) (sym is) (all_append P l (x.seq ∷ []) all (subst P same (present its), tt))

AreRuns : Plan → State → Type 0
AreRuns plan s = (c : ℕ) → AllByRecursion (IsRun plan c) (seqs_of c s.history)

none_at_first : (plan : Plan) → AreRuns plan (opening plan)
unfolding AreRuns opening
none_at_first plan c = tt

each_are_runs : (plan : Plan) (s : State) → IsReached plan s → (c : ℕ) → AllByRecursion (IsRun plan c) (seqs_of c s.history)
unfolding AreRuns
each_are_runs plan s reached =
    of_reached plan (AreRuns plan) (none_at_first plan) (λ z next actor r all is c.
    let after = reached_step plan z next actor r is in
    runs_on (IsRun plan c) (client_at z c) (desk_in z.switch c) (client_at next c) (desk_in next.switch c) (seqs_of c z.history) (seqs_of c next.history) (present_is_run plan next after c (desk_in next.switch c))
    (goes_of plan z next actor (holds_now plan z r) (holds_now plan next after) (move_of plan z actor next is) c) (all c)) s reached

-- what holds of each client's entries holds of all
of_all : (P : ℕ → ℕ → Type 0) (h : History) → ((c : ℕ) → AllByRecursion (P c) (seqs_of c h)) → AllByRecursion (λ e. P e.entry.client e.entry.seq) h
of_all P [] all = tt
of_all P (e ∷ h) all = ((subst (AllByRecursion (P e.entry.client)) (seqs_of-own e.entry.client e h refl) (all e.entry.client)).0, of_all P h rest)
  where
    rest : (c : ℕ) → AllByRecursion (P c) (seqs_of c h)
    rest c = elim (same_or_not e.entry.client c) [
      | inl is ↦ (subst (AllByRecursion (P c)) (seqs_of-own c e h is) (all c)).1
      | inr other ↦ subst (AllByRecursion (P c)) (seqs_of-other c e h other) (all c)
    ]

pub are_transactions : (plan : Plan) (s : State) → IsReached plan s → AllByRecursion (λ (e : HistoryEntry). IsSome (script_of plan e.entry.client e.entry.seq)) s.history
are_transactions plan s reached = of_all (IsRun plan) s.history (each_are_runs plan s reached)
