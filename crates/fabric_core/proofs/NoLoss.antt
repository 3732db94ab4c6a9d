-- Sessions without losses: none of their items loses the switch, so that it is always up.
use Rattle.std.proofs.Common.{◌≡◌, ℕ, zero, suc, ◌-◌, ◌==◌, ◌&&◌, Bool, true, false, List, [], ◌∷◌, get_or, slice_get, is_some, IsSome, Option, Some, None, refl, sym, ap, subst, ◌∙◌, if◌then◌else◌}
use Rattle.std.specs.List.{list_all}
use Rattle.switch_model.specs.Switch.{Switch, desk_at, next_number}
use Rattle.catalogue.specs.Plan.{Plan, PlainItem, Lose, items_of, item_of, script_in}
use Rattle.catalogue.specs.declared.actor.Actor.{Actor}
use Rattle.fabric_model.specs.Driven.{has_no_loss}
use Rattle.fabric_model.specs.Laws.{IsReached}
use Rattle.fabric_model.specs.Run.{opening}
use Rattle.fabric_model.specs.State.{State, client_at}
use Rattle.fabric_model.specs.Step.{lost, granted, refused, released, decided, logged, posted, taken, installed}
use Rattle.fabric_model.proofs.MoveKinds.{Move, Loses, Grants, Refuses, Releases, Decides, Logs, Posts, Takes, Installs, Moved, ByClient, AtPort, AtStage, Recovers, move_of}
use Rattle.fabric_model.proofs.Present.{switch_at_port, switch_at_stage}
use Rattle.fabric_model.proofs.Runs.{of_reached}

both : (a b : Bool) → (a && b) ≡ true → (a ≡ true) × (b ≡ true)
both true b e = (refl, e)
both false b e = cc

passes_each : (items : List PlainItem) (k : ℕ) (item : PlainItem) → list_all (λ i. is_some (script_in i)) items ≡ true → slice_get items k ≡ Some item → is_some (script_in item) ≡ true
passes_each [] k item all is = cc
passes_each (first ∷ items) zero item all is = let same : first ≡ item = cc in ap (λ (i : PlainItem). is_some (script_in i)) (sym same) ∙ (both (is_some (script_in first)) (list_all (λ i. is_some (script_in i)) items) all).0
passes_each (first ∷ items) (suc k) item all is = passes_each items k item (both (is_some (script_in first)) (list_all (λ i. is_some (script_in i)) items) all).1 is

passes_all : (lists : List (List PlainItem)) (c : ℕ) → list_all (λ items. list_all (λ i. is_some (script_in i)) items) lists ≡ true → list_all (λ i. is_some (script_in i)) (get_or lists c []) ≡ true
passes_all [] c all = refl
passes_all (items ∷ lists) zero all = (both (list_all (λ i. is_some (script_in i)) items) (list_all (λ l. list_all (λ i. is_some (script_in i)) l) lists) all).0
passes_all (items ∷ lists) (suc c) all = passes_all lists c (both (list_all (λ i. is_some (script_in i)) items) (list_all (λ l. list_all (λ i. is_some (script_in i)) l) lists) all).1

no_loss : (plan : Plan) (c seq : ℕ) → has_no_loss plan ≡ true → item_of plan c seq ≡ Some Lose → ⊥
no_loss plan c seq all is = by (seq == 0) is
  where
    clash : false ≡ true → ⊥
    clash e = cc

    by : (b : Bool) → (if b then None else slice_get (items_of plan c) (seq - 1)) ≡ Some Lose → ⊥
    by true e = cc
    by false e = clash (passes_each (items_of plan c) (seq - 1) Lose (passes_all plan.clients c all) e)

same : (before after : Option Switch) → after ≡ before → IsSome before → IsSome after
same before after is up = subst IsSome (sym is) up

-- every move leaves the switch up
stays_up : (plan : Plan) (s after : State) (actor : Actor) → has_no_loss plan ≡ true → IsSome s.switch → Moved plan s after actor → IsSome after.switch
unfolding lost granted refused released decided logged posted taken installed
stays_up plan s after actor none up (ByClient c lt move) = by move
  where
    by : Move plan s c after → IsSome after.switch
    by (Loses now phase item was is) = absurd (no_loss plan c (client_at s c).seq none item)
    by (Grants op asks next free is) = same s.switch after.switch (ap (λ (z : State). z.switch) is) up
    by (Refuses op other asks next held is) = same s.switch after.switch (ap (λ (z : State). z.switch) is) up
    by (Releases phase is) = same s.switch after.switch (ap (λ (z : State). z.switch) is) up
    by (Decides asks next cold some is) = same s.switch after.switch (ap (λ (z : State). z.switch) is) up
    by (Logs asks next hot is) = same s.switch after.switch (ap (λ (z : State). z.switch) is) up
    by (Posts now next phase was to is) = ap is_some (ap (λ (z : State). z.switch) is)
    by (Takes now next answer phase was has to is) = ap is_some (ap (λ (z : State). z.switch) is)
    by (Installs p phase at is) = same s.switch after.switch (ap (λ (z : State). z.switch) is) up
stays_up plan s after actor none up (AtPort c now next was to is) = ap is_some (ap (λ (z : State). z.switch) is ∙ switch_at_port s c (desk_at now c) (next_number now) next)
stays_up plan s after actor none up (AtStage x now next was to is) = ap is_some (ap (λ (z : State). z.switch) is ∙ switch_at_stage s next)
stays_up plan s after actor none up (Recovers order was found is) = let lost = subst IsSome was up in cc

at_opening : (plan : Plan) → IsSome (opening plan).switch
unfolding opening
at_opening plan = refl

-- a session whose switch is lost has an item that loses it
pub loses_somewhere : (plan : Plan) (s : State) → IsReached plan s → s.switch ≡ None → has_no_loss plan ≡ false
loses_somewhere plan s reached lost = by (has_no_loss plan) refl
  where
    by : (b : Bool) → has_no_loss plan ≡ b → b ≡ false
    by false is = refl
    by true is = let up = subst IsSome lost (always_up is) in cc
      where
        always_up : has_no_loss plan ≡ true → IsSome s.switch
        always_up none = of_reached plan (λ z. IsSome z.switch) (at_opening plan) (λ z next actor reached up moves. stays_up plan z next actor none up (move_of plan z actor next moves)) s reached
