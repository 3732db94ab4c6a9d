-- What holds between any two moves, and behind longer traces.
use Rattle.std.proofs.Common.{◌≡◌, ℕ, ◌+◌, suc, List, [], ◌∷◌, ◌++◌, length, Option, Some, None, refl, subst, ap, ◌∙◌, arith}
use Rattle.std.specs.Option.{option_and_then}
use Rattle.catalogue.specs.Plan.{Plan}
use Rattle.catalogue.specs.Sound.{IsSound}
use Rattle.catalogue.specs.declared.actor.Actor.{Actor}
use Rattle.switch_model.specs.Switch.{Switch, Desk, Vacant, Posted, Entered, desk_at, next_number}
use Rattle.fabric_model.specs.Laws.{IsReached}
use Rattle.fabric_model.specs.Run.{opening, state_behind, state_of}
use Rattle.fabric_model.specs.State.{State}
use Rattle.fabric_model.specs.Step.{lost, granted, refused, released, decided, logged, posted, taken, installed, switched, entered, behind_entry, recovered, step}
use Rattle.fabric_model.proofs.MoveKinds.{Move, Loses, Grants, Refuses, Releases, Decides, Logs, Posts, Takes, Installs, Moved, ByClient, AtPort, AtStage, Recovers, move_of}

same : {T : Type 0} {a b : T} → Some a ≡ Some b → a ≡ b
same e = cc

-- the first of some moves, and those behind it
pub first_move : (plan : Plan) (s after : State) (actor : Actor) (trace : List Actor) (Q : Type 0) → state_behind plan s (actor ∷ trace) ≡ Some after
    → ((next : State) → step plan s actor ≡ Some next → state_behind plan next trace ≡ Some after → Q) → Q
first_move plan s after actor trace Q run go = by (step plan s actor) refl run
  where
    by : (o : Option State) → step plan s actor ≡ o → option_and_then (λ next. state_behind plan next trace) o ≡ Some after → Q
    by (Some next) is e = go next is e
    by None is e = cc

-- what each move keeps holds behind any moves
pub by_moves : (plan : Plan) (P : State → Type 0) → ((s next : State) (actor : Actor) → P s → step plan s actor ≡ Some next → P next) → (trace : List Actor) (s after : State) → P s → state_behind plan s trace ≡ Some after → P after
by_moves plan P keeps [] s after holds moves = subst P (same moves) holds
by_moves plan P keeps (actor ∷ trace) s after holds moves =
    first_move plan s after actor trace (P after) moves (λ next is rest. by_moves plan P keeps trace next after (keeps s next actor holds is) rest)

-- moves behind moves
pub state_behind-append : (plan : Plan) (s next after : State) (done rest : List Actor) → state_behind plan s done ≡ Some next → state_behind plan next rest ≡ Some after → state_behind plan s (done ++ rest) ≡ Some after
state_behind-append plan s next after [] rest e f = subst (λ (z : State). state_behind plan z rest ≡ Some after) (turned (same e)) f
  where
    turned : {a b : State} → a ≡ b → b ≡ a
    turned e = cc
state_behind-append plan s next after (actor ∷ done) rest e f = by (step plan s actor) refl e (λ z g. state_behind-append plan z next after done rest g f)
  where
    by : (o : Option State) → step plan s actor ≡ o → option_and_then (λ z. state_behind plan z done) o ≡ Some next
        → ((z : State) → state_behind plan z done ≡ Some next → state_behind plan z (done ++ rest) ≡ Some after) → option_and_then (λ z. state_behind plan z (done ++ rest)) o ≡ Some after
    by (Some z) is g go = go z g
    by None is g go = cc

pub one_more : (plan : Plan) (done : List Actor) (actor : Actor) (s next : State) → state_of plan done ≡ Some s → step plan s actor ≡ Some next → state_of plan (done ++ actor ∷ []) ≡ Some next
unfolding state_of
one_more plan done actor s next run is = state_behind-append plan (opening plan) s next done (actor ∷ []) run (ap (option_and_then (λ z. state_behind plan z [])) is)

pub reached_step : (plan : Plan) (s next : State) (actor : Actor) → IsReached plan s → step plan s actor ≡ Some next → IsReached plan next
reached_step plan s next actor reached is = record { sound = reached.sound; trace = reached.trace ++ actor ∷ []; run = one_more plan reached.trace actor s next reached.run is }

pub opening_is_reached : (plan : Plan) → IsSound plan → IsReached plan (opening plan)
unfolding state_of
opening_is_reached plan sound = record { sound = sound; trace = []; run = refl }

-- what holds at the opening and is kept by each move holds of reached states
pub of_reached : (plan : Plan) (P : State → Type 0) → P (opening plan) → ((s next : State) (actor : Actor) → IsReached plan s → P s → step plan s actor ≡ Some next → P next) → (s : State) → IsReached plan s → P s
unfolding state_of
of_reached plan P first keeps s reached =
    (by_moves plan (λ z. IsReached plan z × P z) (λ z next actor h is. (reached_step plan z next actor h.0 is, keeps z next actor h.0 h.1 is)) reached.trace (opening plan) s (opening_is_reached plan reached.sound, first) reached.run).1

-- each move is counted
counted_by_client : (plan : Plan) (s : State) (c : ℕ) (after : State) → Move plan s c after → after.moves ≡ s.moves + 1
unfolding lost granted refused released decided logged posted taken installed
counted_by_client plan s c after (Loses now phase item up is) = ap (λ (z : State). z.moves) is
counted_by_client plan s c after (Grants op asks next free is) = ap (λ (z : State). z.moves) is
counted_by_client plan s c after (Refuses op by asks next held is) = ap (λ (z : State). z.moves) is
counted_by_client plan s c after (Releases phase is) = ap (λ (z : State). z.moves) is
counted_by_client plan s c after (Decides asks next cold some is) = ap (λ (z : State). z.moves) is
counted_by_client plan s c after (Logs asks next hot is) = ap (λ (z : State). z.moves) is
counted_by_client plan s c after (Posts now next phase up to is) = ap (λ (z : State). z.moves) is
counted_by_client plan s c after (Takes now next answer phase up has to is) = ap (λ (z : State). z.moves) is
counted_by_client plan s c after (Installs p phase at is) = ap (λ (z : State). z.moves) is

counted_at_port : (s : State) (c : ℕ) (desk : Desk) (number : ℕ) (next : Switch) → (behind_entry s c desk number next).moves ≡ s.moves + 1
unfolding entered switched
counted_at_port s c Vacant number next = refl
counted_at_port s c (Posted p) number next = refl
counted_at_port s c (Entered k) number next = refl

moves_on : (plan : Plan) (s after : State) (actor : Actor) → Moved plan s after actor → after.moves ≡ s.moves + 1
unfolding switched recovered
moves_on plan s after actor (ByClient c within move) = counted_by_client plan s c after move
moves_on plan s after actor (AtPort c now next up to is) = ap (λ (z : State). z.moves) is ∙ counted_at_port s c (desk_at now c) (next_number now) next
moves_on plan s after actor (AtStage x now next up to is) = ap (λ (z : State). z.moves) is
moves_on plan s after actor (Recovers order down found is) = ap (λ (z : State). z.moves) is

pub step_is_counted : (plan : Plan) (s after : State) (actor : Actor) → step plan s actor ≡ Some after → after.moves ≡ s.moves + 1
step_is_counted plan s after actor is = moves_on plan s after actor (move_of plan s actor after is)

pub moves_counted : (plan : Plan) (trace : List Actor) (s after : State) → state_behind plan s trace ≡ Some after → after.moves ≡ s.moves + length trace
moves_counted plan [] s after run = omega (arith, ap (λ (z : State). z.moves) (same run))
moves_counted plan (actor ∷ trace) s after run =
    first_move plan s after actor trace (after.moves ≡ s.moves + suc (length trace)) run (λ next is rest. omega (arith, moves_counted plan trace next after rest, step_is_counted plan s next actor is))

pub moves_are_the_trace : (plan : Plan) (trace : List Actor) (s : State) → state_of plan trace ≡ Some s → s.moves ≡ length trace
unfolding state_of opening
moves_are_the_trace plan trace s run = omega (arith, moves_counted plan trace (opening plan) s run)
