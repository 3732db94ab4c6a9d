-- What the move of an actor is.
use Rattle.std.proofs.Common.{◌≡◌, ℕ, ◌<◌, nat_lt, Bool, true, false, List, length, slice_get, Option, Some, None, inl, inr, refl, sym, ◌∙◌, arith, if◌then◌else◌, option_map}
use Rattle.std.specs.Option.{option_and_then}
use Rattle.std.proofs.lemmas.Bool.Decides.{nat_tests}
use Rattle.txn_model.specs.declared.op.Op.{Op}
use Rattle.history_model.specs.Chain.{Step}
use Rattle.placement_model.specs.Placements.{Task}
use Rattle.switch_model.specs.Switch.{Switch, Answer, desk_at, next_number, answer_of}
use Rattle.switch_model.specs.Event as switch
use Rattle.catalogue.specs.Plan.{Plan, PlainItem, Run, Lose, item_of}
use Rattle.catalogue.specs.declared.actor.Actor.{Actor}
use Rattle.catalogue.specs.declared.actor.Actor.TheVariants.{Client, Port, Stage, Recover}
use Rattle.core_model.specs.declared.phase.Phase.{Phase}
use Rattle.core_model.specs.declared.phase.Phase.TheVariants.{Ready, Locking, Aborting, Logged, Waiting, Installing, Finished}
use Rattle.core_model.specs.Asking.{IsAsking}
use Rattle.core_model.specs.Facts.{steps_now}
use Rattle.core_model.specs.State.{ClientState, script_now}
use Rattle.fabric_model.specs.Intents.{packet_now}
use Rattle.fabric_model.specs.State.{State, client_at}
use Rattle.fabric_model.specs.Step.{lost, granted, refused, holder, asked, released, decided, logged, posted, taken, installed, switched, has_hot, logs_or_decides, asks_or_goes_on, next_op, takes, begins, client_step, behind_entry, enters, recovered, order_now, recovers, step}

-- what the move of this client is
pub data Move (plan : Plan) (s : State) (c : ℕ) (after : State) : Type 0 where
  Loses : (now : Switch) → (client_at s c).phase ≡ Ready → item_of plan c (client_at s c).seq ≡ Some Lose → s.switch ≡ Some now → after ≡ lost plan s c (client_at s c) → Move plan s c after
  Grants : (op : Op) → IsAsking (client_at s c) → next_op plan c (client_at s c) ≡ Some op → holder plan s c op ≡ None → after ≡ granted s c (client_at s c) op → Move plan s c after
  Refuses : (op : Op) (by : ℕ) → IsAsking (client_at s c) → next_op plan c (client_at s c) ≡ Some op → holder plan s c op ≡ Some by → after ≡ refused plan s c (client_at s c) op by → Move plan s c after
  Releases : (client_at s c).phase ≡ Aborting → after ≡ released plan s c (client_at s c) → Move plan s c after
  Decides : IsAsking (client_at s c) → next_op plan c (client_at s c) ≡ None → has_hot plan (script_now plan c (client_at s c)) ≡ false → 0 < length (client_at s c).noted → after ≡ decided plan s c (client_at s c) → Move plan s c after
  Logs : IsAsking (client_at s c) → next_op plan c (client_at s c) ≡ None → has_hot plan (script_now plan c (client_at s c)) ≡ true → after ≡ logged plan s c (client_at s c) → Move plan s c after
  Posts : (now next : Switch) → (client_at s c).phase ≡ Logged → s.switch ≡ Some now → switch.post now c (packet_now plan c (client_at s c)) ≡ Some next → after ≡ posted s c (client_at s c) next → Move plan s c after
  Takes : (now next : Switch) (answer : Answer) → (client_at s c).phase ≡ Waiting → s.switch ≡ Some now → answer_of now c ≡ Some answer → switch.take_answer now c ≡ Some next → after ≡ taken plan s c (client_at s c) answer next → Move plan s c after
  Installs : (p : Step) → (client_at s c).phase ≡ Installing → slice_get (steps_now plan c (client_at s c)) (client_at s c).installed ≡ Some p → after ≡ installed plan s c (client_at s c) p → Move plan s c after

-- such a client isn't decided
pub not_decided : (x : ClientState) → IsAsking x → (x.phase ≡ Installing → ⊥)
not_decided x (inl e) i = let clash : Ready ≡ Installing = sym e ∙ i in cc
not_decided x (inr e) i = let clash : Locking ≡ Installing = sym e ∙ i in cc

below : (a b : ℕ) → nat_lt a b ≡ true → a < b
below a b t = grind (arith, nat_tests)

some_same : {T : Type 0} {a b : T} → Some a ≡ Some b → b ≡ a
some_same e = cc

going_on : (plan : Plan) (s : State) (c : ℕ) (after : State) → next_op plan c (client_at s c) ≡ None → IsAsking (client_at s c) → logs_or_decides plan s c (client_at s c) ≡ Some after → Move plan s c after
going_on plan s c after next asks e = by (has_hot plan (script_now plan c (client_at s c))) refl e
  where
    decides : (b : Bool) → nat_lt 0 (length (client_at s c).noted) ≡ b → has_hot plan (script_now plan c (client_at s c)) ≡ false → (if b then Some (decided plan s c (client_at s c)) else None) ≡ Some after → Move plan s c after
    decides true lt cold i = Decides asks next cold (below 0 (length (client_at s c).noted) lt) (some_same i)
    decides false lt cold i = cc

    by : (b : Bool) → has_hot plan (script_now plan c (client_at s c)) ≡ b
        → (if b then Some (logged plan s c (client_at s c)) else (if nat_lt 0 (length (client_at s c).noted) then Some (decided plan s c (client_at s c)) else None)) ≡ Some after → Move plan s c after
    by true hot i = Logs asks next hot (some_same i)
    by false hot i = decides (nat_lt 0 (length (client_at s c).noted)) refl hot i

asking : (plan : Plan) (s : State) (c : ℕ) (after : State) (o : Option Op) → next_op plan c (client_at s c) ≡ o → IsAsking (client_at s c) → asks_or_goes_on plan s c (client_at s c) o ≡ Some after → Move plan s c after
asking plan s c after (Some op) next asks e = by (holder plan s c op) refl (some_same e)
  where
    by : (h : Option ℕ) → holder plan s c op ≡ h → after ≡ asked plan s c (client_at s c) op h → Move plan s c after
    by None free is = Grants op asks next free is
    by (Some other) held is = Refuses op other asks next held is
asking plan s c after None next asks e = going_on plan s c after next asks e

posting : (plan : Plan) (s : State) (c : ℕ) (after : State) → (client_at s c).phase ≡ Logged → (o : Option Switch) → s.switch ≡ o
    → option_map (posted s c (client_at s c)) (option_and_then (λ now. switch.post now c (packet_now plan c (client_at s c))) o) ≡ Some after → Move plan s c after
posting plan s c after is None at e = cc
posting plan s c after is (Some now) at e = by (switch.post now c (packet_now plan c (client_at s c))) refl e
  where
    by : (o : Option Switch) → switch.post now c (packet_now plan c (client_at s c)) ≡ o → option_map (posted s c (client_at s c)) o ≡ Some after → Move plan s c after
    by (Some next) to i = Posts now next is at to (some_same i)
    by None to i = cc

taking : (plan : Plan) (s : State) (c : ℕ) (after : State) → (client_at s c).phase ≡ Waiting → (o : Option Switch) → s.switch ≡ o
    → option_and_then (λ now. takes plan s c (client_at s c) now (answer_of now c)) o ≡ Some after → Move plan s c after
taking plan s c after is None at e = cc
taking plan s c after is (Some now) at e = by (answer_of now c) refl e
  where
    by_next : (answer : Answer) → answer_of now c ≡ Some answer → (o : Option Switch) → switch.take_answer now c ≡ o → option_map (taken plan s c (client_at s c) answer) o ≡ Some after → Move plan s c after
    by_next answer has (Some next) to i = Takes now next answer is at has to (some_same i)
    by_next answer has None to i = cc

    by : (o : Option Answer) → answer_of now c ≡ o → takes plan s c (client_at s c) now o ≡ Some after → Move plan s c after
    by (Some answer) has i = by_next answer has (switch.take_answer now c) refl i
    by None has i = cc

losing : (plan : Plan) (s : State) (c : ℕ) (after : State) → (client_at s c).phase ≡ Ready → item_of plan c (client_at s c).seq ≡ Some Lose → (o : Option Switch) → s.switch ≡ o
    → option_map (λ now. lost plan s c (client_at s c)) o ≡ Some after → Move plan s c after
losing plan s c after is item None at e = cc
losing plan s c after is item (Some now) at e = Loses now is item at (some_same e)

beginning : (plan : Plan) (s : State) (c : ℕ) (after : State) → (client_at s c).phase ≡ Ready → (o : Option PlainItem) → item_of plan c (client_at s c).seq ≡ o → begins plan s c (client_at s c) o ≡ Some after → Move plan s c after
beginning plan s c after is None item e = cc
beginning plan s c after is (Some (Run ops)) item e = asking plan s c after (next_op plan c (client_at s c)) refl (inl is) e
beginning plan s c after is (Some Lose) item e = losing plan s c after is item s.switch refl e

move_in : (plan : Plan) (s : State) (c : ℕ) (after : State) (q : Phase) → (client_at s c).phase ≡ q → client_step plan s c (client_at s c) q ≡ Some after → Move plan s c after
move_in plan s c after Ready is e = beginning plan s c after is (item_of plan c (client_at s c).seq) refl e
move_in plan s c after Locking is e = asking plan s c after (next_op plan c (client_at s c)) refl (inr is) e
move_in plan s c after Aborting is e = Releases is (some_same e)
move_in plan s c after Installing is e = by (slice_get (steps_now plan c (client_at s c)) (client_at s c).installed) refl e
  where
    by : (o : Option Step) → slice_get (steps_now plan c (client_at s c)) (client_at s c).installed ≡ o → option_map (installed plan s c (client_at s c)) o ≡ Some after → Move plan s c after
    by (Some p) at i = Installs p is at (some_same i)
    by None at i = cc
move_in plan s c after Logged is e = posting plan s c after is s.switch refl e
move_in plan s c after Waiting is e = taking plan s c after is s.switch refl e
move_in plan s c after Finished is e = cc

-- who moved, and how
pub data Moved (plan : Plan) (s : State) (after : State) : Actor → Type 0 where
  ByClient : (c : ℕ) → c < length s.clients → Move plan s c after → Moved plan s after (Client c)
  AtPort : (c : ℕ) (now next : Switch) → s.switch ≡ Some now → switch.enter plan.shape now c ≡ Some next → after ≡ behind_entry s c (desk_at now c) (next_number now) next → Moved plan s after (Port c)
  AtStage : (x : ℕ) (now next : Switch) → s.switch ≡ Some now → switch.advance plan.shape now x ≡ Some next → after ≡ switched s next → Moved plan s after (Stage x)
  Recovers : (order : List Task) → s.switch ≡ None → order_now plan s ≡ Some order → after ≡ recovered plan s order → Moved plan s after Recover

pub move_of : (plan : Plan) (s : State) (actor : Actor) (after : State) → step plan s actor ≡ Some after → Moved plan s after actor
unfolding step
move_of plan s (Client c) after e = by (nat_lt c (length s.clients)) refl e
  where
    by : (b : Bool) → nat_lt c (length s.clients) ≡ b → (if b then client_step plan s c (client_at s c) (client_at s c).phase else None) ≡ Some after → Moved plan s after (Client c)
    by true lt i = ByClient c (below c (length s.clients) lt) (move_in plan s c after (client_at s c).phase refl i)
    by false lt i = cc
move_of plan s (Port c) after e = by s.switch refl e
  where
    entering : (now : Switch) → s.switch ≡ Some now → (o : Option Switch) → switch.enter plan.shape now c ≡ o → option_map (behind_entry s c (desk_at now c) (next_number now)) o ≡ Some after → Moved plan s after (Port c)
    entering now at (Some next) to i = AtPort c now next at to (some_same i)
    entering now at None to i = cc

    by : (o : Option Switch) → s.switch ≡ o → option_and_then (enters plan s c) o ≡ Some after → Moved plan s after (Port c)
    by (Some now) at i = entering now at (switch.enter plan.shape now c) refl i
    by None at i = cc
move_of plan s (Stage x) after e = by s.switch refl e
  where
    advancing : (now : Switch) → s.switch ≡ Some now → (o : Option Switch) → switch.advance plan.shape now x ≡ o → option_map (switched s) o ≡ Some after → Moved plan s after (Stage x)
    advancing now at (Some next) to i = AtStage x now next at to (some_same i)
    advancing now at None to i = cc

    by : (o : Option Switch) → s.switch ≡ o → option_map (switched s) (option_and_then (λ now. switch.advance plan.shape now x) o) ≡ Some after → Moved plan s after (Stage x)
    by (Some now) at i = advancing now at (switch.advance plan.shape now x) refl i
    by None at i = cc
move_of plan s Recover after e = by s.switch refl e
  where
    ordered : s.switch ≡ None → (o : Option (List Task)) → order_now plan s ≡ o → option_map (recovered plan s) o ≡ Some after → Moved plan s after Recover
    ordered down (Some order) is i = Recovers order down is (some_same i)
    ordered down None is i = cc

    by : (o : Option Switch) → s.switch ≡ o → recovers plan s o ≡ Some after → Moved plan s after Recover
    by None down i = ordered down (order_now plan s) refl i
    by (Some now) up i = cc
