-- Unless it has finished, a client is at one of its items, and has a try left.
use Rattle.std.proofs.Common.{◌≡◌, ℕ, zero, suc, ◌+◌, ◌-◌, ◌<◌, ◌≤◌, ◌==◌, Bool, true, false, List, [], ◌∷◌, length, length-set, map, take, set, get_or, Some, inl, inr, refl, sym, ap, subst, ◌∙◌, arith, if◌then◌else◌}
use Rattle.std.proofs.lemmas.List.{length-map}
use Rattle.txn_model.specs.declared.pairs.Pair.{Pair}
use Rattle.txn_model.specs.declared.stamp.Stamp.{Stamp}
use Rattle.catalogue.specs.Plan.{Plan, PlainItem, items_of, hot_cells}
use Rattle.catalogue.specs.declared.actor.Actor.{Actor}
use Rattle.warm_split.specs.Joined.{joined}
use Rattle.placement_model.specs.Placements.{Task, packets_of}
use Rattle.switch_model.specs.Switch.{Switch, Answer, Desk, Vacant, Posted, Entered, desk_at, next_number, restored}
use Rattle.core_model.specs.declared.phase.Phase.TheVariants.{Ready, Aborting, Logged, Waiting, Installing, Finished}
use Rattle.core_model.specs.Facts.{steps_now}
use Rattle.core_model.specs.Run.{first_clients}
use Rattle.core_model.specs.State.{ClientState, at_item, script_now, zero_stamp}
use Rattle.core_model.specs.Step.{next_item}
use Rattle.core_model.proofs.Fewer.{same_or_not}
use Rattle.core_model.proofs.Moves.{moved_client, others_stay}
use Rattle.core_model.proofs.Stuck.{IsPresent, asking_open}
use Rattle.fabric_model.specs.Intents.{values_of}
use Rattle.fabric_model.specs.Laws.{IsReached}
use Rattle.fabric_model.specs.Recovery.{desks_from, waits_again, resumed}
use Rattle.fabric_model.specs.Run.{opening}
use Rattle.fabric_model.specs.State.{State, client_at}
use Rattle.fabric_model.specs.Step.{lost, granted, refused, released, decided, logged, posted, taken, installed, switched, entered, behind_entry, recovered, replied}
use Rattle.fabric_model.proofs.FromCore.{present_at, present_aborting, present_installed}
use Rattle.fabric_model.proofs.MoveKinds.{Move, Loses, Grants, Refuses, Releases, Decides, Logs, Posts, Takes, Installs, Moved, ByClient, AtPort, AtStage, Recovers, move_of}
use Rattle.fabric_model.proofs.Runs.{of_reached}

-- the reply of a client whose packet has this answer, and its stamp
abbrev pub reply_to : Plan → ℕ → ClientState → Answer → List Pair
reply_to plan c x answer = joined plan.layout (script_now plan c x) (values_of x.noted) answer.pairs

abbrev pub stamp_of : Answer → Stamp
stamp_of answer = record { number = answer.number; sub = 0 }

-- each client is
abbrev pub ArePresent : Plan → State → Type 0
ArePresent plan s = (c : ℕ) → IsPresent plan c (client_at s c)

-- a client that moved is
abbrev Becomes : Plan → State → ℕ → State → Type 0
Becomes plan s c after = (y : ClientState) × (after.clients ≡ set s.clients c y) × IsPresent plan c y

present_replied : (plan : Plan) (c : ℕ) (x : ClientState) (stamp : Stamp) (reply : List Pair) → (1 ≤ x.seq) × (x.seq ≤ length (items_of plan c)) × (x.refused < plan.tries) → IsPresent plan c (replied plan c x stamp reply)
present_replied plan c x stamp reply at = by (length x.noted == 0)
  where
    by : (b : Bool) → IsPresent plan c (if b then next_item plan c (record x { phase = Installing; last = stamp; reply = reply }) else record x { phase = Installing; last = stamp; reply = reply })
    by true = present_at plan c (x.seq + 1) (record x { phase = Installing; last = stamp; reply = reply }) (omega (arith, at.2)) (omega arith)
    by false = λ _. at

present_next : (plan : Plan) (c : ℕ) (x : ClientState) → (1 ≤ x.seq) × (x.seq ≤ length (items_of plan c)) × (x.refused < plan.tries) → IsPresent plan c (next_item plan c x)
present_next plan c x at = present_at plan c (x.seq + 1) x (omega (arith, at.2)) (omega arith)

becomes : (plan : Plan) (s : State) (c : ℕ) (after : State) → IsPresent plan c (client_at s c) → Move plan s c after → Becomes plan s c after
unfolding lost granted refused released decided logged posted taken installed
becomes plan s c after here (Loses now phase item up is) = (_, ap (λ (z : State). z.clients) is, present_next plan c (client_at s c) (here (λ i. clash (sym phase ∙ i))))
  where
    clash : Ready ≡ Finished → ⊥
    clash e = cc
becomes plan s c after here (Grants op asks next free is) = (_, ap (λ (z : State). z.clients) is, λ _. here (asking_open (client_at s c) asks))
becomes plan s c after here (Refuses op by asks next held is) = (_, ap (λ (z : State). z.clients) is, present_aborting plan c (client_at s c) (client_at s c).noted (here (asking_open (client_at s c) asks)))
becomes plan s c after here (Releases phase is) = (_, ap (λ (z : State). z.clients) is, present_aborting plan c (client_at s c) (take (length (client_at s c).noted - 1) (client_at s c).noted) (here (λ i. clash (sym phase ∙ i))))
  where
    clash : Aborting ≡ Finished → ⊥
    clash e = cc
becomes plan s c after here (Decides asks next cold some is) = (_, ap (λ (z : State). z.clients) is, λ _. here (asking_open (client_at s c) asks))
becomes plan s c after here (Logs asks next hot is) = (_, ap (λ (z : State). z.clients) is, λ _. here (asking_open (client_at s c) asks))
becomes plan s c after here (Posts now next phase up to is) = (_, ap (λ (z : State). z.clients) is, λ _. here (λ i. clash (sym phase ∙ i)))
  where
    clash : Logged ≡ Finished → ⊥
    clash e = cc
becomes plan s c after here (Takes now next answer phase up has to is) = (_, ap (λ (z : State). z.clients) is, present_replied plan c (client_at s c) (stamp_of answer) (reply_to plan c (client_at s c) answer) (here (λ i. clash (sym phase ∙ i))))
  where
    clash : Waiting ≡ Finished → ⊥
    clash e = cc
becomes plan s c after here (Installs p phase at is) = (_, ap (λ (z : State). z.clients) is, present_installed plan c (client_at s c) (length (steps_now plan c (client_at s c))) (here (λ i. clash (sym phase ∙ i))))
  where
    clash : Installing ≡ Finished → ⊥
    clash e = cc

present_moved : (plan : Plan) (s : State) (c : ℕ) (after : State) → c < length s.clients → ArePresent plan s → Move plan s c after → ArePresent plan after
present_moved plan s c after lt here move d =
    let b = becomes plan s c after (here c) move in
    elim (same_or_not d c) [
      | inl e ↦ subst (λ (n : ℕ). IsPresent plan n (client_at after n)) (sym e) (subst (λ (z : ClientState). IsPresent plan c z) (sym (ap (λ (l : List ClientState). get_or l c (at_item 0 1 zero_stamp)) b.1 ∙ moved_client s.clients c b.0 lt)) b.2)
      | inr n ↦ subst (λ (z : ClientState). IsPresent plan d z) (sym (ap (λ (l : List ClientState). get_or l d (at_item 0 1 zero_stamp)) b.1 ∙ others_stay s.clients c b.0 d n)) (here d)
    ]

-- moves at the switch change no client
pub clients_at_port : (s : State) (c : ℕ) (desk : Desk) (number : ℕ) (next : Switch) → (behind_entry s c desk number next).clients ≡ s.clients
unfolding entered switched
clients_at_port s c Vacant number next = refl
clients_at_port s c (Posted p) number next = refl
clients_at_port s c (Entered k) number next = refl

pub clients_at_stage : (s : State) (next : Switch) → (switched s next).clients ≡ s.clients
unfolding switched
clients_at_stage s next = refl

pub switch_at_port : (s : State) (c : ℕ) (desk : Desk) (number : ℕ) (next : Switch) → (behind_entry s c desk number next).switch ≡ Some next
unfolding entered switched
switch_at_port s c Vacant number next = refl
switch_at_port s c (Posted p) number next = refl
switch_at_port s c (Entered k) number next = refl

pub switch_at_stage : (s : State) (next : Switch) → (switched s next).switch ≡ Some next
unfolding switched
switch_at_stage s next = refl

-- ---- recovery

-- a client that is past the last one has finished
pub resumed_at : (clients : List ClientState) (c : ℕ) → get_or (map resumed clients) c (at_item 0 1 zero_stamp) ≡ resumed (get_or clients c (at_item 0 1 zero_stamp))
resumed_at [] c = refl
resumed_at (x ∷ clients) zero = refl
resumed_at (x ∷ clients) (suc c) = resumed_at clients c

pub clients_recovered : (plan : Plan) (s : State) (order : List Task) → (recovered plan s order).clients ≡ map resumed s.clients
unfolding recovered
clients_recovered plan s order = refl

-- the switch is up
pub up_recovered : (plan : Plan) (s : State) (order : List Task) → (recovered plan s order).switch ≡ Some (restored (hot_cells plan) (packets_of order) (desks_from order 0 (length s.clients)))
unfolding recovered
up_recovered plan s order = refl

-- each client goes on, and waits where it had logged its packet
pub client_recovered : (plan : Plan) (s after : State) (order : List Task) → after ≡ recovered plan s order → (c : ℕ) → client_at after c ≡ resumed (client_at s c)
client_recovered plan s after order is c =
    ap (λ (l : List ClientState). get_or l c (at_item 0 1 zero_stamp)) (ap (λ (z : State). z.clients) is ∙ clients_recovered plan s order) ∙ resumed_at s.clients c

present_step : (plan : Plan) (s after : State) (actor : Actor) → ArePresent plan s → Moved plan s after actor → ArePresent plan after
present_step plan s after actor here (ByClient c within move) = present_moved plan s c after within here move
present_step plan s after actor here (AtPort c now next up to is) =
    λ d. subst (λ (l : List ClientState). IsPresent plan d (get_or l d (at_item 0 1 zero_stamp))) (sym (ap (λ (z : State). z.clients) is ∙ clients_at_port s c (desk_at now c) (next_number now) next)) (here d)
present_step plan s after actor here (AtStage x now next up to is) =
    λ d. subst (λ (l : List ClientState). IsPresent plan d (get_or l d (at_item 0 1 zero_stamp))) (sym (ap (λ (z : State). z.clients) is ∙ clients_at_stage s next)) (here d)
present_step plan s after actor here (Recovers order down found is) =
    λ d. subst (λ (x : ClientState). IsPresent plan d x) (sym (client_recovered plan s after order is d)) (λ active. here d (λ finished. active (ap waits_again finished)))

present_at_opening : (plan : Plan) → 1 ≤ plan.tries → ArePresent plan (opening plan)
unfolding opening
present_at_opening plan tries c = first plan.clients c refl
  where
    -- the client's items are those at its place
    first : (lists : List (List PlainItem)) (d : ℕ) → get_or lists d [] ≡ items_of plan c → IsPresent plan c (get_or (first_clients lists) d (at_item 0 1 zero_stamp))
    first [] d is = λ active. absurd (active refl)
    first (items ∷ lists) zero is = subst (λ (l : List PlainItem). IsPresent plan c (at_item (length l) 1 zero_stamp)) (sym is) (present_at plan c 1 (at_item 0 1 zero_stamp) tries (omega arith))
    first (items ∷ lists) (suc d) is = first lists d is

pub present_of : (plan : Plan) (s : State) → IsReached plan s → ArePresent plan s
present_of plan s reached =
    of_reached plan (ArePresent plan) (present_at_opening plan reached.sound.limits.tries.0) (λ z next actor r here is. present_step plan z next actor here (move_of plan z actor next is)) s reached

-- a move changes clients in their places
clients_moved : (plan : Plan) (s : State) (c : ℕ) (after : State) → Move plan s c after → length after.clients ≡ length s.clients
unfolding lost granted refused released decided logged posted taken installed
clients_moved plan s c after (Loses now phase item up is) = ap (λ (z : State). length z.clients) is ∙ length-set s.clients c _
clients_moved plan s c after (Grants op asks next free is) = ap (λ (z : State). length z.clients) is ∙ length-set s.clients c _
clients_moved plan s c after (Refuses op by asks next held is) = ap (λ (z : State). length z.clients) is ∙ length-set s.clients c _
clients_moved plan s c after (Releases phase is) = ap (λ (z : State). length z.clients) is ∙ length-set s.clients c _
clients_moved plan s c after (Decides asks next cold some is) = ap (λ (z : State). length z.clients) is ∙ length-set s.clients c _
clients_moved plan s c after (Logs asks next hot is) = ap (λ (z : State). length z.clients) is ∙ length-set s.clients c _
clients_moved plan s c after (Posts now next phase up to is) = ap (λ (z : State). length z.clients) is ∙ length-set s.clients c _
clients_moved plan s c after (Takes now next answer phase up has to is) = ap (λ (z : State). length z.clients) is ∙ length-set s.clients c _
clients_moved plan s c after (Installs p phase at is) = ap (λ (z : State). length z.clients) is ∙ length-set s.clients c _

pub clients_same : (plan : Plan) (s after : State) (actor : Actor) → Moved plan s after actor → length after.clients ≡ length s.clients
clients_same plan s after actor (ByClient c within move) = clients_moved plan s c after move
clients_same plan s after actor (AtPort c now next up to is) = ap length (ap (λ (z : State). z.clients) is ∙ clients_at_port s c (desk_at now c) (next_number now) next)
clients_same plan s after actor (AtStage x now next up to is) = ap length (ap (λ (z : State). z.clients) is ∙ clients_at_stage s next)
clients_same plan s after actor (Recovers order down found is) = ap length (ap (λ (z : State). z.clients) is ∙ clients_recovered plan s order) ∙ length-map s.clients resumed

-- a session's clients stay
pub clients_stay : (plan : Plan) (s : State) → IsReached plan s → length s.clients ≡ length plan.clients
unfolding opening
clients_stay plan s reached =
    of_reached plan (λ z. length z.clients ≡ length plan.clients) (length-map plan.clients _) (λ z next actor r same is. clients_same plan z next actor (move_of plan z actor next is) ∙ same) s reached
