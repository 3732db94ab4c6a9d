-- What holds of each client of a reached state at its present item.
use Rattle.std.proofs.Common.{◌≡◌, ℕ, zero, suc, ◌+◌, ◌-◌, ◌<◌, ◌≤◌, ◌==◌, nat_le, Bool, true, false, List, [], ◌∷◌, ◌++◌, take, set, get_or, length, inl, inr, refl, sym, ap, subst, ◌∙◌, arith, if◌then◌else◌, length-append}
use Rattle.std.proofs.lemmas.Bool.Decides.{nat_tests}
use Rattle.txn_model.specs.declared.pairs.Pair.{Pair}
use Rattle.txn_model.specs.declared.stamp.Seen.{Seen}
use Rattle.txn_model.specs.declared.stamp.Stamp.{Stamp}
use Rattle.host_store.specs.Store.{seen_at}
use Rattle.catalogue.specs.Plan.{Plan, PlainItem, items_of}
use Rattle.catalogue.specs.declared.actor.Actor.{Actor}
use Rattle.switch_model.specs.Switch.{desk_at, next_number}
use Rattle.core_model.specs.Facts.{steps_now}
use Rattle.core_model.specs.Run.{first_clients}
use Rattle.core_model.specs.State.{ClientState, at_item, script_now, zero_stamp}
use Rattle.core_model.specs.Step.{next_item, try_ended, aborting, installed_one}
use Rattle.core_model.specs.declared.phase.Phase.{Phase}
use Rattle.core_model.specs.declared.phase.Phase.TheVariants.{Ready, Locking, Aborting, Logged, Waiting, Installing, Finished}
use Rattle.core_model.proofs.Fewer.{same_or_not}
use Rattle.core_model.proofs.Moves.{moved_client, others_stay}
use Rattle.fabric_model.specs.Intents.{values_of}
use Rattle.fabric_model.specs.Laws.{IsReached}
use Rattle.fabric_model.specs.Recovery.{waits_again, resumed}
use Rattle.fabric_model.specs.Run.{opening}
use Rattle.fabric_model.specs.State.{State, client_at}
use Rattle.fabric_model.specs.Step.{lost, granted, refused, released, decided, logged, posted, taken, installed, replied}
use Rattle.fabric_model.proofs.JoinedSteps.{length-joined_from}
use Rattle.fabric_model.proofs.MoveKinds.{Move, Loses, Grants, Refuses, Releases, Decides, Logs, Posts, Takes, Installs, Moved, ByClient, AtPort, AtStage, Recovers, move_of}
use Rattle.fabric_model.proofs.Present.{reply_to, stamp_of, clients_at_port, clients_at_stage, client_recovered}
use Rattle.fabric_model.proofs.Resumed.{installs_before}
use Rattle.fabric_model.proofs.Runs.{of_reached}

-- one that takes locks has one, one that installs has a reply, and one that has finished has no item left
pub record IsMade (plan : Plan) (c : ℕ) (x : ClientState) : Type 0 where
  pub locks : x.phase ≡ Locking → 1 ≤ length x.noted
  pub reply : x.phase ≡ Installing → length x.reply ≡ length (script_now plan c x)
  pub finished : x.phase ≡ Finished → length (items_of plan c) < x.seq

past : (a b : ℕ) → nat_le a b ≡ false → b < a
past a b t = grind (arith, nat_tests)

-- at the beginning of an item
made_at : (plan : Plan) (c seq : ℕ) (last : Stamp) → IsMade plan c (at_item (length (items_of plan c)) seq last)
made_at plan c seq last = by (nat_le seq (length (items_of plan c))) refl
  where
    by : (b : Bool) → nat_le seq (length (items_of plan c)) ≡ b → IsMade plan c (record { phase = if b then Ready else Finished; seq = seq; refused = 0; noted = []; installed = 0; last = last; reply = [] })
    by true t = record { locks = λ e. cc; reply = λ e. cc; finished = λ e. cc }
    by false t = record { locks = λ e. cc; reply = λ e. cc; finished = λ e. past seq (length (items_of plan c)) t }

made_again : (plan : Plan) (c : ℕ) (x : ClientState) → IsMade plan c (try_ended plan c x)
made_again plan c x = by (x.refused + 1 == plan.tries)
  where
    by : (b : Bool) → IsMade plan c (if b then next_item plan c x else record { phase = Ready; seq = x.seq; refused = x.refused + 1; noted = []; installed = 0; last = x.last; reply = [] })
    by true = made_at plan c (x.seq + 1) x.last
    by false = record { locks = λ e. cc; reply = λ e. cc; finished = λ e. cc }

made_aborting : (plan : Plan) (c : ℕ) (x : ClientState) (left : List Seen) → IsMade plan c (aborting plan c x left)
made_aborting plan c x [] = made_again plan c x
made_aborting plan c x (seen ∷ left) = record { locks = λ e. cc; reply = λ e. cc; finished = λ e. cc }

made_granted : (plan : Plan) (c : ℕ) (x : ClientState) (seen : Seen) → IsMade plan c (record x { phase = Locking; noted = x.noted ++ seen ∷ [] })
made_granted plan c x seen = record { locks = λ e. omega (arith, length-append x.noted (seen ∷ [])); reply = λ e. cc; finished = λ e. cc }

made_reply : (plan : Plan) (c : ℕ) (x : ClientState) (stamp : Stamp) (reply : List Pair) → length reply ≡ length (script_now plan c x) → IsMade plan c (record x { phase = Installing; last = stamp; reply = reply })
made_reply plan c x stamp reply size = record { locks = λ e. cc; reply = λ e. size; finished = λ e. cc }

made_replied : (plan : Plan) (c : ℕ) (x : ClientState) (stamp : Stamp) (reply : List Pair) → length reply ≡ length (script_now plan c x) → IsMade plan c (replied plan c x stamp reply)
made_replied plan c x stamp reply size = by (length x.noted == 0)
  where
    by : (b : Bool) → IsMade plan c (if b then next_item plan c (record x { phase = Installing; last = stamp; reply = reply }) else record x { phase = Installing; last = stamp; reply = reply })
    by true = made_at plan c (x.seq + 1) stamp
    by false = made_reply plan c x stamp reply size

made_installed : (plan : Plan) (c : ℕ) (x : ClientState) (all : ℕ) → x.phase ≡ Installing → IsMade plan c x → IsMade plan c (installed_one plan c x all)
made_installed plan c x all installing had = by (x.installed + 1 == all)
  where
    by : (b : Bool) → IsMade plan c (if b then next_item plan c x else record x { installed = x.installed + 1 })
    by true = made_at plan c (x.seq + 1) x.last
    by false = record { locks = had.locks; reply = had.reply; finished = had.finished }

locks_before : (p : Phase) → waits_again p ≡ Locking → p ≡ Locking
locks_before Ready e = cc
locks_before Locking e = refl
locks_before Aborting e = cc
locks_before Logged e = cc
locks_before Waiting e = cc
locks_before Installing e = cc
locks_before Finished e = cc

finished_before : (p : Phase) → waits_again p ≡ Finished → p ≡ Finished
finished_before Ready e = cc
finished_before Locking e = cc
finished_before Aborting e = cc
finished_before Logged e = cc
finished_before Waiting e = cc
finished_before Installing e = cc
finished_before Finished e = refl

made_resumed : (plan : Plan) (c : ℕ) (x : ClientState) → IsMade plan c x → IsMade plan c (resumed x)
made_resumed plan c x had = record { locks = λ e. had.locks (locks_before x.phase e); reply = λ e. had.reply (installs_before x.phase e); finished = λ e. had.finished (finished_before x.phase e) }

-- the client that moved
abbrev Becomes : Plan → State → ℕ → State → Type 0
Becomes plan s c after = (y : ClientState) × (after.clients ≡ set s.clients c y) × IsMade plan c y

becomes : (plan : Plan) (s : State) (c : ℕ) (after : State) → IsMade plan c (client_at s c) → Move plan s c after → Becomes plan s c after
unfolding lost granted refused released decided logged posted taken installed
becomes plan s c after here (Loses now phase item up is) = (_, ap (λ (z : State). z.clients) is, made_at plan c ((client_at s c).seq + 1) (client_at s c).last)
becomes plan s c after here (Grants op asks next free is) = (_, ap (λ (z : State). z.clients) is, made_granted plan c (client_at s c) (seen_at s.store op.tuple))
becomes plan s c after here (Refuses op by asks next held is) = (_, ap (λ (z : State). z.clients) is, made_aborting plan c (client_at s c) (client_at s c).noted)
becomes plan s c after here (Releases phase is) = (_, ap (λ (z : State). z.clients) is, made_aborting plan c (client_at s c) (take (length (client_at s c).noted - 1) (client_at s c).noted))
becomes plan s c after here (Decides asks next cold some is) =
    (_, ap (λ (z : State). z.clients) is, made_reply plan c (client_at s c) _ _ (length-joined_from plan.layout [] (script_now plan c (client_at s c)) (values_of (client_at s c).noted) []))
becomes plan s c after here (Logs asks next hot is) = (_, ap (λ (z : State). z.clients) is, record { locks = λ e. cc; reply = λ e. cc; finished = λ e. cc })
becomes plan s c after here (Posts now next phase up to is) = (_, ap (λ (z : State). z.clients) is, record { locks = λ e. cc; reply = λ e. cc; finished = λ e. cc })
becomes plan s c after here (Takes now next answer phase up has to is) =
    (_, ap (λ (z : State). z.clients) is, made_replied plan c (client_at s c) (stamp_of answer) (reply_to plan c (client_at s c) answer) (length-joined_from plan.layout [] (script_now plan c (client_at s c)) (values_of (client_at s c).noted) answer.pairs))
becomes plan s c after here (Installs p phase at is) = (_, ap (λ (z : State). z.clients) is, made_installed plan c (client_at s c) (length (steps_now plan c (client_at s c))) phase here)

abbrev AreMade : Plan → State → Type 0
AreMade plan s = (c : ℕ) → IsMade plan c (client_at s c)

made_moved : (plan : Plan) (s : State) (c : ℕ) (after : State) → c < length s.clients → AreMade plan s → Move plan s c after → AreMade plan after
made_moved plan s c after lt here move d =
    let b = becomes plan s c after (here c) move in
    elim (same_or_not d c) [
      | inl e ↦ subst (λ (n : ℕ). IsMade plan n (client_at after n)) (sym e) (subst (λ (z : ClientState). IsMade plan c z) (sym (ap (λ (l : List ClientState). get_or l c (at_item 0 1 zero_stamp)) b.1 ∙ moved_client s.clients c b.0 lt)) b.2)
      | inr n ↦ subst (λ (z : ClientState). IsMade plan d z) (sym (ap (λ (l : List ClientState). get_or l d (at_item 0 1 zero_stamp)) b.1 ∙ others_stay s.clients c b.0 d n)) (here d)
    ]

made_step : (plan : Plan) (s after : State) (actor : Actor) → AreMade plan s → Moved plan s after actor → AreMade plan after
made_step plan s after actor here (ByClient c within move) = made_moved plan s c after within here move
made_step plan s after actor here (AtPort c now next up to is) =
    λ d. subst (λ (l : List ClientState). IsMade plan d (get_or l d (at_item 0 1 zero_stamp))) (sym (ap (λ (z : State). z.clients) is ∙ clients_at_port s c (desk_at now c) (next_number now) next)) (here d)
made_step plan s after actor here (AtStage x now next up to is) =
    λ d. subst (λ (l : List ClientState). IsMade plan d (get_or l d (at_item 0 1 zero_stamp))) (sym (ap (λ (z : State). z.clients) is ∙ clients_at_stage s next)) (here d)
made_step plan s after actor here (Recovers order down found is) = λ d. subst (IsMade plan d) (sym (client_recovered plan s after order is d)) (made_resumed plan d (client_at s d) (here d))

made_at_opening : (plan : Plan) → AreMade plan (opening plan)
unfolding opening
made_at_opening plan c = first plan.clients c refl
  where
    first : (lists : List (List PlainItem)) (d : ℕ) → get_or lists d [] ≡ items_of plan c → IsMade plan c (get_or (first_clients lists) d (at_item 0 1 zero_stamp))
    first [] d is = record { locks = λ e. cc; reply = λ e. cc; finished = λ e. omega (arith, ap length is) }
    first (items ∷ lists) zero is = subst (λ (l : List PlainItem). IsMade plan c (at_item (length l) 1 zero_stamp)) (sym is) (made_at plan c 1 zero_stamp)
    first (items ∷ lists) (suc d) is = first lists d is

pub made_of : (plan : Plan) (s : State) → IsReached plan s → AreMade plan s
made_of plan s reached =
    of_reached plan (AreMade plan) (made_at_opening plan) (λ z next actor r here is. made_step plan z next actor here (move_of plan z actor next is)) s reached
