-- Facts on each client and its log that every move keeps.
use Rattle.std.proofs.Common.{◌≡◌, ◌≢◌, ◌⊎◌, ℕ, ◌+◌, ◌<◌, ◌≤◌, ◌==◌, Bool, true, false, List, [], ◌∷◌, length, length-set, set, get_or, inl, inr, refl, sym, ap, subst, ◌∙◌, arith, if◌then◌else◌}
use Rattle.std.proofs.lemmas.List.{length-map, get_or-set_same, get_or-set_other}
use Rattle.txn_model.specs.declared.stamp.Seen.{Seen}
use Rattle.catalogue.specs.Plan.{Plan}
use Rattle.catalogue.specs.declared.actor.Actor.{Actor}
use Rattle.placement_model.specs.Placements.{Task}
use Rattle.switch_model.specs.Switch.{Switch, Desk, Vacant, Posted, Entered, desk_at, next_number}
use Rattle.core_model.specs.declared.phase.Phase.TheVariants.{Ready}
use Rattle.core_model.specs.State.{ClientState, at_item, zero_stamp}
use Rattle.core_model.specs.Step.{aborting, try_ended, next_item}
use Rattle.core_model.proofs.Fewer.{same_or_not}
use Rattle.core_model.proofs.Moves.{moved_client, others_stay}
use Rattle.fabric_model.specs.Laws.{IsReached}
use Rattle.fabric_model.specs.Recovery.{resumed}
use Rattle.fabric_model.specs.Run.{opening}
use Rattle.fabric_model.specs.State.{Records, State, client_at, log_at, no_records}
use Rattle.fabric_model.specs.Step.{lost, granted, refused, released, decided, logged, posted, taken, installed, switched, entered, behind_entry, recovered}
use Rattle.fabric_model.proofs.MoveKinds.{Move, Loses, Grants, Refuses, Releases, Decides, Logs, Posts, Takes, Installs, Moved, ByClient, AtPort, AtStage, Recovers, move_of}
use Rattle.fabric_model.proofs.Present.{client_recovered, clients_stay}
use Rattle.fabric_model.proofs.Runs.{of_reached}

-- ---- logs

-- the client's log stays, or it becomes this one
abbrev pub LogBecomes : State → ℕ → State → Records → Type 0
LogBecomes s c after log = ((after.logs ≡ s.logs) × (log ≡ log_at s c)) ⊎ (after.logs ≡ set s.logs c log)

logs_moved : (plan : Plan) (s : State) (c : ℕ) (after : State) → Move plan s c after → length after.logs ≡ length s.logs
unfolding lost granted refused released decided logged posted taken installed
logs_moved plan s c after (Loses now phase item up is) = ap (λ (z : State). length z.logs) is
logs_moved plan s c after (Grants op asks next free is) = ap (λ (z : State). length z.logs) is
logs_moved plan s c after (Refuses op by asks next held is) = ap (λ (z : State). length z.logs) is
logs_moved plan s c after (Releases phase is) = ap (λ (z : State). length z.logs) is
logs_moved plan s c after (Decides asks next cold some is) = ap (λ (z : State). length z.logs) is
logs_moved plan s c after (Logs asks next hot is) = ap (λ (z : State). length z.logs) is ∙ length-set s.logs c _
logs_moved plan s c after (Posts now next phase up to is) = ap (λ (z : State). length z.logs) is
logs_moved plan s c after (Takes now next answer phase up has to is) = ap (λ (z : State). length z.logs) is ∙ length-set s.logs c _
logs_moved plan s c after (Installs p phase at is) = ap (λ (z : State). length z.logs) is

-- moves at the switch change no log
pub logs_at_port : (s : State) (c : ℕ) (desk : Desk) (number : ℕ) (next : Switch) → (behind_entry s c desk number next).logs ≡ s.logs
unfolding entered switched
logs_at_port s c Vacant number next = refl
logs_at_port s c (Posted p) number next = refl
logs_at_port s c (Entered k) number next = refl

pub logs_at_stage : (s : State) (next : Switch) → (switched s next).logs ≡ s.logs
unfolding switched
logs_at_stage s next = refl

-- nor does recovery
pub logs_recovered : (plan : Plan) (s : State) (order : List Task) → (recovered plan s order).logs ≡ s.logs
unfolding recovered
logs_recovered plan s order = refl

logs_same : (plan : Plan) (s after : State) (actor : Actor) → Moved plan s after actor → length after.logs ≡ length s.logs
logs_same plan s after actor (ByClient c within move) = logs_moved plan s c after move
logs_same plan s after actor (AtPort c now next up to is) = ap length (ap (λ (z : State). z.logs) is ∙ logs_at_port s c (desk_at now c) (next_number now) next)
logs_same plan s after actor (AtStage x now next up to is) = ap length (ap (λ (z : State). z.logs) is ∙ logs_at_stage s next)
logs_same plan s after actor (Recovers order down found is) = ap length (ap (λ (z : State). z.logs) is ∙ logs_recovered plan s order)

as_many : (plan : Plan) (s : State) → IsReached plan s → length s.logs ≡ length plan.clients
unfolding opening
as_many plan s reached =
    of_reached plan (λ z. length z.logs ≡ length plan.clients) (length-map plan.clients _) (λ z next actor r same is. logs_same plan z next actor (move_of plan z actor next is) ∙ same) s reached

-- each client has a log
pub logs_stay : (plan : Plan) (s : State) → IsReached plan s → length s.logs ≡ length s.clients
logs_stay plan s reached = as_many plan s reached ∙ sym (clients_stay plan s reached)

-- ---- facts on each client

abbrev pub EachClient : (ℕ → ClientState → Records → Type 0) → State → Type 0
EachClient P s = (c : ℕ) → P c (client_at s c) (log_at s c)

pub client_now : (s after : State) (c : ℕ) (y : ClientState) → c < length s.clients → after.clients ≡ set s.clients c y → client_at after c ≡ y
client_now s after c y lt is = ap (λ (l : List ClientState). get_or l c (at_item 0 1 zero_stamp)) is ∙ moved_client s.clients c y lt

pub client_then : (s after : State) (c : ℕ) (y : ClientState) (d : ℕ) → after.clients ≡ set s.clients c y → d ≢ c → client_at after d ≡ client_at s d
client_then s after c y d is n = ap (λ (l : List ClientState). get_or l d (at_item 0 1 zero_stamp)) is ∙ others_stay s.clients c y d n

pub log_now : (s after : State) (c : ℕ) (log : Records) → c < length s.logs → LogBecomes s c after log → log_at after c ≡ log
log_now s after c log lt (inl same) = ap (λ (l : List Records). get_or l c no_records) same.0 ∙ sym same.1
log_now s after c log lt (inr is) = ap (λ (l : List Records). get_or l c no_records) is ∙ get_or-set_same s.logs c log no_records lt

pub log_then : (s after : State) (c : ℕ) (log : Records) (d : ℕ) → LogBecomes s c after log → d ≢ c → log_at after d ≡ log_at s d
log_then s after c log d (inl same) n = ap (λ (l : List Records). get_or l d no_records) same.0
log_then s after c log d (inr is) n = ap (λ (l : List Records). get_or l d no_records) is ∙ get_or-set_other s.logs c d log no_records n

-- one client moved
pub each_moved : (P : ℕ → ClientState → Records → Type 0) (s after : State) (c : ℕ) (y : ClientState) (log : Records) → c < length s.clients → length s.logs ≡ length s.clients
    → after.clients ≡ set s.clients c y → LogBecomes s c after log → ((d : ℕ) → d ≢ c → P d (client_at s d) (log_at s d)) → P c y log → EachClient P after
each_moved P s after c y log lt as_many is becomes others mine d = elim (same_or_not d c) [
  | inl e ↦ subst (λ (n : ℕ). P n (client_at after n) (log_at after n)) (sym e)
      (subst (λ (z : ClientState). P c z (log_at after c)) (sym (client_now s after c y lt is)) (subst (P c y) (sym (log_now s after c log (omega (arith, lt, as_many)) becomes)) mine))
  | inr n ↦ subst (λ (z : ClientState). P d z (log_at after d)) (sym (client_then s after c y d is n)) (subst (P d (client_at s d)) (sym (log_then s after c log d becomes n)) (others d n))
]

-- none did
pub each_still : (P : ℕ → ClientState → Records → Type 0) (s after : State) → after.clients ≡ s.clients → after.logs ≡ s.logs → EachClient P s → EachClient P after
each_still P s after clients logs all d =
    subst (λ (l : List ClientState). P d (get_or l d (at_item 0 1 zero_stamp)) (log_at after d)) (sym clients) (subst (λ (l : List Records). P d (client_at s d) (get_or l d no_records)) (sym logs) (all d))

-- all go on from a lost switch
pub each_resumed : (plan : Plan) (P : ℕ → ClientState → Records → Type 0) (s after : State) (order : List Task) → after ≡ recovered plan s order → ((d : ℕ) → P d (client_at s d) (log_at s d) → P d (resumed (client_at s d)) (log_at s d))
    → EachClient P s → EachClient P after
each_resumed plan P s after order is resumes all d =
    subst (λ (x : ClientState). P d x (log_at after d)) (sym (client_recovered plan s after order is d))
    (subst (λ (l : List Records). P d (resumed (client_at s d)) (get_or l d no_records)) (sym (ap (λ (z : State). z.logs) is ∙ logs_recovered plan s order)) (resumes d (all d)))

-- ---- a client's next item

-- the same item, or the next one
abbrev pub GoesOn : ℕ → ℕ → Type 0
GoesOn seq next = (seq ≤ next) × (next ≤ seq + 1)

-- a client that ends a try or begins to abort is at its item, or the next one
pub on_behind_try : (plan : Plan) (c : ℕ) (x : ClientState) → GoesOn x.seq (try_ended plan c x).seq
on_behind_try plan c x = by (x.refused + 1 == plan.tries)
  where
    by : (b : Bool) → GoesOn x.seq (if b then next_item plan c x else record { phase = Ready; seq = x.seq; refused = x.refused + 1; noted = []; installed = 0; last = x.last; reply = [] }).seq
    by true = (omega arith, omega arith)
    by false = (omega arith, omega arith)

pub on_aborting : (plan : Plan) (c : ℕ) (x : ClientState) (front : List Seen) → GoesOn x.seq (aborting plan c x front).seq
on_aborting plan c x [] = on_behind_try plan c x
on_aborting plan c x (seen ∷ others) = (omega arith, omega arith)
