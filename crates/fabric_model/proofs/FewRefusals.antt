-- There are no more refusals than tries of items.
use Rattle.std.proofs.Common.{◌≡◌, ◌≢◌, ℕ, zero, suc, ◌+◌, ◌-◌, ◌*◌, ◌<◌, ◌≤◌, ◌==◌, Bool, true, false, List, [], ◌∷◌, length, length-append, map, take, set, get_or, inl, inr, refl, sym, ap, subst, ◌∙◌, arith, if◌then◌else◌}
use Rattle.std.specs.Prelude.{sum_by}
use Rattle.std.proofs.lemmas.Bool.Decides.{nat_tests}
use Rattle.std.proofs.lemmas.List.Sums.{sum_by-cons}
use Rattle.txn_model.specs.declared.pairs.Pair.{Pair}
use Rattle.txn_model.specs.declared.stamp.Seen.{Seen}
use Rattle.txn_model.specs.declared.stamp.Stamp.{Stamp}
use Rattle.placement_model.specs.Placements.{Task}
use Rattle.switch_model.specs.Switch.{Switch, Desk, Vacant, Posted, Entered, desk_at, next_number}
use Rattle.catalogue.specs.Plan.{Plan, PlainItem, items_of}
use Rattle.catalogue.specs.Sound.{item_count}
use Rattle.catalogue.specs.declared.actor.Actor.{Actor}
use Rattle.core_model.specs.declared.phase.Phase.{Phase}
use Rattle.core_model.specs.declared.phase.Phase.TheVariants.{Ready, Locking, Aborting, Logged, Waiting, Installing, Finished}
use Rattle.core_model.specs.Asking.{IsAsking}
use Rattle.core_model.specs.Facts.{steps_now}
use Rattle.core_model.specs.Run.{first_clients}
use Rattle.core_model.specs.State.{ClientState, at_item, zero_stamp}
use Rattle.core_model.specs.Step.{aborting, try_ended, next_item, installed_one}
use Rattle.core_model.proofs.Ended.{in_abort}
use Rattle.core_model.proofs.Stuck.{IsPresent, asking_open}
use Rattle.fabric_model.specs.Laws.{IsReached}
use Rattle.fabric_model.specs.Recovery.{waits_again, resumed}
use Rattle.fabric_model.specs.Run.{opening}
use Rattle.fabric_model.specs.State.{State, client_at}
use Rattle.fabric_model.specs.Step.{lost, granted, refused, released, decided, logged, posted, taken, installed, switched, entered, behind_entry, recovered, replied}
use Rattle.fabric_model.proofs.MoveKinds.{Move, Loses, Grants, Refuses, Releases, Decides, Logs, Posts, Takes, Installs, Moved, ByClient, AtPort, AtStage, Recovers, move_of}
use Rattle.fabric_model.proofs.Present.{reply_to, stamp_of, clients_at_port, clients_at_stage, clients_recovered, present_of}
use Rattle.fabric_model.proofs.Runs.{of_reached}

-- the sum of a function over clients, which begin with this one
abbrev total_from : (ℕ → ClientState → ℕ) → ℕ → List ClientState → ℕ
total_from f k [] = 0
total_from f k (x ∷ clients) = f k x + total_from f (k + 1) clients

-- where one of them changed
total_set : (f : ℕ → ClientState → ℕ) (k : ℕ) (clients : List ClientState) (c : ℕ) (y : ClientState) → c < length clients
    → total_from f k (set clients c y) + f (k + c) (get_or clients c (at_item 0 1 zero_stamp)) ≡ total_from f k clients + f (k + c) y
total_set f k [] c y lt = absurd (omega arith)
total_set f k (x ∷ clients) zero y lt = omega (arith, ap (λ (n : ℕ). f n x) {x = k + 0} {y = k} (omega arith), ap (λ (n : ℕ). f n y) {x = k + 0} {y = k} (omega arith))
total_set f k (x ∷ clients) (suc c) y lt =
    let rest = total_set f (k + 1) clients c y (omega arith) in
    omega (arith, rest, ap (λ (n : ℕ). f n (get_or clients c (at_item 0 1 zero_stamp))) {x = (k + 1) + c} {y = k + suc c} (omega arith), ap (λ (n : ℕ). f n y) {x = (k + 1) + c} {y = k + suc c} (omega arith))

total_moved : (f : ℕ → ClientState → ℕ) (s : State) (c : ℕ) (after : State) (y : ClientState) → c < length s.clients → after.clients ≡ set s.clients c y
    → total_from f 0 after.clients + f c (client_at s c) ≡ total_from f 0 s.clients + f c y
total_moved f s c after y lt is =
    omega (arith, ap (total_from f 0) is, total_set f 0 s.clients c y lt, ap (λ (n : ℕ). f n (client_at s c)) {x = 0 + c} {y = c} (omega arith), ap (λ (n : ℕ). f n y) {x = 0 + c} {y = c} (omega arith))

times_sum : (m a b : ℕ) → m * (a + b) ≡ m * a + m * b
times_sum m a b = grind arith

-- at the opening, where each client has so much for each of its items
total_first : (plan : Plan) (f : ℕ → ClientState → ℕ) (m : ℕ) → ((c : ℕ) → f c (at_item (length (items_of plan c)) 1 zero_stamp) ≤ m * length (items_of plan c))
    → (lists : List (List PlainItem)) (k : ℕ) → ((j : ℕ) → get_or lists j [] ≡ items_of plan (k + j)) → total_from f k (first_clients lists) ≤ m * sum_by length lists
total_first plan f m each [] k same = omega arith
total_first plan f m each (items ∷ lists) k same =
    let mine : items ≡ items_of plan k = same 0 ∙ ap (items_of plan) {x = k + 0} {y = k} (omega arith) in
    let first = subst (λ (l : List PlainItem). f k (at_item (length l) 1 zero_stamp) ≤ m * length l) (sym mine) (each k) in
    let rest = total_first plan f m each lists (k + 1) (λ j. same (suc j) ∙ ap (items_of plan) {x = k + suc j} {y = (k + 1) + j} (omega arith)) in
    omega (arith, first, rest, ap (λ (n : ℕ). m * n) (sum_by-cons length items lists), times_sum m (length items) (sum_by length lists))

total_at_opening : (plan : Plan) (f : ℕ → ClientState → ℕ) (m : ℕ) → ((c : ℕ) → f c (at_item (length (items_of plan c)) 1 zero_stamp) ≤ m * length (items_of plan c)) → total_from f 0 (opening plan).clients ≤ m * item_count plan
unfolding opening
total_at_opening plan f m each = total_first plan f m each plan.clients 0 (λ j. ap (items_of plan) {x = j} {y = 0 + j} (omega arith))

-- the items from the client's present one on
abbrev items_left : Plan → ℕ → ClientState → ℕ
items_left plan c x = length (items_of plan c) + 1 - x.seq

-- the refusals that a client may still get: one for each try of each such item
abbrev refusals_left : Plan → ℕ → ClientState → ℕ
refusals_left plan c x = plan.tries * items_left plan c x - (x.refused + in_abort x.phase)

more_times : (m a : ℕ) → m * (a + 1) ≡ m * a + m
more_times m a = grind arith

-- one item of its tries
one_item : (plan : Plan) (c : ℕ) (x : ClientState) → x.seq ≤ length (items_of plan c) → plan.tries * items_left plan c x ≡ plan.tries * (length (items_of plan c) + 1 - (x.seq + 1)) + plan.tries
one_item plan c x within = ap (λ (n : ℕ). plan.tries * n) {x = length (items_of plan c) + 1 - x.seq} {y = (length (items_of plan c) + 1 - (x.seq + 1)) + 1} (omega (arith, within)) ∙ more_times plan.tries (length (items_of plan c) + 1 - (x.seq + 1))

next_refusals : (plan : Plan) (c : ℕ) (x : ClientState) → x.seq ≤ length (items_of plan c) → refusals_left plan c (next_item plan c x) + plan.tries ≤ plan.tries * items_left plan c x
next_refusals plan c x within = omega (arith, one_item plan c x within)

try_refusals : (plan : Plan) (c : ℕ) (x : ClientState) → IsPresent plan c x → x.phase ≢ Finished → refusals_left plan c (try_ended plan c x) ≤ plan.tries * items_left plan c x - (x.refused + 1)
try_refusals plan c x here active = by (x.refused + 1 == plan.tries) refl
  where
    equal : (a b : ℕ) → (a == b) ≡ true → a ≡ b
    equal a b e = grind (arith, nat_tests)

    by : (b : Bool) → (x.refused + 1 == plan.tries) ≡ b → refusals_left plan c (if b then next_item plan c x else record { phase = Ready; seq = x.seq; refused = x.refused + 1; noted = []; installed = 0; last = x.last; reply = [] }) ≤ plan.tries * items_left plan c x - (x.refused + 1)
    by true e = omega (arith, next_refusals plan c x (here active).1, equal (x.refused + 1) plan.tries e)
    by false e = omega arith

abort_refusals : (plan : Plan) (c : ℕ) (x : ClientState) (front : List Seen) → IsPresent plan c x → x.phase ≢ Finished → refusals_left plan c (aborting plan c x front) ≤ plan.tries * items_left plan c x - (x.refused + 1)
abort_refusals plan c x [] here active = try_refusals plan c x here active
abort_refusals plan c x (seen ∷ others) here active = omega arith

-- what a move adds, its client may no longer get
record Spends (plan : Plan) (s : State) (c : ℕ) (after : State) : Type 0 where
  pub y : ClientState
  pub clients : after.clients ≡ set s.clients c y
  pub less : length after.refusals + refusals_left plan c y ≤ length s.refusals + refusals_left plan c (client_at s c)

no_abort : (x : ClientState) → IsAsking x → in_abort x.phase ≡ 0
no_abort x (inl is) = ap in_abort is
no_abort x (inr is) = ap in_abort is

installed_refusals : (plan : Plan) (c : ℕ) (x : ClientState) (all : ℕ) → IsPresent plan c x → x.phase ≡ Installing → refusals_left plan c (installed_one plan c x all) ≤ refusals_left plan c x
installed_refusals plan c x all here phase = by (x.installed + 1 == all)
  where
    clash : Installing ≡ Finished → ⊥
    clash e = cc

    by : (b : Bool) → refusals_left plan c (if b then next_item plan c x else record x { installed = x.installed + 1 }) ≤ refusals_left plan c x
    by true = let present = here (λ i. clash (sym phase ∙ i)) in omega (arith, next_refusals plan c x present.1, ap in_abort phase, present.2)
    by false = omega arith

replied_refusals : (plan : Plan) (c : ℕ) (x : ClientState) (stamp : Stamp) (reply : List Pair) → IsPresent plan c x → x.phase ≡ Waiting → refusals_left plan c (replied plan c x stamp reply) ≤ refusals_left plan c x
replied_refusals plan c x stamp reply here phase = by (length x.noted == 0)
  where
    clash : Waiting ≡ Finished → ⊥
    clash e = cc

    by : (b : Bool) → refusals_left plan c (if b then next_item plan c (record x { phase = Installing; last = stamp; reply = reply }) else record x { phase = Installing; last = stamp; reply = reply }) ≤ refusals_left plan c x
    by true = let present = here (λ i. clash (sym phase ∙ i)) in omega (arith, next_refusals plan c (record x { phase = Installing; last = stamp; reply = reply }) present.1, ap in_abort phase, present.2)
    by false = omega (arith, ap in_abort phase)

spends : (plan : Plan) (s : State) (c : ℕ) (after : State) → IsPresent plan c (client_at s c) → Move plan s c after → Spends plan s c after
unfolding lost granted refused released decided logged posted taken installed
spends plan s c after here (Loses now phase item up is) =
    let x = client_at s c in
    let present = here (λ i. clash (sym phase ∙ i)) in
    record {
      y = next_item plan c x;
      clients = ap (λ (z : State). z.clients) is;
      less = omega (arith, ap (λ (z : State). length z.refusals) is, ap in_abort phase, next_refusals plan c x present.1, present.2);
    }
  where
    clash : Ready ≡ Finished → ⊥
    clash e = cc
spends plan s c after here (Grants op asks next free is) = record {
  y = _;
  clients = ap (λ (z : State). z.clients) is;
  less = omega (arith, ap (λ (z : State). length z.refusals) is, no_abort (client_at s c) asks);
}
spends plan s c after here (Refuses op by asks next held is) =
    let x = client_at s c in
    let active = asking_open x asks in
    record {
      y = _;
      clients = ap (λ (z : State). z.clients) is;
      less = omega (arith, ap (λ (z : State). length z.refusals) is, length-append s.refusals (record { client = c; seq = x.seq; tuple = op.tuple; holder = by; at = s.moves } ∷ []), no_abort x asks, abort_refusals plan c x x.noted here active, one_item plan c x (here active).1, (here active).2);
    }
spends plan s c after here (Releases phase is) =
    let x = client_at s c in
    record {
      y = _;
      clients = ap (λ (z : State). z.clients) is;
      less = omega (arith, ap (λ (z : State). length z.refusals) is, ap in_abort phase, abort_refusals plan c x (take (length x.noted - 1) x.noted) here (λ i. clash (sym phase ∙ i)));
    }
  where
    clash : Aborting ≡ Finished → ⊥
    clash e = cc
spends plan s c after here (Decides asks next cold some is) = record {
  y = _;
  clients = ap (λ (z : State). z.clients) is;
  less = omega (arith, ap (λ (z : State). length z.refusals) is, no_abort (client_at s c) asks);
}
spends plan s c after here (Logs asks next hot is) = record {
  y = _;
  clients = ap (λ (z : State). z.clients) is;
  less = omega (arith, ap (λ (z : State). length z.refusals) is, no_abort (client_at s c) asks);
}
spends plan s c after here (Posts now next phase up to is) = record {
  y = _;
  clients = ap (λ (z : State). z.clients) is;
  less = omega (arith, ap (λ (z : State). length z.refusals) is, ap in_abort phase);
}
spends plan s c after here (Takes now next answer phase up has to is) = record {
  y = replied plan c (client_at s c) (stamp_of answer) (reply_to plan c (client_at s c) answer);
  clients = ap (λ (z : State). z.clients) is;
  less = omega (arith, ap (λ (z : State). length z.refusals) is, replied_refusals plan c (client_at s c) (stamp_of answer) (reply_to plan c (client_at s c) answer) here phase);
}
spends plan s c after here (Installs p phase at is) = record {
  y = installed_one plan c (client_at s c) (length (steps_now plan c (client_at s c)));
  clients = ap (λ (z : State). z.clients) is;
  less = omega (arith, ap (λ (z : State). length z.refusals) is, installed_refusals plan c (client_at s c) (length (steps_now plan c (client_at s c))) here phase);
}

abbrev RefusalsFit : Plan → State → Type 0
RefusalsFit plan s = length s.refusals + total_from (refusals_left plan) 0 s.clients ≤ plan.tries * item_count plan

refusals_moved : (plan : Plan) (s : State) (c : ℕ) (after : State) → c < length s.clients → Spends plan s c after → RefusalsFit plan s → RefusalsFit plan after
refusals_moved plan s c after lt m fit = omega (arith, fit, m.less, total_moved (refusals_left plan) s c after m.y lt m.clients)

refusals_at_port : (s : State) (c : ℕ) (desk : Desk) (number : ℕ) (next : Switch) → (behind_entry s c desk number next).refusals ≡ s.refusals
unfolding entered switched
refusals_at_port s c Vacant number next = refl
refusals_at_port s c (Posted p) number next = refl
refusals_at_port s c (Entered k) number next = refl

refusals_at_stage : (s : State) (next : Switch) → (switched s next).refusals ≡ s.refusals
unfolding switched
refusals_at_stage s next = refl

refusals_recovered : (plan : Plan) (s : State) (order : List Task) → (recovered plan s order).refusals ≡ s.refusals
unfolding recovered
refusals_recovered plan s order = refl

-- clients that wait again may still get as many
total_resumed : (plan : Plan) (k : ℕ) (clients : List ClientState) → total_from (refusals_left plan) k (map resumed clients) ≡ total_from (refusals_left plan) k clients
total_resumed plan k [] = refl
total_resumed plan k (x ∷ clients) = omega (arith, ap (λ (n : ℕ). plan.tries * items_left plan k x - (x.refused + n)) (same_abort x.phase), total_resumed plan (k + 1) clients)
  where
    same_abort : (p : Phase) → in_abort (waits_again p) ≡ in_abort p
    same_abort Ready = refl
    same_abort Locking = refl
    same_abort Aborting = refl
    same_abort Logged = refl
    same_abort Waiting = refl
    same_abort Installing = refl
    same_abort Finished = refl

refusals_still : (plan : Plan) (s after : State) → after.clients ≡ s.clients → after.refusals ≡ s.refusals → RefusalsFit plan s → RefusalsFit plan after
refusals_still plan s after clients refusals fit = omega (arith, fit, ap length refusals, ap (total_from (refusals_left plan) 0) clients)

refusals_step : (plan : Plan) (s after : State) (actor : Actor) → IsReached plan s → RefusalsFit plan s → Moved plan s after actor → RefusalsFit plan after
refusals_step plan s after actor reached fit (ByClient c within move) = refusals_moved plan s c after within (spends plan s c after (present_of plan s reached c) move) fit
refusals_step plan s after actor reached fit (AtPort c now next up to is) =
    refusals_still plan s after (ap (λ (z : State). z.clients) is ∙ clients_at_port s c (desk_at now c) (next_number now) next) (ap (λ (z : State). z.refusals) is ∙ refusals_at_port s c (desk_at now c) (next_number now) next) fit
refusals_step plan s after actor reached fit (AtStage k now next up to is) =
    refusals_still plan s after (ap (λ (z : State). z.clients) is ∙ clients_at_stage s next) (ap (λ (z : State). z.refusals) is ∙ refusals_at_stage s next) fit
refusals_step plan s after actor reached fit (Recovers order down found is) =
    omega (arith, fit, ap length (ap (λ (z : State). z.refusals) is ∙ refusals_recovered plan s order), ap (total_from (refusals_left plan) 0) (ap (λ (z : State). z.clients) is ∙ clients_recovered plan s order), total_resumed plan 0 s.clients)

refusals_at_opening : (plan : Plan) → RefusalsFit plan (opening plan)
unfolding opening
refusals_at_opening plan = omega (arith, total_at_opening plan (refusals_left plan) plan.tries (λ c. few plan.tries (length (items_of plan c)) _))
  where
    few : (t n r : ℕ) → t * (n + 1 - 1) - r ≤ t * n
    few t n r = omega (arith, ap (λ (m : ℕ). t * m) {x = n + 1 - 1} {y = n} (omega arith))

pub few_refusals : (plan : Plan) (s : State) → IsReached plan s → length s.refusals ≤ plan.tries * item_count plan
few_refusals plan s reached =
    most (of_reached plan (RefusalsFit plan) (refusals_at_opening plan) (λ z next actor r fit is. refusals_step plan z next actor r fit (move_of plan z actor next is)) s reached)
  where
    most : RefusalsFit plan s → length s.refusals ≤ plan.tries * item_count plan
    most fit = omega (arith, fit)
