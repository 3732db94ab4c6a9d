-- Each move leaves fewer moves.
use Rattle.std.proofs.Common.{◌≡◌, ◌≢◌, ℕ, zero, suc, ◌+◌, ◌-◌, ◌*◌, ◌<◌, ◌≤◌, List, [], ◌∷◌, map, length, get_or, Option, Some, None, refl, sym, ap, subst, ◌∙◌, arith}
use Rattle.std.specs.List.{position_from}
use Rattle.std.proofs.lemmas.List.{length-map}
use Rattle.txn_model.specs.Places.{Places}
use Rattle.stage_layout.specs.declared.shape.Shape.{Shape}
use Rattle.switch_packet.specs.Packets.{PlainPacket}
use Rattle.switch_packet.specs.Replay.{replay}
use Rattle.placement_model.specs.Placements.{Task, packets_of}
use Rattle.catalogue.specs.Plan.{Plan, PlainItem, items_of}
use Rattle.catalogue.specs.declared.actor.Actor.{Actor}
use Rattle.switch_model.specs.Event.{Enter, Advance}
use Rattle.switch_model.specs.Event as switch
use Rattle.switch_model.specs.Flight.{flight_at}
use Rattle.switch_model.specs.Laws.{left, left_on, left_of_flight, LessensOne}
use Rattle.switch_model.specs.Switch.{Switch, Desk, Vacant, Posted, Entered, desk_at, next_number, done_flights, restored}
use Rattle.switch_model.proofs.Kept.{desk_there}
use Rattle.switch_model.proofs.Lessens as way
use Rattle.catalogue.specs.Plan.{hot_cells}
use Rattle.history_model.specs.History.{History}
use Rattle.core_model.specs.declared.phase.Phase.{Phase}
use Rattle.core_model.specs.declared.phase.Phase.TheVariants.{Ready, Locking, Aborting, Logged, Waiting, Installing, Finished}
use Rattle.core_model.specs.Run.{first_clients}
use Rattle.core_model.specs.State.{ClientState, at_item, script_now, zero_stamp}
use Rattle.txn_model.specs.declared.op.Op.{Op}
use Rattle.core_model.proofs.Moves.{moved_client, others_stay}
use Rattle.fabric_model.specs.Bound.{items_bound, clients_bound, way_left, item_left, client_left, left_from, recovery_left, moves_left}
use Rattle.fabric_model.specs.Carried.{FitsDesk}
use Rattle.fabric_model.specs.ColdFacts.{FitsPhase}
use Rattle.fabric_model.specs.Holds.{Holds}
use Rattle.fabric_model.specs.Laws.{IsReached, IsBounded}
use Rattle.fabric_model.specs.Recovery.{is_open_of, desk_for, desks_from, waits_again, resumed}
use Rattle.fabric_model.specs.Run.{opening}
use Rattle.fabric_model.specs.State.{State, client_at}
use Rattle.fabric_model.specs.Step.{recovered, step}
use Rattle.fabric_model.proofs.Bounded.{next_left, Lessens, lessens}
use Rattle.fabric_model.proofs.MoveKinds.{Moved, ByClient, AtPort, AtStage, Recovers, move_of}
use Rattle.fabric_model.proofs.Present.{resumed_at, clients_at_port, clients_at_stage, switch_at_port, switch_at_stage, clients_same, present_of}
use Rattle.fabric_model.proofs.Runs.{of_reached, step_is_counted}

abbrev nobody : ClientState
nobody = at_item 0 1 zero_stamp

no_shift : (k : ℕ) → k + 0 ≡ k
no_shift k = omega arith

shifted : (k d : ℕ) → k + suc d ≡ (k + 1) + d
shifted k d = omega arith

from_zero : (d : ℕ) → d ≡ 0 + d
from_zero d = omega arith

-- where no client has more left
no_more : (plan : Plan) (now next : Option Switch) (k : ℕ) (clients after : List ClientState) → length after ≡ length clients
    → ((d : ℕ) → client_left plan next (k + d) (get_or after d nobody) ≤ client_left plan now (k + d) (get_or clients d nobody)) → left_from plan next k after ≤ left_from plan now k clients
no_more plan now next k [] [] same each = omega arith
no_more plan now next k [] (y ∷ after) same each = absurd (omega (arith, same))
no_more plan now next k (x ∷ clients) [] same each = absurd (omega (arith, same))
no_more plan now next k (x ∷ clients) (y ∷ after) same each =
    let first = subst (λ (n : ℕ). client_left plan next n y ≤ client_left plan now n x) (no_shift k) (each 0) in
    let rest = no_more plan now next (k + 1) clients after (omega (arith, same))
    (λ d. subst (λ (n : ℕ). client_left plan next n (get_or after d nobody) ≤ client_left plan now n (get_or clients d nobody)) (shifted k d) (each (suc d))) in
    sum first rest
  where
    sum : {a b i j : ℕ} → a ≤ i → b ≤ j → a + b ≤ i + j
    sum p q = omega (arith, p, q)

-- and one has so many less
less_of_one : (plan : Plan) (now next : Option Switch) (k c n : ℕ) (clients after : List ClientState) → length after ≡ length clients → c < length clients
    → n + client_left plan next (k + c) (get_or after c nobody) ≤ client_left plan now (k + c) (get_or clients c nobody)
    → ((d : ℕ) → d ≢ c → client_left plan next (k + d) (get_or after d nobody) ≤ client_left plan now (k + d) (get_or clients d nobody)) → n + left_from plan next k after ≤ left_from plan now k clients
less_of_one plan now next k c n [] after same lt less each = absurd (omega (arith, lt))
less_of_one plan now next k c n (x ∷ clients) [] same lt less each = absurd (omega (arith, same))
less_of_one plan now next k zero n (x ∷ clients) (y ∷ after) same lt less each =
    let first = subst (λ (j : ℕ). n + client_left plan next j y ≤ client_left plan now j x) (no_shift k) less in
    let rest = no_more plan now next (k + 1) clients after (omega (arith, same))
    (λ d. subst (λ (j : ℕ). client_left plan next j (get_or after d nobody) ≤ client_left plan now j (get_or clients d nobody)) (shifted k d) (each (suc d) (λ e. absurd (omega (arith, e))))) in
    sum n (client_left plan next k y) first rest
  where
    sum : (m a : ℕ) {b i j : ℕ} → m + a ≤ i → b ≤ j → m + (a + b) ≤ i + j
    sum m a p q = omega (arith, p, q)
less_of_one plan now next k (suc c) n (x ∷ clients) (y ∷ after) same lt less each =
    let first = subst (λ (j : ℕ). client_left plan next j y ≤ client_left plan now j x) (no_shift k) (each 0 (λ e. absurd (omega (arith, e)))) in
    let rest = less_of_one plan now next (k + 1) c n clients after (omega (arith, same)) (omega (arith, lt))
    (subst (λ (j : ℕ). n + client_left plan next j (get_or after c nobody) ≤ client_left plan now j (get_or clients c nobody)) (shifted k c) less)
    (λ d other. subst (λ (j : ℕ). client_left plan next j (get_or after d nobody) ≤ client_left plan now j (get_or clients d nobody)) (shifted k d) (each (suc d) (λ e. other (same_before e)))) in
    sum n (left_from plan next (k + 1) after) first rest
  where
    same_before : {a b : ℕ} → suc a ≡ suc b → a ≡ b
    same_before e = omega (arith, e)

    sum : (m b : ℕ) {a i j : ℕ} → a ≤ i → m + b ≤ j → m + (a + b) ≤ i + j
    sum m b p q = omega (arith, p, q)

-- ---- clients that stay, while the switch moves

stays_in : (plan : Plan) (now next : Option Switch) (c : ℕ) (x : ClientState) (ops : List Op) (p : Phase) → way_left plan next c ≤ way_left plan now c → item_left plan next c x ops p ≤ item_left plan now c x ops p
stays_in plan now next c x ops Ready le = omega arith
stays_in plan now next c x ops Locking le = omega arith
stays_in plan now next c x ops Aborting le = omega arith
stays_in plan now next c x ops Logged le = omega arith
stays_in plan now next c x ops Waiting le = omega (arith, le)
stays_in plan now next c x ops Installing le = omega arith
stays_in plan now next c x ops Finished le = omega arith

stays : (plan : Plan) (now next : Option Switch) (c : ℕ) (x : ClientState) → way_left plan next c ≤ way_left plan now c → client_left plan next c x ≤ client_left plan now c x
stays plan now next c x le = omega (arith, stays_in plan now next c x (script_now plan c x) x.phase le)

comes_nearer : (plan : Plan) (now next : Option Switch) (c : ℕ) (x : ClientState) → x.phase ≡ Waiting → way_left plan next c + 1 ≡ way_left plan now c → 1 + client_left plan next c x ≤ client_left plan now c x
comes_nearer plan now next c x is less =
    omega (arith, ap (item_left plan next c x (script_now plan c x)) is, ap (item_left plan now c x (script_now plan c x)) is, less)

pub busy_waits : (plan : Plan) (h : History) (c : ℕ) (x : ClientState) (desk : Desk) → desk ≢ Vacant → FitsDesk plan h c x desk → x.phase ≡ Waiting
busy_waits plan h c x Vacant busy fits = absurd (busy refl)
busy_waits plan h c x (Posted p) busy fits = fits.0
busy_waits plan h c x (Entered k) busy fits = fits.0

-- a packet with something left is on a desk
has_desk : (plan : Plan) (now : Switch) (c n : ℕ) → n + 1 ≡ left plan.shape now c → desk_at now c ≢ Vacant
has_desk plan now c n is vacant = let none : left plan.shape now c ≡ 0 = ap (left_on plan.shape now.flights) vacant in absurd (omega (arith, is, none))

-- a move at the switch: the packet of one client has one entry or stage less before it
at_switch : (plan : Plan) (s after : State) (h : Holds plan s) (next : Switch) (c : ℕ) → after.clients ≡ s.clients → after.switch ≡ Some next
    → left plan.shape next c + 1 ≡ left plan.shape h.now c → ((d : ℕ) → d ≢ c → left plan.shape next d ≡ left plan.shape h.now d) → suc (moves_left plan after) ≤ moves_left plan s
at_switch plan s after h next c clients up less others =
    let busy = has_desk plan h.now c (left plan.shape next c) less in
    let waits = busy_waits plan s.history c (client_at s c) (desk_at h.now c) busy (h.ties.under_way c) in
    let there : c < length s.clients = omega (arith, desk_there h.now.desks c busy, h.desks) in
    sum (recovery_left s.switch) (ap (λ (l : List ClientState). left_from plan after.switch 0 l) clients ∙ ap (λ (o : Option Switch). left_from plan o 0 s.clients) up) (ap recovery_left up) (ap (λ (o : Option Switch). left_from plan o 0 s.clients) h.up)
    (less_of_one plan (Some h.now) (Some next) 0 c 1 s.clients s.clients refl there
    (subst (λ (n : ℕ). 1 + client_left plan (Some next) n (client_at s c) ≤ client_left plan (Some h.now) n (client_at s c)) (from_zero c) (comes_nearer plan (Some h.now) (Some next) c (client_at s c) waits less))
    (λ d n. subst (λ (j : ℕ). client_left plan (Some next) j (client_at s d) ≤ client_left plan (Some h.now) j (client_at s d)) (from_zero d) (stays plan (Some h.now) (Some next) d (client_at s d) (at_most (others d n)))))
  where
    at_most : {a b : ℕ} → a ≡ b → a ≤ b
    at_most e = omega (arith, e)

    sum : (q : ℕ) {a b c d r : ℕ} → a ≡ b → r ≡ 0 → c ≡ d → 1 + b ≤ d → suc (a + r) ≤ c + q
    sum q e z f le = omega (arith, e, z, f, le)

by_client : (plan : Plan) (s after : State) (c : ℕ) → c < length s.clients → length after.clients ≡ length s.clients → Lessens plan s c after → suc (moves_left plan after) ≤ moves_left plan s
by_client plan s after c lt size l =
    sum l.fewer (left_from plan after.switch 0 after.clients) (recovery_left s.switch) (less_of_one plan s.switch after.switch 0 c l.fewer s.clients after.clients size lt
    (subst (λ (n : ℕ). l.fewer + client_left plan after.switch n (client_at after c) ≤ client_left plan s.switch n (client_at s c)) (from_zero c)
    (subst (λ (z : ClientState). l.fewer + client_left plan after.switch c z ≤ client_left plan s.switch c (client_at s c)) (sym mine) l.less))
    (λ d n. subst (λ (j : ℕ). client_left plan after.switch j (client_at after d) ≤ client_left plan s.switch j (client_at s d)) (from_zero d)
    (subst (λ (z : ClientState). client_left plan after.switch d z ≤ client_left plan s.switch d (client_at s d)) (sym (other d n)) (stays plan s.switch after.switch d (client_at s d) (l.others d n))))) l.enough
  where
    mine : client_at after c ≡ l.y
    mine = ap (λ (q : List ClientState). get_or q c (at_item 0 1 zero_stamp)) l.clients ∙ moved_client s.clients c l.y lt

    other : (d : ℕ) → d ≢ c → client_at after d ≡ client_at s d
    other d n = ap (λ (q : List ClientState). get_or q d (at_item 0 1 zero_stamp)) l.clients ∙ others_stay s.clients c l.y d n

    sum : (m a q : ℕ) {b r : ℕ} → m + a ≤ b → suc r ≤ m + q → suc (a + r) ≤ b + q
    sum m a q le enough = omega (arith, le, enough)

-- ---- recovery

-- a packet that is done has nothing left
left_done : (shape : Shape) (packets : List PlainPacket) (m : Places) (k : ℕ) → left_of_flight shape (flight_at (done_flights packets m) k) ≡ 0
unfolding done_flights
left_done shape [] m k = nothing (shape.stages + 1)
  where
    nothing : (b : ℕ) → (0 + 1 - 1) * b - 0 ≡ 0
    nothing b = grind arith
left_done shape (p ∷ packets) m zero = all_passes (p.passes + 1) (shape.stages + 1)
  where
    all_passes : (a b : ℕ) → (a - a) * b - 0 ≡ 0
    all_passes a b = omega (arith, ap (λ (n : ℕ). n * b) {x = a - a} {y = 0} (omega arith))
left_done shape (p ∷ packets) m (suc k) = left_done shape packets (replay p m).after k

-- so no client's packet has anything left in a rebuilt switch
left_at : (shape : Shape) (packets : List PlainPacket) (m : Places) (o : Option ℕ) → left_on shape (done_flights packets m) (desk_for o) ≡ 0
left_at shape packets m None = refl
left_at shape packets m (Some k) = left_done shape packets m k

left_in : (shape : Shape) (packets : List PlainPacket) (m : Places) (order : List Task) (k n c : ℕ) → left_on shape (done_flights packets m) (get_or (desks_from order k n) c Vacant) ≡ 0
left_in shape packets m order k zero c = refl
left_in shape packets m order k (suc n) zero = left_at shape packets m (position_from (is_open_of k) 0 order)
left_in shape packets m order k (suc n) (suc c) = left_in shape packets m order (k + 1) n c

pub left_recovered : (plan : Plan) (s : State) (order : List Task) (c : ℕ) → way_left plan (recovered plan s order).switch c ≡ 0
unfolding recovered restored
left_recovered plan s order c = left_in plan.shape (packets_of order) (hot_cells plan) order 0 (length s.clients) c

-- a client that waits again has no more left
resumed_left : (plan : Plan) (now : Option Switch) (c : ℕ) (x : ClientState) → way_left plan now c ≡ 0 → client_left plan now c (resumed x) ≤ client_left plan None c x
resumed_left plan now c x done = omega (arith, by x.phase)
  where
    by : (p : Phase) → item_left plan now c (resumed x) (script_now plan c x) (waits_again p) ≤ item_left plan None c x (script_now plan c x) p
    by Ready = omega arith
    by Locking = omega arith
    by Aborting = omega arith
    by Logged = omega (arith, done)
    by Waiting = omega (arith, done)
    by Installing = omega arith
    by Finished = omega arith

by_recovery : (plan : Plan) (s after : State) (order : List Task) → s.switch ≡ None → after ≡ recovered plan s order → suc (moves_left plan after) ≤ moves_left plan s
unfolding recovered
by_recovery plan s after order down is =
    sum (ap (moves_left plan) is) (ap (λ (o : Option Switch). left_from plan o 0 s.clients + recovery_left o) down)
    (no_more plan None (recovered plan s order).switch 0 s.clients (map resumed s.clients) (length-map s.clients resumed) (λ d.
    subst (λ (z : ClientState). client_left plan (recovered plan s order).switch (0 + d) z ≤ client_left plan None (0 + d) (get_or s.clients d nobody)) (sym (resumed_at s.clients d))
    (resumed_left plan (recovered plan s order).switch (0 + d) (get_or s.clients d nobody) (left_recovered plan s order (0 + d)))))
  where
    sum : {a b c d : ℕ} → a ≡ b + 0 → c ≡ d + 1 → b ≤ d → suc a ≤ c
    sum e f le = omega (arith, e, f, le)

pub same_switch : {a b : Switch} {o : Option Switch} → o ≡ Some a → o ≡ Some b → a ≡ b
same_switch e f = cc

-- ---- each move

module _ (plan : Plan) (fits : (z : State) → IsReached plan z → (c : ℕ) → FitsPhase plan c (client_at z c) (client_at z c).phase) (holds : (z : State) → IsReached plan z → (now : Switch) → z.switch ≡ Some now → Holds plan z) where
  by_kind : (s after : State) (actor : Actor) → IsReached plan s → Moved plan s after actor → suc (moves_left plan after) ≤ moves_left plan s
  by_kind s after actor reached (ByClient c within move) =
      by_client plan s after c within (clients_same plan s after actor (ByClient c within move)) (lessens plan s c (fits s reached c) (present_of plan s reached c) after move)
  by_kind s after actor reached (AtPort c now next up to is) =
      let h = holds s reached now up in
      let less = way.lessens plan.shape (hot_cells plan) h.now next (Enter c) h.reached tt (subst (λ (n : Switch). switch.enter plan.shape n c ≡ Some next) (same_switch up h.up) to) in
      at_switch plan s after h next c (ap (λ (z : State). z.clients) is ∙ clients_at_port s c (desk_at now c) (next_number now) next) (ap (λ (z : State). z.switch) is ∙ switch_at_port s c (desk_at now c) (next_number now) next) less.0 less.1
  by_kind s after actor reached (AtStage x now next up to is) =
      let h = holds s reached now up in
      let less : LessensOne plan.shape h.now next = way.lessens plan.shape (hot_cells plan) h.now next (Advance x) h.reached tt (subst (λ (n : Switch). switch.advance plan.shape n x ≡ Some next) (same_switch up h.up) to) in
      at_switch plan s after h next less.client (ap (λ (z : State). z.clients) is ∙ clients_at_stage s next) (ap (λ (z : State). z.switch) is ∙ switch_at_stage s next) less.less less.others
  by_kind s after actor reached (Recovers order down found is) = by_recovery plan s after order down is

-- ---- the bound

-- a client before its first item
before_all : ClientState
before_all = record { phase = Finished; seq = 0; refused = 0; noted = []; installed = 0; last = zero_stamp; reply = [] }

first_left : (plan : Plan) (now : Option Switch) (c : ℕ) → 1 ≤ plan.tries → client_left plan now c (at_item (length (items_of plan c)) 1 zero_stamp) ≤ items_bound plan (items_of plan c)
unfolding before_all
first_left plan now c tries = next_left plan now c before_all tries

opening_left : (plan : Plan) (now : Option Switch) (lists : List (List PlainItem)) (k : ℕ) → 1 ≤ plan.tries → ((j : ℕ) → get_or lists j [] ≡ items_of plan (k + j)) → left_from plan now k (first_clients lists) ≤ clients_bound plan lists
opening_left plan now [] k tries same = omega arith
opening_left plan now (items ∷ lists) k tries same =
    let mine : items ≡ items_of plan k = same 0 ∙ ap (items_of plan) {x = k + 0} {y = k} (omega arith) in
    let first = subst (λ (l : List PlainItem). client_left plan now k (at_item (length l) 1 zero_stamp) ≤ items_bound plan l) (sym mine) (first_left plan now k tries) in
    let rest = opening_left plan now lists (k + 1) tries (λ j. same (suc j) ∙ ap (items_of plan) {x = k + suc j} {y = (k + 1) + j} (omega arith)) in
    sum first rest
  where
    sum : {a b i j : ℕ} → a ≤ i → b ≤ j → a + b ≤ i + j
    sum p q = omega (arith, p, q)

bounded_at_opening : (plan : Plan) → 1 ≤ plan.tries → IsBounded plan (opening plan)
unfolding opening
bounded_at_opening plan tries = none_made (opening_left plan (opening plan).switch plan.clients 0 tries (λ j. ap (items_of plan) {x = j} {y = 0 + j} (omega arith)))
  where
    none_made : {a b : ℕ} → a ≤ b → 0 + (a + 0) ≤ b
    none_made le = omega (arith, le)

module _ (plan : Plan) (fits : (z : State) → IsReached plan z → (c : ℕ) → FitsPhase plan c (client_at z c) (client_at z c).phase) (holds : (z : State) → IsReached plan z → (now : Switch) → z.switch ≡ Some now → Holds plan z) where
  pub fewer_moves : (s next : State) (actor : Actor) → IsReached plan s → step plan s actor ≡ Some next → moves_left plan next < moves_left plan s
  fewer_moves s next actor reached is = below (by_kind plan fits holds s next actor reached (move_of plan s actor next is))
    where
      below : {a b : ℕ} → suc a ≤ b → a < b
      below le = omega (arith, le)

  pub moves_bounded : (s : State) → IsReached plan s → IsBounded plan s
  moves_bounded s reached =
      of_reached plan (IsBounded plan) (bounded_at_opening plan reached.sound.limits.tries.0) (λ z next actor r w is. omega (arith, step_is_counted plan z next actor is, fewer_moves z next actor r is, w)) s reached
