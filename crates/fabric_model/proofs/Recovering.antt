-- A recovery by any placement of the clients' logs leaves what holds while the switch is up.
use Rattle.std.proofs.Common.{◌≡◌, ◌⊎◌, ℕ, zero, suc, ◌+◌, ◌<◌, ◌≤◌, true, List, [], ◌∷◌, map, length, get_or, slice_get, Option, Some, None, inl, inr, refl, sym, ap, subst, ◌∙◌, arith}
use Rattle.std.specs.Prelude.{slice_index_or}
use Rattle.std.specs.List.{AllByRecursion, position_from}
use Rattle.std.proofs.Math.Path.{fun_ext}
use Rattle.std.proofs.lemmas.List.{length-map}
use Rattle.std.proofs.lemmas.List.Sorted.{length_permutation}
use Rattle.history_model.specs.History.{History, AllAnswered}
use Rattle.host_store.specs.Store.{Store}
use Rattle.placement_model.specs.Placements.{Task, IsPlacement, packets_of, tasks_of}
use Rattle.switch_packet.specs.Packets.{PlainPacket, PlainIntent, PlainOutcome, blank_packet}
use Rattle.switch_model.specs.Fitting.{FitsSwitch}
use Rattle.switch_model.specs.Reached.{IsReached}
use Rattle.switch_model.specs.Reached as reached
use Rattle.switch_model.specs.Switch.{Desk, Vacant, Switch, desk_at, entered, restored}
use Rattle.switch_model.proofs.Replayed.{restored_reached}
use Rattle.switch_model.proofs.Starts.{entered-restored}
use Rattle.warm_split.specs.Resolved.{packet_from}
use Rattle.catalogue.specs.Plan.{Plan, hot_cells}
use Rattle.catalogue.specs.Sound.{IsSound}
use Rattle.core_model.specs.Facts.{Clients}
use Rattle.core_model.specs.State.{ClientState, at_item, zero_stamp}
use Rattle.fabric_model.specs.Fits.{PacketsFit}
use Rattle.fabric_model.specs.Holds.{HostFacts, Ties, Holds}
use Rattle.fabric_model.specs.Intents.{values_of, packet_now}
use Rattle.fabric_model.specs.Recorded.{has_open}
use Rattle.fabric_model.specs.Recovery.{plain_logs, is_open_of, desk_for, desk_in, desks_from, resumed, filled}
use Rattle.fabric_model.specs.State.{Records, State, client_at, log_at, no_records}
use Rattle.fabric_model.specs.Step.{recovered}
use Rattle.fabric_model.proofs.Among.{in_at, all_in, all_permutation}
use Rattle.fabric_model.proofs.Assembled.{ties_assembled}
use Rattle.fabric_model.proofs.Resumed.{client_again, open_cases}
use Rattle.fabric_model.proofs.Tasks.{KnownLog, TaskFits, FitsBy, all_fit, open_at}

-- ---- desks

length_desks : (order : List Task) (c n : ℕ) → length (desks_from order c n) ≡ n
length_desks order c zero = refl
length_desks order c (suc n) = ap suc (length_desks order (c + 1) n)

desk_within : (order : List Task) (c n d : ℕ) → d < n → slice_index_or (desks_from order c n) d Vacant ≡ desk_in order (c + d)
desk_within order c zero d lt = absurd (omega arith)
desk_within order c (suc n) zero lt = let same : c ≡ c + 0 = omega arith in ap (desk_in order) same
desk_within order c (suc n) (suc d) lt = let next : (c + 1) + d ≡ c + suc d = omega arith in desk_within order (c + 1) n d (omega arith) ∙ ap (desk_in order) next

desk_past : (order : List Task) (c n d : ℕ) → n ≤ d → slice_index_or (desks_from order c n) d Vacant ≡ Vacant
desk_past order c zero d le = refl
desk_past order c (suc n) zero le = absurd (omega arith)
desk_past order c (suc n) (suc d) le = desk_past order (c + 1) n d (omega arith)

within_or_past : (d n : ℕ) → (d < n) ⊎ (n ≤ d)
within_or_past d n = grind arith

client_of_packet : (plan : Plan) (c : ℕ) (x : ClientState) → (packet_now plan c x).client ≡ c
unfolding packet_from
client_of_packet plan c x = refl

packet_at : (order : List Task) (k : ℕ) (t : Task) → slice_get order k ≡ Some t → (k < length (packets_of order)) × (get_or (packets_of order) k blank_packet ≡ t.intent.packet)
packet_at [] k t e = cc
packet_at (s ∷ order) zero t e = let same : s ≡ t = some_same e in (omega arith, ap (λ (x : Task). x.intent.packet) same)
  where
    some_same : {a b : Task} → Some a ≡ Some b → a ≡ b
    some_same i = cc
packet_at (s ∷ order) (suc k) t e = let r = packet_at order k t e in (omega (arith, r.0), r.1)

module _ (plan : Plan) (sound : IsSound plan) (fits : PacketsFit plan) (at : Clients) (store : Store) (h : History) (logs : List Records) (most : ℕ) (facts : HostFacts plan most at store h) (answered : AllAnswered h)
    (known : (c : ℕ) → KnownLog plan at h None c (get_or logs c no_records)) (order : List Task) (placed : IsPlacement (plain_logs logs) (hot_cells plan) order)
    (clients : ℕ) (within : (c : ℕ) → has_open (at c).phase ≡ true → c < clients) where
  abbrev packets : List PlainPacket
  packets = packets_of order

  all_known : AllByRecursion (TaskFits plan at h None) order
  all_known = all_permutation (TaskFits plan at h None) (tasks_of (plain_logs logs)) order placed.all (all_fit plan at h None logs known)

  -- the packets fit the switch
  fit_of : (t : Task) (o : Option PlainOutcome) → t.outcome ≡ o → TaskFits plan at h None t → FitsSwitch plan.shape t.intent.packet
  fit_of t (Some o) is f =
      let a = subst (FitsBy plan at h None t.client t.intent) is f in
      subst (FitsSwitch plan.shape) (sym a.packet) (fits t.client o.seq a.values a.hot)
  fit_of t None is f =
      let a = subst (FitsBy plan at h None t.client t.intent) is f in
      let x = at t.client in
      subst (FitsSwitch plan.shape) (sym (ap (λ (i : PlainIntent). i.packet) a.1)) (fits t.client x.seq (values_of x.noted) (facts.hot_ones t.client (open_cases x.phase a.0)))

  all_packets : (tasks : List Task) → AllByRecursion (TaskFits plan at h None) tasks → AllByRecursion (FitsSwitch plan.shape) (packets_of tasks)
  all_packets [] all = tt
  all_packets (t ∷ tasks) all = (fit_of t t.outcome refl all.0, all_packets tasks all.1)

  -- a desk that isn't vacant names its client's packet
  named_of : (c : ℕ) (o : Option ℕ) → position_from (is_open_of c) 0 order ≡ o → reached.FitsDesk plan.shape packets c (desk_for o)
  named_of c None is = tt
  named_of c (Some k) is =
      let found = open_at c order 0 k is in
      let same : found.0 ≡ k = omega (arith, found.1) in
      let t = found.2.task in
      let there = packet_at order k t (ap (slice_get order) (sym same) ∙ found.2.there) in
      let a = subst (FitsBy plan at h None t.client t.intent) found.2.none (all_in (TaskFits plan at h None) order t all_known (in_at order found.0 t found.2.there)) in
      (there.0, ap (λ (p : PlainPacket). p.client) there.1 ∙ ap (λ (i : PlainIntent). i.packet.client) a.1 ∙ client_of_packet plan t.client (at t.client) ∙ found.2.client)

  named_in : (c : ℕ) → reached.FitsDesk plan.shape packets c (desk_in order c)
  named_in c = named_of c (position_from (is_open_of c) 0 order) refl

  -- a client that isn't there has nothing under way
  desk_none : (c : ℕ) → clients ≤ c → desk_in order c ≡ Vacant
  desk_none c past = go (position_from (is_open_of c) 0 order) refl
    where
      go : (o : Option ℕ) → position_from (is_open_of c) 0 order ≡ o → desk_for o ≡ Vacant
      go None is = refl
      go (Some k) is =
          let found = open_at c order 0 k is in
          let t = found.2.task in
          let a = subst (FitsBy plan at h None t.client t.intent) found.2.none (all_in (TaskFits plan at h None) order t all_known (in_at order found.0 t found.2.there)) in
          absurd (omega (arith, past, within c (subst (λ (d : ℕ). has_open (at d).phase ≡ true) found.2.client a.0)))

  pub same_desk : (c : ℕ) → slice_index_or (desks_from order 0 clients) c Vacant ≡ desk_in order c
  same_desk c = elim (within_or_past c clients) [
    | inl lt ↦ (let same : 0 + c ≡ c = omega arith in desk_within order 0 clients c lt ∙ ap (desk_in order) same)
    | inr past ↦ desk_past order 0 clients c past ∙ sym (desk_none c past)
  ]

  pub rebuilt_is_reached : IsReached plan.shape (hot_cells plan) (restored (hot_cells plan) packets (desks_from order 0 clients))
  rebuilt_is_reached = restored_reached plan.shape (hot_cells plan) packets (desks_from order 0 clients) sound.limits.shape.stages.0 (all_packets order all_known)
      (λ c. subst (reached.FitsDesk plan.shape packets c) (sym (same_desk c)) (named_in c))

  pub length_order : length order ≡ length (tasks_of (plain_logs logs))
  length_order = length_permutation (tasks_of (plain_logs logs)) order placed.all

rebuilt_desks : (plan : Plan) (order : List Task) (n : ℕ) → (restored (hot_cells plan) (packets_of order) (desks_from order 0 n)).desks ≡ desks_from order 0 n
unfolding restored
rebuilt_desks plan order n = refl

-- ---- the state behind it

module _ (plan : Plan) (sound : IsSound plan) (fits : PacketsFit plan) (s : State) (most : ℕ) (facts : HostFacts plan most (client_at s) s.store s.history) (answered : AllAnswered s.history)
    (known : (c : ℕ) → KnownLog plan (client_at s) s.history None c (log_at s c)) (as_many : length s.logs ≡ length s.clients) (within : (c : ℕ) → has_open (client_at s c).phase ≡ true → c < length s.clients)
    (covers : most ≤ length (tasks_of (plain_logs s.logs))) (order : List Task) (placed : IsPlacement (plain_logs s.logs) (hot_cells plan) order) where
  abbrev now : Switch
  now = restored (hot_cells plan) (packets_of order) (desks_from order 0 (length s.clients))

  same_clients : ◌≡◌ {A = Clients} (λ d. resumed (client_at s d)) (λ d. get_or (map resumed s.clients) d (at_item 0 1 zero_stamp))
  same_clients = fun_ext (λ d. sym (client_again s.clients d))

  same_desks : desk_in order ≡ desk_at now
  same_desks = fun_ext (λ d. sym (ap (λ (l : List Desk). get_or l d Vacant) (rebuilt_desks plan order (length s.clients))
      ∙ same_desk plan sound fits (client_at s) s.store s.history s.logs most facts answered known order placed (length s.clients) within d))

  count_covers : most ≤ length order
  count_covers = omega (arith, covers, length_permutation (tasks_of (plain_logs s.logs)) order placed.all)

  ties : Ties plan (λ d. get_or (map resumed s.clients) d (at_item 0 1 zero_stamp)) s.store (filled order s.history) (desk_at now) (entered now)
  ties =
      subst (Ties plan (λ d. get_or (map resumed s.clients) d (at_item 0 1 zero_stamp)) s.store (filled order s.history) (desk_at now)) (sym (entered-restored (hot_cells plan) (packets_of order) (desks_from order 0 (length s.clients))))
      (subst (λ (f : ℕ → Desk). Ties plan (λ d. get_or (map resumed s.clients) d (at_item 0 1 zero_stamp)) s.store (filled order s.history) f (packets_of order)) same_desks
      (subst (λ (f : Clients). Ties plan f s.store (filled order s.history) (desk_in order) (packets_of order)) same_clients
      (ties_assembled plan (client_at s) s.store s.history s.logs most facts answered known order placed (λ c opens. omega (arith, as_many, within c opens)) count_covers)))

  pub recovered_holds : Holds plan (recovered plan s order)
  unfolding recovered
  recovered_holds = record {
    now = now;
    up = refl;
    reached = rebuilt_is_reached plan sound fits (client_at s) s.store s.history s.logs most facts answered known order placed (length s.clients) within;
    desks = ap length (rebuilt_desks plan order (length s.clients)) ∙ length_desks order 0 (length s.clients) ∙ sym (length-map s.clients resumed);
    ties = ties;
  }
