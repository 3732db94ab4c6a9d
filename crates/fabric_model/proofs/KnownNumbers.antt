-- The numbers of all stamps are those of packets whose transactions are answered, or 0.
use Rattle.std.proofs.Common.{◌≡◌, ℕ, zero, suc, ◌+◌, ◌-◌, ◌<◌, ◌==◌, Bool, true, false, ℤ, pos, List, [], ◌∷◌, ◌++◌, length, take, set, get_or, slice_get, unwrap_or, option_map, Option, Some, None, IsSome, inl, inr, refl, sym, ap, subst, ◌∙◌, if◌then◌else◌, is_lt}
use Rattle.std.specs.FinMap as fin
use Rattle.std.specs.List.{AllByRecursion}
use Rattle.txn_model.specs.Tuples.{tuple_cmp}
use Rattle.txn_model.specs.declared.op.TupleId.{TupleId}
use Rattle.txn_model.specs.declared.pairs.Pair.{Pair}
use Rattle.txn_model.specs.declared.stamp.Seen.{Seen}
use Rattle.txn_model.specs.declared.stamp.Stamp.{Stamp}
use Rattle.txn_model.proofs.SerialLaws.{item_of_all}
use Rattle.host_store.specs.Store as stores
use Rattle.host_store.specs.Store.{Store, seen_at, first_seen}
use Rattle.history_model.specs.History.{HistoryEntry, History, greater, stamp_cmp}
use Rattle.placement_model.specs.Placements.{Task}
use Rattle.switch_model.specs.Switch.{Switch, Answer, Desk, Vacant, Posted, Entered, desk_at, next_number, answer_of}
use Rattle.warm_split.specs.Joined.{joined}
use Rattle.catalogue.specs.Plan.{Plan, PlainItem}
use Rattle.catalogue.specs.declared.actor.Actor.{Actor}
use Rattle.core_model.specs.declared.phase.Phase.TheVariants.{Ready, Locking, Logged, Waiting, Installing}
use Rattle.core_model.specs.Decision.{greatest, decision_stamp}
use Rattle.core_model.specs.Facts.{steps_now}
use Rattle.core_model.specs.Run.{first_clients}
use Rattle.core_model.specs.State.{ClientState, at_item, script_now, zero_stamp}
use Rattle.core_model.specs.Step.{aborting, try_ended, next_item, installed_one}
use Rattle.core_model.proofs.Decide.{all-with_entry}
use Rattle.core_model.proofs.Fewer.{same_or_not, each_entry}
use Rattle.core_model.proofs.Install.{seen_at-insert}
use Rattle.core_model.proofs.Opening.{first_value}
use Rattle.core_model.proofs.StepsOf.{all_append}
use Rattle.fabric_model.specs.Carried.{is_carried, pending_entry}
use Rattle.fabric_model.specs.Holds.{Holds}
use Rattle.fabric_model.specs.Intents.{values_of}
use Rattle.fabric_model.specs.Known.{IsKnown, HasKnownNumbers}
use Rattle.fabric_model.specs.Laws.{IsReached, HasEntry, AnswersStand}
use Rattle.fabric_model.specs.Recovery.{resumed}
use Rattle.fabric_model.specs.Run.{opening, host_rows}
use Rattle.fabric_model.specs.State.{State, client_at, is_answered, answered_ones}
use Rattle.fabric_model.specs.Step.{lost, granted, refused, released, decided, logged, posted, taken, installed, switched, replied, behind_entry, recovered}
use Rattle.fabric_model.specs.Step as fabric
use Rattle.fabric_model.proofs.Assembled.{all_filled}
use Rattle.fabric_model.proofs.CarriedLaws.{with_reply-split}
use Rattle.fabric_model.proofs.Either.{up_of}
use Rattle.fabric_model.proofs.Legal.{holds_now}
use Rattle.fabric_model.proofs.MoveKinds.{Move, Loses, Grants, Refuses, Releases, Decides, Logs, Posts, Takes, Installs, Moved, ByClient, AtPort, AtStage, Recovers, move_of}
use Rattle.fabric_model.proofs.MovesLeft.{same_switch}
use Rattle.fabric_model.proofs.Numbers.{front}
use Rattle.fabric_model.proofs.PerClient.{client_now, client_then}
use Rattle.fabric_model.proofs.Present.{reply_to, stamp_of, clients_at_port, clients_at_stage, client_recovered}
use Rattle.fabric_model.proofs.Runs.{of_reached}
use Rattle.fabric_model.proofs.Stand.{answers_stand}
use Rattle.fabric_model.proofs.TakenAnswer.{taken_answer}

-- ---- numbers stay known

known_stays : (h new : History) (n : ℕ) → AnswersStand h new → IsKnown h n → IsKnown new n
known_stays h new n stand (inl none) = inl none
known_stays h new n stand (inr a) =
    inr (record { entry = a.entry; there = item_of_all (λ (f : HistoryEntry). IsSome f.pairs → HasEntry new f) h a.there.0 a.entry stand a.there.1 a.answered; carried = a.carried; answered = a.answered; number = a.number })

noted_stay : (h new : History) (l : List Seen) → AnswersStand h new → AllByRecursion (λ seen. IsKnown h seen.stamp.number) l → AllByRecursion (λ seen. IsKnown new seen.stamp.number) l
noted_stay h new [] stand all = tt
noted_stay h new (seen ∷ l) stand all = (known_stays h new seen.stamp.number stand all.0, noted_stay h new l stand all.1)

-- a client's stamps
record KnownClient (h : History) (x : ClientState) : Type 0 where
  pub last : IsKnown h x.last.number
  pub noted : AllByRecursion (λ seen. IsKnown h seen.stamp.number) x.noted

client_stays : (h new : History) (x : ClientState) → AnswersStand h new → KnownClient h x → KnownClient new x
client_stays h new x stand k = record { last = known_stays h new x.last.number stand k.last; noted = noted_stay h new x.noted stand k.noted }

first_known : (h : History) (n : ℕ) (l : List Seen) → AllByRecursion (λ seen. IsKnown h seen.stamp.number) l → AllByRecursion (λ seen. IsKnown h seen.stamp.number) (take n l)
first_known h zero l all = tt
first_known h (suc n) [] all = tt
first_known h (suc n) (seen ∷ l) all = (all.0, first_known h n l all.1)

greater_known : (h : History) (a b : Stamp) → IsKnown h a.number → IsKnown h b.number → IsKnown h (greater a b).number
greater_known h a b left right = by (is_lt (stamp_cmp a b))
  where
    by : (t : Bool) → IsKnown h (if t then b else a).number
    by true = right
    by false = left

greatest_known : (h : History) (stamp : Stamp) (l : List Seen) → IsKnown h stamp.number → AllByRecursion (λ seen. IsKnown h seen.stamp.number) l → IsKnown h (greatest stamp l).number
greatest_known h stamp [] here all = here
greatest_known h stamp (seen ∷ l) here all = greatest_known h (greater stamp seen.stamp) l (greater_known h stamp seen.stamp here all.0) all.1

try_known : (plan : Plan) (c : ℕ) (h : History) (x : ClientState) → IsKnown h x.last.number → KnownClient h (try_ended plan c x)
try_known plan c h x here = by (x.refused + 1 == plan.tries)
  where
    by : (b : Bool) → KnownClient h (if b then next_item plan c x else record { phase = Ready; seq = x.seq; refused = x.refused + 1; noted = []; installed = 0; last = x.last; reply = [] })
    by true = record { last = here; noted = tt }
    by false = record { last = here; noted = tt }

abort_known : (plan : Plan) (c : ℕ) (h : History) (x : ClientState) (front : List Seen) → IsKnown h x.last.number → AllByRecursion (λ seen. IsKnown h seen.stamp.number) front → KnownClient h (aborting plan c x front)
abort_known plan c h x [] here all = try_known plan c h x here
abort_known plan c h x (seen ∷ others) here all = record { last = here; noted = all }

install_known : (plan : Plan) (c : ℕ) (h : History) (x : ClientState) (all : ℕ) → KnownClient h x → KnownClient h (installed_one plan c x all)
install_known plan c h x all k = by (x.installed + 1 == all)
  where
    by : (b : Bool) → KnownClient h (if b then next_item plan c x else record x { installed = x.installed + 1 })
    by true = record { last = k.last; noted = tt }
    by false = record { last = k.last; noted = k.noted }

reply_known : (plan : Plan) (c : ℕ) (h : History) (x : ClientState) (stamp : Stamp) (reply : List Pair) → IsKnown h stamp.number → AllByRecursion (λ seen. IsKnown h seen.stamp.number) x.noted → KnownClient h (replied plan c x stamp reply)
reply_known plan c h x stamp reply here noted = by (length x.noted == 0)
  where
    by : (b : Bool) → KnownClient h (if b then next_item plan c (record x { phase = Installing; last = stamp; reply = reply }) else record x { phase = Installing; last = stamp; reply = reply })
    by true = record { last = here; noted = tt }
    by false = record { last = here; noted = noted }

stored_known : (h : History) (store : Store) (k : TupleId) (value : ℤ) (stamp : Stamp) → IsKnown h stamp.number → ((t : TupleId) → IsKnown h (seen_at store t).stamp.number) → (t : TupleId) → IsKnown h (seen_at (stores.installed store k value stamp) t).stamp.number
stored_known h store k value stamp here all t =
    subst (λ (seen : Seen). IsKnown h seen.stamp.number) (sym (seen_at-insert store k seen_now t)) (by (k.0 == t.0))
  where
    seen_now : Seen
    seen_now = record { value = value; stamp = greater (seen_at store k).stamp stamp }

    by : (b : Bool) → IsKnown h (if b then record { value = value; stamp = greater (seen_at store k).stamp stamp } else seen_at store t).stamp.number
    by true = greater_known h (seen_at store k).stamp stamp (all k) here
    by false = all t

-- ---- entries of transactions on hosts

abbrev IsHosts : History → HistoryEntry → Type 0
IsHosts h e = is_carried e ≡ false → IsKnown h e.entry.stamp.number

hosts_stay : (h new l : History) → AnswersStand h new → AllByRecursion (IsHosts h) l → AllByRecursion (IsHosts new) l
hosts_stay h new l stand all = each_entry l (λ e k host. known_stays h new e.entry.stamp.number stand (k host)) all

split_hosts : (P : HistoryEntry → Type 0) (before : History) (e f : HistoryEntry) (behind : History) → AllByRecursion P (before ++ e ∷ behind) → P f → AllByRecursion P (before ++ f ∷ behind)
split_hosts P [] e f behind all new = (new, all.1)
split_hosts P (g ∷ before) e f behind all new = (all.0, split_hosts P before e f behind all.1 new)

-- the answered ones
answered_hosts : (new h : History) → AllByRecursion (IsHosts new) h → AllByRecursion (IsHosts new) (answered_ones h)
answered_hosts new [] all = tt
answered_hosts new (e ∷ h) all = by (is_answered e) (answered_hosts new h all.1)
  where
    by : (b : Bool) → AllByRecursion (IsHosts new) (answered_ones h) → AllByRecursion (IsHosts new) (if b then e ∷ answered_ones h else answered_ones h)
    by true rest = (all.0, rest)
    by false rest = rest

-- ---- moves

module _ (plan : Plan) (s : State) (up_holds : (now : Switch) → s.switch ≡ Some now → Holds plan s) (c : ℕ) (lt : c < length s.clients) (known : HasKnownNumbers s) where
  abbrev x : ClientState
  x = client_at s c

  before : (d : ℕ) → KnownClient s.history (client_at s d)
  before d = record { last = known.last d; noted = known.noted d }

  all_known : (after : State) (y : ClientState) → after.clients ≡ set s.clients c y → AnswersStand s.history after.history → KnownClient after.history y → ((t : TupleId) → IsKnown after.history (seen_at after.store t).stamp.number) → AllByRecursion (IsHosts after.history) after.history → HasKnownNumbers after
  all_known after y is stand mine store hosts = record { last = λ d. (client d).last; noted = λ d. (client d).noted; store = store; hosts = hosts }
    where
      client : (d : ℕ) → KnownClient after.history (client_at after d)
      client d = elim (same_or_not d c) [
        | inl e ↦ subst (λ (n : ℕ). KnownClient after.history (client_at after n)) (sym e) (subst (KnownClient after.history) (sym (client_now s after c y lt is)) mine)
        | inr n ↦ subst (KnownClient after.history) (sym (client_then s after c y d is n)) (client_stays s.history after.history (client_at s d) stand (before d))
      ]

  store_stays : (after : State) → AnswersStand s.history after.history → after.store ≡ s.store → (t : TupleId) → IsKnown after.history (seen_at after.store t).stamp.number
  store_stays after stand same t = subst (λ (m : Store). IsKnown after.history (seen_at m t).stamp.number) (sym same) (known_stays s.history after.history (seen_at s.store t).stamp.number stand (known.store t))

  hosts_same : (after : State) → AnswersStand s.history after.history → after.history ≡ s.history → AllByRecursion (IsHosts after.history) after.history
  hosts_same after stand same = subst (AllByRecursion (IsHosts after.history)) (sym same) (hosts_stay s.history after.history s.history stand known.hosts)

  -- where store and history stay
  quiet : (after : State) (y : ClientState) → after.clients ≡ set s.clients c y → AnswersStand s.history after.history → after.store ≡ s.store → after.history ≡ s.history → KnownClient s.history y → HasKnownNumbers after
  quiet after y is stand store same mine = all_known after y is stand (client_stays s.history after.history y stand mine) (store_stays after stand store) (hosts_same after stand same)

  takes : (after : State) (now next : Switch) (answer : Answer) → s.switch ≡ Some now → answer_of now c ≡ Some answer → after ≡ taken plan s c x answer next → AnswersStand s.history after.history → HasKnownNumbers after
  unfolding taken
  takes after now next answer up has is stand =
      let h = up_holds now up in
      let t = taken_answer plan s h c answer (subst (λ (n : Switch). answer_of n c ≡ Some answer) (same_switch up h.up) has) in
      let reply = reply_to plan c x answer in
      let e : HistoryEntry = record (pending_entry c x answer.number) { pairs = Some reply } in
      let there : after.history ≡ t.split.before ++ e ∷ t.split.behind =
      ap (λ (z : State). z.history) is ∙ with_reply-split answer.number reply s.history t.split ∙ ap (λ (f : HistoryEntry). t.split.before ++ record f { pairs = Some reply } ∷ t.split.behind) t.entry in
      let here : IsKnown after.history answer.number = inr (record {
        entry = e;
        there = (length t.split.before, ap (λ (l : History). slice_get l (length t.split.before)) there ∙ front t.split.before e t.split.behind);
        carried = refl;
        answered = refl;
        number = refl;
      }) in
      all_known after (replied plan c x (stamp_of answer) reply) (ap (λ (z : State). z.clients) is) stand (reply_known plan c after.history x (stamp_of answer) reply here (noted_stay s.history after.history x.noted stand (known.noted c)))
      (store_stays after stand (ap (λ (z : State). z.store) is))
      (subst (AllByRecursion (IsHosts after.history)) (sym there)
      (split_hosts (IsHosts after.history) t.split.before t.split.entry e t.split.behind (subst (AllByRecursion (IsHosts after.history)) t.split.whole (hosts_stay s.history after.history s.history stand known.hosts)) (λ host. absurd (clash host))))
    where
      clash : true ≡ false → ⊥
      clash i = cc

  known_moved : (after : State) → Move plan s c after → AnswersStand s.history after.history → HasKnownNumbers after
  unfolding lost granted refused released decided logged posted installed
  known_moved after (Loses now phase item up is) stand =
      all_known after (next_item plan c x) (ap (λ (z : State). z.clients) is) stand (record { last = known_stays s.history after.history x.last.number stand (known.last c); noted = tt }) (store_stays after stand (ap (λ (z : State). z.store) is))
      (subst (AllByRecursion (IsHosts after.history)) (sym (ap (λ (z : State). z.history) is)) (answered_hosts after.history s.history (hosts_stay s.history after.history s.history stand known.hosts)))
  known_moved after (Grants op asks next free is) stand =
      let y : ClientState = record x { phase = Locking; noted = x.noted ++ seen_at s.store op.tuple ∷ [] } in
      quiet after y (ap (λ (z : State). z.clients) is) stand (ap (λ (z : State). z.store) is) (ap (λ (z : State). z.history) is)
      (record { last = known.last c; noted = all_append (λ seen. IsKnown s.history seen.stamp.number) x.noted (seen_at s.store op.tuple ∷ []) (known.noted c) (known.store op.tuple, tt) })
  known_moved after (Refuses op by asks next held is) stand =
      quiet after (aborting plan c x x.noted) (ap (λ (z : State). z.clients) is) stand (ap (λ (z : State). z.store) is) (ap (λ (z : State). z.history) is) (abort_known plan c s.history x x.noted (known.last c) (known.noted c))
  known_moved after (Releases phase is) stand =
      let front = take (length x.noted - 1) x.noted in
      quiet after (aborting plan c x front) (ap (λ (z : State). z.clients) is) stand (ap (λ (z : State). z.store) is) (ap (λ (z : State). z.history) is) (abort_known plan c s.history x front (known.last c) (first_known s.history (length x.noted - 1) x.noted (known.noted c)))
  known_moved after (Decides asks next cold some is) stand =
      let reply = joined plan.layout (script_now plan c x) (values_of x.noted) [] in
      let stamp = decision_stamp x.last x.noted in
      let y : ClientState = record x { phase = Installing; last = stamp; reply = reply } in
      let here = known_stays s.history after.history stamp.number stand (greatest_known s.history x.last x.noted (known.last c) (known.noted c)) in
      all_known after y (ap (λ (z : State). z.clients) is) stand (record { last = here; noted = noted_stay s.history after.history x.noted stand (known.noted c) }) (store_stays after stand (ap (λ (z : State). z.store) is))
      (subst (AllByRecursion (IsHosts after.history)) (sym (ap (λ (z : State). z.history) is)) (all-with_entry (IsHosts after.history) _ s.history (hosts_stay s.history after.history s.history stand known.hosts) (λ host. here)))
  known_moved after (Logs asks next hot is) stand = quiet after (record x { phase = Logged }) (ap (λ (z : State). z.clients) is) stand (ap (λ (z : State). z.store) is) (ap (λ (z : State). z.history) is) (record { last = known.last c; noted = known.noted c })
  known_moved after (Posts now next phase up to is) stand = quiet after (record x { phase = Waiting }) (ap (λ (z : State). z.clients) is) stand (ap (λ (z : State). z.store) is) (ap (λ (z : State). z.history) is) (record { last = known.last c; noted = known.noted c })
  known_moved after (Takes now next answer phase up has to is) stand = takes after now next answer up has is stand
  known_moved after (Installs p phase at is) stand =
      let same : after.history ≡ s.history = ap (λ (z : State). z.history) is in
      all_known after (installed_one plan c x (length (steps_now plan c x))) (ap (λ (z : State). z.clients) is) stand (client_stays s.history after.history _ stand (install_known plan c s.history x (length (steps_now plan c x)) (before c)))
      (λ t. known_stays s.history after.history (seen_at after.store t).stamp.number stand
      (subst (λ (m : Store). IsKnown s.history (seen_at m t).stamp.number) (sym (ap (λ (z : State). z.store) is)) (stored_known s.history s.store p.0.tuple p.1.now x.last (known.last c) known.store t)))
      (hosts_same after stand same)

-- ---- moves at the switch

store_at_port : (s : State) (c : ℕ) (desk : Desk) (number : ℕ) (next : Switch) → (behind_entry s c desk number next).store ≡ s.store
unfolding fabric.entered switched
store_at_port s c Vacant number next = refl
store_at_port s c (Posted p) number next = refl
store_at_port s c (Entered k) number next = refl

store_at_stage : (s : State) (next : Switch) → (switched s next).store ≡ s.store
unfolding switched
store_at_stage s next = refl

hosts_at_port : (s : State) (new : History) (c : ℕ) (desk : Desk) (number : ℕ) (next : Switch) → AllByRecursion (IsHosts new) s.history → AllByRecursion (IsHosts new) (behind_entry s c desk number next).history
unfolding fabric.entered switched
hosts_at_port s new c Vacant number next all = all
hosts_at_port s new c (Posted p) number next all = all-with_entry (IsHosts new) _ s.history all (λ host. cc)
hosts_at_port s new c (Entered k) number next all = all

hosts_at_stage : (s : State) (new : History) (next : Switch) → AllByRecursion (IsHosts new) s.history → AllByRecursion (IsHosts new) (switched s next).history
unfolding switched
hosts_at_stage s new next all = all

known_still : (s after : State) → after.clients ≡ s.clients → after.store ≡ s.store → AnswersStand s.history after.history → HasKnownNumbers s → AllByRecursion (IsHosts after.history) after.history → HasKnownNumbers after
known_still s after clients store stand known hosts = record {
  last = λ d. (client d).last;
  noted = λ d. (client d).noted;
  store = λ t. subst (λ (m : Store). IsKnown after.history (seen_at m t).stamp.number) (sym store) (known_stays s.history after.history (seen_at s.store t).stamp.number stand (known.store t));
  hosts = hosts;
}
  where
    client : (d : ℕ) → KnownClient after.history (client_at after d)
    client d = subst (λ (l : List ClientState). KnownClient after.history (get_or l d (at_item 0 1 zero_stamp))) (sym clients) (client_stays s.history after.history (client_at s d) stand (record { last = known.last d; noted = known.noted d }))

-- ---- recovery

store_recovered : (plan : Plan) (s : State) (order : List Task) → (recovered plan s order).store ≡ s.store
unfolding recovered
store_recovered plan s order = refl

hosts_recovered : (plan : Plan) (s : State) (new : History) (order : List Task) → AllByRecursion (IsHosts new) s.history → AllByRecursion (IsHosts new) (recovered plan s order).history
unfolding recovered
hosts_recovered plan s new order all = all_filled (IsHosts new) 1 order s.history all (λ k t there none host. absurd (clash host))
  where
    clash : true ≡ false → ⊥
    clash i = cc

known_again : (plan : Plan) (s after : State) (order : List Task) → after ≡ recovered plan s order → HasKnownNumbers s → AnswersStand s.history after.history → HasKnownNumbers after
known_again plan s after order is known stand = record {
  last = λ d. (client d).last;
  noted = λ d. (client d).noted;
  store = λ t. subst (λ (m : Store). IsKnown after.history (seen_at m t).stamp.number) (sym (ap (λ (z : State). z.store) is ∙ store_recovered plan s order)) (known_stays s.history after.history (seen_at s.store t).stamp.number stand (known.store t));
  hosts = subst (λ (z : State). AllByRecursion (IsHosts after.history) z.history) (sym is) (hosts_recovered plan s after.history order (hosts_stay s.history after.history s.history stand known.hosts));
}
  where
    again : (h : History) (x : ClientState) → KnownClient h x → KnownClient h (resumed x)
    again h x k = record { last = k.last; noted = k.noted }

    client : (d : ℕ) → KnownClient after.history (client_at after d)
    client d = subst (KnownClient after.history) (sym (client_recovered plan s after order is d)) (again after.history (client_at s d) (client_stays s.history after.history (client_at s d) stand (record { last = known.last d; noted = known.noted d })))

known_step : (plan : Plan) (s after : State) (actor : Actor) → ((now : Switch) → s.switch ≡ Some now → Holds plan s) → HasKnownNumbers s → AnswersStand s.history after.history → Moved plan s after actor → HasKnownNumbers after
known_step plan s after actor h known stand (ByClient c within move) = known_moved plan s h c within known after move stand
known_step plan s after actor h known stand (AtPort c now next up to is) =
    known_still s after (ap (λ (z : State). z.clients) is ∙ clients_at_port s c (desk_at now c) (next_number now) next) (ap (λ (z : State). z.store) is ∙ store_at_port s c (desk_at now c) (next_number now) next) stand known
    (subst (λ (z : State). AllByRecursion (IsHosts after.history) z.history) (sym is) (hosts_at_port s after.history c (desk_at now c) (next_number now) next (hosts_stay s.history after.history s.history stand known.hosts)))
known_step plan s after actor h known stand (AtStage k now next up to is) =
    known_still s after (ap (λ (z : State). z.clients) is ∙ clients_at_stage s next) (ap (λ (z : State). z.store) is ∙ store_at_stage s next) stand known
    (subst (λ (z : State). AllByRecursion (IsHosts after.history) z.history) (sym is) (hosts_at_stage s after.history next (hosts_stay s.history after.history s.history stand known.hosts)))
known_step plan s after actor h known stand (Recovers order down found is) = known_again plan s after order is known stand

-- ---- the opening

first_numbers : (lists : List (List PlainItem)) (c : ℕ) → KnownClient [] (get_or (first_clients lists) c (at_item 0 1 zero_stamp))
first_numbers [] c = record { last = inl refl; noted = tt }
first_numbers (items ∷ lists) zero = record { last = inl refl; noted = tt }
first_numbers (items ∷ lists) (suc c) = first_numbers lists c

known_at_opening : (plan : Plan) → HasKnownNumbers (opening plan)
unfolding opening
known_at_opening plan = record {
  last = λ c. (first_numbers plan.clients c).last;
  noted = λ c. (first_numbers plan.clients c).noted;
  store = λ t. subst (λ (o : Option Seen). IsKnown [] (unwrap_or o (first_seen (pos 0))).stamp.number) (sym (first_value (host_rows plan) t)) (mapped (fin.find tuple_cmp t (host_rows plan)));
  hosts = tt;
}
  where
    mapped : (o : Option ℤ) → IsKnown [] (unwrap_or (option_map first_seen o) (first_seen (pos 0))).stamp.number
    mapped None = inl refl
    mapped (Some v) = inl refl

pub known_numbers : (plan : Plan) (s : State) → IsReached plan s → HasKnownNumbers s
known_numbers plan s reached =
    of_reached plan HasKnownNumbers (known_at_opening plan) (λ z next actor r known is. let h = up_of plan z (holds_now plan z r) in known_step plan z next actor h known (answers_stand plan z next actor h is) (move_of plan z actor next is)) s reached
