-- What holds while the switch is up goes over into what holds while it is lost.
use Rattle.std.proofs.Common.{◌≡◌, ℕ, ◌<◌, ◌≤◌, Bool, true, false, List, [], ◌∷◌, length, is_some, Option, Some, None, IsSome, refl, sym, ap, subst, ◌∙◌, arith, if◌then◌else◌, Less}
use Rattle.std.specs.List.{AllByRecursion}
use Rattle.txn_model.specs.declared.pairs.Pair.{Pair}
use Rattle.txn_model.specs.declared.stamp.Seen.{Seen}
use Rattle.host_store.specs.Store.{Store}
use Rattle.history_model.specs.History.{HistoryEntry, History, IsInStampOrder, AllAnswered, entry_cmp}
use Rattle.placement_model.specs.Placements.{Task, IsPlacement, tasks_of}
use Rattle.switch_model.specs.Switch.{Switch, desk_at, entered}
use Rattle.catalogue.specs.Plan.{Plan, hot_cells}
use Rattle.catalogue.specs.Sound.{IsSound}
use Rattle.core_model.specs.declared.phase.Phase.TheVariants.{Ready}
use Rattle.core_model.specs.Facts.{Clients}
use Rattle.core_model.specs.Step.{next_item}
use Rattle.core_model.proofs.Legal.{all_distinct}
use Rattle.core_model.proofs.Fewer.{each_entry}
use Rattle.fabric_model.specs.ColdFacts.{ColdFacts}
use Rattle.fabric_model.specs.Holds.{HostFacts, Holds, HoldsLost}
use Rattle.fabric_model.specs.Recorded.{has_open}
use Rattle.fabric_model.specs.Recovery.{plain_logs}
use Rattle.fabric_model.specs.State.{State, client_at, log_at, is_answered, answered_ones}
use Rattle.fabric_model.specs.Step.{moved, lost}
use Rattle.fabric_model.proofs.KeptByClients.{facts_moved, skipped_moves}
use Rattle.fabric_model.proofs.Resumed.{open_within}
use Rattle.fabric_model.proofs.Tasks.{KnownLog}
use Rattle.fabric_model.proofs.TiesKept.{host_facts}
use Rattle.fabric_model.proofs.TrueOrder.{true_order, enough_tasks}

-- ---- the answered entries

pub kept_answered : (P : HistoryEntry → Type 0) (h : History) → AllByRecursion P h → AllByRecursion P (answered_ones h)
kept_answered P [] all = tt
kept_answered P (e ∷ h) all = by (is_answered e) (kept_answered P h all.1)
  where
    by : (b : Bool) → AllByRecursion P (answered_ones h) → AllByRecursion P (if b then e ∷ answered_ones h else answered_ones h)
    by true rest = (all.0, rest)
    by false rest = rest

pub sorted_answered : (h : History) → IsInStampOrder h → IsInStampOrder (answered_ones h)
sorted_answered [] sorted = tt
sorted_answered (e ∷ h) sorted = by (is_answered e) (sorted_answered h sorted.1)
  where
    by : (b : Bool) → IsInStampOrder (answered_ones h) → IsInStampOrder (if b then e ∷ answered_ones h else answered_ones h)
    by true rest = (kept_answered (λ f. entry_cmp e.entry f.entry ≡ Less) h sorted.0, rest)
    by false rest = rest

some_is : (o : Option (List Pair)) → is_some o ≡ true → IsSome o
some_is None e = cc
some_is (Some p) e = refl

pub all_are_answered : (h : History) → AllAnswered (answered_ones h)
all_are_answered [] = tt
all_are_answered (e ∷ h) = by (is_answered e) refl (all_are_answered h)
  where
    by : (b : Bool) → is_answered e ≡ b → AllAnswered (answered_ones h) → AllAnswered (if b then e ∷ answered_ones h else answered_ones h)
    by true is rest = (some_is e.pairs is, rest)
    by false is rest = rest

is_some_of : (o : Option (List Pair)) → IsSome o → is_some o ≡ true
is_some_of None s = s
is_some_of (Some p) s = refl

-- where all are answered, they are all that there are
pub answered_whole : (h : History) → AllAnswered h → answered_ones h ≡ h
answered_whole [] all = refl
answered_whole (e ∷ h) all = ap (λ (b : Bool). if b then e ∷ answered_ones h else answered_ones h) (is_some_of e.pairs all.0) ∙ ap (λ (l : History). e ∷ l) (answered_whole h all.1)

-- ---- facts on the hosts

each_more : (m n : ℕ) (l : List Seen) → m ≤ n → AllByRecursion (λ seen. seen.stamp.number ≤ m) l → AllByRecursion (λ seen. seen.stamp.number ≤ n) l
each_more m n [] le all = tt
each_more m n (seen ∷ l) le all = (omega (arith, le, all.0), each_more m n l le all.1)

pub more_facts : (plan : Plan) (m n : ℕ) (at : Clients) (store : Store) (h : History) → m ≤ n → HostFacts plan m at store h → HostFacts plan n at store h
more_facts plan m n at store h le f = record {
  cold = f.cold;
  installs = f.installs;
  hot_ones = f.hot_ones;
  sorted = f.sorted;
  unanswered = f.unanswered;
  hosts = f.hosts;
  covered = record {
    last = λ c. omega (arith, le, f.covered.last c);
    noted = λ c. each_more m n (at c).noted le (f.covered.noted c);
    store_has = λ t. omega (arith, le, f.covered.store_has t);
    entries = each_entry h (λ e low. omega (arith, le, low)) f.covered.entries;
  };
}

pub answered_facts : (plan : Plan) (n : ℕ) (at : Clients) (store : Store) (h : History) → HostFacts plan n at store h → HostFacts plan n at store (answered_ones h)
answered_facts plan n at store h f = record {
  cold = subst (ColdFacts plan at store) (sym (answered_whole (answered_ones h) (all_are_answered h))) f.cold;
  installs = f.installs;
  hot_ones = f.hot_ones;
  sorted = sorted_answered h f.sorted;
  unanswered = kept_answered _ h f.unanswered;
  hosts = kept_answered _ h f.hosts;
  covered = record { last = f.covered.last; noted = f.covered.noted; store_has = f.covered.store_has; entries = kept_answered _ h f.covered.entries };
}

-- ---- the loss

module _ (plan : Plan) (s : State) (holds : Holds plan s) (known : (d : ℕ) → KnownLog plan (client_at s) s.history s.switch d (log_at s d)) (as_many : length s.logs ≡ length s.clients) where
  known_now : (d : ℕ) → KnownLog plan (client_at s) s.history (Some holds.now) d (log_at s d)
  known_now d = subst (λ (o : Option Switch). KnownLog plan (client_at s) s.history o d (log_at s d)) holds.up (known d)

  pub within_logs : (d : ℕ) → has_open (client_at s d).phase ≡ true → d < length s.logs
  within_logs d opens = omega (arith, as_many, open_within s.clients d opens)

  abbrev most : ℕ
  most = length (entered holds.now)

  pub order_up : (order : List Task) × IsPlacement (plain_logs s.logs) (hot_cells plan) order
  order_up = true_order plan (client_at s) s.store s.history (desk_at holds.now) holds.now holds.ties s.logs known_now within_logs

  pub enough_up : most ≤ length (tasks_of (plain_logs s.logs))
  enough_up = enough_tasks plan (client_at s) s.store s.history (desk_at holds.now) holds.now holds.ties s.logs known_now within_logs

  facts_up : HostFacts plan most (client_at s) s.store s.history
  facts_up = host_facts plan (client_at s) s.store s.history (desk_at holds.now) (entered holds.now) holds.ties

  pub lost_holds : IsSound plan → (c : ℕ) → c < length s.clients → (client_at s c).phase ≡ Ready → HoldsLost plan (lost plan s c (client_at s c))
  unfolding lost
  lost_holds sound c lt ready =
      let behind = moved s c (next_item plan c (client_at s c)) in
      let move = skipped_moves plan (all_distinct plan sound) s c lt most facts_up ready in
      let facts = facts_moved plan s most c lt behind move facts_up in
      record {
        lost = refl;
        facts = answered_facts plan (length (tasks_of (plain_logs s.logs))) (client_at behind) s.store s.history (more_facts plan most (length (tasks_of (plain_logs s.logs))) (client_at behind) s.store s.history enough_up facts);
        answered = all_are_answered s.history;
        order = order_up.0;
        placed = order_up.1;
      }
