-- What an answered entry makes of what is known of its client's stamps.
use Rattle.std.proofs.Common.{◌≡◌, ◌≢◌, ◌⊎◌, ℕ, zero, suc, ◌+◌, ◌-◌, ◌<◌, ◌≤◌, ◌==◌, ◌&&◌, Bool, true, false, List, [], ◌∷◌, ◌++◌, map, filter, length, take, set, get_or, slice_get, append-nil, unwrap_or, Option, Some, None, inl, inr, refl, sym, ap, subst, ◌∙◌, arith, if◌then◌else◌, Less, is_lt}
use Rattle.std.specs.List.{AllByRecursion, last_or}
use Rattle.txn_model.specs.declared.pairs.Pair.{Pair}
use Rattle.txn_model.specs.declared.stamp.Seen.{Seen}
use Rattle.txn_model.specs.declared.stamp.Stamp.{Stamp}
use Rattle.host_store.specs.Store.{seen_at}
use Rattle.history_model.specs.History.{HistoryEntry, History, IsInStampOrder, entry_cmp, with_entry}
use Rattle.switch_model.specs.Switch.{Switch, Answer, Desk, Vacant, Posted, Entered, desk_at, next_number, answer_of}
use Rattle.warm_split.specs.Joined.{joined}
use Rattle.catalogue.specs.Plan.{Plan, PlainItem, items_of}
use Rattle.catalogue.specs.declared.actor.Actor.{Actor}
use Rattle.core_model.specs.declared.phase.Phase.TheVariants.{Ready, Locking, Aborting, Logged, Waiting, Installing}
use Rattle.core_model.specs.Asking.{IsAsking}
use Rattle.core_model.specs.Decision.{decision_stamp}
use Rattle.core_model.specs.Facts.{steps_now}
use Rattle.core_model.specs.Run.{first_clients}
use Rattle.core_model.specs.StampOrder.{Below, AtMost}
use Rattle.core_model.specs.State.{ClientState, at_item, script_now, zero_stamp}
use Rattle.core_model.specs.Step.{aborting, try_ended, next_item, installed_one}
use Rattle.core_model.proofs.Decide.{all-with_entry}
use Rattle.core_model.proofs.Ended.{begun}
use Rattle.core_model.proofs.Entries.{placed, not_behind}
use Rattle.core_model.proofs.Fewer.{same_or_not, each_entry}
use Rattle.core_model.proofs.Stamps.{Below-from_AtMost, above_all, below_of}
use Rattle.core_model.proofs.StepsOf.{all_behind}
use Rattle.fabric_model.specs.Carried.{pending_entry}
use Rattle.fabric_model.specs.Holds.{HostFacts, Holds, HoldsNow}
use Rattle.fabric_model.specs.Intents.{values_of}
use Rattle.fabric_model.specs.Known.{HasLastStamps}
use Rattle.fabric_model.specs.Laws.{IsReached, HasEntry}
use Rattle.fabric_model.specs.Recovery.{waits_again, resumed}
use Rattle.fabric_model.specs.Run.{opening}
use Rattle.fabric_model.specs.State.{State, client_at, is_answered, answered_ones}
use Rattle.fabric_model.specs.Step.{lost, granted, refused, released, decided, logged, posted, taken, installed, switched, replied, behind_entry}
use Rattle.fabric_model.specs.Step as fabric
use Rattle.fabric_model.proofs.CarriedLaws.{answered_ones-with_reply}
use Rattle.fabric_model.proofs.EntriesKept.{answered_ones-with_entry, answered_ones-pending}
use Rattle.fabric_model.proofs.Either.{facts_of, up_of}
use Rattle.fabric_model.proofs.Legal.{holds_now}
use Rattle.fabric_model.proofs.MoveKinds.{Move, Loses, Grants, Refuses, Releases, Decides, Logs, Posts, Takes, Installs, Moved, ByClient, AtPort, AtStage, Recovers, move_of}
use Rattle.fabric_model.proofs.MovesLeft.{same_switch}
use Rattle.fabric_model.proofs.Numbers.{front}
use Rattle.fabric_model.proofs.OwnEntries.{ones_alone, ones_recovered}
use Rattle.fabric_model.proofs.Stand.{still_there}
use Rattle.fabric_model.proofs.PerClient.{client_now, client_then, on_aborting}
use Rattle.fabric_model.proofs.Present.{reply_to, stamp_of, clients_at_port, clients_at_stage, client_recovered}
use Rattle.fabric_model.proofs.Resumed.{installs_before}
use Rattle.fabric_model.proofs.Runs.{of_reached}
use Rattle.fabric_model.proofs.TakenAnswer.{taken_answer}

filter-append : (f : HistoryEntry → Bool) (a b : History) → filter f (a ++ b) ≡ filter f a ++ filter f b
filter-append f [] b = refl
filter-append f (e ∷ a) b = by (f e) (filter f (a ++ b)) (filter f a) (filter-append f a b)
  where
    by : (t : Bool) (x y : History) → x ≡ y ++ filter f b → (if t then e ∷ x else x) ≡ (if t then e ∷ y else y) ++ filter f b
    by true x y h = ap (λ (l : History). e ∷ l) h
    by false x y h = h

pub none_passes : (f : HistoryEntry → Bool) (h : History) → AllByRecursion (λ e. f e ≡ false) h → filter f h ≡ []
none_passes f [] all = refl
none_passes f (e ∷ h) all = ap (λ (b : Bool). if b then e ∷ filter f h else filter f h) all.0 ∙ none_passes f h all.1

-- an entry above all others that pass a test comes behind them
pub passes_last : (f : HistoryEntry → Bool) (e : HistoryEntry) (h : History) → IsInStampOrder h → f e ≡ true → AllByRecursion (λ g. f g ≡ true → Below g.entry.stamp e.entry.stamp) h → filter f (with_entry e h) ≡ filter f h ++ e ∷ []
passes_last f e h sorted is below =
    let at = placed e h sorted in
    let behind : filter f at.behind ≡ [] = none_passes f at.behind (none at.behind at.above (all_behind (λ g. f g ≡ true → Below g.entry.stamp e.entry.stamp) at.before at.behind (subst (AllByRecursion (λ g. f g ≡ true → Below g.entry.stamp e.entry.stamp)) at.whole below))) in
    ap (filter f) at.new ∙ filter-append f at.before (e ∷ at.behind)
    ∙ ap (λ (l : History). filter f at.before ++ l) (ap (λ (b : Bool). if b then e ∷ filter f at.behind else filter f at.behind) is ∙ ap (λ (l : History). e ∷ l) behind)
    ∙ ap (λ (l : History). l ++ e ∷ []) (sym (ap (filter f) at.whole ∙ filter-append f at.before at.behind ∙ ap (λ (l : History). filter f at.before ++ l) behind ∙ append-nil (filter f at.before)))
  where
    fails : (b : Bool) → (b ≡ true → ⊥) → b ≡ false
    fails true n = absurd (n refl)
    fails false n = refl

    none : (l : History) → AllByRecursion (λ g. entry_cmp e.entry g.entry ≡ Less) l → AllByRecursion (λ g. f g ≡ true → Below g.entry.stamp e.entry.stamp) l → AllByRecursion (λ g. f g ≡ false) l
    none [] above low = tt
    none (g ∷ l) above low = (fails (f g) (λ own. not_behind e.entry g.entry (low.0 own) above.0), none l above.1 low.1)

-- and one that doesn't pass it changes nothing
pub passes_not : (f : HistoryEntry → Bool) (e : HistoryEntry) (h : History) → f e ≡ false → filter f (with_entry e h) ≡ filter f h
passes_not f e [] n = ap (λ (b : Bool). if b then e ∷ [] else []) n
passes_not f e (g ∷ h) n =
    elim (is_lt (entry_cmp e.entry g.entry)) as (λ b. filter f (if b then e ∷ g ∷ h else g ∷ with_entry e h) ≡ filter f (g ∷ h)) [
      | true ↦ ap (λ (b : Bool). if b then e ∷ filter f (g ∷ h) else filter f (g ∷ h)) n
      | false ↦ ap (λ (l : History). if f g then g ∷ l else l) (passes_not f e h n)
    ]

pub last_of_more : (o : Option Stamp) (h : History) (e : HistoryEntry) → last_or o (map (λ f. f.entry.stamp) (h ++ e ∷ [])) ≡ Some e.entry.stamp
last_of_more o [] e = refl
last_of_more o (f ∷ h) e = last_of_more (Some f.entry.stamp) h e

-- ---- what is kept of a client's stamps and its answered entries

-- the entry is that of the present item of a client that installs: it has its last stamp and its reply
pub record IsPresentOne (x : ClientState) (e : HistoryEntry) : Type 0 where
  pub seq : e.entry.seq ≡ x.seq
  pub phase : x.phase ≡ Installing
  pub stamp : e.entry.stamp ≡ x.last
  pub reply : unwrap_or e.pairs [] ≡ x.reply

abbrev pub IsOwnPast : ClientState → HistoryEntry → Type 0
IsOwnPast x e = (e.entry.seq < x.seq) ⊎ IsPresentOne x e

abbrev is_own : ℕ → HistoryEntry → Bool
is_own c e = e.entry.client == c

-- the last of a client's answered entries
abbrev last_own : ℕ → History → Stamp
last_own c h = unwrap_or (last_or None (map (λ e. e.entry.stamp) (filter (is_own c) h))) zero_stamp

-- it is there
pub record HasPresentOne (c : ℕ) (x : ClientState) (h : History) : Type 0 where
  pub entry : HistoryEntry
  pub there : HasEntry h entry
  pub client : entry.entry.client ≡ c
  pub present : IsPresentOne x entry

pub record StampsOf (c : ℕ) (x : ClientState) (h : History) : Type 0 where
  pub last : x.last ≡ last_own c h
  pub past : AllByRecursion (λ e. e.entry.client ≡ c → IsOwnPast x e) h
  pub above : x.phase ≡ Installing → AllByRecursion (λ seen. Below seen.stamp x.last) x.noted
  pub there : x.phase ≡ Installing → HasPresentOne c x h

abbrev pub AllStamps : State → Type 0
AllStamps s = (c : ℕ) → StampsOf c (client_at s c) (answered_ones s.history)

-- ---- a client that goes on without an answer

-- with the same last stamp, and not installing, at its item or a later one
quiet_stamps : (c : ℕ) (x y : ClientState) (h : History) → x.phase ≢ Installing → y.phase ≢ Installing → y.last ≡ x.last → x.seq ≤ y.seq → StampsOf c x h → StampsOf c y h
quiet_stamps c x y h was is last on stamps = record {
  last = last ∙ stamps.last;
  past = each_entry h (λ e p own. inl (on_past e (p own))) stamps.past;
  above = λ i. absurd (is i);
  there = λ i. absurd (is i);
}
  where
    on_past : (e : HistoryEntry) → IsOwnPast x e → e.entry.seq < y.seq
    on_past e (inl lt) = omega (arith, lt, on)
    on_past e (inr p) = absurd (was p.phase)

asking_quiet : (x : ClientState) → IsAsking x → x.phase ≢ Installing
asking_quiet x (inl is) i = let clash : Ready ≡ Installing = sym is ∙ i in cc
asking_quiet x (inr is) i = let clash : Locking ≡ Installing = sym is ∙ i in cc

try_quiet : (plan : Plan) (c : ℕ) (x : ClientState) → ((try_ended plan c x).phase ≢ Installing) × ((try_ended plan c x).last ≡ x.last)
try_quiet plan c x = by (x.refused + 1 == plan.tries)
  where
    by : (b : Bool) → ((if b then next_item plan c x else record { phase = Ready; seq = x.seq; refused = x.refused + 1; noted = []; installed = 0; last = x.last; reply = [] }).phase ≢ Installing)
        × ((if b then next_item plan c x else record { phase = Ready; seq = x.seq; refused = x.refused + 1; noted = []; installed = 0; last = x.last; reply = [] }).last ≡ x.last)
    by true = ((begun (length (items_of plan c)) (x.seq + 1) x).0, refl)
    by false = ((λ i. cc), refl)

abort_quiet : (plan : Plan) (c : ℕ) (x : ClientState) (front : List Seen) → ((aborting plan c x front).phase ≢ Installing) × ((aborting plan c x front).last ≡ x.last)
abort_quiet plan c x [] = try_quiet plan c x
abort_quiet plan c x (seen ∷ others) = ((λ i. cc), refl)

install_stamps : (plan : Plan) (c : ℕ) (x : ClientState) (all : ℕ) (h : History) → StampsOf c x h → StampsOf c (installed_one plan c x all) h
install_stamps plan c x all h stamps = by (x.installed + 1 == all)
  where
    later : (e : HistoryEntry) → IsOwnPast x e → e.entry.seq < x.seq + 1
    later e (inl lt) = omega (arith, lt)
    later e (inr p) = omega (arith, p.seq)

    kept_past : (e : HistoryEntry) → IsOwnPast x e → IsOwnPast (record x { installed = x.installed + 1 }) e
    kept_past e (inl lt) = inl lt
    kept_past e (inr p) = inr (record { seq = p.seq; phase = p.phase; stamp = p.stamp; reply = p.reply })

    still : HasPresentOne c x h → HasPresentOne c (record x { installed = x.installed + 1 }) h
    still p = record { entry = p.entry; there = p.there; client = p.client; present = record { seq = p.present.seq; phase = p.present.phase; stamp = p.present.stamp; reply = p.present.reply } }

    by : (b : Bool) → StampsOf c (if b then next_item plan c x else record x { installed = x.installed + 1 }) h
    by true = record { last = stamps.last; past = each_entry h (λ e p own. inl (later e (p own))) stamps.past; above = λ i. absurd ((begun (length (items_of plan c)) (x.seq + 1) x).0 i); there = λ i. absurd ((begun (length (items_of plan c)) (x.seq + 1) x).0 i) }
    by false = record { last = stamps.last; past = each_entry h (λ e p own. kept_past e (p own)) stamps.past; above = stamps.above; there = λ i. still (stamps.there i) }

-- ---- a client that gets an answered entry

itself : (n : ℕ) → (n == n) ≡ true
itself n = grind arith

another : (a b : ℕ) → a ≢ b → (b == a) ≡ false
another a b n = grind arith

equal : (a b : ℕ) → (a == b) ≡ true → a ≡ b
equal a b e = grind arith

-- its stamp is above the client's last one, and so behind the client's others
last_now : (c : ℕ) (x : ClientState) (e : HistoryEntry) (h : History) → IsInStampOrder h → e.entry.client ≡ c → Below x.last e.entry.stamp → AllByRecursion (λ g. g.entry.client ≡ c → AtMost g.entry.stamp x.last) h → e.entry.stamp ≡ last_own c (with_entry e h)
last_now c x e h sorted own above low =
    sym (ap (λ (l : History). unwrap_or (last_or None (map (λ (g : HistoryEntry). g.entry.stamp) l)) zero_stamp)
    (passes_last (is_own c) e h sorted (ap (λ (n : ℕ). n == c) own ∙ itself c) (each_entry h (λ g most passes. Below-from_AtMost g.entry.stamp x.last e.entry.stamp (most (equal g.entry.client c passes)) above) low))
    ∙ ap (λ (o : Option Stamp). unwrap_or o zero_stamp) (last_of_more None (filter (is_own c) h) e))

-- a client that installs with this entry, or goes on behind it
entry_stamps : (c : ℕ) (x y : ClientState) (e : HistoryEntry) (h : History) → x.phase ≢ Installing → IsInStampOrder h → e.entry.client ≡ c → Below x.last e.entry.stamp → AllByRecursion (λ g. g.entry.client ≡ c → AtMost g.entry.stamp x.last) h
    → y.last ≡ e.entry.stamp → ((q : ℕ) → q < x.seq → q < y.seq) → IsOwnPast y e → (y.phase ≡ Installing → AllByRecursion (λ seen. Below seen.stamp y.last) y.noted) → (y.phase ≡ Installing → e.entry.seq < y.seq → ⊥) → StampsOf c x h → StampsOf c y (with_entry e h)
entry_stamps c x y e h was sorted own above low last on new noted not_later stamps = record {
  last = last ∙ last_now c x e h sorted own above low;
  past = all-with_entry (λ g. g.entry.client ≡ c → IsOwnPast y g) e h (each_entry h (λ g p mine. inl (earlier g (p mine))) stamps.past) (λ _. new);
  above = noted;
  there = λ i. present i new;
}
  where
    present : y.phase ≡ Installing → IsOwnPast y e → HasPresentOne c y (with_entry e h)
    present i (inl lt) = absurd (not_later i lt)
    present i (inr p) = let at = placed e h sorted in record { entry = e; there = (length at.before, ap (λ (l : History). slice_get l (length at.before)) at.new ∙ front at.before e at.behind); client = own; present = p }

    earlier : (g : HistoryEntry) → IsOwnPast x g → g.entry.seq < y.seq
    earlier g (inl lt) = on g.entry.seq lt
    earlier g (inr p) = absurd (was p.phase)

-- another client's entry changes nothing
other_stamps : (d : ℕ) (x : ClientState) (e : HistoryEntry) (h : History) → e.entry.client ≢ d → StampsOf d x h → StampsOf d x (with_entry e h)
other_stamps d x e h n stamps = record {
  last = stamps.last ∙ sym (ap (λ (l : History). unwrap_or (last_or None (map (λ (g : HistoryEntry). g.entry.stamp) l)) zero_stamp) (passes_not (is_own d) e h (another d e.entry.client (λ same. n (sym same)))));
  past = all-with_entry (λ g. g.entry.client ≡ d → IsOwnPast x g) e h stamps.past (λ own. absurd (n own));
  above = stamps.above;
  there = λ i. let p = stamps.there i in let at = still_there e p.entry h p.there.0 p.there.1 in record { entry = p.entry; there = at; client = p.client; present = p.present };
}

-- ---- moves

module _ (plan : Plan) (s : State) (most : ℕ) (f : HostFacts plan most (client_at s) s.store s.history) (up_holds : (now : Switch) → s.switch ≡ Some now → Holds plan s) (c : ℕ) (lt : c < length s.clients) (stamps : AllStamps s) where
  abbrev x : ClientState
  x = client_at s c

  abbrev ones : History
  ones = answered_ones s.history

  all_stamps : (after : State) (y : ClientState) → after.clients ≡ set s.clients c y → StampsOf c y (answered_ones after.history) → ((d : ℕ) → d ≢ c → StampsOf d (client_at s d) (answered_ones after.history)) → AllStamps after
  all_stamps after y is mine others d = elim (same_or_not d c) [
    | inl e ↦ subst (λ (n : ℕ). StampsOf n (client_at after n) (answered_ones after.history)) (sym e) (subst (λ (z : ClientState). StampsOf c z (answered_ones after.history)) (sym (client_now s after c y lt is)) mine)
    | inr n ↦ subst (λ (z : ClientState). StampsOf d z (answered_ones after.history)) (sym (client_then s after c y d is n)) (others d n)
  ]

  same_history : (after : State) (y : ClientState) → after.clients ≡ set s.clients c y → after.history ≡ s.history → StampsOf c y ones → AllStamps after
  same_history after y is same mine =
      let whole : answered_ones after.history ≡ ones = ap answered_ones same in
      all_stamps after y is (subst (StampsOf c y) (sym whole) mine) (λ d n. subst (StampsOf d (client_at s d)) (sym whole) (stamps d))

  new_entry : (after : State) (y : ClientState) (e : HistoryEntry) → after.clients ≡ set s.clients c y → answered_ones after.history ≡ with_entry e ones → e.entry.client ≡ c → StampsOf c y (with_entry e ones) → AllStamps after
  new_entry after y e is whole own mine = all_stamps after y is (subst (StampsOf c y) (sym whole) mine) (λ d n. subst (StampsOf d (client_at s d)) (sym whole) (other_stamps d (client_at s d) e ones (λ same. n (sym same ∙ own)) (stamps d)))

  decides : (after : State) → IsAsking x → after ≡ decided plan s c x → AllStamps after
  unfolding decided
  decides after asks is =
      let reply = joined plan.layout (script_now plan c x) (values_of x.noted) [] in
      let stamp = decision_stamp x.last x.noted in
      let y : ClientState = record x { phase = Installing; last = stamp; reply = reply } in
      let e : HistoryEntry = record { entry = record { stamp = stamp; client = c; seq = x.seq }; pairs = Some reply } in
      let above = above_all x.last x.noted in
      new_entry after y e (ap (λ (z : State). z.clients) is) (ap (λ (z : State). answered_ones z.history) is ∙ answered_ones-with_entry e s.history refl f.sorted) refl
      (entry_stamps c x y e ones (asking_quiet x asks) f.cold.sorted refl above.0 (f.cold.own c) refl (λ q low. low) (inr (record { seq = refl; phase = refl; stamp = refl; reply = refl })) (λ i. above.1) (λ i late. omega (arith, late)) (stamps c))

  takes : (after : State) (now next : Switch) (answer : Answer) → x.phase ≡ Waiting → s.switch ≡ Some now → answer_of now c ≡ Some answer → after ≡ taken plan s c x answer next → AllStamps after
  unfolding taken
  takes after now next answer phase up has is =
      let h = up_holds now up in
      let t = taken_answer plan s h c answer (subst (λ (n : Switch). answer_of n c ≡ Some answer) (same_switch up h.up) has) in
      let reply = reply_to plan c x answer in
      let e : HistoryEntry = record (pending_entry c x answer.number) { pairs = Some reply } in
      let whole : answered_ones after.history ≡ with_entry e ones =
      ap (λ (z : State). answered_ones z.history) is ∙ answered_ones-with_reply answer.number reply s.history t.split f.sorted ∙ ap (λ (g : HistoryEntry). with_entry (record g { pairs = Some reply }) ones) t.entry in
      let above : Below x.last (stamp_of answer) = below_of x.last (stamp_of answer) (inl t.last) in
      let quiet : x.phase ≢ Installing = (λ i. clash (sym phase ∙ i)) in
      new_entry after (replied plan c x (stamp_of answer) reply) e (ap (λ (z : State). z.clients) is) whole refl (by e reply above quiet t.above (length x.noted == 0))
    where
      clash : Waiting ≡ Installing → ⊥
      clash i = cc

      all_below : (n : ℕ) (l : List Seen) → AllByRecursion (λ seen. seen.stamp.number < n) l → AllByRecursion (λ seen. Below seen.stamp (record { number = n; sub = 0 })) l
      all_below n [] all = tt
      all_below n (seen ∷ l) all = (below_of seen.stamp (record { number = n; sub = 0 }) (inl all.0), all_below n l all.1)

      by : (e : HistoryEntry) (reply : List Pair) → Below x.last (stamp_of answer) → x.phase ≢ Installing → AllByRecursion (λ seen. seen.stamp.number < answer.number) x.noted → (b : Bool)
          → StampsOf c (if b then next_item plan c (record x { phase = Installing; last = stamp_of answer; reply = reply }) else record x { phase = Installing; last = stamp_of answer; reply = reply }) (with_entry (record (pending_entry c x answer.number) { pairs = Some reply }) ones)
      by e reply above quiet noted true =
          let w : ClientState = record x { phase = Installing; last = stamp_of answer; reply = reply } in
          entry_stamps c x (next_item plan c w) (record (pending_entry c x answer.number) { pairs = Some reply }) ones quiet f.cold.sorted refl above (f.cold.own c) refl (λ q low. omega (arith, low)) (inl (omega arith)) (λ i. absurd ((begun (length (items_of plan c)) (x.seq + 1) w).0 i)) (λ i late. (begun (length (items_of plan c)) (x.seq + 1) w).0 i) (stamps c)
      by e reply above quiet noted false =
          entry_stamps c x (record x { phase = Installing; last = stamp_of answer; reply = reply }) (record (pending_entry c x answer.number) { pairs = Some reply }) ones quiet f.cold.sorted refl above (f.cold.own c) refl (λ q low. low)
          (inr (record { seq = refl; phase = refl; stamp = refl; reply = refl })) (λ i. all_below answer.number x.noted noted) (λ i late. omega (arith, late)) (stamps c)

  stamps_moved : (after : State) → Move plan s c after → AllStamps after
  unfolding lost granted refused released logged posted installed
  stamps_moved after (Loses now phase item up is) =
      let start = begun (length (items_of plan c)) (x.seq + 1) x in
      let whole : answered_ones after.history ≡ ones = ap (λ (z : State). answered_ones z.history) is ∙ ones_alone s.history in
      all_stamps after (next_item plan c x) (ap (λ (z : State). z.clients) is)
      (subst (StampsOf c (next_item plan c x)) (sym whole) (quiet_stamps c x (next_item plan c x) ones (λ i. let clash : Ready ≡ Installing = sym phase ∙ i in cc) start.0 refl (omega arith) (stamps c)))
      (λ d n. subst (StampsOf d (client_at s d)) (sym whole) (stamps d))
  stamps_moved after (Grants op asks next free is) =
      let y : ClientState = record x { phase = Locking; noted = x.noted ++ seen_at s.store op.tuple ∷ [] } in
      same_history after y (ap (λ (z : State). z.clients) is) (ap (λ (z : State). z.history) is) (quiet_stamps c x y ones (asking_quiet x asks) (λ i. cc) refl (omega arith) (stamps c))
  stamps_moved after (Refuses op by asks next held is) =
      let y = aborting plan c x x.noted in
      same_history after y (ap (λ (z : State). z.clients) is) (ap (λ (z : State). z.history) is) (quiet_stamps c x y ones (asking_quiet x asks) (abort_quiet plan c x x.noted).0 (abort_quiet plan c x x.noted).1 (on_aborting plan c x x.noted).0 (stamps c))
  stamps_moved after (Releases phase is) =
      let front = take (length x.noted - 1) x.noted in
      let y = aborting plan c x front in
      same_history after y (ap (λ (z : State). z.clients) is) (ap (λ (z : State). z.history) is)
      (quiet_stamps c x y ones (λ i. let clash : Aborting ≡ Installing = sym phase ∙ i in cc) (abort_quiet plan c x front).0 (abort_quiet plan c x front).1 (on_aborting plan c x front).0 (stamps c))
  stamps_moved after (Decides asks next cold some is) = decides after asks is
  stamps_moved after (Logs asks next hot is) =
      let y : ClientState = record x { phase = Logged } in
      same_history after y (ap (λ (z : State). z.clients) is) (ap (λ (z : State). z.history) is) (quiet_stamps c x y ones (asking_quiet x asks) (λ i. cc) refl (omega arith) (stamps c))
  stamps_moved after (Posts now next phase up to is) =
      let y : ClientState = record x { phase = Waiting } in
      same_history after y (ap (λ (z : State). z.clients) is) (ap (λ (z : State). z.history) is) (quiet_stamps c x y ones (λ i. let clash : Logged ≡ Installing = sym phase ∙ i in cc) (λ i. cc) refl (omega arith) (stamps c))
  stamps_moved after (Takes now next answer phase up has to is) = takes after now next answer phase up has is
  stamps_moved after (Installs p phase at is) = same_history after _ (ap (λ (z : State). z.clients) is) (ap (λ (z : State). z.history) is) (install_stamps plan c x (length (steps_now plan c x)) ones (stamps c))

-- moves at the switch answer nothing
ones_at_port : (s : State) (c : ℕ) (desk : Desk) (number : ℕ) (next : Switch) → answered_ones (behind_entry s c desk number next).history ≡ answered_ones s.history
unfolding fabric.entered switched
ones_at_port s c Vacant number next = refl
ones_at_port s c (Posted p) number next = answered_ones-pending _ s.history refl
ones_at_port s c (Entered k) number next = refl

ones_at_stage : (s : State) (next : Switch) → answered_ones (switched s next).history ≡ answered_ones s.history
unfolding switched
ones_at_stage s next = refl

stamps_still : (s after : State) → after.clients ≡ s.clients → answered_ones after.history ≡ answered_ones s.history → AllStamps s → AllStamps after
stamps_still s after clients ones stamps d =
    subst (λ (l : List ClientState). StampsOf d (get_or l d (at_item 0 1 zero_stamp)) (answered_ones after.history)) (sym clients) (subst (StampsOf d (client_at s d)) (sym ones) (stamps d))

-- a client that waits again had no answer
resumed_stamps : (c : ℕ) (x : ClientState) (h : History) → StampsOf c x h → StampsOf c (resumed x) h
resumed_stamps c x h stamps = record {
  last = stamps.last;
  past = each_entry h (λ e p own. on_past e (p own)) stamps.past;
  above = λ i. stamps.above (installs_before x.phase i);
  there = λ i. let p = stamps.there (installs_before x.phase i) in record { entry = p.entry; there = p.there; client = p.client; present = again p.entry p.present };
}
  where
    installs_again : x.phase ≡ Installing → waits_again x.phase ≡ Installing
    installs_again is = ap waits_again is

    again : (e : HistoryEntry) → IsPresentOne x e → IsPresentOne (resumed x) e
    again e p = record { seq = p.seq; phase = installs_again p.phase; stamp = p.stamp; reply = p.reply }

    on_past : (e : HistoryEntry) → IsOwnPast x e → IsOwnPast (resumed x) e
    on_past e (inl lt) = inl lt
    on_past e (inr p) = inr (again e p)

stamps_step : (plan : Plan) (s after : State) (actor : Actor) → HoldsNow plan s → AllStamps s → Moved plan s after actor → AllStamps after
stamps_step plan s after actor h stamps (ByClient c within move) = let f = facts_of plan s h in stamps_moved plan s f.most f.facts (up_of plan s h) c within stamps after move
stamps_step plan s after actor h stamps (AtPort c now next up to is) =
    stamps_still s after (ap (λ (z : State). z.clients) is ∙ clients_at_port s c (desk_at now c) (next_number now) next) (ap (λ (z : State). answered_ones z.history) is ∙ ones_at_port s c (desk_at now c) (next_number now) next) stamps
stamps_step plan s after actor h stamps (AtStage k now next up to is) =
    stamps_still s after (ap (λ (z : State). z.clients) is ∙ clients_at_stage s next) (ap (λ (z : State). answered_ones z.history) is ∙ ones_at_stage s next) stamps
stamps_step plan s after actor h stamps (Recovers order down found is) =
    λ d. subst (λ (x : ClientState). StampsOf d x (answered_ones after.history)) (sym (client_recovered plan s after order is d))
    (subst (StampsOf d (resumed (client_at s d))) (sym (ap (λ (z : State). answered_ones z.history) is ∙ ones_recovered plan s order)) (resumed_stamps d (client_at s d) (answered_ones s.history) (stamps d)))

first_stamps : (lists : List (List PlainItem)) (c d : ℕ) → StampsOf d (get_or (first_clients lists) c (at_item 0 1 zero_stamp)) []
first_stamps [] c d = record { last = refl; past = tt; above = λ i. absurd ((begun 0 1 (at_item 0 1 zero_stamp)).0 i); there = λ i. absurd ((begun 0 1 (at_item 0 1 zero_stamp)).0 i) }
first_stamps (items ∷ lists) zero d = record { last = refl; past = tt; above = λ i. absurd ((begun (length items) 1 (at_item 0 1 zero_stamp)).0 i); there = λ i. absurd ((begun (length items) 1 (at_item 0 1 zero_stamp)).0 i) }
first_stamps (items ∷ lists) (suc c) d = first_stamps lists c d

stamps_at_opening : (plan : Plan) → AllStamps (opening plan)
unfolding opening
stamps_at_opening plan c = first_stamps plan.clients c c

pub stamps_of_run : (plan : Plan) (s : State) → IsReached plan s → AllStamps s
stamps_of_run plan s reached = of_reached plan AllStamps (stamps_at_opening plan) (λ z next actor r stamps is. stamps_step plan z next actor (holds_now plan z r) stamps (move_of plan z actor next is)) s reached

-- ---- the same of the whole history

filter_both : (f g : HistoryEntry → Bool) (h : History) → filter (λ e. f e && g e) h ≡ filter f (filter g h)
filter_both f g [] = refl
filter_both f g (e ∷ h) = by (f e) (g e) refl refl (filter_both f g h)
  where
    by : (a b : Bool) → f e ≡ a → g e ≡ b → filter (λ x. f x && g x) h ≡ filter f (filter g h) → (if a && b then e ∷ filter (λ x. f x && g x) h else filter (λ x. f x && g x) h) ≡ filter f (if b then e ∷ filter g h else filter g h)
    by true true is at rest = ap (λ (l : History). e ∷ l) rest ∙ sym (ap (λ (t : Bool). if t then e ∷ filter f (filter g h) else filter f (filter g h)) is)
    by false true is at rest = rest ∙ sym (ap (λ (t : Bool). if t then e ∷ filter f (filter g h) else filter f (filter g h)) is)
    by true false is at rest = rest
    by false false is at rest = rest

pub last_stamps : (plan : Plan) (s : State) → IsReached plan s → HasLastStamps s
last_stamps plan s reached c =
    (stamps_of_run plan s reached c).last ∙ sym (ap (λ (l : History). unwrap_or (last_or None (map (λ (e : HistoryEntry). e.entry.stamp) l)) zero_stamp) (filter_both (is_own c) is_answered s.history))
