-- The rows of the first order can be placed: the open ones are answered, one after another.
use Rattle.std.proofs.Common.{◌≡◌, ℕ, zero, suc, ◌+◌, ◌<◌, ◌≤◌, Bool, true, false, List, [], ◌∷◌, length, replicate, Option, Some, None, is_none, is_some, IsSome, inl, inr, refl, sym, ap, subst, ◌∙◌, arith, if◌then◌else◌, Less}
use Rattle.std.specs.Prelude.{slice_index_or}
use Rattle.std.specs.List.{AllByRecursion}
use Rattle.std.specs.Ordering.{is_lt}
use Rattle.std.proofs.lemmas.List.{get_or-set_other, length-append, length-replicate}
use Rattle.txn_model.specs.Places.{Places}
use Rattle.txn_model.specs.declared.stamp.Stamp.{Stamp}
use Rattle.history_model.specs.History.{HistoryEntry, History, with_entry, entry_cmp, stamp_cmp}
use Rattle.history_model.specs.InOrder.{seqs_of}
use Rattle.history_core.specs.Runs.{ops_at, runs_of}
use Rattle.placement_model.specs.Placements.{Task, CanFollow, rows_from, rows_of}
use Rattle.switch_packet.specs.Packets.{PlainIntent, PlainOutcome}
use Rattle.switch_packet.specs.Ranges.{Fits}
use Rattle.switch_packet.specs.Replay.{replay}
use Rattle.switch_packet.proofs.ReplayLaws.{length-replay}
use Rattle.switch_model.specs.Switch.{Vacant}
use Rattle.pipeline.specs.Plain.{PlainFlight, PlainPipeline}
use Rattle.pipeline.specs.Rows.{box_of, in_slot, waiting_of, erased, given_answer, restored}
use Rattle.log_records.specs.Records.{PlainRecords}
use Rattle.warm_split.specs.Resolved.{packet_from}
use Rattle.catalogue.specs.Plan.{Plan, hot_cells}
use Rattle.core_model.specs.declared.phase.Phase.TheVariants.{Installing}
use Rattle.core_model.specs.StampOrder.{Below, AtMost}
use Rattle.core_model.specs.Decision.{greatest}
use Rattle.core_model.specs.State.{ClientState, script_now}
use Rattle.core_model.proofs.Fewer.{each_entry}
use Rattle.core_model.proofs.Stamped.{both_facts}
use Rattle.core_model.proofs.Stamps.{AtMost-greatest, Below-from_AtMost, below_of}
use Rattle.fabric_model.specs.Intents.{packet_now}
use Rattle.fabric_model.specs.Laws.{IsReached}
use Rattle.fabric_model.specs.Recorded.{has_open, open_intent}
use Rattle.fabric_model.specs.Recovery.{is_open_of}
use Rattle.fabric_model.specs.State.{State, client_at, log_at, answered_ones}
use Rattle.fabric_model.specs.Step.{order_now}
use Rattle.fabric_model.proofs.Among.{In, all_in}
use Rattle.fabric_model.proofs.Fitting.{packets_have_ranges}
use Rattle.fabric_model.proofs.InOrder.{HasIts, IsPastAt, desk_in, below_present, ordered}
use Rattle.fabric_model.proofs.Kept.{some_hot}
use Rattle.fabric_model.proofs.Legal.{holds_now}
use Rattle.fabric_model.proofs.LegalHistory.{all_answered_ones}
use Rattle.fabric_model.proofs.Resumed.{open_cases}
use Rattle.fabric_model.proofs.Tasks.{TaskFits, FitsBy, opens, open_test}
use Rattle.fabric_core.specs.Recovering.{CanAnswer, CanPlace, awaits, no_log}
use Rattle.fabric_core.specs.Standing.{AreLogs}
use Rattle.fabric_core.proofs.Items.{each_own, ops_of_item}
use Rattle.fabric_core.proofs.OpenRows.{as_many, known, while_lost, all_known, in_order, open_rows, once, packets_all, placed, within}

-- ---- one open task

-- an open task's item is a transaction, and its entry stands above those of its client, with any number above its floor
pub record IsOpenTask (plan : Plan) (s : State) (t : Task) : Type 0 where
  pub transaction : IsSome (ops_at (runs_of plan) t.client t.intent.packet.seq)
  pub above : (number : ℕ) → t.intent.floor < number → AllByRecursion (λ e. e.entry.client ≡ t.client → (e.entry.seq < t.intent.packet.seq) × (stamp_cmp e.entry.stamp (record { number = number; sub = 0 }) ≡ Less)) s.history

-- what is known of a task among the kept logs
pub record IsRow (plan : Plan) (s : State) (kept : List PlainRecords) (t : Task) : Type 0 where
  pub within : t.client < length kept
  pub fewer : let log = slice_index_or kept t.client no_log in length log.outcomes ≤ length log.intents
  pub stands_open : awaits (slice_index_or kept t.client no_log) t.intent.packet.seq ≡ is_none t.outcome
  pub few : length t.intent.packet.ops ≤ 16
  pub mine : t.outcome ≡ None → IsOpenTask plan s t

each_past : (P Q : ℕ → Type 0) (l : List ℕ) → ((q : ℕ) → P q → Q q) → AllByRecursion P l → AllByRecursion Q l
each_past P Q [] f all = tt
each_past P Q (q ∷ l) f all = (f q all.0, each_past P Q l f all.1)

seq_of_packet : (plan : Plan) (c : ℕ) (x : ClientState) → (packet_now plan c x).seq ≡ x.seq
unfolding packet_from
seq_of_packet plan c x = refl

module _ (plan : Plan) (s : State) (reached : IsReached plan s) (lost : s.switch ≡ None) (c : ℕ) (opens_now : has_open (client_at s c).phase ≡ true) where
  abbrev x : ClientState
  x = client_at s c

  none_yet : HasIts x (desk_in s.switch c) → ⊥
  none_yet its = by (subst (HasIts x) (ap (λ o. desk_in o c) lost) its)
    where
      not_installing : (x.phase ≡ Installing) → ⊥
      not_installing i = elim (open_cases x.phase opens_now) [ inl l ↦ (let clash = sym i ∙ l in cc) | inr w ↦ (let clash = sym i ∙ w in cc) ]

      by : HasIts x Vacant → ⊥
      by (inl i) = not_installing i
      by (inr w) = w.1

  earlier : AllByRecursion (λ e. e.entry.client ≡ c → e.entry.seq < x.seq) s.history
  earlier = each_own (λ q. q < x.seq) c s.history
      (each_past (IsPastAt x (desk_in s.switch c)) (λ q. q < x.seq) (seqs_of c s.history) (below_present x (desk_in s.switch c) x (desk_in s.switch c) [] [] none_yet) ((ordered plan (holds_now plan) s reached).past c))

  all_answered_here : answered_ones s.history ≡ s.history
  all_answered_here = all_answered_ones s.history (while_lost plan s reached lost).answered

  own_stamps : AllByRecursion (λ e. e.entry.client ≡ c → AtMost e.entry.stamp x.last) s.history
  own_stamps = subst (AllByRecursion (λ e. e.entry.client ≡ c → AtMost e.entry.stamp x.last)) all_answered_here ((while_lost plan s reached lost).facts.cold.own c)

  module _ (number : ℕ) (lt : (greatest x.last x.noted).number < number) where
    abbrev stamp : Stamp
    stamp = record { number = number; sub = 0 }

    last_below : Below x.last stamp
    last_below = Below-from_AtMost x.last (greatest x.last x.noted) stamp (AtMost-greatest x.noted x.last) (below_of (greatest x.last x.noted) stamp (inl lt))

    lower : AllByRecursion (λ e. e.entry.client ≡ c → Below e.entry.stamp stamp) s.history
    lower = each_entry s.history (λ e most own. Below-from_AtMost e.entry.stamp x.last stamp (most own) last_below) own_stamps

    above_all : AllByRecursion (λ e. e.entry.client ≡ c → (e.entry.seq < x.seq) × (stamp_cmp e.entry.stamp stamp ≡ Less)) s.history
    above_all = both_facts s.history (λ e seq low own. (seq own, low own)) earlier lower

  is_transaction : IsSome (ops_at (runs_of plan) c x.seq)
  is_transaction = ap is_some (ops_of_item plan c x.seq (some_hot plan (script_now plan c x) ((while_lost plan s reached lost).facts.hot_ones c (open_cases x.phase opens_now))))

open_task_is : (plan : Plan) (s : State) (reached : IsReached plan s) (lost : s.switch ≡ None) (t : Task) → TaskFits plan (client_at s) s.history None t → t.outcome ≡ None → IsOpenTask plan s t
open_task_is plan s reached lost t fits none =
    let a = subst (FitsBy plan (client_at s) s.history None t.client t.intent) none fits in
    let x = client_at s t.client in
    let floor : t.intent.floor ≡ (greatest x.last x.noted).number = ap (λ (i : PlainIntent). i.floor) a.1 in
    let seq : t.intent.packet.seq ≡ x.seq = ap (λ (i : PlainIntent). i.packet.seq) a.1 ∙ seq_of_packet plan t.client x in
    record {
      transaction = subst (λ (q : ℕ). IsSome (ops_at (runs_of plan) t.client q)) (sym seq) (is_transaction plan s reached lost t.client a.0);
      above = λ number lt.
          subst (λ (q : ℕ). AllByRecursion (λ e. e.entry.client ≡ t.client → (e.entry.seq < q) × (stamp_cmp e.entry.stamp (record { number = number; sub = 0 }) ≡ Less)) s.history) (sym seq)
          (above_all plan s reached lost t.client a.0 number (omega (arith, floor, lt)));
    }

-- ---- all tasks, one after another

all_both : (P Q : Task → Type 0) (ts : List Task) → AllByRecursion P ts → AllByRecursion Q ts → AllByRecursion (λ t. P t × Q t) ts
all_both P Q [] a b = tt
all_both P Q (t ∷ ts) a b = ((a.0, b.0), all_both P Q ts a.1 b.1)

all_mapped : (P Q : Task → Type 0) (ts : List Task) → ((t : Task) → P t → Q t) → AllByRecursion P ts → AllByRecursion Q ts
all_mapped P Q [] f a = tt
all_mapped P Q (t ∷ ts) f a = (f t a.0, all_mapped P Q ts f a.1)

all_with_entry : (P : HistoryEntry → Type 0) (e : HistoryEntry) (h : History) → P e → AllByRecursion P h → AllByRecursion P (with_entry e h)
all_with_entry P e [] p all = (p, tt)
all_with_entry P e (f ∷ h) p all = by (is_lt (entry_cmp e.entry f.entry)) (all_with_entry P e h p all.1)
  where
    by : (b : Bool) → AllByRecursion P (with_entry e h) → AllByRecursion P (if b then e ∷ f ∷ h else f ∷ with_entry e h)
    by true rest = (p, all)
    by false rest = (all.0, rest)

all_entries : (P Q : HistoryEntry → Type 0) (h : History) → ((e : HistoryEntry) → P e → Q e) → AllByRecursion P h → AllByRecursion Q h
all_entries P Q [] f a = tt
all_entries P Q (e ∷ h) f a = (f e a.0, all_entries P Q h f a.1)

-- nothing is under way, but answers of clients whose tasks are placed already
record IsReady (tasks : List Task) (p : PlainPipeline) : Type 0 where
  slots : (x : ℕ) → in_slot p x ≡ None
  waiting : (c : ℕ) → waiting_of p c ≡ None
  boxes : (c : ℕ) → 1 ≤ opens c tasks → box_of p c ≡ None

-- the entries of clients whose tasks are still to be placed are those of the state
abbrev IsMixed : State → List Task → History → Type 0
IsMixed s tasks h = (c : ℕ) → 1 ≤ opens c tasks → AllByRecursion (λ e. e.entry.client ≡ c → In e s.history) h

one_open : (c : ℕ) (t : Task) (tasks : List Task) → is_open_of c t ≡ true → opens c (t ∷ tasks) ≡ 1 + opens c tasks
one_open c t tasks is = ap {B = ℕ} (λ (b : Bool). (if b then 1 else 0) + opens c tasks) is

module _ (plan : Plan) (s : State) (kept : List PlainRecords) where
  open_row : (t : Task) (number : ℕ) (p : PlainPipeline) (h : History) (tasks : List Task) → IsRow plan s kept t → t.outcome ≡ None → t.intent.floor < number → length kept ≤ length p.waiting
      → IsReady (t ∷ tasks) p → IsMixed s (t ∷ tasks) h → (m : Places)
      → CanAnswer p (runs_of plan) h (record { number = number; client = t.client; seq = t.intent.packet.seq; pairs = (replay t.intent.packet m).pairs })
  open_row t number p h tasks row none lt size ready mixed m =
      let here : 1 ≤ opens t.client (t ∷ tasks) = omega (arith, one_open t.client t tasks (open_test t.client t refl none)) in
      let mine = row.mine none in
      record {
        there = omega (arith, row.within, size);
        vacant = record {
          slots = λ x f is. let clash : None ≡ Some f = sym (ready.slots x) ∙ is in cc;
          waiting = ready.waiting t.client;
          box = ready.boxes t.client here;
        };
        few = omega (arith, row.few, length-replay t.intent.packet m);
        transaction = mine.transaction;
        above = all_entries (λ e. e.entry.client ≡ t.client → In e s.history) (λ e. e.entry.client ≡ t.client → (e.entry.seq < t.intent.packet.seq) × (stamp_cmp e.entry.stamp (record { number = number; sub = 0 }) ≡ Less)) h
            (λ e among own. all_in (λ e. e.entry.client ≡ t.client → (e.entry.seq < t.intent.packet.seq) × (stamp_cmp e.entry.stamp (record { number = number; sub = 0 }) ≡ Less)) s.history e (mine.above number lt) (among own) own)
            (mixed t.client here);
      }

  -- behind a task
  later_ready : (t : Task) (tasks : List Task) (p : PlainPipeline) → IsReady (t ∷ tasks) p → IsReady tasks p
  later_ready t tasks p r = record { slots = r.slots; waiting = r.waiting; boxes = λ c some. r.boxes c (omega (arith, some)) }

  later_mixed : (t : Task) (tasks : List Task) (h : History) → IsMixed s (t ∷ tasks) h → IsMixed s tasks h
  later_mixed t tasks h m c some = m c (omega (arith, some))

  answered_ready : (t : Task) (tasks : List Task) (p : PlainPipeline) (number : ℕ) (m : Places) → opens t.client tasks ≡ 0 → IsReady (t ∷ tasks) p → IsReady tasks (given_answer p t.client number (replay t.intent.packet m).pairs)
  answered_ready t tasks p number m none r = record {
    slots = r.slots;
    waiting = r.waiting;
    boxes = λ c some. get_or-set_other p.boxes t.client c (Some (record { number = number; pairs = (replay t.intent.packet m).pairs })) None (λ (e : c ≡ t.client). omega (arith, some, none, ap (λ (d : ℕ). opens d tasks) e)) ∙ r.boxes c (omega (arith, some));
  }

  entered_mixed : (t : Task) (tasks : List Task) (h : History) (e : HistoryEntry) → e.entry.client ≡ t.client → opens t.client tasks ≡ 0 → IsMixed s (t ∷ tasks) h → IsMixed s tasks (with_entry e h)
  entered_mixed t tasks h e own none m c some =
      all_with_entry (λ f. f.entry.client ≡ c → In f s.history) e h (λ same. absurd (omega (arith, some, none, ap (λ (d : ℕ). opens d tasks) (sym same ∙ own)))) (m c (omega (arith, some)))

  can_place : (number : ℕ) (m : Places) (tasks : List Task) (p : PlainPipeline) (h : History) → AllByRecursion (IsRow plan s kept) tasks → CanFollow number m tasks → ((c : ℕ) → opens c tasks ≤ 1) → length kept ≤ length p.waiting
      → IsReady tasks p → IsMixed s tasks h → CanPlace kept (runs_of plan) p h (rows_from number m tasks)
  can_place number m [] p h rows follows single size ready mixed = tt
  can_place number m (t ∷ tasks) p h rows follows single size ready mixed =
      (rows.0.within, rows.0.fewer, answers, by t.outcome refl (λ q g. can_place (number + 1) (replay t.intent.packet m).after tasks q g rows.1 follows.1 fewer))
    where
      answers : awaits (slice_index_or kept t.client no_log) t.intent.packet.seq ≡ true
          → CanAnswer p (runs_of plan) h (record { number = number; client = t.client; seq = t.intent.packet.seq; pairs = (replay t.intent.packet m).pairs })
      answers is = open_row t number p h tasks rows.0 (none_of t.outcome (sym rows.0.stands_open ∙ is)) follows.0.above size ready mixed m
        where
          none_of : (o : Option PlainOutcome) → is_none o ≡ true → o ≡ None
          none_of None e = refl
          none_of (Some o) e = cc

      fewer : (c : ℕ) → opens c tasks ≤ 1
      fewer c = omega (arith, single c)

      rest : Bool → Type 0
      rest b = CanPlace kept (runs_of plan) (if b then given_answer p t.client number (replay t.intent.packet m).pairs else p)
          (if b then with_entry (record { entry = record { stamp = record { number = number; sub = 0 }; client = t.client; seq = t.intent.packet.seq }; pairs = None }) h else h) (rows_from (number + 1) (replay t.intent.packet m).after tasks)

      by : (o : Option PlainOutcome) → t.outcome ≡ o
          → ((q : PlainPipeline) (g : History) → length kept ≤ length q.waiting → IsReady tasks q → IsMixed s tasks g → CanPlace kept (runs_of plan) q g (rows_from (number + 1) (replay t.intent.packet m).after tasks))
          → rest (awaits (slice_index_or kept t.client no_log) t.intent.packet.seq)
      by None is later =
          let test : is_none t.outcome ≡ true = ap is_none is in
          let gone : opens t.client tasks ≡ 0 = omega (arith, single t.client, one_open t.client t tasks (open_test t.client t refl is)) in
          let e : HistoryEntry = record { entry = record { stamp = record { number = number; sub = 0 }; client = t.client; seq = t.intent.packet.seq }; pairs = None } in
          subst rest (sym (rows.0.stands_open ∙ test))
          (later (given_answer p t.client number (replay t.intent.packet m).pairs) (with_entry e h) size
          (answered_ready t tasks p number m gone ready) (entered_mixed t tasks h e refl gone mixed))
      by (Some o) is later =
          let test : is_none t.outcome ≡ false = ap is_none is in
          subst rest (sym (rows.0.stands_open ∙ test))
          (later p h size (later_ready t tasks p ready) (later_mixed t tasks h mixed))

-- ---- the first order

none_there : {X : Type 0} (n k : ℕ) → slice_index_or (replicate {A = Option X} n None) k None ≡ None
none_there zero k = refl
none_there (suc n) zero = refl
none_there (suc n) (suc k) = none_there n k

among_itself : (h : History) → AllByRecursion (λ e. In e h) h
among_itself h = go h (λ e i. i)
  where
    go : (l : History) → ((e : HistoryEntry) → In e l → In e h) → AllByRecursion (λ e. In e h) l
    go [] f = tt
    go (e ∷ l) f = (f e (inl refl), go l (λ g i. f g (inr i)))

module _ (plan : Plan) (s : State) (reached : IsReached plan s) (lost : s.switch ≡ None) (order : List Task) (here : order_now plan s ≡ Some order) (kept : List PlainRecords) (logs : AreLogs plan s.logs kept) where
  fewer_outcomes : (c : ℕ) → c < length s.logs → (let log = slice_index_or kept c no_log in length log.outcomes ≤ length log.intents)
  fewer_outcomes c lt =
      let log = logs.each c no_log lt in
      let k = known plan s reached lost c in
      omega (
        arith,
        ap length log.outcomes,
        ap length log.intents,
        ap length k.intents,
        as_many plan s.history None c k.answered (log_at s c).outcomes k.outcomes,
        length-append k.answered (open_intent plan c (client_at s c)),
      )

  pub rows_are : AllByRecursion (IsRow plan s kept) order
  rows_are =
      all_mapped _ (IsRow plan s kept) order (λ t f. record {
        within = omega (arith, f.0.0.0, logs.count);
        fewer = fewer_outcomes t.client f.0.0.0;
        stands_open = f.0.0.1;
        few = f.0.1.count.1;
        mine = open_task_is plan s reached lost t f.1;
      })
      (all_both _ (TaskFits plan (client_at s) s.history None) order
      (all_both _ (λ t. Fits t.intent.packet) order
      (all_both (λ t. t.client < length s.logs) (λ t. awaits (slice_index_or kept t.client no_log) t.intent.packet.seq ≡ is_none t.outcome) order (within plan s reached lost order here) (open_rows plan s reached lost order here kept logs))
      (in_order plan s reached lost order here (λ t. Fits t.intent.packet) (packets_all plan s reached lost Fits (packets_have_ranges plan reached.sound))))
      (all_known plan s reached lost order here))

  pub order_can_place : (p : PlainPipeline) (registers : Places) (next : ℕ) → length p.waiting ≡ length kept → CanPlace kept (runs_of plan) (restored (erased p) registers next) s.history (rows_of (hot_cells plan) order)
  order_can_place p registers next size =
      can_place plan s kept 1 (hot_cells plan) order (restored (erased p) registers next) s.history rows_are (placed plan s reached lost order here).follows (once plan s reached lost order here) (omega (arith, size, length-replicate {A = Option PlainFlight} (length p.waiting) None))
      (record { slots = none_there p.shape.stages; waiting = none_there (length p.waiting); boxes = λ c some. none_there (length p.waiting) c })
      (λ c some. all_entries (λ e. In e s.history) (λ e. e.entry.client ≡ c → In e s.history) s.history (λ e i own. i) (among_itself s.history))
