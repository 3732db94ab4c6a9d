-- A client's decision in the code is the model's.
use Rattle.std.proofs.Common.{◌≡◌, ◌⊎◌, ℕ, ◌<◌, ◌≤◌, ◌==◌, ◌&&◌, not, Bool, true, false, List, [], ◌∷◌, length, get_or, set, Some, None, IsSome, is_some, inl, inr, refl, sym, ap, subst, ◌∙◌, arith}
use Rattle.std.specs.List.{AllByRecursion}
use Rattle.std.specs.Vec.{with_item}
use Rattle.std.proofs.lemmas.Bool.Decides.{nat_tests}
use Rattle.std.proofs.lemmas.Option.{slice_get_past}
use Rattle.txn_model.specs.ScriptCheck.{script_fault}
use Rattle.txn_model.specs.declared.op.Op.{Op}
use Rattle.history_model.specs.History.{History, IsInStampOrder, with_entry}
use Rattle.history_model.specs.InOrder.{seqs_of}
use Rattle.history_model.specs.declared.entry.Entry.{Entry}
use Rattle.history_core.specs.Answers.{HasNone, IsAboveOwn, IsOpenLast, with_reply}
use Rattle.history_core.specs.Recorded.{Recorded}
use Rattle.history_core.specs.Runs.{Runs, ops_at}
use Rattle.history_core.proofs.Answered.{inserted}
use Rattle.history_core.proofs.Callers.{open_last}
use Rattle.warm_split.specs.Joined.{joined}
use Rattle.catalogue.specs.Plan.{Plan, PlainItem, Run}
use Rattle.catalogue.specs.declared.actor.Actor.TheVariants.{Client}
use Rattle.core_model.specs.declared.phase.Phase.TheVariants.{Ready, Locking, Waiting, Installing}
use Rattle.core_model.specs.Asking.{IsAsking}
use Rattle.core_model.specs.Decision.{decision_stamp}
use Rattle.core_model.specs.Locks.{cold_ops}
use Rattle.core_model.specs.State.{ClientState, at_item, script_now, zero_stamp}
use Rattle.core_model.proofs.Moves.{moved_client}
use Rattle.core_model.proofs.Stamped.{both_facts}
use Rattle.client_phase.specs.ColdNumbers.{cold_count, is_cold}
use Rattle.client_phase.specs.Laws.{IsAtScript, Makes}
use Rattle.client_phase.specs.Shown.{PlainClient, shown_now}
use Rattle.client_phase.specs.declared.action.Action.TheVariants.{Decide, Lose}
use Rattle.client_phase.specs.declared.action.Met.TheVariants.{Done}
use Rattle.client_phase.proofs.Making.{made_of}
use Rattle.client_phase.proofs.ModelRows.{rows_are_stepped}
use Rattle.client_phase.proofs.Models.{commits_are_the_models}
use Rattle.client_phase.proofs.Rows.{count_is}
use Rattle.fabric_model.specs.Intents.{values_of}
use Rattle.fabric_model.specs.Laws.{IsPast}
use Rattle.fabric_model.specs.State.{State, client_at}
use Rattle.fabric_model.specs.Step.{decided, has_hot, next_op}
use Rattle.fabric_model.proofs.InOrder.{items_in_order, own_lower}
use Rattle.fabric_model.proofs.Legal.{holds_now, facts_now}
use Rattle.fabric_model.proofs.Runs.{reached_step}
use Rattle.fabric_core.specs.Standing.{IsActionIn, IsRunner, Follows}
use Rattle.fabric_core.specs.Steps.{HasStepped}
use Rattle.fabric_core.specs.declared.core_state.CoreState.{CoreState}
use Rattle.fabric_core.specs.declared.runner.Runner.{Runner}
use Rattle.fabric_core.proofs.Held.{locks_decided}
use Rattle.fabric_core.proofs.Items.{each_own, ops_of_item}
use Rattle.fabric_core.proofs.NextActions.{decide_is, is_script, MayAsk}
use Rattle.fabric_core.proofs.Present as present

-- a script without a fault has an operation
pub some_op : (ops : List Op) → script_fault ops ≡ None → 1 ≤ length ops
unfolding script_fault
some_op [] e = cc
some_op (op ∷ ops) e = omega arith

-- where all its client's entries are of earlier items, an item has none
none_yet : (c seq : ℕ) (h : History) → AllByRecursion (λ e. e.entry.client ≡ c → e.entry.seq < seq) h → HasNone c seq h
none_yet c seq [] all = tt
none_yet c seq (e ∷ h) all = (by (e.entry.client == c) refl, none_yet c seq h all.1)
  where
    equal : (a b : ℕ) → (a == b) ≡ true → a ≡ b
    equal a b e = grind (arith, nat_tests)

    less : (a b : ℕ) → a < b → (a == b) ≡ false
    less a b l = grind (arith, nat_tests)

    by : (b : Bool) → (e.entry.client == c) ≡ b → (b && (e.entry.seq == seq)) ≡ false
    by true same = less e.entry.seq seq (all.0 (equal e.entry.client c same))
    by false same = refl

earlier : (x : ClientState) (seqs : List ℕ) → IsAsking x → AllByRecursion (IsPast x) seqs → AllByRecursion (λ q. q < x.seq) seqs
earlier x [] asks all = tt
earlier x (q ∷ seqs) asks all = (one all.0, earlier x seqs asks all.1)
  where
    not_later : IsAsking x → ((x.phase ≡ Waiting) ⊎ (x.phase ≡ Installing)) → ⊥
    not_later (inl e) (inl f) = let clash : Ready ≡ Waiting = sym e ∙ f in cc
    not_later (inl e) (inr f) = let clash : Ready ≡ Installing = sym e ∙ f in cc
    not_later (inr e) (inl f) = let clash : Locking ≡ Waiting = sym e ∙ f in cc
    not_later (inr e) (inr f) = let clash : Locking ≡ Installing = sym e ∙ f in cc

    one : IsPast x q → q < x.seq
    one (inl lt) = lt
    one (inr here) = absurd (not_later asks here.1)

module _ {plan : Plan} {core : CoreState} {c at : ℕ} {item : PlainItem} {s : State} (a : IsActionIn plan core c at item Decide s) {r : Runner} (here : r ≡ get_or core.runners.items c r) where
  abbrev x : ClientState
  x = client_at s c

  -- the client behind its decision
  abbrev y : ClientState
  y = record x { phase = Installing; last = decision_stamp x.last x.noted; reply = joined plan.layout (script_now plan c x) (values_of x.noted) [] }

  script : (ops : List Op) × (item ≡ Run ops)
  script = is_script r.parts (shown_now plan c x) item Decide (present.next_now a here) clash
    where
      clash : Decide ≡ Lose → ⊥
      clash e = cc

  at_script : IsAtScript plan c x r.parts
  at_script = present.at_script a here script.1

  decides : MayAsk x.phase × (cold_count r.parts (script_now plan c x) ≤ length x.noted) × (is_cold r.parts (script_now plan c x) ≡ true)
  decides = decide_is r.parts (script_now plan c x) (shown_now plan c x) x.phase (present.action_is a here script.1)

  asking : IsAsking x
  asking = decides.0

  some : 1 ≤ length (script_now plan c x)
  some = some_op (script_now plan c x) at_script.visit.script

  no_next : next_op plan c x ≡ None
  no_next = slice_get_past (cold_ops plan.layout (script_now plan c x)) (length x.noted) (omega (arith, decides.1, count_is plan.layout (script_now plan c x) r.parts at_script.sets))

  none_hot : has_hot plan (script_now plan c x) ≡ false
  none_hot = turned (has_hot plan (script_now plan c x)) (sym (commits_are_the_models plan (script_now plan c x) r.parts at_script.sets) ∙ decides.2)
    where
      turned : (b : Bool) → not b ≡ true → b ≡ false
      turned true e = cc
      turned false e = refl

  some_noted : 0 < length x.noted
  some_noted = omega (arith, decides.1, all (cold_count r.parts (script_now plan c x)) (length (script_now plan c x)) decides.2, some)
    where
      all : (m n : ℕ) → (m == n) ≡ true → m ≡ n
      all m n e = grind (arith, nat_tests)

  all_earlier : AllByRecursion (λ e. e.entry.client ≡ c → e.entry.seq < x.seq) s.history
  all_earlier = each_own (λ q. q < x.seq) c s.history (earlier x (seqs_of c s.history) asking ((items_in_order plan (holds_now plan) s a.turn.reached).past c))

  abbrev entry_now : Entry
  entry_now = record { stamp = y.last; client = c; seq = x.seq }

  above_now : IsAboveOwn entry_now s.history
  above_now = both_facts s.history (λ e seq lower own. (seq own, lower own)) all_earlier (own_lower plan s (holds_now plan s a.turn.reached) c asking)

  operations : ops_at core.history.runs c x.seq ≡ Some (length (script_now plan c x))
  operations = ap (λ (runs : Runs). ops_at runs c x.seq) a.turn.stands.runs ∙ ops_of_item plan c x.seq some

  clients_now : (decided plan s c x).clients ≡ set s.clients c y
  unfolding decided
  clients_now = refl

  reply_length : length y.reply ≡ length (script_now plan c x)
  reply_length =
      subst (λ (z : ClientState). z.phase ≡ Installing → length z.reply ≡ length (script_now plan c z))
      (ap (λ (l : List ClientState). get_or l c (at_item 0 1 zero_stamp)) clients_now ∙ moved_client s.clients c y (present.within_clients a.turn))
      (made_of plan (decided plan s c x) (reached_step plan s (decided plan s c x) (Client c) a.turn.reached (present.step_is a here)) c).reply refl

  module _ {new : Runner} (has : HasStepped plan c item r new Decide Done) where
    makes : Makes plan c x r.parts (decided plan s c x) Decide Done (shown_now plan c x)
    makes = (rows_are_stepped plan s c x r.parts (present.within_clients a.turn) at_script).decided asking no_next none_hot some_noted

    behind : IsRunner plan c y new
    behind = present.runner_behind a here script.1 (decided plan s c x) y clients_now has makes

    abbrev entry_of : Entry
    entry_of = record { stamp = new.state.last; client = c; seq = new.state.seq }

    entry_is : entry_of ≡ entry_now
    entry_is = ap (λ (p : PlainClient). record { stamp = p.last; client = c; seq = p.seq }) behind.kept

    seq_is : new.state.seq ≡ x.seq
    seq_is = ap (λ (p : PlainClient). p.seq) behind.kept

    pairs_are : new.state.pairs.items ≡ y.reply
    pairs_are = ap (λ (p : PlainClient). p.pairs) behind.kept

    -- its item is a transaction of the session, and its entry is above its client's others
    pub is_transaction : IsSome (ops_at core.history.runs c new.state.seq)
    is_transaction = ap is_some (ap (ops_at core.history.runs c) seq_is ∙ operations)

    pub is_above : IsAboveOwn (record { stamp = new.state.last; client = c; seq = new.state.seq }) core.history.items
    is_above = subst (λ (e : Entry). IsAboveOwn e core.history.items) (sym entry_is) (subst (IsAboveOwn entry_now) (sym a.turn.stands.history) above_now)

    module _ {entered : Recorded} (put : entered ≡ record core.history { items = with_entry (record { entry = record { stamp = new.state.last; client = c; seq = new.state.seq }; pairs = None }) core.history.items }) where
      pub is_last : IsOpenLast c new.state.seq entered.items
      is_last =
          subst (λ (h : Recorded). IsOpenLast c new.state.seq h.items) (sym put)
          (open_last entry_of core.history.items (subst IsInStampOrder (sym a.turn.stands.history) (facts_now plan s a.turn.reached).facts.sorted) is_above)

      pub has_pairs : ops_at entered.runs c new.state.seq ≡ Some (length new.state.pairs.items)
      has_pairs =
          ap (λ (h : Recorded). ops_at h.runs c new.state.seq) put
          ∙ ap (ops_at core.history.runs c) seq_is
          ∙ operations
          ∙ ap (λ (n : ℕ). Some n) (sym (ap length pairs_are ∙ reply_length))

      module _ {history : Recorded} (answer : history ≡ record entered { items = with_reply c new.state.seq new.state.pairs.items entered.items }) where
        named : history.items ≡ (decided plan s c x).history
        unfolding decided
        named =
            ap (λ (h : Recorded). h.items) answer
            ∙ ap (λ (h : Recorded). with_reply c new.state.seq new.state.pairs.items h.items) put
            ∙ ap (λ (p : PlainClient). with_reply c p.seq p.pairs (with_entry (record { entry = record { stamp = p.last; client = c; seq = p.seq }; pairs = None }) core.history.items)) behind.kept
            ∙ ap (λ (h : History). with_reply c x.seq y.reply (with_entry (record { entry = entry_now; pairs = None }) h)) a.turn.stands.history
            ∙ inserted entry_now y.reply s.history (none_yet c x.seq s.history all_earlier)

        pub follows : Follows plan s (Client c) (record { runners = with_item core.runners c new; logs = core.logs; is_up = core.is_up; pipeline = core.pipeline; locks = core.locks; store = core.store; history = history; refusals = core.refusals; draft = core.draft })
        unfolding decided
        follows = record {
          next = decided plan s c x;
          step = present.step_is a here;
          stands = record {
            runners = present.runners_behind a here script.1 (decided plan s c x) y clients_now has makes;
            logs = a.turn.stands.logs;
            switch = a.turn.stands.switch;
            locks = locks_decided plan s core.locks c a.turn.stands.locks (present.within_clients a.turn);
            tuples = a.turn.stands.tuples;
            store = a.turn.stands.store;
            history = named;
            runs = ap (λ (h : Recorded). h.runs) answer ∙ ap (λ (h : Recorded). h.runs) put ∙ a.turn.stands.runs;
            refusals = a.turn.stands.refusals;
            refused = a.turn.stands.refused;
            draft = a.turn.stands.draft;
          };
        }
