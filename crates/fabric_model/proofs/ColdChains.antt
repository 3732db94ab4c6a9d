-- The tuples of hosts, the locks on them and the history.
use Rattle.std.proofs.Common.{◌≡◌, ◌⊎◌, ℕ, zero, suc, ◌+◌, ◌<◌, ℤ, ◌==◌, ◌&&◌, ◌||◌, Bool, true, false, not, List, [], ◌∷◌, ◌++◌, filter, length, take, drop, slice_get, unwrap_or, Some, inl, inr, refl, sym, ap, subst, ◌∙◌, arith, if◌then◌else◌, MatchBool, Less, Greater}
use Rattle.std.specs.List.{AllByRecursion, list_any}
use Rattle.std.specs.Ordering.{ordering_reverse}
use Rattle.std.proofs.Math.Seq.{take-length}
use Rattle.std.proofs.lemmas.Bool.Decides.{nat_tests}
use Rattle.txn_model.specs.ScriptCheck.{names, is_read}
use Rattle.txn_model.specs.Tuples.{value_at}
use Rattle.txn_model.specs.declared.op.Op.{Op}
use Rattle.txn_model.specs.declared.op.TupleId.{TupleId}
use Rattle.txn_model.specs.declared.pairs.Pair.{Pair}
use Rattle.txn_model.specs.declared.stamp.Seen.{Seen}
use Rattle.txn_model.specs.declared.stamp.Stamp.{Stamp}
use Rattle.history_model.specs.Chain.{Step, steps_of, all_steps, names_tuple, Chain, last_value, IsLocal}
use Rattle.history_model.specs.History.{HistoryEntry, History, IsInStampOrder, entry_cmp}
use Rattle.history_model.specs.declared.entry.Entry.{Entry}
use Rattle.history_model.proofs.InsertionLaws.{absent_chain, last_value-append, quiet_last}
use Rattle.catalogue.specs.Plan.{Plan, script_at}
use Rattle.core_model.specs.declared.phase.Phase.{Phase}
use Rattle.core_model.specs.declared.phase.Phase.TheVariants.{Ready, Locking, Aborting, Logged, Waiting, Installing, Finished}
use Rattle.core_model.specs.Facts.{Stands, IsOpen, NoOpenWriter, steps_now, answered, script_of_entry, writes}
use Rattle.core_model.specs.Locks.{cold_ops, held}
use Rattle.core_model.specs.StampOrder.{AtMost, Below}
use Rattle.core_model.specs.State.{ClientState, script_now}
use Rattle.core_model.proofs.Decide.{item_at_place}
use Rattle.core_model.proofs.Decided.{IsDistinct, absent-steps_of}
use Rattle.core_model.proofs.Entries.{entry_cmp_total, not_behind}
use Rattle.core_model.proofs.Fewer.{same_or_not, each_entry}
use Rattle.core_model.proofs.Granted.{differ, joined_tests, named_by, names-from_writes, turned_test, writes_by}
use Rattle.core_model.proofs.Kept.{op_at}
use Rattle.core_model.proofs.Legal.{all_distinct}
use Rattle.core_model.proofs.Moves.{between_places}
use Rattle.core_model.proofs.Stamps.{Below-from_AtMost}
use Rattle.core_model.proofs.StepsOf.{named, quiet-steps_of, some_step, unless}
use Rattle.host_store.specs.Store.{seen_at}
use Rattle.stage_layout.specs.Late.{is_hot}
use Rattle.fabric_model.specs.ColdChains.{holds_lock, is_past_entry, past_entries, HasColdChains}
use Rattle.fabric_model.specs.ColdFacts.{FitsPhase, ColdFacts}
use Rattle.fabric_model.specs.Laws.{IsReached}
use Rattle.fabric_model.specs.Recorded.{has_open}
use Rattle.fabric_model.specs.State.{State, client_at, answered_ones}
use Rattle.fabric_model.proofs.ColdSteps.{among, cold_op_at, op_of_step}
use Rattle.fabric_model.proofs.Either.{facts_of}
use Rattle.fabric_model.proofs.Legal.{holds_now}
use Rattle.fabric_model.proofs.OwnStamps.{IsPresentOne, IsOwnPast, stamps_of_run}
use Rattle.txn_model.proofs.SerialLaws.{item_of_all}

-- what all entries that pass a test have
all_passing : (f : HistoryEntry → Bool) (P : HistoryEntry → Type 0) (h : History) → AllByRecursion (λ e. f e ≡ true → P e) h → AllByRecursion P (filter f h)
all_passing f P [] all = tt
all_passing f P (e ∷ h) all = by (f e) refl (all_passing f P h all.1)
  where
    by : (b : Bool) → f e ≡ b → AllByRecursion P (filter f h) → AllByRecursion P (if b then e ∷ filter f h else filter f h)
    by true is rest = (all.0 is, rest)
    by false is rest = rest

both_true : (a b : Bool) → (a && b) ≡ true → (a ≡ true) × (b ≡ true)
both_true true b e = (refl, e)
both_true false b e = cc

same_tuple : (a b : TupleId) → (a.0 == b.0) ≡ true → a ≡ b
same_tuple a b e = let n : a.0 ≡ b.0 = grind (arith, nat_tests) in ap (λ (k : ℕ). record { 0 = k }) n

equal : (a b : ℕ) → (a == b) ≡ true → a ≡ b
equal a b e = grind arith

same_test : (a b : ℕ) → a ≡ b → (a == b) ≡ true
same_test a b e = grind arith

-- an item among those between two places
in_part : {X : Type 0} (xs : List X) (from to k : ℕ) (x : X) → slice_get (drop from (take to xs)) k ≡ Some x → (slice_get xs (from + k) ≡ Some x) × (from + k < to)
in_part xs zero zero k x is = cc
in_part [] zero (suc to) k x is = cc
in_part (y ∷ xs) zero (suc to) zero x is = (is, omega arith)
in_part (y ∷ xs) zero (suc to) (suc k) x is =
    let rest = in_part xs zero to k x is in
    let same : 0 + suc k ≡ suc (0 + k) = omega arith in
    (ap (slice_get (y ∷ xs)) same ∙ rest.0, omega (arith, rest.1))
in_part xs (suc from) zero k x is = cc
in_part [] (suc from) (suc to) k x is = cc
in_part (y ∷ xs) (suc from) (suc to) k x is =
    let rest = in_part xs from to k x is in
    let same : suc from + k ≡ suc (from + k) = omega arith in
    (ap (slice_get (y ∷ xs)) same ∙ rest.0, omega (arith, rest.1))

any_at : {X : Type 0} (f : X → Bool) (xs : List X) (k : ℕ) (x : X) → slice_get xs k ≡ Some x → f x ≡ true → list_any f xs ≡ true
any_at f [] k x is t = cc
any_at f (y ∷ xs) zero x is t = let same : y ≡ x = cc in ap (λ (b : Bool). b || list_any f xs) (ap f same ∙ t)
any_at f (y ∷ xs) (suc k) x is t = ap (λ (b : Bool). f y || b) (any_at f xs k x is t) ∙ or_true (f y)
  where
    or_true : (b : Bool) → (b || true) ≡ true
    or_true true = refl
    or_true false = refl

-- the first step of a script on a tuple finds the value there
finds : (t : TupleId) (v : ℤ) (ops : List Op) (reply : List Pair) (k : ℕ) (op : Op) (p : Pair) → IsDistinct ops → slice_get (steps_of ops reply) k ≡ Some (op, p) → (op.tuple.0 == t.0) ≡ true → Chain t v (steps_of ops reply) → p.was ≡ v
finds t v [] reply k op p distinct is on chain = cc
finds t v (o ∷ ops) [] k op p distinct is on chain = cc
finds t v (o ∷ ops) (q ∷ reply) zero op p distinct is on chain = by (o.tuple.0 == t.0) (ap (λ (x : Op). x.tuple.0 == t.0) (some_step (o, q) (op, p) is).0 ∙ on) chain
  where
    by : (b : Bool) → b ≡ true → MatchBool b ((q.was ≡ v) × Chain t q.now (steps_of ops reply)) (Chain t v (steps_of ops reply)) → p.was ≡ v
    by true e c = ap (λ (x : Pair). x.was) (sym (some_step (o, q) (op, p) is).1) ∙ c.0
    by false e c = cc
finds t v (o ∷ ops) (q ∷ reply) (suc k) op p distinct is on chain = by (o.tuple.0 == t.0) refl chain (finds t v ops reply k op p distinct.1 is on)
  where
    by : (b : Bool) → (o.tuple.0 == t.0) ≡ b → MatchBool b ((q.was ≡ v) × Chain t q.now (steps_of ops reply)) (Chain t v (steps_of ops reply)) → (Chain t v (steps_of ops reply) → p.was ≡ v) → p.was ≡ v
    by true e c rest = absurd (differ (named_by ops o.tuple k op (op_at ops reply k (op, p) is) (joined_tests op.tuple.0 t.0 o.tuple.0 on e)) distinct.0)
    by false e c rest = rest c

chain_parts : (t : TupleId) (v : ℤ) (a b : List Step) → Chain t v (a ++ b) → Chain t v a × Chain t (last_value t v a) b
chain_parts t v [] b chain = (tt, chain)
chain_parts t v (s ∷ a) b chain = by (names_tuple t s) chain (λ u. chain_parts t u a b)
  where
    by : (n : Bool) → MatchBool n ((s.1.was ≡ v) × Chain t s.1.now (a ++ b)) (Chain t v (a ++ b)) → ((u : ℤ) → Chain t u (a ++ b) → Chain t u a × Chain t (last_value t u a) b) → MatchBool n ((s.1.was ≡ v) × Chain t s.1.now a) (Chain t v a) × Chain t (last_value t (if n then s.1.now else v) a) b
    by true c go = let rest = go s.1.now c.1 in ((c.0, rest.0), rest.1)
    by false c go = go v c

-- facts on all entries that hold for all of something
each_for_all : {A : Type 0} (P : A → HistoryEntry → Type 0) (h : History) → ((a : A) → AllByRecursion (P a) h) → AllByRecursion (λ e. (a : A) → P a e) h
each_for_all P [] f = tt
each_for_all P (e ∷ h) f = (λ a. (f a).0, each_for_all P h (λ a. (f a).1))

module _ (plan : Plan) (s : State) (reached : IsReached plan s) where
  abbrev at : ℕ → ClientState
  at = client_at s

  abbrev h : History
  h = answered_ones s.history

  facts : ColdFacts plan at s.store h
  facts = (facts_of plan s (holds_now plan s reached)).facts.cold

  -- an operation on a host is one of the script's
  in_script : (c k : ℕ) (op : Op) → slice_get (cold_ops plan.layout (script_now plan c (at c))) k ≡ Some op → (j : ℕ) × (slice_get (script_now plan c (at c)) j ≡ Some op)
  in_script c k op is = let a = among (λ o. not (is_hot plan.layout o.tuple)) (script_now plan c (at c)) k op is in (a.place, a.there)

  -- an entry whose client holds the lock for it
  open_holds : (e : HistoryEntry) (t : TupleId) → IsOpen plan at e t → holds_lock plan s t e ≡ true
  open_holds e t o =
      ap (λ (b : Bool). b && names (held plan e.entry.client (at e.entry.client)) t) (same_test e.entry.seq (at e.entry.client).seq o.seq)
      ∙ not_false (names (held plan e.entry.client (at e.entry.client)) t) (λ none. differ o.on (between_places (λ (op : Op). op.tuple.0 == t.0) (cold_ops plan.layout (script_now plan e.entry.client (at e.entry.client))) (at e.entry.client).installed (length (at e.entry.client).noted) o.k o.op o.stands.from o.stands.to o.stands.is none))
    where
      not_false : (b : Bool) → (b ≡ false → ⊥) → b ≡ true
      not_false true n = refl
      not_false false n = absurd (n refl)

  past_is_shut : (e : HistoryEntry) (t : TupleId) → is_past_entry plan s t e ≡ true → (names (script_of_entry plan e) t ≡ true) × (IsOpen plan at e t → ⊥)
  past_is_shut e t past =
      let parts = both_true (names (script_of_entry plan e) t) (not (holds_lock plan s t e)) past in
      (parts.0, λ o. clash (ap not (sym (open_holds e t o)) ∙ parts.1))
    where
      clash : false ≡ true → ⊥
      clash e = cc

  -- what is true of an entry that is past, unless it is open
  of_past : {Q : HistoryEntry → Type 0} (P : HistoryEntry → Type 0) (t : TupleId) → ((e : HistoryEntry) → names (script_of_entry plan e) t ≡ true → P e → IsOpen plan at e t ⊎ Q e) → AllByRecursion P h → AllByRecursion Q (past_entries plan s t)
  of_past {Q} P t f all = all_passing (is_past_entry plan s t) Q h (each_entry h (λ e p past. let shut = past_is_shut e t past in shut_case e (shut.1) (f e shut.0 p)) all)
    where
      shut_case : (e : HistoryEntry) → (IsOpen plan at e t → ⊥) → IsOpen plan at e t ⊎ Q e → Q e
      shut_case e n (inl o) = absurd (n o)
      shut_case e n (inr q) = q

  -- an exclusive lock that stands, with what was noted
  record Exclusive : Type 0 where
    pub c : ℕ
    pub k : ℕ
    pub op : Op
    pub seen : Seen
    pub stands : Stands plan c (at c) k op
    pub write : is_read op.act ≡ false
    pub noted : slice_get (at c).noted k ≡ Some seen

  -- what is known of an entry
  record Known (e : HistoryEntry) : Type 0 where
    pub namers : (l : Exclusive) → names (script_of_entry plan e) l.op.tuple ≡ true → IsOpen plan at e l.op.tuple ⊎ AtMost e.entry.stamp l.seen.stamp
    pub present : e.entry.seq ≡ (at e.entry.client).seq → IsPresentOne (at e.entry.client) e
    pub local : IsLocal (script_of_entry plan e, unwrap_or e.pairs [])

  abbrev NamersOf : HistoryEntry → Type 0
  NamersOf e = (l : Exclusive) → names (script_of_entry plan e) l.op.tuple ≡ true → IsOpen plan at e l.op.tuple ⊎ AtMost e.entry.stamp l.seen.stamp

  abbrev PastOf : ℕ → HistoryEntry → Type 0
  PastOf c e = e.entry.client ≡ c → IsOwnPast (at c) e

  abbrev LocalOf : HistoryEntry → Type 0
  LocalOf e = IsLocal (script_of_entry plan e, unwrap_or e.pairs [])

  all_known : AllByRecursion Known h
  all_known =
      known h
      (each_for_all (λ (l : Exclusive) (e : HistoryEntry). names (script_of_entry plan e) l.op.tuple ≡ true → IsOpen plan at e l.op.tuple ⊎ AtMost e.entry.stamp l.seen.stamp) h (λ l. facts.namers l.c l.k l.op l.seen l.stands l.write l.noted))
      (each_for_all PastOf h (λ c. (stamps_of_run plan s reached c).past))
      (locals h facts.local)
    where
      present_if : (x : ClientState) (e : HistoryEntry) → IsOwnPast x e → e.entry.seq ≡ x.seq → IsPresentOne x e
      present_if x e (inl low) same = absurd (omega (arith, low, same))
      present_if x e (inr p) same = p

      known : (l : History) → AllByRecursion NamersOf l → AllByRecursion (λ e. (c : ℕ) → PastOf c e) l → AllByRecursion LocalOf l → AllByRecursion Known l
      known [] a b d = tt
      known (e ∷ l) a b d = (record { namers = a.0; present = λ seq. present_if (at e.entry.client) e (b.0 e.entry.client refl) seq; local = d.0 }, known l a.1 b.1 d.1)

      locals : (l : History) → AllByRecursion IsLocal (answered plan l) → AllByRecursion LocalOf l
      locals [] all = tt
      locals (e ∷ l) all = (all.0, locals l all.1)

  -- the lock that an entry's client still holds for it
  open_of : (e : HistoryEntry) (t : TupleId) → Known e → holds_lock plan s t e ≡ true → IsOpen plan at e t
  open_of e t known holds =
      let x = at e.entry.client in
      let parts = both_true (e.entry.seq == x.seq) (names (held plan e.entry.client x) t) holds in
      let seq = equal e.entry.seq x.seq parts.0 in
      let on = named (held plan e.entry.client x) t parts.1 in
      let place = in_part (cold_ops plan.layout (script_now plan e.entry.client x)) x.installed (length x.noted) on.k on.op on.at in
      record { phase = (known.present seq).phase; seq = seq; k = x.installed + on.k; op = on.op; stands = record { from = omega arith; to = place.1; is = place.0 }; on = on.on }

  module _ (t : TupleId) (cold : is_hot plan.layout t ≡ false) where
    abbrev stored : ℤ
    stored = (seen_at s.store t).value

    -- a decided script that is about to change the tuple
    abbrev IsWriter : HistoryEntry → Type 0
    IsWriter e = (holds_lock plan s t e ≡ true) × (writes (script_of_entry plan e) t ≡ true)

    abbrev steps : HistoryEntry → List Step
    steps e = steps_of (script_of_entry plan e) (unwrap_or e.pairs [])

    -- what its lock is
    record Writer (e : HistoryEntry) : Type 0 where
      pub lock : Exclusive
      pub client : lock.c ≡ e.entry.client
      pub tuple : lock.op.tuple ≡ t
      pub decided : (at lock.c).phase ≡ Installing
      pub stamp : Below lock.seen.stamp e.entry.stamp
      pub pair : Pair
      pub step : slice_get (steps_now plan lock.c (at lock.c)) lock.k ≡ Some (lock.op, pair)
      pub j : ℕ
      pub own : slice_get (steps e) j ≡ Some (lock.op, pair)

    writer_of : (e : HistoryEntry) → Known e → IsWriter e → Writer e
    writer_of e known w =
        let c = e.entry.client in
        let x = at c in
        let o = open_of e t known w.0 in
        let fit : FitsPhase plan c x Installing = subst (λ (q : Phase). FitsPhase plan c x q) o.phase (facts.fits c) in
        let seen = item_at_place x.noted o.k o.stands.to in
        let step = item_at_place (steps_now plan c x) o.k (omega (arith, o.stands.to, fit.1)) in
        let script : script_of_entry plan e ≡ script_now plan c x = ap (script_at plan c) o.seq in
        let op_same : step.0.0 ≡ o.op = some_op (sym (cold_op_at plan.layout (script_now plan c x) x.reply o.k step.0.0 step.0.1 step.1) ∙ o.stands.is) in
        let at_step : slice_get (steps_now plan c x) o.k ≡ Some (o.op, step.0.1) = step.1 ∙ ap (λ (p : Op). Some (p, step.0.1)) op_same in
        let whole = among (λ (p : Step). not (is_hot plan.layout p.0.tuple)) (steps_of (script_now plan c x) x.reply) o.k (o.op, step.0.1) at_step in
        let place : slice_get (script_now plan c x) whole.place ≡ Some o.op = op_of_step (script_now plan c x) x.reply whole.place o.op step.0.1 whole.there in
        let mine = known.present o.seq in
        record {
          lock = record {
            c = c;
            k = o.k;
            op = o.op;
            seen = seen.0;
            stands = o.stands;
            write = writes_by (script_now plan c x) t whole.place o.op (all_distinct plan reached.sound c x.seq) place o.on (subst (λ (l : List Op). writes l t ≡ true) script w.1);
            noted = seen.1;
          };
          client = refl;
          tuple = same_tuple o.op.tuple t o.on;
          decided = o.phase;
          stamp = subst (λ (b : Stamp). Below seen.0.stamp b) (sym mine.stamp) (noted_at x.last x.noted o.k seen.0 seen.1 ((stamps_of_run plan s reached c).above o.phase));
          pair = step.0.1;
          step = at_step;
          j = whole.place;
          own = ap (λ (l : List Step). slice_get l whole.place) (ap (λ (ops : List Op). steps_of ops (unwrap_or e.pairs [])) script ∙ ap (steps_of (script_now plan c x)) mine.reply) ∙ whole.there;
        }
      where
        some_op : {a b : Op} → Some a ≡ Some b → a ≡ b
        some_op e = cc

        noted_at : (last : Stamp) (noted : List Seen) (k : ℕ) (seen : Seen) → slice_get noted k ≡ Some seen → AllByRecursion (λ n. Below n.stamp last) noted → Below seen.stamp last
        noted_at last [] k seen is all = cc
        noted_at last (n ∷ noted) zero seen is all = let same : n ≡ seen = cc in subst (λ (m : Seen). Below m.stamp last) same all.0
        noted_at last (n ∷ noted) (suc k) seen is all = noted_at last noted k seen is all.1

    -- nothing behind it names the tuple
    none_behind : (e f : HistoryEntry) → Known e → Known f → IsWriter e → entry_cmp e.entry f.entry ≡ Less → names (script_of_entry plan f) t ≡ false
    none_behind e f known other w less =
        let writer = writer_of e known w in
        unless (names (script_of_entry plan f) t) (λ n. by writer (other.namers writer.lock (subst (λ (x : TupleId). names (script_of_entry plan f) x ≡ true) (sym writer.tuple) n)))
      where
        same_entry : (a b : Entry) → a.stamp ≡ b.stamp → a.client ≡ b.client → a.seq ≡ b.seq → a ≡ b
        same_entry a b stamp client seq =
            ap (λ (x : Stamp). record { stamp = x; client = a.client; seq = a.seq }) stamp ∙ ap (λ (x : ℕ). record { stamp = b.stamp; client = x; seq = a.seq }) client ∙ ap (λ (x : ℕ). record { stamp = b.stamp; client = b.client; seq = x }) seq

        irreflexive : (a : Entry) → entry_cmp a a ≡ Less → ⊥
        irreflexive a e = let r : Less ≡ Greater = sym e ∙ entry_cmp_total.antisymm a a ∙ ap ordering_reverse e in cc

        by : (writer : Writer e) → IsOpen plan at f writer.lock.op.tuple ⊎ AtMost f.entry.stamp writer.lock.seen.stamp → ⊥
        by writer (inr low) = not_behind e.entry f.entry (Below-from_AtMost f.entry.stamp writer.lock.seen.stamp e.entry.stamp low writer.stamp) less
        by writer (inl o) = elim (same_or_not writer.lock.c f.entry.client) [
          | inr n ↦ differ (facts.apart writer.lock.c f.entry.client writer.lock.k o.k writer.lock.op o.op n writer.lock.stands o.stands (turned_test o.op.tuple.0 writer.lock.op.tuple.0 o.on)) writer.lock.write
          | inl same ↦
              let client : e.entry.client ≡ f.entry.client = sym writer.client ∙ same in
              let mine = open_of e t known w.0 in
              let seq : e.entry.seq ≡ f.entry.seq = mine.seq ∙ ap (λ (c : ℕ). (at c).seq) client ∙ sym o.seq in
              let stamp : e.entry.stamp ≡ f.entry.stamp = (known.present mine.seq).stamp ∙ ap (λ (c : ℕ). (at c).last) client ∙ sym (other.present o.seq).stamp in
              let whole : e.entry ≡ f.entry = same_entry e.entry f.entry stamp client seq in
              irreflexive f.entry (ap (λ (a : Entry). entry_cmp a f.entry) (sym whole) ∙ less)
        ]

    -- it found the stored value
    writer_found : (e : HistoryEntry) (v : ℤ) → Known e → IsWriter e → Chain t v (steps e) → v ≡ stored
    writer_found e v known w chain =
        let writer = writer_of e known w in
        let lock = writer.lock in
        sym (finds t v (script_of_entry plan e) (unwrap_or e.pairs []) writer.j lock.op writer.pair (all_distinct plan reached.sound e.entry.client e.entry.seq) writer.own (same_test lock.op.tuple.0 t.0 (ap (λ (x : TupleId). x.0) writer.tuple)) chain)
        ∙ facts.found lock.c lock.k lock.op writer.pair lock.seen lock.stands writer.decided writer.step lock.noted
        ∙ facts.value lock.c lock.k lock.op lock.seen lock.stands lock.noted
        ∙ ap (λ (x : TupleId). (seen_at s.store x).value) writer.tuple

    abbrev past_of : History → History
    past_of h = filter (is_past_entry plan s t) h

    none_past : (e : HistoryEntry) → Known e → IsWriter e → (h : History) → AllByRecursion Known h → AllByRecursion (λ f. entry_cmp e.entry f.entry ≡ Less) h → past_of h ≡ []
    none_past e known w [] all above = refl
    none_past e known w (f ∷ h) all above =
        ap (λ (b : Bool). if b && not (holds_lock plan s t f) then f ∷ past_of h else past_of h) (none_behind e f known all.0 w above.0) ∙ none_past e known w h all.1 above.1

    abbrev EndsStored : History → ℤ → Type 0
    EndsStored h v = IsInStampOrder h → AllByRecursion Known h → Chain t v (all_steps (answered plan h))
        → (AllByRecursion (λ e. IsWriter e → ⊥) h → last_value t v (all_steps (answered plan h)) ≡ stored) → stored ≡ last_value t v (all_steps (answered plan (past_of h)))

    -- the last value of past entries is the stored one, where the chain of all leads to it unless a decided script is about to
    -- change the tuple
    ends_stored : (h : History) (v : ℤ) → EndsStored h v
    ends_stored [] v sorted all chain quiet = sym (quiet tt)
    ends_stored (e ∷ h) v sorted all chain quiet =
        by (ends_stored h) (names (script_of_entry plan e) t) (holds_lock plan s t e) (writes (script_of_entry plan e) t) refl refl refl
      where
        rest : List Step
        rest = all_steps (answered plan h)

        parts : Chain t v (steps e) × Chain t (last_value t v (steps e)) rest
        parts = chain_parts t v (steps e) rest chain

        go_on : ((u : ℤ) → EndsStored h u) → (IsWriter e → ⊥) → (u : ℤ) → last_value t v (steps e) ≡ u → stored ≡ last_value t u (all_steps (answered plan (past_of h)))
        go_on onward n u same = onward u sorted.1 all.1 (subst (λ (w : ℤ). Chain t w rest) same parts.1)
            (λ others. ap (λ (w : ℤ). last_value t w rest) (sym same) ∙ sym (last_value-append t v (steps e) rest) ∙ quiet (n, others))

        skipped : ((u : ℤ) → EndsStored h u) → (IsWriter e → ⊥) → last_value t v (steps e) ≡ v → is_past_entry plan s t e ≡ false → stored ≡ last_value t v (all_steps (answered plan (past_of (e ∷ h))))
        skipped onward n same out = subst (λ (b : Bool). stored ≡ last_value t v (all_steps (answered plan (if b then e ∷ past_of h else past_of h)))) (sym out) (go_on onward n v same)

        by : ((u : ℤ) → EndsStored h u) → (a b w : Bool) → names (script_of_entry plan e) t ≡ a → holds_lock plan s t e ≡ b → writes (script_of_entry plan e) t ≡ w → stored ≡ last_value t v (all_steps (answered plan (past_of (e ∷ h))))
        by onward false b w ea eb ew = skipped onward (λ writer. differ (names-from_writes (script_of_entry plan e) t writer.1) ea) (absent_chain t v (steps e) (absent-steps_of t (script_of_entry plan e) (unwrap_or e.pairs []) ea)).1 (ap (λ (x : Bool). x && not (holds_lock plan s t e)) ea)
        by onward true true false ea eb ew = skipped onward (λ writer. differ writer.1 ew) (quiet_last t v (steps e) (quiet-steps_of t [] (script_of_entry plan e) (unwrap_or e.pairs []) all.0.local ew) parts.0) (ap (λ (x : Bool). names (script_of_entry plan e) t && not x) eb ∙ never (names (script_of_entry plan e) t))
          where
            never : (x : Bool) → (x && false) ≡ false
            never true = refl
            never false = refl
        by onward true true true ea eb ew =
            subst (λ (l : History). stored ≡ last_value t v (all_steps (answered plan l)))
            (sym (ap (λ (x : Bool). if names (script_of_entry plan e) t && not x then e ∷ past_of h else past_of h) eb ∙ out (names (script_of_entry plan e) t) ∙ none_past e all.0 (eb, ew) h all.1 sorted.0))
            (sym (writer_found e v all.0 (eb, ew) parts.0))
          where
            out : (x : Bool) → (if x && false then e ∷ past_of h else past_of h) ≡ past_of h
            out true = refl
            out false = refl
        by onward true false w ea eb ew =
            subst (λ (b : Bool). stored ≡ last_value t v (all_steps (answered plan (if b then e ∷ past_of h else past_of h)))) (sym (ap (λ (x : Bool). x && not (holds_lock plan s t e)) ea ∙ ap not eb))
            (go_on onward (λ writer. differ writer.0 eb) (last_value t v (steps e)) refl ∙ sym (last_value-append t v (steps e) (all_steps (answered plan (past_of h)))))

    no_writer : AllByRecursion (λ e. IsWriter e → ⊥) h → NoOpenWriter plan at t
    no_writer none c k op st i on =
        let found = (stamps_of_run plan s reached c).there i in
        let not_one = item_of_all (λ (e : HistoryEntry). IsWriter e → ⊥) h found.there.0 found.entry none found.there.1 in
        not_write (is_read op.act) refl (λ write. not_one (written found.entry found.client found.present.seq write))
      where
        not_write : (r : Bool) → is_read op.act ≡ r → (is_read op.act ≡ false → ⊥) → is_read op.act ≡ true
        not_write true is n = is
        not_write false is n = absurd (n is)

        written : (e : HistoryEntry) → e.entry.client ≡ c → e.entry.seq ≡ (at c).seq → is_read op.act ≡ false → IsWriter e
        written e client seq write =
            let there : IsOpen plan at e t = record {
              phase = ap (λ (d : ℕ). (at d).phase) client ∙ i;
              seq = seq ∙ ap (λ (d : ℕ). (at d).seq) (sym client);
              k = k;
              op = op;
              stands = subst (λ (d : ℕ). Stands plan d (at d) k op) (sym client) st;
              on = on;
            } in
            let place = in_script c k op st.is in (
              open_holds e t there,
              ap (λ (d : ℕ). writes (script_at plan d e.entry.seq) t) client ∙ ap (λ (q : ℕ). writes (script_at plan c q) t) seq
                  ∙ any_at (λ (o : Op). (o.tuple.0 == t.0) && not (is_read o.act)) (script_now plan c (at c)) place.0 op place.1 (ap (λ (b : Bool). b && not (is_read op.act)) on ∙ ap not write),
            )

    values_now : stored ≡ last_value t (value_at plan.tuples t) (all_steps (answered plan (past_entries plan s t)))
    values_now = ends_stored h (value_at plan.tuples t) facts.sorted all_known (facts.chains t cold) (λ none. facts.unchanged t cold (no_writer none))

  -- all locks stand while the packet is on its way
  locks_open : (c : ℕ) → has_open (at c).phase ≡ true → held plan c (at c) ≡ cold_ops plan.layout (script_now plan c (at c))
  locks_open c is = by (at c).phase refl is (facts.fits c)
    where
      ops : List Op
      ops = cold_ops plan.layout (script_now plan c (at c))

      whole : length (at c).noted ≡ length ops → (at c).installed ≡ 0 → held plan c (at c) ≡ ops
      whole size none = ap (λ (n : ℕ). drop n (take (length (at c).noted) ops)) none ∙ ap (λ (n : ℕ). take n ops) size ∙ take-length ops

      by : (p : Phase) → (at c).phase ≡ p → has_open p ≡ true → FitsPhase plan c (at c) p → held plan c (at c) ≡ ops
      by Ready e o fit = cc
      by Locking e o fit = cc
      by Aborting e o fit = cc
      by Logged e o fit = whole fit.0 fit.1
      by Waiting e o fit = whole fit.0 fit.1
      by Installing e o fit = cc
      by Finished e o fit = cc

  pub cold_chains : HasColdChains plan s
  cold_chains = record {
    shared = λ c d k j op other n sc sd on. (facts.apart c d k j op other n sc sd on, facts.apart d c j k other op (λ e. n (sym e)) sd sc (turned_test op.tuple.0 other.tuple.0 on));
    noted = facts.value;
    writers = λ c k op seen st is. of_past (λ e. writes (script_of_entry plan e) op.tuple ≡ true → IsOpen plan at e op.tuple ⊎ AtMost e.entry.stamp seen.stamp) op.tuple (λ e named known. held_or e op.tuple (writes (script_of_entry plan e) op.tuple) known) (facts.writers c k op seen st is);
    exclusive = λ c k op seen st is write. of_past (λ e. names (script_of_entry plan e) op.tuple ≡ true → IsOpen plan at e op.tuple ⊎ AtMost e.entry.stamp seen.stamp) op.tuple (λ e named known. known named) (facts.namers c k op seen st write is);
    stamps = λ t cold. of_past (λ e. names (script_of_entry plan e) t ≡ true → IsOpen plan at e t ⊎ AtMost e.entry.stamp (seen_at s.store t).stamp) t (λ e named known. known named) (facts.settled t cold);
    values = values_now;
    open_locks = locks_open;
  }
    where
      held_or : {Q : Type 0} (e : HistoryEntry) (t : TupleId) (w : Bool) → (w ≡ true → IsOpen plan at e t ⊎ Q) → IsOpen plan at e t ⊎ (w ≡ true → Q)
      held_or e t true f = elim (f refl) [ inl o ↦ inl o | inr q ↦ inr (λ _. q) ]
      held_or e t false f = inr (λ is. cc)
