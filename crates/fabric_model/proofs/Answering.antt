-- A transaction that becomes answered: its script is put at its place among the answered ones.
use Rattle.std.proofs.Common.{◌≡◌, ◌≢◌, ◌⊎◌, ℕ, zero, suc, ℤ, ◌==◌, Bool, true, false, not, List, [], ◌∷◌, ◌++◌, length, slice_get, Some, inl, inr, refl, sym, ap, subst, ◌∙◌, arith, Ordering, Less, Equal, Greater}
use Rattle.std.specs.List.{AllByRecursion}
use Rattle.std.specs.Ordering.{ordering_then, ordering_reverse}
use Rattle.std.specs.FinMap.{nat_cmp-IsAntisymmetric}
use Rattle.std.proofs.lemmas.Bool.Decides.{nat_tests}
use Rattle.std.proofs.lemmas.Option.{slice_get_within}
use Rattle.txn_model.specs.ScriptCheck.{names, is_read}
use Rattle.txn_model.specs.Tuples.{value_at}
use Rattle.txn_model.specs.declared.op.Op.{Op}
use Rattle.txn_model.specs.declared.op.TupleId.{TupleId}
use Rattle.txn_model.specs.declared.pairs.Pair.{Pair}
use Rattle.txn_model.specs.declared.stamp.Seen.{Seen}
use Rattle.txn_model.specs.declared.stamp.Stamp.{Stamp}
use Rattle.history_model.specs.Chain.{Answered, Step, steps_of, all_steps, Chain, last_value, IsLocal, IsLocalFrom, MayStandBefore}
use Rattle.history_model.specs.History.{HistoryEntry, History, entry_cmp, with_entry}
use Rattle.history_model.proofs.InsertionLaws.{Inserted, inserted, absent_chain, quiet_last}
use Rattle.history_model.proofs.Insertion.{all_steps-append, local_append}
use Rattle.catalogue.specs.Plan.{Plan, script_at}
use Rattle.core_model.specs.declared.phase.Phase.TheVariants.{Installing}
use Rattle.core_model.specs.State.{ClientState, Store, seen_at, script_now}
use Rattle.core_model.specs.Locks.{cold_ops}
use Rattle.core_model.specs.Decision.{cold_steps}
use Rattle.core_model.specs.StampOrder.{AtMost, Below}
use Rattle.core_model.specs.Facts.{Clients, Stands, IsOpen, NoOpenWriter, steps_now, script_of_entry, answered, writes}
use Rattle.core_model.proofs.Stamps.{AtMost-refl, AtMost-trans, AtMost-from_Below, Below-from_AtMost, entry_cmp-Below}
use Rattle.core_model.proofs.Entries.{Placed, placed, not_behind, sorted-with_entry, entry_cmp_total}
use Rattle.core_model.proofs.Decided.{IsDistinct, absent-steps_of}
use Rattle.core_model.proofs.Fewer.{OthersStay, KeepsLocks, same_or_not, each_entry, open_stays, stood, was_noted}
use Rattle.core_model.proofs.Granted.{differ, turned_test, joined_tests, unless_read, writes_by, named_by, names-from_writes}
use Rattle.core_model.proofs.StepsOf.{read_leaves, quiet-steps_of, absent-answered, quiet-answered, last_at, unless, all_behind}
use Rattle.stage_layout.specs.Late.{is_hot}
use Rattle.core_model.proofs.Decide.{all-with_entry, item_at_place}
use Rattle.fabric_model.proofs.Places.{answered-append}
use Rattle.fabric_model.specs.ColdFacts.{FitsPhase, ColdFacts}
use Rattle.fabric_model.proofs.ColdSteps.{on_host, op_of_step, among, length-cold_steps, chain_of_one, named_on_host}

second : (a b : Ordering) → ordering_then a b ≡ Equal → b ≡ Equal
second Less b e = cc
second Equal b e = e
second Greater b e = cc

noted_at : (noted : List Seen) (k : ℕ) (seen : Seen) (P : Seen → Type 0) → AllByRecursion P noted → slice_get noted k ≡ Some seen → P seen
noted_at [] k seen P all e = cc
noted_at (s ∷ noted) zero seen P all e = let same : s ≡ seen = cc in subst P same all.0
noted_at (s ∷ noted) (suc k) seen P all e = noted_at noted k seen P all.1 e

module _ (plan : Plan) (at new : Clients) (store : Store) (h : History) (c : ℕ) (stamp : Stamp) (reply : List Pair) (others : OthersStay c at new)
    (undecided : (at c).phase ≢ Installing) (none : (at c).installed ≡ 0) (all_locked : length (at c).noted ≡ length (cold_ops plan.layout (script_now plan c (at c))))
    (distinct : (d : ℕ) → IsDistinct (script_now plan d (at d))) (facts : ColdFacts plan at store h)
    -- above all that the client knows
    (last_below : Below (at c).last stamp) (noted_below : AllByRecursion (λ seen. Below seen.stamp stamp) (at c).noted)
    -- the reply follows from what was found, and its operations on hosts found what was noted
    (size : length reply ≡ length (script_now plan c (at c))) (local : IsLocalFrom [] (script_now plan c (at c)) reply)
    (finds : (k : ℕ) (op : Op) (p : Pair) (seen : Seen) → slice_get (cold_steps plan.layout (script_now plan c (at c)) reply) k ≡ Some (op, p) → slice_get (at c).noted k ≡ Some seen → p.was ≡ seen.value)
    (mine : new c ≡ record (at c) { phase = Installing; last = stamp; reply = reply }) where
  abbrev ops : List Op
  ops = script_now plan c (at c)

  abbrev entry : HistoryEntry
  entry = record { entry = record { stamp = stamp; client = c; seq = (at c).seq }; pairs = Some reply }

  abbrev steps : List Step
  steps = steps_of ops reply

  -- an operation on a host has a standing lock, with what was read
  lock : (k : ℕ) (op : Op) → slice_get (cold_ops plan.layout ops) k ≡ Some op → Stands plan c (at c) k op
  lock k op is = record { from = omega arith; to = omega (arith, slice_get_within (cold_ops plan.layout ops) k op is); is = is }

  read_at : (k : ℕ) (op : Op) → slice_get (cold_ops plan.layout ops) k ≡ Some op → (seen : Seen) × (slice_get (at c).noted k ≡ Some seen)
  read_at k op is = item_at_place (at c).noted k (omega (arith, slice_get_within (cold_ops plan.layout ops) k op is))

  same_tuple : (a b : TupleId) → (a.0 == b.0) ≡ true → a ≡ b
  same_tuple a b e = let n : a.0 ≡ b.0 = grind (arith, nat_tests) in ap (λ (k : ℕ). record { 0 = k }) n

  -- no decided script is about to change a tuple of a host that this script names
  no_writer : (t : TupleId) → is_hot plan.layout t ≡ false → names ops t ≡ true → NoOpenWriter plan at t
  no_writer t cold n d j other st i on =
      let mine_on = named_on_host plan.layout ops t cold n in
      elim (same_or_not d c) [
        | inl e ↦ absurd (undecided (subst (λ (x : ℕ). (at x).phase ≡ Installing) e i))
        | inr apart ↦ facts.apart d c j mine_on.k other mine_on.op apart st (lock mine_on.k mine_on.op mine_on.at) (joined_tests other.tuple.0 t.0 mine_on.op.tuple.0 on mine_on.on)
      ]

  abbrev before_now : TupleId → ℤ
  before_now t = last_value t (value_at plan.tuples t) (all_steps (answered plan h))

  -- the operation on the tuple finds the last value there
  goes_on : (t : TupleId) → is_hot plan.layout t ≡ false → Chain t (before_now t) steps
  goes_on t cold = chain_of_one t (before_now t) ops reply (distinct c) (λ k op p is on.
      let tuple = same_tuple op.tuple t on in
      let host = on_host plan.layout ops reply k op p is (ap (is_hot plan.layout) tuple ∙ cold) in
      let seen = read_at host.place op host.op_there in
      finds host.place op p seen.0 host.step_there seen.1 ∙ facts.value c host.place op seen.0 (lock host.place op host.op_there) seen.1
      ∙ ap (λ (x : TupleId). (seen_at store x).value) tuple ∙ sym (facts.unchanged t cold (no_writer t cold (named_by ops t k op (op_of_step ops reply k op p is) on))))

  place : Placed entry h
  place = placed entry h facts.sorted

  -- an entry behind the new one doesn't have a stamp that was read
  too_low : (f : HistoryEntry) (seen : Seen) (k : ℕ) → slice_get (at c).noted k ≡ Some seen → AtMost f.entry.stamp seen.stamp → entry_cmp entry.entry f.entry ≡ Less → ⊥
  too_low f seen k is low behind =
      not_behind entry.entry f.entry (Below-from_AtMost f.entry.stamp seen.stamp stamp low (noted_at (at c).noted k seen (λ s. Below s.stamp stamp) noted_below is)) behind

  behind_facts : (P : HistoryEntry → Type 0) → AllByRecursion P h → AllByRecursion P place.behind
  behind_facts P all = all_behind P place.before place.behind (subst (λ (l : History). AllByRecursion P l) place.whole all)

  pair_up : {P Q R : HistoryEntry → Type 0} (l : History) → ((f : HistoryEntry) → P f → Q f → R f) → AllByRecursion P l → AllByRecursion Q l → AllByRecursion R l
  pair_up [] f p q = tt
  pair_up (x ∷ l) f p q = (f x p.0 q.0, pair_up l f p.1 q.1)

  parts : answered plan h ≡ answered plan place.before ++ answered plan place.behind
  parts = ap (answered plan) place.whole ∙ answered-append plan place.before place.behind

  local_parts : AllByRecursion IsLocal (answered plan place.before ++ answered plan place.behind)
  local_parts = subst (λ (l : List Answered). AllByRecursion IsLocal l) parts facts.local

  local_behind : AllByRecursion IsLocal (answered plan place.behind)
  local_behind = all_behind IsLocal (answered plan place.before) (answered plan place.behind) local_parts

  -- while this script holds a lock, no decided script is about to change the tuple, and under an exclusive lock none holds it
  no_open_writer : (f : HistoryEntry) (k : ℕ) (op : Op) → slice_get (cold_ops plan.layout ops) k ≡ Some op → IsOpen plan at f op.tuple → writes (script_of_entry plan f) op.tuple ≡ true → ⊥
  no_open_writer f k op is o w = elim (same_or_not f.entry.client c) [
    | inl e ↦ undecided (subst (λ (x : ℕ). (at x).phase ≡ Installing) e o.phase)
    | inr n ↦
        let script = ap (λ (q : ℕ). script_at plan f.entry.client q) o.seq in
        let place = among (λ x. not (is_hot plan.layout x.tuple)) (script_now plan f.entry.client (at f.entry.client)) o.k o.op o.stands.is in
        differ (facts.apart f.entry.client c o.k k o.op op n o.stands (lock k op is) o.on)
        (writes_by (script_now plan f.entry.client (at f.entry.client)) op.tuple place.place o.op (distinct f.entry.client) place.there o.on (subst (λ (l : List Op). writes l op.tuple ≡ true) script w))
  ]

  no_open_namer : (f : HistoryEntry) (k : ℕ) (op : Op) → slice_get (cold_ops plan.layout ops) k ≡ Some op → is_read op.act ≡ false → IsOpen plan at f op.tuple → ⊥
  no_open_namer f k op is write o = elim (same_or_not f.entry.client c) [
    | inl e ↦ undecided (subst (λ (x : ℕ). (at x).phase ≡ Installing) e o.phase)
    | inr n ↦ differ (facts.apart c f.entry.client k o.k op o.op (λ e. n (sym e)) (lock k op is) o.stands (turned_test o.op.tuple.0 op.tuple.0 o.on)) write
  ]

  unless_open : {P : Type 0} (f : HistoryEntry) (op : Op) → (IsOpen plan at f op.tuple → ⊥) → IsOpen plan at f op.tuple ⊎ P → P
  unless_open f op none (inl o) = absurd (none o)
  unless_open f op none (inr p) = p

  -- at a tuple of a host, the new entry may stand before those behind it
  may : (t : TupleId) → is_hot plan.layout t ≡ false → MayStandBefore t steps (all_steps (answered plan place.behind))
  may t cold = elim (names ops t) as (λ b. names ops t ≡ b → MayStandBefore t steps (all_steps (answered plan place.behind))) [
    | false ↦ λ n. inl (absent-steps_of t ops reply n)
    | true ↦ λ n.
        let on = named_on_host plan.layout ops t cold n in
        let seen = read_at on.k on.op on.at in
        let tuple = same_tuple on.op.tuple t on.on in
        elim (is_read on.op.act) as (λ r. is_read on.op.act ≡ r → MayStandBefore t steps (all_steps (answered plan place.behind))) [
          | true ↦ λ read. inr (inl (
            quiet-steps_of t [] ops reply local (unless_read ops t on.all on.op (distinct c) on.there on.on read),
            quiet-answered plan t place.behind local_behind (pair_up place.behind (λ f low behind. unless (writes (script_of_entry plan f) t) (λ w. let wo = ap (λ (x : TupleId). writes (script_of_entry plan f) x) tuple ∙ w in too_low f seen.0 on.k seen.1 (unless_open f on.op (λ o. no_open_writer f on.k on.op on.at o wo) (low wo)) behind))
                (behind_facts _ (facts.writers c on.k on.op seen.0 (lock on.k on.op on.at) seen.1)) place.above),
          ))
          | false ↦ λ read. inr (inr (absent-answered plan t place.behind (pair_up place.behind (λ f low behind. unless (names (script_of_entry plan f) t) (λ w. too_low f seen.0 on.k seen.1 (unless_open f on.op (λ o. no_open_namer f on.k on.op on.at read o) (low (ap (λ (x : TupleId). names (script_of_entry plan f) x) tuple ∙ w))) behind))
              (behind_facts _ (facts.namers c on.k on.op seen.0 (lock on.k on.op on.at) read seen.1)) place.above)))
        ] refl
  ] refl

  whole_steps : all_steps (answered plan h) ≡ all_steps (answered plan place.before) ++ all_steps (answered plan place.behind)
  whole_steps = ap all_steps parts ∙ all_steps-append (answered plan place.before) (answered plan place.behind)

  abbrev history : History
  history = with_entry entry h

  new_answered : answered plan history ≡ answered plan place.before ++ (ops, reply) ∷ answered plan place.behind
  new_answered = ap (answered plan) place.new ∙ answered-append plan place.before (entry ∷ place.behind)

  new_steps : all_steps (answered plan history) ≡ all_steps (answered plan place.before) ++ (steps ++ all_steps (answered plan place.behind))
  new_steps = ap all_steps new_answered ∙ all_steps-append (answered plan place.before) ((ops, reply) ∷ answered plan place.behind)

  put : (t : TupleId) → is_hot plan.layout t ≡ false → Inserted t (value_at plan.tuples t) (all_steps (answered plan place.before)) steps (all_steps (answered plan place.behind))
  put t cold =
      let old = subst (λ (l : List Step). Chain t (value_at plan.tuples t) l) whole_steps (facts.chains t cold) in
      let more = subst (λ (v : ℤ). Chain t v steps) (ap (last_value t (value_at plan.tuples t)) whole_steps) (goes_on t cold) in
      inserted t (value_at plan.tuples t) (all_steps (answered plan place.before)) steps (all_steps (answered plan place.behind)) (may t cold) old more

  -- the last value is what the script leaves of the one before
  last_now : (t : TupleId) → is_hot plan.layout t ≡ false → last_value t (value_at plan.tuples t) (all_steps (answered plan history)) ≡ last_value t (before_now t) steps
  last_now t cold = ap (last_value t (value_at plan.tuples t)) new_steps ∙ (put t cold).last ∙ ap (λ (v : ℤ). last_value t v steps) (ap (last_value t (value_at plan.tuples t)) (sym whole_steps))

  -- the new entry ties with none
  no_tie : AllByRecursion (λ f. entry_cmp entry.entry f.entry ≢ Equal) h
  no_tie = each_entry h (λ f low tie.
      let client = nat_cmp-IsAntisymmetric c f.entry.client (second _ _ tie) in
      let below = Below-from_AtMost f.entry.stamp (at c).last stamp (low (sym client)) last_below in
      let less = entry_cmp-Below f.entry entry.entry below in
      let greater = entry_cmp_total.antisymm entry.entry f.entry ∙ ap ordering_reverse less in
      clash (sym tie ∙ greater)) (facts.own c)
    where
      clash : Equal ≡ Greater → ⊥
      clash e = cc

  -- the locks are those that the client had
  keeps : KeepsLocks plan c (at c) (new c)
  keeps = record {
    lock = λ k op st. subst (λ (x : ClientState). Stands plan c x k op → Stands plan c (at c) k op) (sym mine) (λ s. record { from = s.from; to = s.to; is = s.is }) st;
    noted = λ k seen op st is. subst (λ (x : ClientState). slice_get x.noted k ≡ Some seen) mine is;
  }

  lock_new : (k : ℕ) (op : Op) → slice_get (cold_ops plan.layout ops) k ≡ Some op → Stands plan c (new c) k op
  lock_new k op is = let st = lock k op is in subst (λ (x : ClientState). Stands plan c x k op) (sym mine) (record { from = st.from; to = st.to; is = st.is })

  phase_new : (new c).phase ≡ Installing
  phase_new = ap (λ (x : ClientState). x.phase) mine

  decided_old : (d : ℕ) → (at d).phase ≡ Installing → new d ≡ at d
  decided_old d i = elim (same_or_not d c) [
    | inl e ↦ absurd (undecided (subst (λ (x : ℕ). (at x).phase ≡ Installing) e i))
    | inr n ↦ others d n
  ]

  -- the steps of the answered script
  steps_new : steps_now plan c (new c) ≡ cold_steps plan.layout ops reply
  steps_new = ap (steps_now plan c) mine

  -- this script doesn't name a tuple that another client holds exclusively
  others_apart : (d k : ℕ) (op : Op) → d ≢ c → Stands plan d (at d) k op → is_hot plan.layout op.tuple ≡ false → is_read op.act ≡ false → names ops op.tuple ≡ true → ⊥
  others_apart d k op n st cold x w =
      let on = named_on_host plan.layout ops op.tuple cold w in
      differ (facts.apart d c k on.k op on.op n st (lock on.k on.op on.at) (turned_test on.op.tuple.0 op.tuple.0 on.on)) x

  no_writer_old : (t : TupleId) → NoOpenWriter plan new t → NoOpenWriter plan at t
  no_writer_old t quiet d k op st i on = quiet d k op (subst (λ (x : ClientState). Stands plan d x k op) (sym (decided_old d i)) st) (ap (λ (x : ClientState). x.phase) (decided_old d i) ∙ i) on

  unchanged_now : (t : TupleId) → is_hot plan.layout t ≡ false → NoOpenWriter plan new t → last_value t (value_at plan.tuples t) (all_steps (answered plan history)) ≡ (seen_at store t).value
  unchanged_now t cold quiet = last_now t cold ∙ stays (names ops t) refl ∙ facts.unchanged t cold (no_writer_old t quiet)
    where
      stays : (b : Bool) → names ops t ≡ b → last_value t (before_now t) steps ≡ before_now t
      stays false n = (absent_chain t (before_now t) steps (absent-steps_of t ops reply n)).1
      stays true n =
          let on = named_on_host plan.layout ops t cold n in
          quiet_last t (before_now t) steps (quiet-steps_of t [] ops reply local (unless_read ops t on.all on.op (distinct c) on.there on.on (quiet c on.k on.op (lock_new on.k on.op on.at) phase_new on.on))) (goes_on t cold)

  -- a step on a host is one of the script
  step_among : (k : ℕ) (op : Op) (p : Pair) → slice_get (cold_steps plan.layout ops reply) k ≡ Some (op, p) → (j : ℕ) × (slice_get steps j ≡ Some (op, p))
  step_among k op p is = let a = among (λ (s : Step). not (is_hot plan.layout s.0.tuple)) steps k (op, p) is in (a.place, a.there)

  host_of : (d k : ℕ) (op : Op) (x : ClientState) → Stands plan d x k op → is_hot plan.layout op.tuple ≡ false
  host_of d k op x st = not_hot (is_hot plan.layout op.tuple) (among (λ (o : Op). not (is_hot plan.layout o.tuple)) (script_now plan d x) k op st.is).passes
    where
      not_hot : (b : Bool) → not b ≡ true → b ≡ false
      not_hot true e = sym e
      not_hot false e = refl

  changed_now : (d k : ℕ) (op : Op) (p : Pair) → Stands plan d (new d) k op → (new d).phase ≡ Installing → is_read op.act ≡ false → slice_get (steps_now plan d (new d)) k ≡ Some (op, p)
      → last_value op.tuple (value_at plan.tuples op.tuple) (all_steps (answered plan history)) ≡ p.now
  changed_now d k op p st i x is = last_now op.tuple (host_of d k op (new d) st) ∙ elim (same_or_not d c) [
    | inl e ↦ let a = step_among k op p (subst (λ (l : List Step). slice_get l k ≡ Some (op, p)) steps_new (subst (λ (y : ℕ). slice_get (steps_now plan y (new y)) k ≡ Some (op, p)) e is)) in
        last_at ops reply (before_now op.tuple) a.0 op p (distinct c) a.1
    | inr n ↦
        let old = subst (λ (y : ClientState). Stands plan d y k op) (others d n) st in
        (absent_chain op.tuple (before_now op.tuple) steps (absent-steps_of op.tuple ops reply (unless (names ops op.tuple) (others_apart d k op n old (host_of d k op (at d) old) x)))).1
        ∙ facts.changed d k op p old (ap (λ (y : ClientState). y.phase) (sym (others d n)) ∙ i) x (subst (λ (y : ClientState). slice_get (steps_now plan d y) k ≡ Some (op, p)) (others d n) is)
  ]

  -- an open entry stays open, and the new entry is open at each tuple of a host that it names
  still_open : {P : Type 0} (e : HistoryEntry) (t : TupleId) → IsOpen plan at e t ⊎ P → IsOpen plan new e t ⊎ P
  still_open e t (inl o) = inl (open_stays plan at new e t (decided_old e.entry.client o.phase) o)
  still_open e t (inr p) = inr p

  open_new : (t : TupleId) → is_hot plan.layout t ≡ false → names ops t ≡ true → IsOpen plan new entry t
  open_new t cold n = let on = named_on_host plan.layout ops t cold n in record { phase = phase_new; seq = ap (λ (x : ClientState). x.seq) (sym mine); k = on.k; op = on.op; stands = lock_new on.k on.op on.at; on = on.on }

  pub kept_by_answer : ColdFacts plan new store history
  kept_by_answer = record {
    fits = λ d. elim (same_or_not d c) [
      | inl e ↦ subst (λ (x : ℕ). FitsPhase plan x (new x) (new x).phase) (sym e) (subst (λ (y : ClientState). FitsPhase plan c y y.phase) (sym mine)
          (all_locked, length-cold_steps plan.layout ops reply size ∙ sym all_locked, omega (arith, none)))
      | inr n ↦ subst (λ (x : ClientState). FitsPhase plan d x x.phase) (sym (others d n)) (facts.fits d)
    ];
    apart = λ a b k j op other n sa sb e. facts.apart a b k j op other n (stood plan at new c others keeps a k op sa) (stood plan at new c others keeps b j other sb) e;
    value = λ d k op seen st is. facts.value d k op seen (stood plan at new c others keeps d k op st) (was_noted plan at new c others keeps d k op seen st is);
    writers = λ d k op seen st is. all-with_entry _ entry h
        (each_entry h (λ e f w. still_open e op.tuple (f w)) (facts.writers d k op seen (stood plan at new c others keeps d k op st) (was_noted plan at new c others keeps d k op seen st is)))
        (λ w. inl (open_new op.tuple (host_of d k op (new d) st) (names-from_writes ops op.tuple w)));
    namers = λ d k op seen st x is. all-with_entry _ entry h
        (each_entry h (λ e f w. still_open e op.tuple (f w)) (facts.namers d k op seen (stood plan at new c others keeps d k op st) x (was_noted plan at new c others keeps d k op seen st is)))
        (λ w. inl (open_new op.tuple (host_of d k op (new d) st) w));
    settled = λ t cold. all-with_entry _ entry h (each_entry h (λ e f n. still_open e t (f n)) (facts.settled t cold)) (λ n. inl (open_new t cold n));
    own = λ d. elim (same_or_not d c) [
      | inl e ↦ subst (λ (x : ℕ). AllByRecursion (λ f. f.entry.client ≡ x → AtMost f.entry.stamp (new x).last) history) (sym e)
          (subst (λ (y : ClientState). AllByRecursion (λ f. f.entry.client ≡ c → AtMost f.entry.stamp y.last) history) (sym mine)
          (all-with_entry _ entry h (each_entry h (λ f low is. AtMost-trans f.entry.stamp (at c).last stamp (low is) (AtMost-from_Below (at c).last stamp last_below)) (facts.own c)) (λ is. AtMost-refl stamp)))
      | inr n ↦ subst (λ (x : ClientState). AllByRecursion (λ f. f.entry.client ≡ d → AtMost f.entry.stamp x.last) history) (sym (others d n)) (all-with_entry _ entry h (facts.own d) (λ is. absurd (n (sym is))))
    ];
    sorted = sorted-with_entry entry h facts.sorted no_tie;
    local = subst (λ (l : List Answered). AllByRecursion IsLocal l) (sym new_answered) (local_append (answered plan place.before) (answered plan place.behind) local_parts (ops, reply) local);
    chains = λ t cold. subst (λ (l : List Step). Chain t (value_at plan.tuples t) l) (sym new_steps) (put t cold).chain;
    unchanged = unchanged_now;
    changed = changed_now;
    found = λ d k op p seen st i is noted. elim (same_or_not d c) [
      | inl e ↦
          let here = subst (λ (l : List Step). slice_get l k ≡ Some (op, p)) steps_new (subst (λ (y : ℕ). slice_get (steps_now plan y (new y)) k ≡ Some (op, p)) e is) in
          let note = subst (λ (x : ClientState). slice_get x.noted k ≡ Some seen) mine (subst (λ (y : ℕ). slice_get (new y).noted k ≡ Some seen) e noted) in
          finds k op p seen here note
      | inr n ↦ facts.found d k op p seen (subst (λ (y : ClientState). Stands plan d y k op) (others d n) st) (ap (λ (y : ClientState). y.phase) (sym (others d n)) ∙ i) (subst (λ (y : ClientState). slice_get (steps_now plan d y) k ≡ Some (op, p)) (others d n) is) (subst (λ (y : ClientState). slice_get y.noted k ≡ Some seen) (others d n) noted)
    ];
    leaves = λ d k op p i is read. elim (same_or_not d c) [
      | inl e ↦ let a = step_among k op p (subst (λ (l : List Step). slice_get l k ≡ Some (op, p)) steps_new (subst (λ (y : ℕ). slice_get (steps_now plan y (new y)) k ≡ Some (op, p)) e is)) in
          read_leaves [] ops reply a.0 op p local a.1 read
      | inr n ↦ facts.leaves d k op p (ap (λ (y : ClientState). y.phase) (sym (others d n)) ∙ i) (subst (λ (y : ClientState). slice_get (steps_now plan d y) k ≡ Some (op, p)) (others d n) is) read
    ];
  }
