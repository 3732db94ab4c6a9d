-- A value that is installed, with its stamp, and a lock that is given back.
use Rattle.std.proofs.Common.{◌≡◌, ◌≢◌, ◌⊎◌, ℕ, ℤ, ◌<◌, ◌==◌, Bool, true, false, List, [], ◌∷◌, slice_get, Some, inl, inr, refl, sym, ap, subst, ◌∙◌, arith, eq-or-lt_of_le, if◌then◌else◌}
use Rattle.std.specs.List.{AllByRecursion}
use Rattle.std.specs.FinMap as fin
use Rattle.std.proofs.lemmas.Bool.Decides.{nat_tests}
use Rattle.txn_model.specs.ScriptCheck.{names, is_read}
use Rattle.txn_model.specs.Tuples.{value_at}
use Rattle.txn_model.specs.declared.op.Op.{Op}
use Rattle.txn_model.specs.declared.op.TupleId.{TupleId}
use Rattle.txn_model.specs.declared.pairs.Pair.{Pair}
use Rattle.txn_model.specs.declared.stamp.Seen.{Seen}
use Rattle.history_model.specs.Chain.{Step, all_steps, last_value}
use Rattle.history_model.specs.History.{HistoryEntry, History, greater}
use Rattle.catalogue.specs.Plan.{Plan, script_at}
use Rattle.core_model.specs.declared.phase.Phase.TheVariants.{Installing}
use Rattle.core_model.specs.State.{ClientState, Store, seen_at, script_now}
use Rattle.core_model.specs.Locks.{cold_ops}
use Rattle.core_model.specs.StampOrder.{AtMost}
use Rattle.core_model.specs.Facts.{Clients, Stands, IsOpen, NoOpenWriter, steps_now, script_of_entry, answered, writes}
use Rattle.core_model.proofs.Stamps.{AtMost-refl, AtMost-trans, AtMost-greater_left, AtMost-greater_right}
use Rattle.core_model.proofs.Fewer.{OthersStay, KeepsLocks, same_or_not, each_entry, open_stays, stood, was_noted}
use Rattle.core_model.proofs.Granted.{differ, turned_test}
use Rattle.core_model.proofs.Install.{seen_at-insert}
use Rattle.stage_layout.specs.Late.{is_hot}
use Rattle.fabric_model.specs.ColdFacts.{FitsPhase, ColdFacts}

module _ (plan : Plan) (at new : Clients) (store : Store) (h : History) (c : ℕ) (op : Op) (p : Pair) (others : OthersStay c at new)
    (decided : (at c).phase ≡ Installing) (here : slice_get (steps_now plan c (at c)) (at c).installed ≡ Some (op, p)) (stands : Stands plan c (at c) (at c).installed op)
    (note : Seen) (noted : slice_get (at c).noted (at c).installed ≡ Some note) (facts : ColdFacts plan at store h)
    (fit : FitsPhase plan c (new c) (new c).phase) (last : (new c).last ≡ (at c).last)
    -- the new state has the locks behind the installed one, and if it is still decided the same script and reply
    (keeps : KeepsLocks plan c (at c) (new c)) (later : (k : ℕ) (o : Op) → Stands plan c (new c) k o → (at c).installed < k)
    (still : (k : ℕ) (o : Op) → Stands plan c (at c) k o → (at c).installed < k → Stands plan c (new c) k o × ((new c).phase ≡ Installing) × ((new c).seq ≡ (at c).seq))
    (same_steps : (new c).phase ≡ Installing → steps_now plan c (new c) ≡ steps_now plan c (at c))
    (distinct : (k : ℕ) (o : Op) → Stands plan c (at c) k o → (at c).installed < k → (op.tuple.0 == o.tuple.0) ≡ false)
    (changes : writes (script_now plan c (at c)) op.tuple ≡ true → is_read op.act ≡ false) where
  abbrev written : Seen
  written = record { value = p.now; stamp = greater (seen_at store op.tuple).stamp (at c).last }

  abbrev store_new : Store
  store_new = fin.insert store op.tuple written

  seen_new : (t : TupleId) → seen_at store_new t ≡ (if op.tuple.0 == t.0 then written else seen_at store t)
  seen_new t = seen_at-insert store op.tuple written t

  other_tuple : (t : TupleId) → (op.tuple.0 == t.0) ≡ false → seen_at store_new t ≡ seen_at store t
  other_tuple t n = seen_new t ∙ ap (λ (b : Bool). if b then written else seen_at store t) n

  this_tuple : (t : TupleId) → (op.tuple.0 == t.0) ≡ true → seen_at store_new t ≡ written
  this_tuple t on = seen_new t ∙ ap (λ (b : Bool). if b then written else seen_at store t) on

  same_tuple : (a b : TupleId) → (a.0 == b.0) ≡ true → a ≡ b
  same_tuple a b e = let n : a.0 ≡ b.0 = grind (arith, nat_tests) in ap (λ (k : ℕ). record { 0 = k }) n

  -- a read installs the value that is there
  read_stays : is_read op.act ≡ true → p.now ≡ (seen_at store op.tuple).value
  read_stays read = facts.leaves c (at c).installed op p decided here read ∙ facts.found c (at c).installed op p note stands decided here noted ∙ facts.value c (at c).installed op note stands noted

  abbrev last_at_tuple : TupleId → ℤ
  last_at_tuple t = last_value t (value_at plan.tuples t) (all_steps (answered plan h))

  -- a lock of another client on the tuple is shared, and so is this one
  shared : (d k : ℕ) (o : Op) → d ≢ c → Stands plan d (at d) k o → (op.tuple.0 == o.tuple.0) ≡ true → is_read op.act ≡ true
  shared d k o n st on = facts.apart c d (at c).installed k op o (λ e. n (sym e)) stands st on

  -- a lock of the client itself that still stands is on another tuple, or this one reads as well
  value_kept : (t : TupleId) → ((op.tuple.0 == t.0) ≡ true → is_read op.act ≡ true) → (seen_at store_new t).value ≡ (seen_at store t).value
  value_kept t reads = elim (op.tuple.0 == t.0) as (λ b. (op.tuple.0 == t.0) ≡ b → (seen_at store_new t).value ≡ (seen_at store t).value) [
    | true ↦ λ on. ap (λ (s : Seen). s.value) (this_tuple t on) ∙ read_stays (reads on) ∙ ap (λ (x : TupleId). (seen_at store x).value) (same_tuple op.tuple t on)
    | false ↦ λ n. ap (λ (s : Seen). s.value) (other_tuple t n)
  ] refl

  -- stamps only rise
  stamp_rises : (t : TupleId) → AtMost (seen_at store t).stamp (seen_at store_new t).stamp
  stamp_rises t = elim (op.tuple.0 == t.0) as (λ b. (op.tuple.0 == t.0) ≡ b → AtMost (seen_at store t).stamp (seen_at store_new t).stamp) [
    | true ↦ λ on. subst (λ (s : Seen). AtMost (seen_at store t).stamp s.stamp) (sym (this_tuple t on)) (subst (λ (x : TupleId). AtMost (seen_at store x).stamp written.stamp) (same_tuple op.tuple t on) (AtMost-greater_left (seen_at store op.tuple).stamp (at c).last))
    | false ↦ λ n. subst (λ (s : Seen). AtMost (seen_at store t).stamp s.stamp) (sym (other_tuple t n)) (AtMost-refl (seen_at store t).stamp)
  ] refl

  -- a lock of the client is the one that is given back, or still stands
  own_lock : (k : ℕ) (o : Op) → Stands plan c (at c) k o → ((k ≡ (at c).installed) × (o ≡ op)) ⊎ ((at c).installed < k)
  own_lock k o st = elim (eq-or-lt_of_le st.from) [
    | inl e ↦ inl (sym e, let is = subst (λ (n : ℕ). slice_get (cold_ops plan.layout (script_now plan c (at c))) n ≡ Some o) (sym e) st.is in cc (is, stands.is))
    | inr lt ↦ inr lt
  ]

  decided_other : (d : ℕ) → d ≢ c → (at d).phase ≡ Installing → (new d).phase ≡ Installing
  decided_other d n i = ap (λ (x : ClientState). x.phase) (others d n) ∙ i

  -- no decided script changed the tuple before, unless the one that is installed does
  no_writer_old : (t : TupleId) → NoOpenWriter plan new t → ((op.tuple.0 == t.0) ≡ true → is_read op.act ≡ true) → NoOpenWriter plan at t
  no_writer_old t quiet reads d k o st i on = elim (same_or_not d c) [
    | inl e ↦
        let mine = subst (λ (x : ℕ). Stands plan x (at x) k o) e st in
        elim (own_lock k o mine) [
          | inl is ↦ ap (λ (x : Op). is_read x.act) is.1 ∙ reads (ap (λ (x : Op). x.tuple.0 == t.0) (sym is.1) ∙ on)
          | inr lt ↦ let kept = still k o mine lt in quiet c k o kept.0 kept.1 on
        ]
    | inr n ↦ quiet d k o (subst (λ (x : ClientState). Stands plan d x k o) (sym (others d n)) st) (decided_other d n i) on
  ]

  unchanged_now : (t : TupleId) → is_hot plan.layout t ≡ false → NoOpenWriter plan new t → last_at_tuple t ≡ (seen_at store_new t).value
  unchanged_now t cold quiet = on_tuple (op.tuple.0 == t.0) refl
    where
      on_read : (r : Bool) → is_read op.act ≡ r → (op.tuple.0 == t.0) ≡ true → last_at_tuple t ≡ p.now
      on_read true read on = facts.unchanged t cold (no_writer_old t quiet (λ _. read)) ∙ sym (read_stays read ∙ ap (λ (x : TupleId). (seen_at store x).value) (same_tuple op.tuple t on))
      on_read false write on = ap last_at_tuple (sym (same_tuple op.tuple t on)) ∙ facts.changed c (at c).installed op p stands decided write here

      on_tuple : (b : Bool) → (op.tuple.0 == t.0) ≡ b → last_at_tuple t ≡ (seen_at store_new t).value
      on_tuple true on = on_read (is_read op.act) refl on ∙ ap (λ (s : Seen). s.value) (sym (this_tuple t on))
      on_tuple false n = facts.unchanged t cold (no_writer_old t quiet (λ on. absurd (differ on n))) ∙ ap (λ (s : Seen). s.value) (sym (other_tuple t n))

  -- an open entry stays open, unless its lock is the one that is given back
  open_still : (e : HistoryEntry) (t : TupleId) → IsOpen plan at e t → IsOpen plan new e t ⊎ ((e.entry.client ≡ c) × (e.entry.seq ≡ (at c).seq) × ((op.tuple.0 == t.0) ≡ true))
  open_still e t o = elim (same_or_not e.entry.client c) [
    | inl same ↦
        let seq = subst (λ (x : ℕ). e.entry.seq ≡ (at x).seq) same o.seq in
        elim (own_lock o.k o.op (subst (λ (x : ℕ). Stands plan x (at x) o.k o.op) same o.stands)) [
          | inl is ↦ inr (same, seq, ap (λ (x : Op). x.tuple.0 == t.0) (sym is.1) ∙ o.on)
          | inr lt ↦
              let kept = still o.k o.op (subst (λ (x : ℕ). Stands plan x (at x) o.k o.op) same o.stands) lt in
              inl (record {
                phase = subst (λ (x : ℕ). (new x).phase ≡ Installing) (sym same) kept.1;
                seq = subst (λ (x : ℕ). e.entry.seq ≡ (new x).seq) (sym same) (seq ∙ sym kept.2);
                k = o.k;
                op = o.op;
                stands = subst (λ (x : ℕ). Stands plan x (new x) o.k o.op) (sym same) kept.0;
                on = o.on;
              })
        ]
    | inr n ↦ inl (open_stays plan at new e t (others e.entry.client n) o)
  ]

  settled_now : (t : TupleId) → is_hot plan.layout t ≡ false → AllByRecursion (λ e. names (script_of_entry plan e) t ≡ true → IsOpen plan new e t ⊎ AtMost e.entry.stamp (seen_at store_new t).stamp) h
  settled_now t cold = go h (facts.settled t cold) (facts.own c)
    where
      one : (e : HistoryEntry) → IsOpen plan at e t ⊎ AtMost e.entry.stamp (seen_at store t).stamp → (e.entry.client ≡ c → AtMost e.entry.stamp (at c).last) → IsOpen plan new e t ⊎ AtMost e.entry.stamp (seen_at store_new t).stamp
      one e (inl o) low = elim (open_still e t o) [
        | inl held ↦ inl held
        | inr back ↦ inr (subst (λ (s : Seen). AtMost e.entry.stamp s.stamp) (sym (this_tuple t back.2)) (AtMost-trans e.entry.stamp (at c).last written.stamp (low back.0) (AtMost-greater_right (seen_at store op.tuple).stamp (at c).last)))
      ]
      one e (inr le) low = inr (AtMost-trans e.entry.stamp (seen_at store t).stamp (seen_at store_new t).stamp le (stamp_rises t))

      go : (l : History) → AllByRecursion (λ e. names (script_of_entry plan e) t ≡ true → IsOpen plan at e t ⊎ AtMost e.entry.stamp (seen_at store t).stamp) l → AllByRecursion (λ e. e.entry.client ≡ c → AtMost e.entry.stamp (at c).last) l
          → AllByRecursion (λ e. names (script_of_entry plan e) t ≡ true → IsOpen plan new e t ⊎ AtMost e.entry.stamp (seen_at store_new t).stamp) l
      go [] f low = tt
      go (e ∷ l) f low = (λ n. one e (f.0 n) low.0, go l f.1 low.1)

  -- a lock that stands on the tuple whose lock is given back is another client's
  not_own : (d k : ℕ) (o : Op) → Stands plan d (new d) k o → (op.tuple.0 == o.tuple.0) ≡ true → d ≢ c
  not_own d k o st on e = let mine = subst (λ (x : ℕ). Stands plan x (new x) k o) e st in differ on (distinct k o (keeps.lock k o mine) (later k o mine))

  writers_now : (d k : ℕ) (o : Op) (seen : Seen) → Stands plan d (new d) k o → slice_get (new d).noted k ≡ Some seen
      → AllByRecursion (λ e. writes (script_of_entry plan e) o.tuple ≡ true → IsOpen plan new e o.tuple ⊎ AtMost e.entry.stamp seen.stamp) h
  writers_now d k o seen st is = each_entry h (λ e f w. by e w (f w)) (facts.writers d k o seen old (was_noted plan at new c others keeps d k o seen st is))
    where
      old : Stands plan d (at d) k o
      old = stood plan at new c others keeps d k o st

      by : (e : HistoryEntry) → writes (script_of_entry plan e) o.tuple ≡ true → IsOpen plan at e o.tuple ⊎ AtMost e.entry.stamp seen.stamp → IsOpen plan new e o.tuple ⊎ AtMost e.entry.stamp seen.stamp
      by e w (inl before) = elim (open_still e o.tuple before) [
        | inl kept ↦ inl kept
        | inr back ↦
            let script = subst (λ (q : ℕ). writes (script_at plan c q) o.tuple ≡ true) back.1 (subst (λ (x : ℕ). writes (script_at plan x e.entry.seq) o.tuple ≡ true) back.0 w) in
            absurd (differ (shared d k o (not_own d k o st back.2) old back.2) (changes (subst (λ (x : TupleId). writes (script_now plan c (at c)) x ≡ true) (sym (same_tuple op.tuple o.tuple back.2)) script)))
      ]
      by e w (inr le) = inr le

  namers_now : (d k : ℕ) (o : Op) (seen : Seen) → Stands plan d (new d) k o → is_read o.act ≡ false → slice_get (new d).noted k ≡ Some seen
      → AllByRecursion (λ e. names (script_of_entry plan e) o.tuple ≡ true → IsOpen plan new e o.tuple ⊎ AtMost e.entry.stamp seen.stamp) h
  namers_now d k o seen st x is = each_entry h (λ e f w. by e (f w)) (facts.namers d k o seen old x (was_noted plan at new c others keeps d k o seen st is))
    where
      old : Stands plan d (at d) k o
      old = stood plan at new c others keeps d k o st

      by : (e : HistoryEntry) → IsOpen plan at e o.tuple ⊎ AtMost e.entry.stamp seen.stamp → IsOpen plan new e o.tuple ⊎ AtMost e.entry.stamp seen.stamp
      by e (inl before) = elim (open_still e o.tuple before) [
        | inl kept ↦ inl kept
        | inr back ↦ absurd (differ (facts.apart d c k (at c).installed o op (not_own d k o st back.2) old stands (turned_test op.tuple.0 o.tuple.0 back.2)) x)
      ]
      by e (inr le) = inr le

  old_phase : (d : ℕ) → (new d).phase ≡ Installing → (at d).phase ≡ Installing
  old_phase d i = elim (same_or_not d c) [
    | inl e ↦ subst (λ (x : ℕ). (at x).phase ≡ Installing) (sym e) decided
    | inr n ↦ ap (λ (x : ClientState). x.phase) (sym (others d n)) ∙ i
  ]

  old_steps : (d : ℕ) → (new d).phase ≡ Installing → steps_now plan d (new d) ≡ steps_now plan d (at d)
  old_steps d i = elim (same_or_not d c) [
    | inl e ↦ subst (λ (x : ℕ). steps_now plan x (new x) ≡ steps_now plan x (at x)) (sym e) (same_steps (subst (λ (x : ℕ). (new x).phase ≡ Installing) e i))
    | inr n ↦ ap (steps_now plan d) (others d n)
  ]

  pub kept_by_installation : ColdFacts plan new store_new h
  kept_by_installation = record {
    fits = λ d. elim (same_or_not d c) [
      | inl e ↦ subst (λ (x : ℕ). FitsPhase plan x (new x) (new x).phase) (sym e) fit
      | inr n ↦ subst (λ (x : ClientState). FitsPhase plan d x x.phase) (sym (others d n)) (facts.fits d)
    ];
    apart = λ a b k j o other n sa sb e. facts.apart a b k j o other n (stood plan at new c others keeps a k o sa) (stood plan at new c others keeps b j other sb) e;
    value = λ d k o seen st is.
        let old = stood plan at new c others keeps d k o st in
        facts.value d k o seen old (was_noted plan at new c others keeps d k o seen st is)
        ∙ sym (value_kept o.tuple (λ on. elim (same_or_not d c) [
          | inl e ↦ let mine = subst (λ (x : ℕ). Stands plan x (new x) k o) e st in absurd (differ on (distinct k o (keeps.lock k o mine) (later k o mine)))
          | inr n ↦ shared d k o n old on
        ]));
    writers = writers_now;
    namers = namers_now;
    settled = settled_now;
    own = λ d. elim (same_or_not d c) [
      | inl e ↦ subst (λ (x : ℕ). AllByRecursion (λ f. f.entry.client ≡ x → AtMost f.entry.stamp (new x).last) h) (sym e) (each_entry h (λ f low is. subst (λ s. AtMost f.entry.stamp s) (sym last) (low is)) (facts.own c))
      | inr n ↦ subst (λ (x : ClientState). AllByRecursion (λ f. f.entry.client ≡ d → AtMost f.entry.stamp x.last) h) (sym (others d n)) (facts.own d)
    ];
    sorted = facts.sorted;
    local = facts.local;
    chains = facts.chains;
    unchanged = unchanged_now;
    changed = λ d k o q st i x is. facts.changed d k o q (stood plan at new c others keeps d k o st) (old_phase d i) x (subst (λ (l : List Step). slice_get l k ≡ Some (o, q)) (old_steps d i) is);
    found = λ d k o q seen st i is noted. facts.found d k o q seen (stood plan at new c others keeps d k o st) (old_phase d i) (subst (λ (l : List Step). slice_get l k ≡ Some (o, q)) (old_steps d i) is) (was_noted plan at new c others keeps d k o seen st noted);
    leaves = λ d k o q i is read. facts.leaves d k o q (old_phase d i) (subst (λ (l : List Step). slice_get l k ≡ Some (o, q)) (old_steps d i) is) read;
  }
