-- A lock that is granted.
use Rattle.std.proofs.Common.{◌≡◌, ◌≢◌, ◌⊎◌, ℕ, ◌<◌, ◌≤◌, ◌==◌, Bool, true, false, [], ◌∷◌, ◌++◌, length, slice_get, Some, inl, inr, sym, ap, subst, ◌∙◌, arith, length-append}
use Rattle.std.specs.List.{AllByRecursion}
use Rattle.std.proofs.lemmas.Option.{slice_get_within}
use Rattle.std.proofs.lemmas.Bool.{cases_lt}
use Rattle.txn_model.specs.ScriptCheck.{names, is_read}
use Rattle.txn_model.specs.declared.op.Op.{Op}
use Rattle.txn_model.specs.declared.op.TupleId.{TupleId}
use Rattle.txn_model.specs.declared.stamp.Seen.{Seen}
use Rattle.history_model.specs.History.{HistoryEntry, History}
use Rattle.catalogue.specs.Plan.{Plan}
use Rattle.core_model.specs.declared.phase.Phase.TheVariants.{Locking, Installing}
use Rattle.core_model.specs.State.{ClientState, Store, seen_at, script_now}
use Rattle.core_model.specs.Locks.{cold_ops, clashes}
use Rattle.core_model.specs.StampOrder.{AtMost}
use Rattle.core_model.specs.Facts.{Clients, Stands, IsOpen, steps_now, script_of_entry, writes}
use Rattle.core_model.proofs.Fewer.{OthersStay, same_or_not, each_entry, open_stays}
use Rattle.stage_layout.specs.Late.{is_hot}
use Rattle.core_model.proofs.Granted.{last_or_before, both_read, turned_test, names-from_writes}
use Rattle.fabric_model.specs.ColdFacts.{FitsPhase, ColdFacts}

module _ (plan : Plan) (at new : Clients) (store : Store) (h : History) (c : ℕ) (op : Op) (others : OthersStay c at new)
    (mine : new c ≡ record (at c) { phase = Locking; noted = (at c).noted ++ seen_at store op.tuple ∷ [] })
    (before : (at c).phase ≢ Installing) (none : (at c).installed ≡ 0) (asked : slice_get (cold_ops plan.layout (script_now plan c (at c))) (length (at c).noted) ≡ Some op)
    (free : (d j : ℕ) (other : Op) → d ≢ c → Stands plan d (at d) j other → clashes op other ≡ false)
    (host : is_hot plan.layout op.tuple ≡ false) (facts : ColdFacts plan at store h) where
  abbrev next : ClientState
  next = record (at c) { phase = Locking; noted = (at c).noted ++ seen_at store op.tuple ∷ [] }

  -- a lock of the client is an old one or the new one
  lock_of_mine : (k : ℕ) (o : Op) → Stands plan c next k o → Stands plan c (at c) k o ⊎ ((k ≡ length (at c).noted) × (o ≡ op))
  lock_of_mine k o st = elim (cases_lt k (length (at c).noted)) [
    | inl lt ↦ inl (record { from = st.from; to = lt; is = st.is })
    | inr ge ↦
        let last : k ≡ length (at c).noted = omega (arith, st.to, length-append (at c).noted (seen_at store op.tuple ∷ [])) in
        inr (last, let e = subst (λ (n : ℕ). slice_get (cold_ops plan.layout (script_now plan c (at c))) n ≡ Some o) last st.is in cc (e, asked))
  ]

  decided_new : (d : ℕ) → (new d).phase ≡ Installing → new d ≡ at d
  decided_new d i = elim (same_or_not d c) [
    | inl e ↦ absurd (not_locking (sym (ap (λ (x : ClientState). x.phase) mine) ∙ subst (λ (x : ℕ). (new x).phase ≡ Installing) e i))
    | inr n ↦ others d n
  ]
    where
      not_locking : Locking ≡ Installing → ⊥
      not_locking e = cc

  decided_old : (d : ℕ) → (at d).phase ≡ Installing → new d ≡ at d
  decided_old d i = elim (same_or_not d c) [
    | inl e ↦ absurd (before (subst (λ (x : ℕ). (at x).phase ≡ Installing) e i))
    | inr n ↦ others d n
  ]

  -- a lock of any client is an old one or the new one
  lock_of : (d k : ℕ) (o : Op) → Stands plan d (new d) k o → Stands plan d (at d) k o ⊎ ((d ≡ c) × (k ≡ length (at c).noted) × (o ≡ op))
  lock_of d k o st = elim (same_or_not d c) [
    | inl e ↦
        let here = subst (λ (y : ClientState). Stands plan c y k o) mine (subst (λ (x : ℕ). Stands plan x (new x) k o) e st) in
        elim (lock_of_mine k o here) [
          | inl s ↦ inl (subst (λ (x : ℕ). Stands plan x (at x) k o) (sym e) s)
          | inr n ↦ inr (e, n.0, n.1)
        ]
    | inr n ↦ inl (subst (λ (x : ClientState). Stands plan d x k o) (others d n) st)
  ]

  -- what was read under an old lock was read before, and under the new one it is what the store has
  noted_of : (d k : ℕ) (s : Seen) → slice_get (new d).noted k ≡ Some s → (slice_get (at d).noted k ≡ Some s) ⊎ ((d ≡ c) × (k ≡ length (at c).noted) × (s ≡ seen_at store op.tuple))
  noted_of d k s is = elim (same_or_not d c) [
    | inl e ↦
        let here = subst (λ (y : ClientState). slice_get y.noted k ≡ Some s) mine (subst (λ (x : ℕ). slice_get (new x).noted k ≡ Some s) e is) in
        elim (last_or_before (at c).noted (seen_at store op.tuple) k s here) [
          | inl b ↦ inl (subst (λ (x : ℕ). slice_get (at x).noted k ≡ Some s) (sym e) b)
          | inr n ↦ inr (e, n.0, n.1)
        ]
    | inr n ↦ inl (subst (λ (x : ClientState). slice_get x.noted k ≡ Some s) (others d n) is)
  ]

  -- an open entry stays open
  still_open : {P : Type 0} (e : HistoryEntry) (t : TupleId) → IsOpen plan at e t ⊎ P → IsOpen plan new e t ⊎ P
  still_open e t (inl o) = inl (open_stays plan at new e t (decided_old e.entry.client o.phase) o)
  still_open e t (inr p) = inr p

  pub kept_by_grant : ColdFacts plan new store h
  kept_by_grant = record {
    fits = λ d. elim (same_or_not d c) [
      | inl e ↦ subst (λ (x : ℕ). FitsPhase plan x (new x) (new x).phase) (sym e) (subst (λ (y : ClientState). FitsPhase plan c y y.phase) (sym mine) (room, none))
      | inr n ↦ subst (λ (x : ClientState). FitsPhase plan d x x.phase) (sym (others d n)) (facts.fits d)
    ];
    apart = λ a b k j o other n sa sb e. elim (lock_of a k o sa) [
      | inl ha ↦ elim (lock_of b j other sb) [
        | inl hb ↦ facts.apart a b k j o other n ha hb e
        | inr nb ↦ rw_read (sym (both_read op o (free a k o (λ s. n (s ∙ sym nb.0)) ha) (turned_test o.tuple.0 op.tuple.0 (subst (λ (x : Op). (o.tuple.0 == x.tuple.0) ≡ true) nb.2 e))).1)
      ]
      | inr na ↦ elim (lock_of b j other sb) [
        | inl hb ↦ ap (λ (x : Op). is_read x.act) na.2 ∙ (both_read op other (free b j other (λ s. n (na.0 ∙ sym s)) hb) (subst (λ (x : Op). (x.tuple.0 == other.tuple.0) ≡ true) na.2 e)).0
        | inr nb ↦ absurd (n (na.0 ∙ sym nb.0))
      ]
    ];
    value = λ d k o s st is. elim (lock_of d k o st) [
      | inl hs ↦ elim (noted_of d k s is) [
        | inl hn ↦ facts.value d k o s hs hn
        | inr nn ↦ absurd (past hs.to nn.0 nn.1)
      ]
      | inr ns ↦ elim (noted_of d k s is) [
        | inl hn ↦ absurd (past (slice_get_within (at d).noted k s hn) ns.0 ns.1)
        | inr nn ↦ ap (λ (x : Seen). x.value) nn.2 ∙ ap (λ (x : Op). (seen_at store x.tuple).value) (sym ns.2)
      ]
    ];
    writers = λ d k o s st is. elim (lock_of d k o st) [
      | inl hs ↦ elim (noted_of d k s is) [
        | inl hn ↦ each_entry h (λ e f w. still_open e o.tuple (f w)) (facts.writers d k o s hs hn)
        | inr nn ↦ absurd (past hs.to nn.0 nn.1)
      ]
      | inr ns ↦ elim (noted_of d k s is) [
        | inl hn ↦ absurd (past (slice_get_within (at d).noted k s hn) ns.0 ns.1)
        | inr nn ↦ subst (λ (x : Op). AllByRecursion (λ e. writes (script_of_entry plan e) x.tuple ≡ true → IsOpen plan new e x.tuple ⊎ AtMost e.entry.stamp s.stamp) h) (sym ns.2)
            (each_entry h (λ e f w. subst (λ (x : Seen). IsOpen plan new e op.tuple ⊎ AtMost e.entry.stamp x.stamp) (sym nn.2) (still_open e op.tuple (f (names-from_writes (script_of_entry plan e) op.tuple w)))) (facts.settled op.tuple host))
      ]
    ];
    namers = λ d k o s st x is. elim (lock_of d k o st) [
      | inl hs ↦ elim (noted_of d k s is) [
        | inl hn ↦ each_entry h (λ e f w. still_open e o.tuple (f w)) (facts.namers d k o s hs x hn)
        | inr nn ↦ absurd (past hs.to nn.0 nn.1)
      ]
      | inr ns ↦ elim (noted_of d k s is) [
        | inl hn ↦ absurd (past (slice_get_within (at d).noted k s hn) ns.0 ns.1)
        | inr nn ↦ subst (λ (y : Op). AllByRecursion (λ e. names (script_of_entry plan e) y.tuple ≡ true → IsOpen plan new e y.tuple ⊎ AtMost e.entry.stamp s.stamp) h) (sym ns.2)
            (each_entry h (λ e f w. subst (λ (y : Seen). IsOpen plan new e op.tuple ⊎ AtMost e.entry.stamp y.stamp) (sym nn.2) (still_open e op.tuple (f w))) (facts.settled op.tuple host))
      ]
    ];
    settled = λ t cold. each_entry h (λ e f named. still_open e t (f named)) (facts.settled t cold);
    own = λ d. elim (same_or_not d c) [
      | inl e ↦ subst (λ (x : ℕ). AllByRecursion (λ f. f.entry.client ≡ x → AtMost f.entry.stamp (new x).last) h) (sym e) (subst (λ (y : ClientState). AllByRecursion (λ f. f.entry.client ≡ c → AtMost f.entry.stamp y.last) h) (sym mine) (facts.own c))
      | inr n ↦ subst (λ (x : ClientState). AllByRecursion (λ f. f.entry.client ≡ d → AtMost f.entry.stamp x.last) h) (sym (others d n)) (facts.own d)
    ];
    sorted = facts.sorted;
    local = facts.local;
    chains = facts.chains;
    unchanged = λ t cold quiet. facts.unchanged t cold (λ d k o st i on. quiet d k o (subst (λ (x : ClientState). Stands plan d x k o) (sym (decided_old d i)) st) (ap (λ (x : ClientState). x.phase) (decided_old d i) ∙ i) on);
    changed = λ d k o p st i x is. let same = decided_new d i in facts.changed d k o p (subst (λ (y : ClientState). Stands plan d y k o) same st) (ap (λ (y : ClientState). y.phase) (sym same) ∙ i) x (subst (λ (y : ClientState). slice_get (steps_now plan d y) k ≡ Some (o, p)) same is);
    found = λ d k o p s st i is noted. let same = decided_new d i in facts.found d k o p s (subst (λ (y : ClientState). Stands plan d y k o) same st) (ap (λ (y : ClientState). y.phase) (sym same) ∙ i) (subst (λ (y : ClientState). slice_get (steps_now plan d y) k ≡ Some (o, p)) same is) (subst (λ (y : ClientState). slice_get y.noted k ≡ Some s) same noted);
    leaves = λ d k o p i is read. let same = decided_new d i in facts.leaves d k o p (ap (λ (y : ClientState). y.phase) (sym same) ∙ i) (subst (λ (y : ClientState). slice_get (steps_now plan d y) k ≡ Some (o, p)) same is) read;
  }
    where
      room : length ((at c).noted ++ seen_at store op.tuple ∷ []) ≤ length (cold_ops plan.layout (script_now plan c (at c)))
      room = omega (arith, slice_get_within (cold_ops plan.layout (script_now plan c (at c))) (length (at c).noted) op asked, length-append (at c).noted (seen_at store op.tuple ∷ []))

      past : {d k : ℕ} → k < length (at d).noted → d ≡ c → k ≡ length (at c).noted → ⊥
      past {d} {k} lt e is = let here : k < length (at c).noted = subst (λ (x : ℕ). k < length (at x).noted) e lt in omega arith

      rw_read : {x y : Bool} → y ≡ x → x ≡ y
      rw_read e = sym e
