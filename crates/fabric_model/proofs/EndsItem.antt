-- A client without locks whose item ends.
use Rattle.std.proofs.Common.{◌≡◌, ◌≢◌, ℕ, slice_get, Some, inl, inr, sym, ap, subst, ◌∙◌}
use Rattle.std.specs.List.{AllByRecursion}
use Rattle.history_model.specs.History.{HistoryEntry, History}
use Rattle.catalogue.specs.Plan.{Plan}
use Rattle.core_model.specs.declared.phase.Phase.TheVariants.{Installing}
use Rattle.core_model.specs.State.{ClientState, Store}
use Rattle.core_model.specs.StampOrder.{AtMost}
use Rattle.txn_model.specs.declared.op.Op.{Op}
use Rattle.txn_model.specs.declared.op.TupleId.{TupleId}
use Rattle.core_model.specs.Facts.{Clients, Stands, IsOpen, steps_now}
use Rattle.core_model.proofs.Fewer.{OthersStay, KeepsLocks, same_or_not, each_entry, open_stays, stood, was_noted}
use Rattle.fabric_model.specs.ColdFacts.{FitsPhase, ColdFacts}

module _ (plan : Plan) (at new : Clients) (store : Store) (h : History) (c : ℕ) (others : OthersStay c at new) (keeps : KeepsLocks plan c (at c) (new c))
    (none_held : (k : ℕ) (op : Op) → Stands plan c (at c) k op → ⊥) (after : (new c).phase ≢ Installing) (fit : FitsPhase plan c (new c) (new c).phase) (last : (new c).last ≡ (at c).last) (facts : ColdFacts plan at store h) where
  -- a decided client stays
  decided_new : (d : ℕ) → (new d).phase ≡ Installing → new d ≡ at d
  decided_new d i = elim (same_or_not d c) [
    | inl e ↦ absurd (after (subst (λ (x : ℕ). (new x).phase ≡ Installing) e i))
    | inr n ↦ others d n
  ]

  -- an open entry's client isn't this one
  open_same : (e : HistoryEntry) (t : TupleId) → IsOpen plan at e t → new e.entry.client ≡ at e.entry.client
  open_same e t o = elim (same_or_not e.entry.client c) [
    | inl same ↦ absurd (none_held o.k o.op (subst (λ (x : ℕ). Stands plan x (at x) o.k o.op) same o.stands))
    | inr n ↦ others e.entry.client n
  ]

  stays_held : (d k : ℕ) (op : Op) → Stands plan d (at d) k op → new d ≡ at d
  stays_held d k op st = elim (same_or_not d c) [
    | inl e ↦ absurd (none_held k op (subst (λ (x : ℕ). Stands plan x (at x) k op) e st))
    | inr n ↦ others d n
  ]

  pub kept_by_end : ColdFacts plan new store h
  kept_by_end = record {
    fits = λ d. elim (same_or_not d c) [
      | inl e ↦ subst (λ (x : ℕ). FitsPhase plan x (new x) (new x).phase) (sym e) fit
      | inr n ↦ subst (λ (x : ClientState). FitsPhase plan d x x.phase) (sym (others d n)) (facts.fits d)
    ];
    apart = λ a b k j op other n sa sb e. facts.apart a b k j op other n (stood plan at new c others keeps a k op sa) (stood plan at new c others keeps b j other sb) e;
    value = λ d k op seen st is. facts.value d k op seen (stood plan at new c others keeps d k op st) (was_noted plan at new c others keeps d k op seen st is);
    writers = λ d k op seen st is. each_entry h (λ e f w. elim (f w) [ inl o ↦ inl (open_stays plan at new e op.tuple (open_same e op.tuple o) o) | inr le ↦ inr le ])
        (facts.writers d k op seen (stood plan at new c others keeps d k op st) (was_noted plan at new c others keeps d k op seen st is));
    namers = λ d k op seen st x is. each_entry h (λ e f w. elim (f w) [ inl o ↦ inl (open_stays plan at new e op.tuple (open_same e op.tuple o) o) | inr le ↦ inr le ])
        (facts.namers d k op seen (stood plan at new c others keeps d k op st) x (was_noted plan at new c others keeps d k op seen st is));
    settled = λ t cold. each_entry h (λ e f named. elim (f named) [ inl o ↦ inl (open_stays plan at new e t (open_same e t o) o) | inr le ↦ inr le ]) (facts.settled t cold);
    own = λ d. elim (same_or_not d c) [
      | inl e ↦ subst (λ (x : ℕ). AllByRecursion (λ f. f.entry.client ≡ x → AtMost f.entry.stamp (new x).last) h) (sym e) (each_entry h (λ f le is. subst (λ s. AtMost f.entry.stamp s) (sym last) (le is)) (facts.own c))
      | inr n ↦ subst (λ (x : ClientState). AllByRecursion (λ f. f.entry.client ≡ d → AtMost f.entry.stamp x.last) h) (sym (others d n)) (facts.own d)
    ];
    sorted = facts.sorted;
    local = facts.local;
    chains = facts.chains;
    unchanged = λ t cold none. facts.unchanged t cold (λ d k op st i on. none d k op (subst (λ (x : ClientState). Stands plan d x k op) (sym (stays_held d k op st)) st) (ap (λ (x : ClientState). x.phase) (stays_held d k op st) ∙ i) on);
    changed = λ d k op p st i x is. let same = decided_new d i in facts.changed d k op p (stood plan at new c others keeps d k op st) (ap (λ (y : ClientState). y.phase) (sym same) ∙ i) x (subst (λ (y : ClientState). slice_get (steps_now plan d y) k ≡ Some (op, p)) same is);
    found = λ d k op p seen st i is noted. let same = decided_new d i in facts.found d k op p seen (stood plan at new c others keeps d k op st) (ap (λ (y : ClientState). y.phase) (sym same) ∙ i) (subst (λ (y : ClientState). slice_get (steps_now plan d y) k ≡ Some (op, p)) same is) (was_noted plan at new c others keeps d k op seen st noted);
    leaves = λ d k op p i is read. let same = decided_new d i in facts.leaves d k op p (ap (λ (y : ClientState). y.phase) (sym same) ∙ i) (subst (λ (y : ClientState). slice_get (steps_now plan d y) k ≡ Some (op, p)) same is) read;
  }
