-- A client that loses locks, or keeps them.
use Rattle.std.proofs.Common.{◌≡◌, ◌≢◌, ◌⊎◌, ℕ, [], ◌∷◌, slice_get, Some, inl, inr, sym, ap, subst, ◌∙◌, arith}
use Rattle.std.specs.List.{AllByRecursion}
use Rattle.txn_model.specs.declared.op.Op.{Op}
use Rattle.txn_model.specs.declared.op.TupleId.{TupleId}
use Rattle.txn_model.specs.declared.stamp.Seen.{Seen}
use Rattle.history_model.specs.History.{HistoryEntry, History}
use Rattle.catalogue.specs.Plan.{Plan}
use Rattle.core_model.specs.State.{ClientState}
use Rattle.core_model.specs.Facts.{Clients, Stands, IsOpen}

-- other clients stay as they are
abbrev pub OthersStay : ℕ → Clients → Clients → Type 0
OthersStay c at new = (d : ℕ) → d ≢ c → new d ≡ at d

-- a number is another one or it isn't
pub same_or_not : (a b : ℕ) → (a ≡ b) ⊎ (a ≢ b)
same_or_not a b = grind arith

-- the locks of the new state of a client are among those of the old one, with what was read under them
pub record KeepsLocks (plan : Plan) (c : ℕ) (old new : ClientState) : Type 0 where
  pub lock : (k : ℕ) (op : Op) → Stands plan c new k op → Stands plan c old k op
  pub noted : (k : ℕ) (seen : Seen) (op : Op) → Stands plan c new k op → slice_get new.noted k ≡ Some seen → slice_get old.noted k ≡ Some seen

module _ (plan : Plan) (at new : Clients) (c : ℕ) (others : OthersStay c at new) (keeps : KeepsLocks plan c (at c) (new c)) where
  -- a lock that stands stood before
  pub stood : (d k : ℕ) (op : Op) → Stands plan d (new d) k op → Stands plan d (at d) k op
  stood d k op st = elim (same_or_not d c) [
    | inl e ↦ subst (λ (x : ℕ). Stands plan x (at x) k op) (sym e) (keeps.lock k op (subst (λ (x : ℕ). Stands plan x (new x) k op) e st))
    | inr n ↦ subst (λ (x : ClientState). Stands plan d x k op) (others d n) st
  ]

  pub was_noted : (d k : ℕ) (op : Op) (seen : Seen) → Stands plan d (new d) k op → slice_get (new d).noted k ≡ Some seen → slice_get (at d).noted k ≡ Some seen
  was_noted d k op seen st is = elim (same_or_not d c) [
    | inl e ↦ subst (λ (x : ℕ). slice_get (at x).noted k ≡ Some seen) (sym e) (keeps.noted k seen op (subst (λ (x : ℕ). Stands plan x (new x) k op) e st) (subst (λ (x : ℕ). slice_get (new x).noted k ≡ Some seen) e is))
    | inr n ↦ subst (λ (x : ClientState). slice_get x.noted k ≡ Some seen) (others d n) is
  ]

-- facts on each entry
pub each_entry : {P Q : HistoryEntry → Type 0} (h : History) → ((e : HistoryEntry) → P e → Q e) → AllByRecursion P h → AllByRecursion Q h
each_entry [] f all = tt
each_entry (e ∷ h) f all = (f e all.0, each_entry h f all.1)

-- an open entry of a client that stays is open
pub open_stays : (plan : Plan) (at new : Clients) (e : HistoryEntry) (t : TupleId) → new e.entry.client ≡ at e.entry.client → IsOpen plan at e t → IsOpen plan new e t
open_stays plan at new e t same o = record {
  phase = ap (λ (x : ClientState). x.phase) same ∙ o.phase;
  seq = o.seq ∙ ap (λ (x : ClientState). x.seq) (sym same);
  k = o.k;
  op = o.op;
  stands = subst (λ (x : ClientState). Stands plan e.entry.client x o.k o.op) (sym same) o.stands;
  on = o.on;
}
