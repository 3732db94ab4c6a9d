-- Clients that wait again behind a recovery: their locks stay, and so do the facts on the cold side.
use Rattle.std.proofs.Common.{◌≡◌, ◌⊎◌, ℕ, zero, suc, ◌<◌, true, false, List, [], ◌∷◌, length, map, get_or, inl, inr, refl, ap, arith}
use Rattle.txn_model.specs.declared.op.Op.{Op}
use Rattle.txn_model.specs.declared.op.TupleId.{TupleId}
use Rattle.host_store.specs.Store.{Store}
use Rattle.history_model.specs.History.{HistoryEntry, History}
use Rattle.catalogue.specs.Plan.{Plan}
use Rattle.core_model.specs.declared.phase.Phase.{Phase}
use Rattle.core_model.specs.declared.phase.Phase.TheVariants.{Ready, Locking, Aborting, Logged, Waiting, Installing, Finished}
use Rattle.core_model.specs.Facts.{Clients, Stands, IsOpen, NoOpenWriter}
use Rattle.core_model.specs.State.{ClientState, at_item, zero_stamp}
use Rattle.core_model.specs.StampOrder.{AtMost}
use Rattle.core_model.proofs.Fewer.{each_entry}
use Rattle.fabric_model.specs.ColdFacts.{FitsPhase, ColdFacts}
use Rattle.fabric_model.specs.Recorded.{has_open}
use Rattle.fabric_model.specs.Recovery.{waits_again, resumed}

pub waits_of_open : (p : Phase) → has_open p ≡ true → waits_again p ≡ Waiting
waits_of_open Ready e = cc
waits_of_open Locking e = cc
waits_of_open Aborting e = cc
waits_of_open Logged e = refl
waits_of_open Waiting e = refl
waits_of_open Installing e = cc
waits_of_open Finished e = cc

pub open_of_waits : (p : Phase) → waits_again p ≡ Waiting → has_open p ≡ true
open_of_waits Ready e = cc
open_of_waits Locking e = cc
open_of_waits Aborting e = cc
open_of_waits Logged e = refl
open_of_waits Waiting e = refl
open_of_waits Installing e = cc
open_of_waits Finished e = cc

pub installs_before : (p : Phase) → waits_again p ≡ Installing → p ≡ Installing
installs_before Ready e = cc
installs_before Locking e = cc
installs_before Aborting e = cc
installs_before Logged e = cc
installs_before Waiting e = cc
installs_before Installing e = refl
installs_before Finished e = cc

pub not_logged : (p : Phase) → waits_again p ≡ Logged → ⊥
not_logged Ready e = cc
not_logged Locking e = cc
not_logged Aborting e = cc
not_logged Logged e = cc
not_logged Waiting e = cc
not_logged Installing e = cc
not_logged Finished e = cc

pub open_cases : (p : Phase) → has_open p ≡ true → (p ≡ Logged) ⊎ (p ≡ Waiting)
open_cases Ready e = cc
open_cases Locking e = cc
open_cases Aborting e = cc
open_cases Logged e = inl refl
open_cases Waiting e = inr refl
open_cases Installing e = cc
open_cases Finished e = cc

fits_again : (plan : Plan) (c : ℕ) (x : ClientState) (p : Phase) → FitsPhase plan c x p → FitsPhase plan c (resumed x) (waits_again p)
fits_again plan c x Ready fit = fit
fits_again plan c x Locking fit = fit
fits_again plan c x Aborting fit = fit
fits_again plan c x Logged fit = fit
fits_again plan c x Waiting fit = fit
fits_again plan c x Installing fit = fit
fits_again plan c x Finished fit = fit

module _ (plan : Plan) (at : Clients) where
  abbrev pub again : Clients
  again d = resumed (at d)

  lock_before : (c k : ℕ) (op : Op) → Stands plan c (again c) k op → Stands plan c (at c) k op
  lock_before c k op st = record { from = st.from; to = st.to; is = st.is }

  lock_again : (c k : ℕ) (op : Op) → Stands plan c (at c) k op → Stands plan c (again c) k op
  lock_again c k op st = record { from = st.from; to = st.to; is = st.is }

  open_again : (e : HistoryEntry) (t : TupleId) → IsOpen plan at e t → IsOpen plan again e t
  open_again e t o = record { seq = o.seq; phase = ap waits_again o.phase; k = o.k; op = o.op; stands = lock_again e.entry.client o.k o.op o.stands; on = o.on }

  or_again : (P : Type 0) (e : HistoryEntry) (t : TupleId) → IsOpen plan at e t ⊎ P → IsOpen plan again e t ⊎ P
  or_again P e t (inl o) = inl (open_again e t o)
  or_again P e t (inr p) = inr p

  no_writer : (t : TupleId) → NoOpenWriter plan again t → NoOpenWriter plan at t
  no_writer t none d k op st i on = none d k op (lock_again d k op st) (ap waits_again i) on

  pub cold_again : (store : Store) (h : History) → ColdFacts plan at store h → ColdFacts plan again store h
  cold_again store h f = record {
    fits = λ c. fits_again plan c (at c) (at c).phase (f.fits c);
    apart = λ c d k j op other n one two same. f.apart c d k j op other n (lock_before c k op one) (lock_before d j other two) same;
    value = λ c k op seen st is. f.value c k op seen (lock_before c k op st) is;
    writers = λ c k op seen st is. each_entry h (λ e low w. or_again (AtMost e.entry.stamp seen.stamp) e op.tuple (low w)) (f.writers c k op seen (lock_before c k op st) is);
    namers = λ c k op seen st read is. each_entry h (λ e low w. or_again (AtMost e.entry.stamp seen.stamp) e op.tuple (low w)) (f.namers c k op seen (lock_before c k op st) read is);
    settled = λ t cold. each_entry h (λ e low w. or_again _ e t (low w)) (f.settled t cold);
    own = f.own;
    sorted = f.sorted;
    local = f.local;
    chains = f.chains;
    unchanged = λ t cold quiet. f.unchanged t cold (no_writer t quiet);
    changed = λ c k op p st i read is. f.changed c k op p (lock_before c k op st) (installs_before (at c).phase i) read is;
    found = λ c k op p seen st i is noted. f.found c k op p seen (lock_before c k op st) (installs_before (at c).phase i) is noted;
    leaves = λ c k op p i is read. f.leaves c k op p (installs_before (at c).phase i) is read;
  }

-- ---- lists of clients

pub client_again : (clients : List ClientState) (d : ℕ) → get_or (map resumed clients) d (at_item 0 1 zero_stamp) ≡ resumed (get_or clients d (at_item 0 1 zero_stamp))
client_again [] d = refl
client_again (x ∷ clients) zero = refl
client_again (x ∷ clients) (suc d) = client_again clients d

-- a client with an open intent is one of the list
pub open_within : (clients : List ClientState) (d : ℕ) → has_open (get_or clients d (at_item 0 1 zero_stamp)).phase ≡ true → d < length clients
open_within [] d e = absurd (clash e)
  where
    clash : false ≡ true → ⊥
    clash i = cc
open_within (x ∷ clients) zero e = omega arith
open_within (x ∷ clients) (suc d) e = omega (arith, open_within clients d e)
