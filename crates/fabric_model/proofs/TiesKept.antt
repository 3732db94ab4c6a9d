-- The ties between clients, store, history and switch, when one client changes and nothing else does but the store.
use Rattle.std.proofs.Common.{◌≡◌, ◌≢◌, ◌⊎◌, ℕ, ℤ, ◌+◌, ◌<◌, ◌≤◌, true, List, length, inl, inr, refl, sym, ap, subst, ◌∙◌}
use Rattle.std.specs.List.{AllByRecursion}
use Rattle.txn_model.specs.declared.op.TupleId.{TupleId}
use Rattle.host_store.specs.Store.{Store, seen_at}
use Rattle.history_model.specs.History.{HistoryEntry, History}
use Rattle.switch_packet.specs.Packets.{PlainPacket}
use Rattle.switch_model.specs.Switch.{Desk, Vacant, Posted, Entered}
use Rattle.catalogue.specs.Plan.{Plan, hot_cells}
use Rattle.core_model.specs.declared.phase.Phase.TheVariants.{Logged, Waiting, Installing}
use Rattle.core_model.specs.Facts.{Clients}
use Rattle.core_model.specs.State.{ClientState, script_now}
use Rattle.core_model.proofs.Fewer.{OthersStay, same_or_not}
use Rattle.fabric_model.specs.Carried.{carried, IsPending, AreCarriedBy, FitsDesk}
use Rattle.fabric_model.specs.ColdFacts.{ColdFacts}
use Rattle.fabric_model.specs.Holds.{HostFacts, Ties}
use Rattle.fabric_model.specs.Intents.{values_of}
use Rattle.fabric_model.specs.State.{answered_ones}
use Rattle.fabric_model.specs.Step.{has_hot}
use Rattle.fabric_model.proofs.CarriedLaws.{carried_stays}

-- what is asked of a client that changed
pub record IsWell (plan : Plan) (most : ℕ) (c : ℕ) (y : ClientState) : Type 0 where
  pub installs : y.phase ≡ Installing → y.installed < length y.noted
  pub hot : (y.phase ≡ Logged) ⊎ (y.phase ≡ Waiting) → has_hot plan (script_now plan c y) ≡ true
  pub last : y.last.number ≤ most
  pub noted : AllByRecursion (λ seen. seen.stamp.number ≤ most) y.noted

-- a pending entry of a client that stays
pub pending_stays : (plan : Plan) (at new : Clients) (desks desks_new : ℕ → Desk) (k : ℕ) (e : HistoryEntry) (values : List ℤ)
    → new e.entry.client ≡ at e.entry.client → desks_new e.entry.client ≡ desks e.entry.client → IsPending plan at desks k e values → IsPending plan new desks_new k e values
pending_stays plan at new desks desks_new k e values same same_desk p = record {
  phase = ap (λ (y : ClientState). y.phase) same ∙ p.phase;
  seq = ap (λ (y : ClientState). y.seq) same ∙ p.seq;
  noted = ap (λ (y : ClientState). values_of y.noted) same ∙ p.noted;
  desk = same_desk ∙ p.desk;
  last = subst (λ (y : ClientState). y.last.number < k + 1) (sym same) p.last;
  above = subst (λ (y : ClientState). AllByRecursion (λ seen. seen.stamp.number < k + 1) y.noted) (sym same) p.above;
}

-- the facts on the hosts are among the ties
pub host_facts : (plan : Plan) (at : Clients) (store : Store) (h : History) (desks : ℕ → Desk) (packets : List PlainPacket) → Ties plan at store h desks packets → HostFacts plan (length packets) at store h
host_facts plan at store h desks packets ties = record {
  cold = ties.cold;
  installs = ties.installs;
  hot_ones = ties.hot_ones;
  sorted = ties.sorted;
  unanswered = ties.unanswered;
  hosts = ties.hosts;
  covered = ties.covered;
}

pub tied : (plan : Plan) (at : Clients) (store : Store) (h : History) (desks : ℕ → Desk) (packets : List PlainPacket) → HostFacts plan (length packets) at store h → AreCarriedBy plan at desks 0 (hot_cells plan) (carried h) packets
    → ((c : ℕ) → FitsDesk plan h c (at c) (desks c)) → Ties plan at store h desks packets
tied plan at store h desks packets facts carried_by fits = record {
  cold = facts.cold;
  installs = facts.installs;
  hot_ones = facts.hot_ones;
  sorted = facts.sorted;
  unanswered = facts.unanswered;
  hosts = facts.hosts;
  carried_ones = carried_by;
  under_way = fits;
  covered = facts.covered;
}

module _ (plan : Plan) (at new : Clients) (store store_new : Store) (h : History) (most : ℕ) (c : ℕ)
    (others : OthersStay c at new) (well : IsWell plan most c (new c)) (store_covered : (t : TupleId) → (seen_at store_new t).stamp.number ≤ most)
    (cold : ColdFacts plan new store_new (answered_ones h)) (facts : HostFacts plan most at store h) where
  pub facts_by_client : HostFacts plan most new store_new h
  facts_by_client = record {
    cold = cold;
    installs = λ d. elim (same_or_not d c) [
      | inl e ↦ subst (λ (x : ℕ). (new x).phase ≡ Installing → (new x).installed < length (new x).noted) (sym e) well.installs
      | inr n ↦ subst (λ (y : ClientState). y.phase ≡ Installing → y.installed < length y.noted) (sym (others d n)) (facts.installs d)
    ];
    hot_ones = λ d. elim (same_or_not d c) [
      | inl e ↦ subst (λ (x : ℕ). ((new x).phase ≡ Logged) ⊎ ((new x).phase ≡ Waiting) → has_hot plan (script_now plan x (new x)) ≡ true) (sym e) well.hot
      | inr n ↦ subst (λ (y : ClientState). (y.phase ≡ Logged) ⊎ (y.phase ≡ Waiting) → has_hot plan (script_now plan d y) ≡ true) (sym (others d n)) (facts.hot_ones d)
    ];
    sorted = facts.sorted;
    unanswered = facts.unanswered;
    hosts = facts.hosts;
    covered = record {
      last = λ d. elim (same_or_not d c) [
        | inl e ↦ subst (λ (x : ℕ). (new x).last.number ≤ most) (sym e) well.last
        | inr n ↦ subst (λ (y : ClientState). y.last.number ≤ most) (sym (others d n)) (facts.covered.last d)
      ];
      noted = λ d. elim (same_or_not d c) [
        | inl e ↦ subst (λ (x : ℕ). AllByRecursion (λ seen. seen.stamp.number ≤ most) (new x).noted) (sym e) well.noted
        | inr n ↦ subst (λ (y : ClientState). AllByRecursion (λ seen. seen.stamp.number ≤ most) y.noted) (sym (others d n)) (facts.covered.noted d)
      ];
      store_has = store_covered;
      entries = facts.covered.entries;
    };
  }

module _ (plan : Plan) (at new : Clients) (store store_new : Store) (h : History) (desks : ℕ → Desk) (packets : List PlainPacket) (c : ℕ)
    (others : OthersStay c at new) (before : (at c).phase ≢ Waiting) (after : (new c).phase ≢ Waiting) (ties : Ties plan at store h desks packets) where
  vacant : (desk : Desk) → FitsDesk plan h c (at c) desk → FitsDesk plan h c (new c) desk
  vacant Vacant fits = after
  vacant (Posted p) fits = absurd (before fits.0)
  vacant (Entered k) fits = absurd (before fits.0)

  pub ties_by_client : HostFacts plan (length packets) new store_new h → Ties plan new store_new h desks packets
  ties_by_client facts = tied plan new store_new h desks packets facts
      (carried_stays plan at new desks desks 0 (hot_cells plan) (carried h) packets
      (λ j e values p. pending_stays plan at new desks desks j e values (others e.entry.client (λ same. before (subst (λ (x : ℕ). (at x).phase ≡ Waiting) same p.phase))) refl p) ties.carried_ones)
      (λ d. elim (same_or_not d c) [
        | inl e ↦ subst (λ (x : ℕ). FitsDesk plan h x (new x) (desks x)) (sym e) (vacant (desks c) (ties.under_way c))
        | inr n ↦ subst (λ (y : ClientState). FitsDesk plan h d y (desks d)) (sym (others d n)) (ties.under_way d)
      ])
