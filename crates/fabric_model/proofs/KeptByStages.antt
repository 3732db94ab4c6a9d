-- A packet that is posted, one that enters for a later pass, and a stage keep what holds.
use Rattle.std.proofs.Common.{◌≡◌, ◌≢◌, ◌⊎◌, ℕ, ◌<◌, ◌≤◌, true, List, length, length-set, set, get_or, inl, inr, refl, sym, ap, subst, ◌∙◌}
use Rattle.std.specs.List.{AllByRecursion}
use Rattle.history_model.specs.History.{History}
use Rattle.switch_packet.specs.Packets.{PlainPacket}
use Rattle.switch_model.specs.Reached.{IsReached}
use Rattle.switch_model.specs.Switch.{Switch, Desk, desk_at, entered}
use Rattle.switch_model.proofs.Effects.{PostEffect}
use Rattle.catalogue.specs.Plan.{Plan, hot_cells}
use Rattle.core_model.specs.declared.phase.Phase.{Phase}
use Rattle.core_model.specs.declared.phase.Phase.TheVariants.{Logged, Waiting, Installing}
use Rattle.core_model.specs.Facts.{Clients}
use Rattle.core_model.specs.State.{ClientState, Store, at_item, zero_stamp, script_now}
use Rattle.core_model.proofs.Fewer.{OthersStay, KeepsLocks, same_or_not}
use Rattle.core_model.proofs.Moves.{moved_client, others_stay}
use Rattle.fabric_model.specs.Carried.{carried, FitsDesk}
use Rattle.fabric_model.specs.ColdFacts.{FitsPhase}
use Rattle.fabric_model.specs.Holds.{Ties, Holds}
use Rattle.fabric_model.specs.Intents.{packet_now}
use Rattle.fabric_model.specs.State.{State, client_at, answered_ones}
use Rattle.fabric_model.specs.Step.{posted, switched, has_hot}
use Rattle.fabric_model.proofs.CarriedLaws.{carried_stays}
use Rattle.fabric_model.proofs.Fewer.{kept_by_fewer}
use Rattle.fabric_model.proofs.TiesKept.{pending_stays}

-- the same desks and the same packets
pub same_desks : (plan : Plan) (at : Clients) (store : Store) (h : History) (desks desks_new : ℕ → Desk) (packets packets_new : List PlainPacket) → ((d : ℕ) → desks_new d ≡ desks d) → packets_new ≡ packets → Ties plan at store h desks packets → Ties plan at store h desks_new packets_new
same_desks plan at store h desks desks_new packets packets_new same same_packets ties = subst (Ties plan at store h desks_new) (sym same_packets) (record {
  cold = ties.cold;
  installs = ties.installs;
  hot_ones = ties.hot_ones;
  sorted = ties.sorted;
  unanswered = ties.unanswered;
  hosts = ties.hosts;
  carried_ones = carried_stays plan at at desks desks_new 0 (hot_cells plan) (carried h) packets (λ j e values p. pending_stays plan at at desks desks_new j e values refl (same e.entry.client) p) ties.carried_ones;
  under_way = λ d. subst (FitsDesk plan h d (at d)) (sym (same d)) (ties.under_way d);
  covered = ties.covered;
})

module _ (plan : Plan) (s : State) (holds : Holds plan s) where
  -- an event of the switch that changes no desk and lets no packet in
  pub switched_holds : (next : Switch) → IsReached plan.shape (hot_cells plan) next → length next.desks ≡ length holds.now.desks → ((d : ℕ) → desk_at next d ≡ desk_at holds.now d) → entered next ≡ entered holds.now → Holds plan (switched s next)
  unfolding switched
  switched_holds next reached size same same_packets = record {
    now = next;
    up = refl;
    reached = reached;
    desks = size ∙ holds.desks;
    ties = same_desks plan (client_at s) s.store s.history (desk_at holds.now) (desk_at next) (entered holds.now) (entered next) same same_packets holds.ties;
  }

module _ (plan : Plan) (s : State) (c : ℕ) (lt : c < length s.clients) (holds : Holds plan s) where
  abbrev x : ClientState
  x = client_at s c

  abbrev y : ClientState
  y = record x { phase = Waiting }

  abbrev new : Clients
  new d = get_or (set s.clients c y) d (at_item 0 1 zero_stamp)

  others : OthersStay c (client_at s) new
  others = others_stay s.clients c y

  mine : new c ≡ y
  mine = moved_client s.clients c y lt

  pub posted_holds : (next : Switch) → x.phase ≡ Logged → IsReached plan.shape (hot_cells plan) next → length next.desks ≡ length holds.now.desks → PostEffect holds.now next c (packet_now plan c x) → Holds plan (posted s c x next)
  unfolding posted
  posted_holds next is reached size effect = record {
    now = next;
    up = refl;
    reached = reached;
    desks = size ∙ holds.desks ∙ sym (length-set s.clients c y);
    ties = subst (Ties plan new s.store s.history (desk_at next)) (sym effect.entered) (record {
      cold = kept_by_fewer plan (client_at s) new s.store (answered_ones s.history) c others
          (subst (KeepsLocks plan c x) (sym mine) (record { lock = λ k op st. record { from = st.from; to = st.to; is = st.is }; noted = λ k seen op st at. at }))
          (λ e. let clash : Logged ≡ Installing = sym is ∙ e in cc) (λ e. let clash : Waiting ≡ Installing = ap (λ (w : ClientState). w.phase) (sym mine) ∙ e in cc)
          (subst (λ (w : ClientState). FitsPhase plan c w w.phase) (sym mine) fit) (ap (λ (w : ClientState). w.last) mine) holds.ties.cold;
      installs = λ d. elim (same_or_not d c) [
        | inl e ↦ subst (λ (i : ℕ). (new i).phase ≡ Installing → (new i).installed < length (new i).noted) (sym e) (subst (λ (z : ClientState). z.phase ≡ Installing → z.installed < length z.noted) (sym mine) (λ i. absurd (waits_on i)))
        | inr n ↦ subst (λ (z : ClientState). z.phase ≡ Installing → z.installed < length z.noted) (sym (others d n)) (holds.ties.installs d)
      ];
      hot_ones = λ d. elim (same_or_not d c) [
        | inl e ↦ subst (λ (i : ℕ). ((new i).phase ≡ Logged) ⊎ ((new i).phase ≡ Waiting) → has_hot plan (script_now plan i (new i)) ≡ true) (sym e) (subst (λ (z : ClientState). (z.phase ≡ Logged) ⊎ (z.phase ≡ Waiting) → has_hot plan (script_now plan c z) ≡ true) (sym mine) (λ _. holds.ties.hot_ones c (inl is)))
        | inr n ↦ subst (λ (z : ClientState). (z.phase ≡ Logged) ⊎ (z.phase ≡ Waiting) → has_hot plan (script_now plan d z) ≡ true) (sym (others d n)) (holds.ties.hot_ones d)
      ];
      sorted = holds.ties.sorted;
      unanswered = holds.ties.unanswered;
      hosts = holds.ties.hosts;
      carried_ones = carried_stays plan (client_at s) new (desk_at holds.now) (desk_at next) 0 (hot_cells plan) (carried s.history) (entered holds.now)
          (λ j e values p. let n = (λ (same : e.entry.client ≡ c). not_waiting (subst (λ (i : ℕ). (client_at s i).phase ≡ Waiting) same p.phase)) in
          pending_stays plan (client_at s) new (desk_at holds.now) (desk_at next) j e values (others e.entry.client n) (effect.desk.others e.entry.client n) p) holds.ties.carried_ones;
      under_way = λ d. elim (same_or_not d c) [
        | inl e ↦ subst (λ (i : ℕ). FitsDesk plan s.history i (new i) (desk_at next i)) (sym e) (subst (λ (z : ClientState). FitsDesk plan s.history c z (desk_at next c)) (sym mine) (subst (FitsDesk plan s.history c y) (sym effect.desk.this) (refl, refl)))
        | inr n ↦ subst (λ (z : ClientState). FitsDesk plan s.history d z (desk_at next d)) (sym (others d n)) (subst (FitsDesk plan s.history d (client_at s d)) (sym (effect.desk.others d n)) (holds.ties.under_way d))
      ];
      covered = record {
        last = λ d. elim (same_or_not d c) [
          | inl e ↦ subst (λ (i : ℕ). (new i).last.number ≤ length (entered holds.now)) (sym e) (subst (λ (z : ClientState). z.last.number ≤ length (entered holds.now)) (sym mine) (holds.ties.covered.last c))
          | inr n ↦ subst (λ (z : ClientState). z.last.number ≤ length (entered holds.now)) (sym (others d n)) (holds.ties.covered.last d)
        ];
        noted = λ d. elim (same_or_not d c) [
          | inl e ↦ subst (λ (i : ℕ). AllByRecursion (λ seen. seen.stamp.number ≤ length (entered holds.now)) (new i).noted) (sym e) (subst (λ (z : ClientState). AllByRecursion (λ seen. seen.stamp.number ≤ length (entered holds.now)) z.noted) (sym mine) (holds.ties.covered.noted c))
          | inr n ↦ subst (λ (z : ClientState). AllByRecursion (λ seen. seen.stamp.number ≤ length (entered holds.now)) z.noted) (sym (others d n)) (holds.ties.covered.noted d)
        ];
        store_has = holds.ties.covered.store_has;
        entries = holds.ties.covered.entries;
      };
    });
  }
    where
      fit : FitsPhase plan c x Logged
      fit = subst (λ (q : Phase). FitsPhase plan c x q) is (holds.ties.cold.fits c)

      not_waiting : x.phase ≢ Waiting
      not_waiting e = let clash : Logged ≡ Waiting = sym is ∙ e in cc

      waits_on : Waiting ≡ Installing → ⊥
      waits_on e = cc
