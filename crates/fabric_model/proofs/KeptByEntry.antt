-- A packet that enters the switch for its first pass keeps what holds: it gets the next number, and its transaction an entry.
use Rattle.std.proofs.Common.{◌≡◌, ℕ, ℤ, ◌+◌, ◌<◌, ◌≤◌, true, false, List, [], ◌∷◌, ◌++◌, length, length-append, Some, None, inl, inr, refl, sym, ap, subst, ◌∙◌, arith, Less}
use Rattle.std.specs.Prelude.{Contains}
use Rattle.std.specs.List.{AllByRecursion}
use Rattle.std.proofs.lemmas.List.Elements.{Contains-push, filter-append}
use Rattle.txn_model.specs.declared.pairs.Pair.{Pair}
use Rattle.txn_model.specs.declared.stamp.Seen.{Seen}
use Rattle.host_store.specs.Store.{seen_at}
use Rattle.history_model.specs.History.{HistoryEntry, History, IsInStampOrder, entry_cmp, with_entry}
use Rattle.switch_packet.specs.Packets.{PlainPacket}
use Rattle.switch_packet.specs.Replay.{replay_all}
use Rattle.switch_model.specs.Reached.{IsReached}
use Rattle.switch_model.specs.Switch.{Switch, Posted, Entered, desk_at, entered}
use Rattle.switch_model.proofs.Effects.{FirstEffect}
use Rattle.warm_split.specs.Resolved.{packet_of, packet_from}
use Rattle.catalogue.specs.Plan.{Plan, script_at, hot_cells}
use Rattle.core_model.specs.Facts.{Clients}
use Rattle.core_model.specs.State.{ClientState}
use Rattle.core_model.proofs.Decide.{all-with_entry}
use Rattle.core_model.proofs.Entries.{not_behind}
use Rattle.core_model.proofs.Fewer.{same_or_not, each_entry}
use Rattle.core_model.proofs.Stamps.{below_of, entry_cmp-Below}
use Rattle.fabric_model.specs.Carried.{is_carried, carried, IsPending, IsCarriedBy, AreCarriedBy, FitsDesk, pending_entry}
use Rattle.fabric_model.specs.ColdFacts.{ColdFacts}
use Rattle.fabric_model.specs.Holds.{Holds}
use Rattle.fabric_model.specs.Intents.{values_of, packet_now}
use Rattle.fabric_model.specs.State.{State, client_at}
use Rattle.fabric_model.specs.Step as step
use Rattle.fabric_model.specs.Step.{has_hot}
use Rattle.fabric_model.proofs.CarriedLaws.{carried_stays, carried_append, with_entry-last}
use Rattle.fabric_model.proofs.EntriesKept.{answered_ones-pending}
use Rattle.fabric_model.proofs.KeptByDecision.{still_there, desk_stays}
use Rattle.fabric_model.proofs.TiesKept.{pending_stays}

-- entries at the end of a history in order
sorted_at_end : (h : History) (e : HistoryEntry) → IsInStampOrder h → AllByRecursion (λ f. entry_cmp f.entry e.entry ≡ Less) h → IsInStampOrder (h ++ e ∷ [])
sorted_at_end [] e sorted below = (tt, tt)
sorted_at_end (f ∷ h) e sorted below = (both h sorted.0, sorted_at_end h e sorted.1 below.1)
  where
    both : (l : History) → AllByRecursion (λ g. entry_cmp f.entry g.entry ≡ Less) l → AllByRecursion (λ g. entry_cmp f.entry g.entry ≡ Less) (l ++ e ∷ [])
    both [] all = (below.0, tt)
    both (g ∷ l) all = (all.0, both l all.1)

seq_of_packet : (plan : Plan) (c : ℕ) (x : ClientState) → (packet_now plan c x).seq ≡ x.seq
unfolding packet_from
seq_of_packet plan c x = refl

module _ (plan : Plan) (s : State) (c : ℕ) (holds : Holds plan s) (next : Switch) (reached : IsReached plan.shape (hot_cells plan) next) (size : length next.desks ≡ length holds.now.desks) (effect : FirstEffect holds.now next c) where
  abbrev at : Clients
  at = client_at s

  abbrev x : ClientState
  x = at c

  abbrev packets : List PlainPacket
  packets = entered holds.now

  abbrev number : ℕ
  number = length packets + 1

  waits : FitsDesk plan s.history c x (Posted effect.packet)
  waits = subst (FitsDesk plan s.history c x) effect.posted (holds.ties.under_way c)

  seq_of : (p : PlainPacket) → p ≡ packet_now plan c x → p.seq ≡ x.seq
  seq_of p is = ap (λ (q : PlainPacket). q.seq) is ∙ seq_of_packet plan c x

  abbrev entry : HistoryEntry
  entry = record { entry = record { stamp = record { number = number; sub = 0 }; client = c; seq = effect.packet.seq }; pairs = None }

  below_entry : AllByRecursion (λ f. entry_cmp f.entry entry.entry ≡ Less) s.history
  below_entry = each_entry s.history (λ f low. entry_cmp-Below f.entry entry.entry (below_of f.entry.stamp (record { number = number; sub = 0 }) (inl (omega (arith, low))))) holds.ties.covered.entries

  at_end : with_entry entry s.history ≡ s.history ++ entry ∷ []
  at_end = with_entry-last entry s.history (each_entry s.history (λ f low less. not_behind entry.entry f.entry (below_of f.entry.stamp (record { number = number; sub = 0 }) (inl (omega (arith, low)))) less) holds.ties.covered.entries)

  more : (n : ℕ) → n ≤ length packets → n ≤ length (entered next)
  more n low = omega (arith, low, ap length effect.entered, length-append packets (effect.packet ∷ []))

  pending : IsPending plan at (desk_at next) (length packets) entry (values_of x.noted)
  pending = record {
    phase = waits.0;
    seq = sym (seq_of effect.packet waits.1);
    noted = refl;
    desk = effect.desk.this;
    last = omega (arith, holds.ties.covered.last c);
    above = each_seen x.noted (holds.ties.covered.noted c);
  }
    where
      each_seen : (l : List Seen) → AllByRecursion (λ seen. seen.stamp.number ≤ length packets) l → AllByRecursion (λ seen. seen.stamp.number < length packets + 1) l
      each_seen [] all = tt
      each_seen (seen ∷ l) all = (omega (arith, all.0), each_seen l all.1)

  by_packet : IsCarriedBy plan at (desk_at next) (0 + length packets) (replay_all packets (hot_cells plan)).after entry effect.packet
  by_packet =
      let zero_plus : length packets ≡ 0 + length packets = omega arith in
      subst (λ (k : ℕ). IsCarriedBy plan at (desk_at next) k (replay_all packets (hot_cells plan)).after entry effect.packet) zero_plus (record {
        stamp = refl;
        values = values_of x.noted;
        packet = waits.1 ∙ ap (λ (q : ℕ). packet_of plan.shape plan.layout c q (script_at plan c q) (values_of x.noted)) (sym (seq_of effect.packet waits.1));
        reply = λ pairs said. absurd (none_some said);
        pending = λ _. pending;
      })
    where
      none_some : {pairs : List Pair} → None ≡ Some pairs → ⊥
      none_some e = cc

  -- the other desks are those that the packets before had
  stays : (j : ℕ) (e : HistoryEntry) (values : List ℤ) → IsPending plan at (desk_at holds.now) j e values → IsPending plan at (desk_at next) j e values
  stays j e values p = elim (same_or_not e.entry.client c) [
    | inl same ↦ absurd (clash (sym effect.posted ∙ ap (desk_at holds.now) (sym same) ∙ p.desk))
    | inr n ↦ pending_stays plan at at (desk_at holds.now) (desk_at next) j e values refl (effect.desk.others e.entry.client n) p
  ]
    where
      clash : Posted effect.packet ≡ Entered j → ⊥
      clash w = cc

  carried_now : AreCarriedBy plan at (desk_at next) 0 (hot_cells plan) (carried (with_entry entry s.history)) (entered next)
  carried_now =
      subst (λ (l : History). AreCarriedBy plan at (desk_at next) 0 (hot_cells plan) l (entered next)) (sym (ap carried at_end ∙ filter-append is_carried s.history (entry ∷ [])))
      (subst (AreCarriedBy plan at (desk_at next) 0 (hot_cells plan) (carried s.history ++ entry ∷ [])) (sym effect.entered)
      (carried_append plan at (desk_at next) 0 (hot_cells plan) (carried s.history) packets entry effect.packet
      (carried_stays plan at at (desk_at holds.now) (desk_at next) 0 (hot_cells plan) (carried s.history) packets stays holds.ties.carried_ones) by_packet))

  here : Contains (with_entry entry s.history) (pending_entry c x number)
  here = subst (λ (l : History). Contains l (pending_entry c x number)) (sym at_end) (subst (Contains (s.history ++ entry ∷ [])) same_entry (Contains-push s.history entry))
    where
      same_entry : entry ≡ pending_entry c x number
      same_entry = ap (λ (q : ℕ). record { entry = record { stamp = record { number = number; sub = 0 }; client = c; seq = q }; pairs = None }) (seq_of effect.packet waits.1)

  pub entered_holds : Holds plan (step.entered s c effect.packet number next)
  unfolding step.entered step.switched
  entered_holds = record {
    now = next;
    up = refl;
    reached = reached;
    desks = size ∙ holds.desks;
    ties = record {
      cold = subst (ColdFacts plan at s.store) (sym (answered_ones-pending entry s.history refl)) holds.ties.cold;
      installs = holds.ties.installs;
      hot_ones = holds.ties.hot_ones;
      sorted = subst IsInStampOrder (sym at_end) (sorted_at_end s.history entry holds.ties.sorted below_entry);
      unanswered = all-with_entry (λ e. e.pairs ≡ None → is_carried e ≡ true) entry s.history holds.ties.unanswered (λ none. refl);
      hosts = all-with_entry (λ e. is_carried e ≡ false → has_hot plan (script_at plan e.entry.client e.entry.seq) ≡ false) entry s.history holds.ties.hosts (λ not. absurd (true_false not));
      carried_ones = carried_now;
      under_way = λ d. elim (same_or_not d c) [
        | inl e ↦ subst (λ (i : ℕ). FitsDesk plan (with_entry entry s.history) i (at i) (desk_at next i)) (sym e) (subst (FitsDesk plan (with_entry entry s.history) c x) (sym effect.desk.this) (waits.0, here))
        | inr n ↦ subst (FitsDesk plan (with_entry entry s.history) d (at d)) (sym (effect.desk.others d n)) (desk_stays plan s.history (with_entry entry s.history) d (at d) (desk_at holds.now d) (λ f. still_there entry f s.history holds.ties.sorted) (holds.ties.under_way d))
      ];
      covered = record {
        last = λ d. more (at d).last.number (holds.ties.covered.last d);
        noted = λ d. each_noted (at d).noted (holds.ties.covered.noted d);
        store_has = λ t. more (seen_at s.store t).stamp.number (holds.ties.covered.store_has t);
        entries = all-with_entry (λ e. e.entry.stamp.number ≤ length (entered next)) entry s.history (each_entry s.history (λ e low. more e.entry.stamp.number low) holds.ties.covered.entries) (omega (arith, ap length effect.entered, length-append packets (effect.packet ∷ [])));
      };
    };
  }
    where
      true_false : true ≡ false → ⊥
      true_false e = cc

      each_noted : (l : List Seen) → AllByRecursion (λ seen. seen.stamp.number ≤ length packets) l → AllByRecursion (λ seen. seen.stamp.number ≤ length (entered next)) l
      each_noted [] all = tt
      each_noted (seen ∷ l) all = (more seen.stamp.number all.0, each_noted l all.1)
