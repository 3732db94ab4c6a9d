-- A pending entry becomes answered by the pairs of its packet's replay.
use Rattle.std.proofs.Common.{◌≡◌, ◌≢◌, ℕ, ℤ, ◌+◌, ◌<◌, ◌==◌, ◌&&◌, Bool, true, false, List, [], ◌∷◌, length, slice_get, Some, None, inl, refl, sym, ap, subst, ◌∙◌, arith, if◌then◌else◌, Less}
use Rattle.std.specs.List.{AllByRecursion}
use Rattle.std.proofs.lemmas.Bool.Decides.{nat_tests}
use Rattle.std.proofs.lemmas.Option.{slice_get-map}
use Rattle.std.specs.Option.{option_map}
use Rattle.txn_model.specs.Local.{IsLocalFrom}
use Rattle.txn_model.specs.Places.{Places}
use Rattle.txn_model.specs.declared.op.Op.{Op}
use Rattle.txn_model.specs.declared.pairs.Pair.{Pair}
use Rattle.txn_model.specs.declared.stamp.Seen.{Seen}
use Rattle.txn_model.specs.declared.stamp.Stamp.{Stamp}
use Rattle.history_model.specs.History.{HistoryEntry, History, IsInStampOrder, entry_cmp, with_entry}
use Rattle.history_model.specs.declared.entry.Entry.{Entry}
use Rattle.switch_packet.specs.Packets.{PlainPacket}
use Rattle.switch_packet.specs.Replay.{replay, replay_all}
use Rattle.switch_model.specs.Switch.{Desk, Entered}
use Rattle.warm_split.specs.Joined.{joined}
use Rattle.warm_split.specs.Laws.{IsOneVisit}
use Rattle.warm_split.specs.Resolved.{packet_of}
use Rattle.catalogue.specs.Plan.{Plan, script_at}
use Rattle.core_model.specs.declared.phase.Phase.{Phase}
use Rattle.core_model.specs.declared.phase.Phase.TheVariants.{Waiting, Installing}
use Rattle.core_model.specs.Facts.{Clients, script_of_entry}
use Rattle.core_model.specs.Decision.{cold_steps}
use Rattle.core_model.specs.State.{ClientState, Store, script_now}
use Rattle.core_model.specs.StampOrder.{Below}
use Rattle.core_model.proofs.Decided.{IsDistinct}
use Rattle.core_model.proofs.Fewer.{OthersStay}
use Rattle.core_model.proofs.Stamps.{below_of}
use Rattle.fabric_model.specs.Carried.{carried, IsPending, IsCarriedBy, AreCarriedBy}
use Rattle.fabric_model.specs.ColdFacts.{FitsPhase, ColdFacts}
use Rattle.fabric_model.specs.Intents.{values_of}
use Rattle.fabric_model.specs.State.{answered_ones}
use Rattle.fabric_model.specs.Step.{answered_entry, with_reply}
use Rattle.fabric_model.proofs.Answering.{kept_by_answer}
use Rattle.fabric_model.proofs.CarriedLaws.{carried_by_each, carried-with_reply, answered_ones-with_reply}
use Rattle.fabric_model.proofs.JoinedSteps.{length-joined_from, joined_finds, local-joined}
use Rattle.fabric_model.proofs.Numbers.{Pending}

-- entries keep their place in the order
entry_same : (n : ℕ) (reply : List Pair) (e : HistoryEntry) → (answered_entry n reply e).entry ≡ e.entry
entry_same n reply e = by (e.entry.stamp.number == n && e.entry.stamp.sub == 0)
  where
    by : (b : Bool) → (if b then record e { pairs = Some reply } else e).entry ≡ e.entry
    by true = refl
    by false = refl

pub sorted-with_reply : (n : ℕ) (reply : List Pair) (h : History) → IsInStampOrder h → IsInStampOrder (with_reply n reply h)
sorted-with_reply n reply [] sorted = tt
sorted-with_reply n reply (e ∷ h) sorted = (all h sorted.0, sorted-with_reply n reply h sorted.1)
  where
    all : (l : History) → AllByRecursion (λ f. entry_cmp e.entry f.entry ≡ Less) l → AllByRecursion (λ f. entry_cmp (answered_entry n reply e).entry f.entry ≡ Less) (with_reply n reply l)
    all [] a = tt
    all (f ∷ l) a = (ap (λ (x : Entry). entry_cmp x (answered_entry n reply f).entry) (entry_same n reply e) ∙ ap (entry_cmp e.entry) (entry_same n reply f) ∙ a.0, all l a.1)

from_some : {T : Type 0} {a b : T} → Some a ≡ Some b → a ≡ b
from_some e = cc

some_none : {T : Type 0} {a : T} → Some a ≡ None → ⊥
some_none w = cc

entered_same : (a b : ℕ) → Entered a ≡ Entered b → a ≡ b
entered_same a b e = cc

module _ (plan : Plan) (at new : Clients) (desks desks_new : ℕ → Desk) (store : Store) (h : History) (ps : List PlainPacket) (first : Places)
    (distinct : (d : ℕ) → IsDistinct (script_now plan d (at d)))
    (cold : ColdFacts plan at store (answered_ones h)) (sorted : IsInStampOrder h) (all_carried : AreCarriedBy plan at desks 0 first (carried h) ps)
    (pend : Pending plan at desks first h ps) (visit : IsOneVisit plan.layout (script_of_entry plan pend.split.entry))
    (hot : List Pair) (hot_is : slice_get (replay_all ps first).pairs pend.k ≡ Some hot)
    (others : OthersStay pend.split.entry.entry.client at new) (others_desks : (d : ℕ) → d ≢ pend.split.entry.entry.client → desks_new d ≡ desks d)
    (mine : new pend.split.entry.entry.client ≡ record (at pend.split.entry.entry.client) {
      phase = Installing;
      last = record { number = pend.k + 1; sub = 0 };
      reply = joined plan.layout (script_of_entry plan pend.split.entry) (values_of (at pend.split.entry.entry.client).noted) hot;
    }) where
  abbrev e : HistoryEntry
  e = pend.split.entry

  abbrev c : ℕ
  c = e.entry.client

  abbrev x : ClientState
  x = at c

  abbrev ops : List Op
  ops = script_of_entry plan e

  abbrev reply : List Pair
  reply = joined plan.layout ops (values_of x.noted) hot

  abbrev stamp : Stamp
  stamp = record { number = pend.k + 1; sub = 0 }

  is : IsPending plan at desks pend.k e pend.by.values
  is = pend.by.pending pend.split.none

  fit : FitsPhase plan c x Waiting
  fit = subst (λ (q : Phase). FitsPhase plan c x q) is.phase (cold.fits c)

  undecided : x.phase ≢ Installing
  undecided i = let clash : Waiting ≡ Installing = sym is.phase ∙ i in cc

  same_script : script_now plan c x ≡ ops
  same_script = ap (script_at plan c) is.seq

  packet_here : pend.packet ≡ packet_of plan.shape plan.layout c e.entry.seq ops (values_of x.noted)
  packet_here = pend.by.packet ∙ ap (packet_of plan.shape plan.layout c e.entry.seq ops) (sym is.noted)

  hot_replayed : hot ≡ (replay (packet_of plan.shape plan.layout c e.entry.seq ops (values_of x.noted)) pend.registers).pairs
  hot_replayed = from_some (sym hot_is ∙ pend.pairs) ∙ ap (λ (p : PlainPacket). (replay p pend.registers).pairs) packet_here

  local : IsLocalFrom [] ops reply
  local = subst (λ (l : List Pair). IsLocalFrom [] ops (joined plan.layout ops (values_of x.noted) l)) (sym hot_replayed) (local-joined plan.shape plan.layout c e.entry.seq ops (values_of x.noted) pend.registers visit)

  last_below : Below x.last stamp
  last_below = below_of x.last stamp (inl is.last)

  each_seen : (noted : List Seen) → AllByRecursion (λ seen. seen.stamp.number < pend.k + 1) noted → AllByRecursion (λ seen. Below seen.stamp stamp) noted
  each_seen [] all = tt
  each_seen (seen ∷ noted) all = (below_of seen.stamp stamp (inl all.0), each_seen noted all.1)

  finds : (k : ℕ) (op : Op) (p : Pair) (seen : Seen) → slice_get (cold_steps plan.layout ops reply) k ≡ Some (op, p) → slice_get x.noted k ≡ Some seen → p.was ≡ seen.value
  finds k op p seen there noted =
      joined_finds plan.layout [] ops (values_of x.noted) hot k op p seen.value there (slice_get-map (λ (s : Seen). s.value) x.noted k ∙ ap (option_map (λ (s : Seen). s.value)) noted)

  -- the client that is answered, and the entry with its reply
  abbrev entry_now : HistoryEntry
  entry_now = record { entry = record { stamp = stamp; client = c; seq = x.seq }; pairs = Some reply }

  same_entry : entry_now ≡ record e { pairs = Some reply }
  same_entry = ap (λ (q : ℕ). record { entry = record { stamp = stamp; client = c; seq = q }; pairs = Some reply }) is.seq ∙ ap (λ (st : Stamp). record { entry = record { stamp = st; client = c; seq = e.entry.seq }; pairs = Some reply }) (sym pend.split.number_is)

  pub cold_now : ColdFacts plan new store (answered_ones (with_reply (pend.k + 1) reply h))
  cold_now = subst (ColdFacts plan new store) (ap (λ (f : HistoryEntry). with_entry f (answered_ones h)) same_entry ∙ sym (answered_ones-with_reply (pend.k + 1) reply h pend.split sorted))
      (kept_by_answer plan at new store (answered_ones h) c stamp reply others undecided fit.1 fit.0 distinct cold last_below (each_seen x.noted is.above)
      (length-joined_from plan.layout [] ops (values_of x.noted) hot ∙ ap length (sym same_script))
      (subst (λ (l : List Op). IsLocalFrom [] l reply) (sym same_script) local)
      (subst (λ (l : List Op). (k : ℕ) (op : Op) (p : Pair) (seen : Seen) → slice_get (cold_steps plan.layout l reply) k ≡ Some (op, p) → slice_get x.noted k ≡ Some seen → p.was ≡ seen.value) (sym same_script) finds)
      mine)

  -- another client's pending entry stays pending
  still_pending : (k : ℕ) (f : HistoryEntry) (values : List ℤ) → f.entry.client ≢ c → IsPending plan at desks k f values → IsPending plan new desks_new k f values
  still_pending k f values n p = record {
    phase = ap (λ (y : ClientState). y.phase) (others f.entry.client n) ∙ p.phase;
    seq = ap (λ (y : ClientState). y.seq) (others f.entry.client n) ∙ p.seq;
    noted = ap (λ (y : ClientState). values_of y.noted) (others f.entry.client n) ∙ p.noted;
    desk = others_desks f.entry.client n ∙ p.desk;
    last = subst (λ (y : ClientState). y.last.number < k + 1) (sym (others f.entry.client n)) p.last;
    above = subst (λ (y : ClientState). AllByRecursion (λ seen. seen.stamp.number < k + 1) y.noted) (sym (others f.entry.client n)) p.above;
  }

  both_true : (a b : Bool) → (a && b) ≡ true → a ≡ true
  both_true true b t = refl
  both_true false b t = cc

  test_of : (f : HistoryEntry) → f.entry.stamp ≡ stamp → (f.entry.stamp.number == pend.k + 1 && f.entry.stamp.sub == 0) ≡ true
  test_of f st = ap (λ (z : Stamp). z.number == pend.k + 1 && z.sub == 0) st ∙ itself (pend.k + 1)
    where
      itself : (n : ℕ) → (n == n && 0 == 0) ≡ true
      itself n = grind (arith, nat_tests)

  keeps_one : (i : ℕ) (m : Places) (f : HistoryEntry) (p : PlainPacket) → slice_get (carried h) i ≡ Some f → slice_get ps i ≡ Some p → slice_get (replay_all ps first).pairs i ≡ Some (replay p m).pairs
      → IsCarriedBy plan at desks (0 + i) m f p → IsCarriedBy plan new desks_new (0 + i) m (answered_entry (pend.k + 1) reply f) p
  keeps_one i m f p entry there pairs by = go (f.entry.stamp.number == pend.k + 1 && f.entry.stamp.sub == 0) refl
    where
      equal : (a b : ℕ) → (a == b) ≡ true → a ≡ b
      equal a b t = grind (arith, nat_tests)

      other_client : (f.entry.stamp.number == pend.k + 1 && f.entry.stamp.sub == 0) ≡ false → f.pairs ≡ None → f.entry.client ≢ c
      other_client not none same =
          let mine_too = by.pending none in
          let k_same : 0 + i ≡ pend.k = entered_same (0 + i) pend.k (sym mine_too.desk ∙ ap desks same ∙ is.desk) in
          let yes = test_of f (by.stamp ∙ ap (λ (n : ℕ). record { number = n + 1; sub = 0 }) k_same) in
          let clash : true ≡ false = sym yes ∙ not in
          cc

      go : (b : Bool) → (f.entry.stamp.number == pend.k + 1 && f.entry.stamp.sub == 0) ≡ b → IsCarriedBy plan new desks_new (0 + i) m (if b then record f { pairs = Some reply } else f) p
      go false not = record { stamp = by.stamp; values = by.values; packet = by.packet; reply = by.reply; pending = λ none. still_pending (0 + i) f by.values (other_client not none) (by.pending none) }
      go true hits =
          let number : f.entry.stamp.number ≡ pend.k + 1 = equal f.entry.stamp.number (pend.k + 1) (both_true (f.entry.stamp.number == pend.k + 1) (f.entry.stamp.sub == 0) hits) in
          let place : i ≡ pend.k = omega (arith, number, ap (λ (st : Stamp). st.number) by.stamp) in
          let same : f ≡ e = from_some (sym entry ∙ ap (slice_get (carried h)) place ∙ pend.entry_there) in
          let none : f.pairs ≡ None = ap (λ (g : HistoryEntry). g.pairs) same ∙ pend.split.none in
          let noted : values_of x.noted ≡ by.values = ap (λ (g : HistoryEntry). values_of (at g.entry.client).noted) (sym same) ∙ (by.pending none).noted in
          let replayed : hot ≡ (replay p m).pairs = from_some (sym hot_is ∙ ap (slice_get (replay_all ps first).pairs) (sym place) ∙ pairs) in
          let script : ops ≡ script_of_entry plan f = ap (script_of_entry plan) (sym same) in
          record {
            stamp = by.stamp;
            values = by.values;
            packet = by.packet;
            reply = λ given said. sym (from_some said) ∙ ap (λ (l : List Op). joined plan.layout l (values_of x.noted) hot) script ∙ ap (λ (v : List ℤ). joined plan.layout (script_of_entry plan f) v hot) noted ∙ ap (joined plan.layout (script_of_entry plan f) by.values) replayed;
            pending = λ nothing. absurd (some_none nothing);
          }

  pub carried_now : AreCarriedBy plan new desks_new 0 first (carried (with_reply (pend.k + 1) reply h)) ps
  carried_now = subst (λ (l : History). AreCarriedBy plan new desks_new 0 first l ps) (sym (carried-with_reply (pend.k + 1) reply h))
      (carried_by_each plan at new desks desks_new (answered_entry (pend.k + 1) reply) 0 first (carried h) ps keeps_one all_carried)
