-- What is known where a client takes its answer: the packet's entry, and what the switch made of the packet.
use Rattle.std.proofs.Common.{◌≡◌, ℕ, ◌+◌, ◌<◌, ◌==◌, ◌&&◌, false, ℤ, List, slice_get, Some, Contains, refl, sym, ap, subst, ◌∙◌, arith}
use Rattle.std.specs.List.{AllByRecursion}
use Rattle.history_model.specs.History.{History}
use Rattle.switch_packet.specs.Packets.{PlainPacket}
use Rattle.switch_packet.specs.Replay.{replay_all}
use Rattle.switch_model.specs.Switch.{Answer, Desk, Entered, desk_at, entered, answer_of}
use Rattle.switch_model.proofs.Replayed.{answers_replayed}
use Rattle.warm_split.specs.Resolved.{packet_of}
use Rattle.catalogue.specs.Plan.{Plan, hot_cells}
use Rattle.core_model.specs.State.{ClientState, script_now}
use Rattle.fabric_model.specs.Carried.{carried, AreCarriedBy, pending_entry, FitsDesk}
use Rattle.fabric_model.specs.Holds.{Holds}
use Rattle.fabric_model.specs.Intents.{packet_now}
use Rattle.fabric_model.specs.State.{State, client_at}
use Rattle.fabric_model.proofs.CarriedLaws.{Unanswered}
use Rattle.fabric_model.proofs.Kept.{answered_desk}
use Rattle.fabric_model.proofs.Numbers.{pending_at}
use Rattle.fabric_model.proofs.Stand.{parts_at}

pub record IsTaken (plan : Plan) (s : State) (h : Holds plan s) (c : ℕ) (answer : Answer) : Type 0 where
  pub place : ℕ
  pub number : answer.number ≡ place + 1
  pub split : Unanswered answer.number s.history
  pub entry : split.entry ≡ pending_entry c (client_at s c) answer.number
  pub packet : slice_get (entered h.now) place ≡ Some (packet_now plan c (client_at s c))
  pub pairs : slice_get (replay_all (entered h.now) (hot_cells plan)).pairs place ≡ Some answer.pairs
  pub last : (client_at s c).last.number < answer.number
  pub above : AllByRecursion (λ seen. seen.stamp.number < answer.number) (client_at s c).noted

module _ (plan : Plan) (s : State) (h : Holds plan s) (c : ℕ) (answer : Answer) (has : answer_of h.now c ≡ Some answer) where
  abbrev x : ClientState
  x = client_at s c

  -- with the entry's place among the carried ones
  taken_at : (k : ℕ) → desk_at h.now c ≡ Entered k → answer.number ≡ k + 1 → Contains s.history (pending_entry c x (k + 1)) → IsTaken plan s h c answer
  taken_at k desk number there =
      let e = pending_entry c x (k + 1) in
      let parts = parts_at s.history e there.0 there.1 there.2 in
      let pend = pending_at plan (client_at s) (desk_at h.now) (hot_cells plan) parts.before e parts.behind (entered h.now) refl refl
      (subst (λ (l : History). AreCarriedBy plan (client_at s) (desk_at h.now) 0 (hot_cells plan) (carried l) (entered h.now)) parts.whole h.ties.carried_ones) in
      let waits = pend.by.pending refl in
      let place : pend.k ≡ k = same_place (sym waits.desk ∙ desk) in
      let same : pend.k + 1 ≡ answer.number = omega (arith, place, number) in
      let replayed = answers_replayed plan.shape (hot_cells plan) h.now c answer h.reached has in
      let here : replayed.place ≡ k = omega (arith, replayed.number, number) in
      record {
        place = k;
        number = number;
        split = record {
          before = pend.split.before;
          entry = pend.split.entry;
          behind = pend.split.behind;
          whole = parts.whole ∙ pend.split.whole;
          number_is = subst (λ (n : ℕ). pend.split.entry.entry.stamp ≡ record { number = n; sub = 0 }) same pend.split.number_is;
          none = pend.split.none;
          others_before = subst (λ (n : ℕ). AllByRecursion (λ f. (f.entry.stamp.number == n && f.entry.stamp.sub == 0) ≡ false) pend.split.before) same pend.split.others_before;
          others_behind = subst (λ (n : ℕ). AllByRecursion (λ f. (f.entry.stamp.number == n && f.entry.stamp.sub == 0) ≡ false) pend.split.behind) same pend.split.others_behind;
        };
        entry = ap (pending_entry c x) (sym number);
        packet = ap (slice_get (entered h.now)) (sym place) ∙ pend.there ∙ ap Some (pend.by.packet ∙ ap (packet_from_values) (sym waits.noted));
        pairs = ap (slice_get (replay_all (entered h.now) (hot_cells plan)).pairs) (sym here) ∙ replayed.pairs;
        last = subst (λ (n : ℕ). x.last.number < n) same waits.last;
        above = subst (λ (n : ℕ). AllByRecursion (λ seen. seen.stamp.number < n) x.noted) same waits.above;
      }
    where
      same_place : {a b : ℕ} → Entered a ≡ Entered b → a ≡ b
      same_place e = cc

      packet_from_values : List ℤ → PlainPacket
      packet_from_values values = packet_of plan.shape plan.layout c x.seq (script_now plan c x) values

  pub taken_answer : IsTaken plan s h c answer
  taken_answer =
      let from = answered_desk h.now c answer has in
      taken_at from.k from.desk from.number (subst (λ (d : Desk). FitsDesk plan s.history c x d) from.desk (h.ties.under_way c)).1
