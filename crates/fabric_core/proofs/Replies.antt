-- The answer to a client's packet, and the entry that it answers.
use Rattle.std.proofs.Common.{◌≡◌, ℕ, zero, suc, ◌+◌, ◌<◌, ◌≤◌, Bool, true, false, List, [], ◌∷◌, ◌++◌, length, Some, None, inl, inr, refl, sym, ap, subst, ◌∙◌, arith, if◌then◌else◌}
use Rattle.std.specs.Prelude.{slice_get}
use Rattle.std.specs.List.{AllByRecursion}
use Rattle.txn_model.specs.declared.pairs.Pair.{Pair}
use Rattle.history_model.specs.History.{HistoryEntry, History}
use Rattle.history_model.specs.InOrder.{seqs_of}
use Rattle.history_core.specs.Answers as kept
use Rattle.history_core.specs.Answers.{entries_of, IsOpenLast}
use Rattle.history_core.specs.Runs.{ops_at, runs_of}
use Rattle.switch_packet.specs.Packets.{PlainPacket}
use Rattle.switch_packet.specs.Replay.{replay, replay_all}
use Rattle.switch_packet.proofs.ReplayLaws.{length-replay}
use Rattle.switch_model.specs.Flight.{is_done, flight_at}
use Rattle.switch_model.specs.Switch.{Switch, Answer, Desk, Vacant, Posted, Entered, desk_at, entered, answer_of, answer_on}
use Rattle.switch_model.proofs.Replayed.{answers_replayed}
use Rattle.warm_split.specs.Joined.{joined}
use Rattle.warm_split.specs.Laws.{IsOneVisit}
use Rattle.warm_split.specs.Sides.{hot_ops}
use Rattle.catalogue.specs.Plan.{Plan, hot_cells}
use Rattle.core_model.specs.declared.phase.Phase.TheVariants.{Waiting}
use Rattle.core_model.specs.Laws.{IsAscending}
use Rattle.core_model.specs.State.{ClientState, script_now}
use Rattle.fabric_model.specs.Carried.{carried, AreCarriedBy, FitsDesk, pending_entry}
use Rattle.fabric_model.specs.Holds.{Holds}
use Rattle.fabric_model.specs.Intents.{values_of}
use Rattle.fabric_model.specs.Laws.{IsReached}
use Rattle.fabric_model.specs.State.{State, client_at}
use Rattle.fabric_model.specs.Step.{has_hot, with_reply}
use Rattle.fabric_model.proofs.CarriedLaws.{with_reply-split}
use Rattle.fabric_model.proofs.InOrder.{IsPastAt, desk_in, ordered}
use Rattle.fabric_model.proofs.JoinedSteps.{length-joined_from, length-packet}
use Rattle.fabric_model.proofs.Kept.{some_hot, visit_of}
use Rattle.fabric_model.proofs.Legal.{holds_now, holds_up}
use Rattle.fabric_model.proofs.Numbers.{Pending, pending_at}
use Rattle.fabric_core.proofs.Items.{Around, around, is_last, ops_of_item, replied_around}

there_below : (l : List PlainPacket) (k : ℕ) (p : PlainPacket) → slice_get l k ≡ Some p → k < length l
there_below [] k p is = cc
there_below (q ∷ l) zero p is = omega arith
there_below (q ∷ l) (suc k) p is = let rest = there_below l k p is in omega arith

same_some : {T : Type 0} {a b : T} → Some a ≡ Some b → a ≡ b
same_some e = cc

-- where an answer comes from
pub record ComesFrom (now : Switch) (c : ℕ) (answer : Answer) : Type 0 where
  pub k : ℕ
  pub desk : desk_at now c ≡ Entered k
  pub number : answer.number ≡ k + 1

pub comes_from : (now : Switch) (c : ℕ) (answer : Answer) → answer_of now c ≡ Some answer → ComesFrom now c answer
comes_from now c answer has = by (desk_at now c) refl has
  where
    done : (k : ℕ) (b : Bool) → desk_at now c ≡ Entered k → (if b then Some (record { number = k + 1; pairs = (flight_at now.flights k).pairs }) else None) ≡ Some answer → ComesFrom now c answer
    done k true is e = record { k = k; desk = is; number = ap (λ (a : Answer). a.number) (sym (same_some e)) }
    done k false is e = cc

    by : (desk : Desk) → desk_at now c ≡ desk → answer_on now.flights desk ≡ Some answer → ComesFrom now c answer
    by Vacant is e = cc
    by (Posted p) is e = cc
    by (Entered k) is e = done k (is_done (flight_at now.flights k)) is e

each_past : (P Q : ℕ → Type 0) (l : List ℕ) → ((q : ℕ) → P q → Q q) → AllByRecursion P l → AllByRecursion Q l
each_past P Q [] f all = tt
each_past P Q (q ∷ l) f all = (f q all.0, each_past P Q l f all.1)

module _ (plan : Plan) (s : State) (reached : IsReached plan s) (c : ℕ) (now : Switch) (up : s.switch ≡ Some now) (answer : Answer) (said : answer_of now c ≡ Some answer) where
  abbrev x : ClientState
  x = client_at s c

  h : Holds plan s
  h = holds_up plan s reached now up

  here : h.now ≡ now
  here = same_some (sym h.up ∙ up)

  said_here : answer_of h.now c ≡ Some answer
  said_here = ap (λ (w : Switch). answer_of w c) here ∙ said

  from : ComesFrom h.now c answer
  from = comes_from h.now c answer said_here

  waits : FitsDesk plan s.history c x (Entered from.k)
  waits = subst (FitsDesk plan s.history c x) from.desk (h.ties.under_way c)

  pub waiting : x.phase ≡ Waiting
  waiting = waits.0

  pub has_hot_now : has_hot plan (script_now plan c x) ≡ true
  has_hot_now = h.ties.hot_ones c (inr waits.0)

  pub some_now : 1 ≤ length (script_now plan c x)
  some_now = some_hot plan (script_now plan c x) has_hot_now

  pub visit_now : IsOneVisit plan.layout (script_now plan c x)
  visit_now = visit_of plan c x.seq reached.sound some_now

  abbrev entry : HistoryEntry
  entry = pending_entry c x (from.k + 1)

  split : Around s.history entry
  split = around s.history entry waits.1

  up_here : IsAscending (seqs_of c (split.before ++ entry ∷ split.behind))
  up_here = subst (λ (l : History). IsAscending (seqs_of c l)) split.whole ((ordered plan (holds_now plan) s reached).ascending c)

  at_most : (q : ℕ) → IsPastAt x (desk_in s.switch c) q → q ≤ x.seq
  at_most q (inl lt) = omega (arith, lt)
  at_most q (inr p) = omega (arith, p.0)

  most_here : AllByRecursion (λ q. q ≤ x.seq) (seqs_of c (split.before ++ entry ∷ split.behind))
  most_here = subst (λ (l : History). AllByRecursion (λ q. q ≤ x.seq) (seqs_of c l)) split.whole (each_past (IsPastAt x (desk_in s.switch c)) (λ q. q ≤ x.seq) (seqs_of c s.history) at_most ((ordered plan (holds_now plan) s reached).past c))

  -- the client's last entry is that of its present item, and unanswered
  pub is_open : IsOpenLast c x.seq s.history
  is_open = record {
    before = entries_of c split.before;
    stamp = record { number = from.k + 1; sub = 0 };
    is = ap (entries_of c) split.whole ∙ is_last c entry refl split.before split.behind up_here most_here;
  }

  pub operations : ops_at (runs_of plan) c x.seq ≡ Some (length (script_now plan c x))
  operations = ops_of_item plan c x.seq some_now

  abbrev around_it : History
  around_it = split.before ++ entry ∷ split.behind

  carried_here : AreCarriedBy plan (client_at s) (desk_at h.now) 0 (hot_cells plan) (carried around_it) (entered h.now)
  carried_here = subst (λ (l : History). AreCarriedBy plan (client_at s) (desk_at h.now) 0 (hot_cells plan) (carried l) (entered h.now)) split.whole h.ties.carried_ones

  abbrev pend : Pending plan (client_at s) (desk_at h.now) (hot_cells plan) around_it (entered h.now)
  pend = pending_at plan (client_at s) (desk_at h.now) (hot_cells plan) split.before entry split.behind (entered h.now) refl refl carried_here

  entered_same : (a b : ℕ) → Entered a ≡ Entered b → a ≡ b
  entered_same a b e = cc

  place : pend.k ≡ from.k
  place = entered_same pend.k from.k (sym (pend.by.pending refl).desk ∙ from.desk)

  number_is : answer.number ≡ pend.k + 1
  number_is = from.number ∙ ap (λ (n : ℕ). n + 1) (sym place)

  -- to answer the packet with this number is to answer the present item
  pub replies_agree : (reply : List Pair) → with_reply answer.number reply s.history ≡ kept.with_reply c x.seq reply s.history
  replies_agree reply =
      ap (λ (n : ℕ). with_reply n reply s.history) number_is
      ∙ ap (with_reply (pend.k + 1) reply) split.whole
      ∙ with_reply-split (pend.k + 1) reply around_it pend.split
      ∙ sym (replied_around c entry refl reply split.before split.behind up_here)
      ∙ ap (kept.with_reply c x.seq reply) (sym split.whole)

  -- the answer has a pair for each operation in the switch
  pub as_many_hot : length answer.pairs ≡ length (hot_ops plan.layout (script_now plan c x))
  as_many_hot =
      let replayed = answers_replayed plan.shape (hot_cells plan) h.now c answer h.reached said_here in
      let at_place : replayed.place ≡ pend.k = omega (arith, replayed.number, number_is) in
      let pairs : answer.pairs ≡ (replay pend.packet pend.registers).pairs =
      same_some (sym replayed.pairs ∙ ap (slice_get (replay_all (entered h.now) (hot_cells plan)).pairs) at_place ∙ pend.pairs) in
      ap length pairs ∙ length-replay pend.packet pend.registers ∙ ap (λ (p : PlainPacket). length p.ops) pend.by.packet
      ∙ length-packet plan.shape plan.layout c x.seq (script_now plan c x) pend.by.values

  -- and the reply one for each operation
  pub as_many_pairs : length (joined plan.layout (script_now plan c x) (values_of x.noted) answer.pairs) ≡ length (script_now plan c x)
  as_many_pairs = length-joined_from plan.layout [] (script_now plan c x) (values_of x.noted) answer.pairs

  -- the packet's number is that of one that has entered
  pub number_low : answer.number ≤ length (entered now)
  number_low = omega (arith, number_is, ap (λ (w : Switch). length (entered w)) here, carried_many)
    where
      carried_many : pend.k < length (entered h.now)
      carried_many = there_below (entered h.now) pend.k pend.packet pend.there
