-- The switch takes whole packets one after another: answers, registers, and what has entered.
use Rattle.std.proofs.Common.{◌≡◌, ℕ, zero, suc, ◌+◌, ◌-◌, ◌<◌, ◌==◌, Bool, true, false, List, [], ◌∷◌, ◌++◌, length, replicate, get_or, slice_get, Some, None, inl, inr, refl, sym, ap, ◌∙◌, subst, arith, append-nil, if◌then◌else◌}
use Rattle.std.specs.FinMap as fin
use Rattle.std.proofs.lemmas.Bool.{cases_lt}
use Rattle.std.proofs.lemmas.List.{ext_get_or, length-map, length-set, map_push}
use Rattle.txn_model.specs.Places.{Places}
use Rattle.txn_model.specs.declared.pairs.Pair.{Pair}
use Rattle.txn_model.proofs.PlaceOrder.{place_cmp_total, place_cmp_exact}
use Rattle.stage_layout.specs.declared.shape.Shape.{Shape}
use Rattle.switch_packet.specs.declared.packet.PacketOp.{PacketOp}
use Rattle.switch_packet.specs.Packets.{PlainPacket, blank_packet}
use Rattle.switch_packet.specs.Replay.{replay_all}
use Rattle.switch_packet.proofs.ReplayLaws.{length-replay}
use Rattle.switch_model.specs.Event.{Event, Post, Enter, Advance, Take, in_first_slot, moved_on, executed_at}
use Rattle.switch_model.specs.Flight.{Flight, zero_pair, flight_at, is_done, fresh_flight}
use Rattle.switch_model.specs.Laws.{IsReplayed, AnswersAreReplayed, IsQuiet, RegistersAreReplayed, entering, added_by, FreshIsReached, RestoredIsReached, SlotsHoldOnePacket, SwitchesGoOn, FirstPassesKeepOrder, RegionsAreShared}
use Rattle.switch_model.specs.Reached.{FitsDesk, Starts, GoesOn}
use Rattle.switch_model.specs.Switch.{Switch, Desk, Vacant, Posted, Entered, Answer, desk_at, entered, answer_on, restored}
use Rattle.switch_model.proofs.Before.{before, before-all, pairs_of, pairs-replay_all, get-before}
use Rattle.switch_model.proofs.Facts.{IsExecuted, Values, Holds}
use Rattle.switch_model.proofs.Kept.{holds, entered_set, packet_stays}
use Rattle.switch_model.proofs.Moves.{Move, move_of}
use Rattle.switch_model.proofs.Starts.{packets_match}
use Rattle.switch_model.proofs.Tests.{below, has_passed}

-- ---- answers

item_there : {X : Type 0} (xs : List X) (i : ℕ) → i < length xs → (x : X) × (slice_get xs i ≡ Some x)
item_there [] i lt = absurd (omega arith)
item_there (x ∷ xs) zero lt = (x, refl)
item_there (x ∷ xs) (suc i) lt = item_there xs i (omega arith)

-- all operations of a packet that is done were executed
pub all_executed : (shape : Shape) (first registers : Places) (packets : List PlainPacket) (at : ℕ → Flight) (k i : ℕ) (op : PacketOp) → Values shape first registers packets at → k < length packets
    → (at k).packet.passes < (at k).pass → slice_get (get_or packets k blank_packet).ops i ≡ Some op → IsExecuted (at k) op
all_executed shape first registers packets at k i op v lt done at_i =
    let within = (v.fits k lt).within i op at_i in
    let same : (at k).packet.passes ≡ (get_or packets k blank_packet).passes = ap (λ (p : PlainPacket). p.passes) (v.packet k) in
    inl (omega (arith, within.to_last))

-- so its pairs are those of its replay
pub done_pairs : (shape : Shape) (first registers : Places) (packets : List PlainPacket) (at : ℕ → Flight) (k : ℕ) → Values shape first registers packets at → k < length packets → (at k).packet.passes < (at k).pass
    → (at k).pairs ≡ pairs_of packets first k
done_pairs shape first registers packets at k v lt done =
    ext_get_or zero_pair (at k).pairs (pairs_of packets first k) (v.size k ∙ sym (length-replay (get_or packets k blank_packet) (before packets first k)))
    (λ i less. let op = item_there (get_or packets k blank_packet).ops i (omega (arith, v.size k)) in
    v.pairs k i op.0 op.1 (all_executed shape first registers packets at k i op.0 v lt done op.1))

record Answers (s : Switch) (k : ℕ) (answer : Answer) : Type 0 where
  done : is_done (flight_at s.flights k) ≡ true
  number : answer.number ≡ k + 1
  pairs : answer.pairs ≡ (flight_at s.flights k).pairs

answers : (s : Switch) (k : ℕ) (answer : Answer) (b : Bool) → is_done (flight_at s.flights k) ≡ b → (if b then Some (record { number = k + 1; pairs = (flight_at s.flights k).pairs }) else None) ≡ Some answer → Answers s k answer
answers s k answer true done e = let mine : Answer = record { number = k + 1; pairs = (flight_at s.flights k).pairs } in let same : mine ≡ answer = cc in record { done = done; number = ap (λ (a : Answer). a.number) (sym same); pairs = ap (λ (a : Answer). a.pairs) (sym same) }
answers s k answer false done e = cc

replayed_answer : (shape : Shape) (first : Places) (s : Switch) (c : ℕ) (answer : Answer) (desk : Desk) → Holds shape first s → desk_at s c ≡ desk → answer_on s.flights desk ≡ Some answer → IsReplayed first s c answer
replayed_answer shape first s c answer Vacant h at e = cc
replayed_answer shape first s c answer (Posted p) h at e = cc
replayed_answer shape first s c answer (Entered k) h at e =
    let a = answers s k answer (is_done (flight_at s.flights k)) refl e in
    let own = h.desks.entered c k at in
    let there : k < length (entered s) = omega (arith, own.0, length-map s.flights (λ (f : Flight). f.packet)) in
    record {
      place = k;
      number = a.number;
      there = there;
      client = ap (λ (p : PlainPacket). p.client) (sym (packets_match s.flights k)) ∙ own.1;
      pairs = pairs-replay_all (entered s) first k there ∙ ap (λ (ps : List Pair). Some ps) (sym (a.pairs ∙ done_pairs shape first s.registers (entered s) (flight_at s.flights) k h.values there (below _ _ a.done)));
    }

pub answers_replayed : AnswersAreReplayed
answers_replayed shape first s c answer reached e = replayed_answer shape first s c answer (desk_at s c) (holds shape first s reached) refl e

-- ---- registers

-- where nothing is under way, all packets are done
pub quiet_is_done : (shape : Shape) (first : Places) (s : Switch) → Holds shape first s → IsQuiet s → (k : ℕ) → k < length s.flights → (flight_at s.flights k).packet.passes < (flight_at s.flights k).pass
quiet_is_done shape first s h quiet k lt = elim (cases_lt (flight_at s.flights k).packet.passes (flight_at s.flights k).pass) [
  | inl done ↦ done
  | inr le ↦ below _ _ (quiet _ k (h.desks.under_way k lt le))
]

pub registers_replayed : RegistersAreReplayed
registers_replayed shape first s reached quiet =
    let h = holds shape first s reached in
    let packets = entered s in
    let n = length packets in
    let size : n ≡ length s.flights = length-map s.flights (λ (f : Flight). f.packet) in
    fin.same_map place_cmp_total place_cmp_exact s.registers (replay_all packets first).after (λ place.
    let c = h.values.counted place in
    let rest : c.count + (n - c.count) ≡ n = omega (arith, c.small) in
    c.number
    ∙ sym (get-before packets first place c.count (n - c.count) (omega arith) (λ j i op from to at_i same.
    c.beyond j i op from at_i same (all_executed shape first s.registers packets (flight_at s.flights) j i op h.values (omega arith) (quiet_is_done shape first s h quiet j (omega arith)) at_i)))
    ∙ ap (λ (k : ℕ). fin.get (before packets first k) place) rest
    ∙ ap (λ (m : Places). fin.get m place) (before-all packets first))

-- ---- beginnings and events

vacant_desks : (n c : ℕ) → get_or (replicate n Vacant) c Vacant ≡ Vacant
vacant_desks zero c = refl
vacant_desks (suc n) zero = refl
vacant_desks (suc n) (suc c) = vacant_desks n c

pub restored_reached : RestoredIsReached
restored_reached shape first packets desks stages fit own = Starts (restored first packets desks) (record { packets = packets; desks = desks; is = refl; stages = stages; fit = fit; own = own })

pub fresh_reached : FreshIsReached
fresh_reached shape first clients stages =
    restored_reached shape first [] (replicate clients Vacant) stages tt (λ c. subst (λ (d : Desk). FitsDesk shape [] c d) (sym (vacant_desks clients c)) tt)

-- what a move adds to the packets that have entered, and that it leaves the number of clients
record Adds (s next : Switch) (packets : List PlainPacket) : Type 0 where
  entered : entered next ≡ entered s ++ packets
  desks : length next.desks ≡ length s.desks

adds_of : (shape : Shape) (first : Places) (s next : Switch) (event : Event) → Move shape s next event → Adds s next (added_by s event)
adds_of shape first s next (Post c p) m =
    subst (λ (y : Switch). Adds s y []) (sym m.is) (record { entered = sym (append-nil (entered s)); desks = length-set s.desks c (Posted p) })
adds_of shape first s next (Enter c) m = elim m [
  | inl e ↦ subst (λ (ps : List PlainPacket). Adds s next ps) (ap entering (sym e.desk))
      (subst (λ (y : Switch). Adds s y (e.p ∷ [])) (sym e.is) (record { entered = map_push (λ (f : Flight). f.packet) s.flights (fresh_flight e.p); desks = length-set s.desks c (Entered (length s.flights)) }))
  | inr e ↦ subst (λ (ps : List PlainPacket). Adds s next ps) (ap entering (sym e.desk))
      (subst (λ (y : Switch). Adds s y []) (sym e.is) (record { entered = entered_set s.flights e.k (in_first_slot (flight_at s.flights e.k)) refl ∙ sym (append-nil (entered s)); desks = refl }))
]
adds_of shape first s next (Advance x) m =
    subst (λ (y : Switch). Adds s y []) (sym m.is) (record {
      entered = entered_set s.flights m.k (moved_on shape x (flight_at s.flights m.k) (executed_at s x (flight_at s.flights m.k))) (packet_stays (x + 1 == shape.stages) (flight_at s.flights m.k) (executed_at s x (flight_at s.flights m.k)).pairs) ∙ sym (append-nil (entered s));
      desks = refl;
    })
adds_of shape first s next (Take c) m =
    subst (λ (y : Switch). Adds s y []) (sym m.is) (record { entered = sym (append-nil (entered s)); desks = length-set s.desks c Vacant })

pub goes_on : SwitchesGoOn
goes_on shape first s next event reached fit e =
    let a = adds_of shape first s next event (move_of shape s next event e) in
    record { reached = GoesOn s next event reached fit e; adds = a.entered; desks = a.desks }

-- ---- where packets are

pub one_in_a_slot : SlotsHoldOnePacket
one_in_a_slot shape first s i j reached both =
    let p = (holds shape first s reached).positions in
    record { apart = p.single i j both.order both.there; inside = (p.spot i (omega (arith, both.order, both.there))).deepest }

pub keep_order : FirstPassesKeepOrder
keep_order shape first s i j reached both one two = (holds shape first s reached).positions.firsts i j both.order both.there one two

pub shared : RegionsAreShared
shared shape first s i j region reached both one two =
    let h = holds shape first s reached in
    let f = flight_at s.flights i in
    let g = flight_at s.flights j in
    let spot = h.positions.spot i (omega (arith, both.order, both.there)) in
    let behind = h.positions.spot j both.there in
    elim (h.positions.order i j region both.order both.there (record { first = one; second = two })) [
      | inl done ↦ record {
        last = has_passed f (record { last = omega arith; in_slot = λ same. absurd (omega arith) });
        behind = λ deep. absurd (let none = spot.done done in omega arith);
      }
      | inr l ↦ record {
        last = has_passed f (record { last = omega (arith, l.last); in_slot = λ same. omega (arith, l.deeper) });
        behind = λ deep. (behind.first l.first, l.deeper);
      }
    ]
