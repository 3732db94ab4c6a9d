-- What holds of a restored switch.
use Rattle.std.proofs.Common.{◌≡◌, ℕ, zero, suc, ◌<◌, ◌≤◌, List, [], ◌∷◌, map, length, get_or, slice_get, Some, inl, inr, refl, sym, ap, ◌∙◌, subst, arith}
use Rattle.std.specs.FinMap as fin
use Rattle.std.specs.List.{AllByRecursion}
use Rattle.std.proofs.lemmas.Bool.{cases_lt}
use Rattle.std.proofs.lemmas.List.{get_or_past}
use Rattle.txn_model.specs.Places.{Places}
use Rattle.txn_model.specs.Serial.{pair_at}
use Rattle.stage_layout.specs.declared.shape.Shape.{Shape}
use Rattle.switch_packet.specs.Packets.{PlainPacket, blank_packet}
use Rattle.switch_packet.specs.Replay.{replay, replay_all}
use Rattle.switch_packet.proofs.ReplayLaws.{length-replay}
use Rattle.switch_model.specs.Fitting.{FitsSwitch}
use Rattle.switch_model.specs.Flight.{Flight, flight_at, no_flight}
use Rattle.switch_model.specs.Switch.{Switch, Desk, Vacant, entered, done_flight, done_flights, restored}
use Rattle.switch_model.specs.Reached.{FitsDesk, IsStart}
use Rattle.switch_model.proofs.Before.{before, before-all}
use Rattle.switch_model.proofs.Facts.{Spot, Positions, IsExecuted, Values, Desks, Holds}
use Rattle.switch_model.proofs.Values.{op_within}

-- the packets of flights, by their numbers
pub packets_match : (flights : List Flight) (k : ℕ) → (flight_at flights k).packet ≡ get_or (map (λ (f : Flight). f.packet) flights) k blank_packet
packets_match [] k = refl
packets_match (f ∷ fs) zero = refl
packets_match (f ∷ fs) (suc k) = packets_match fs k

length-done_flights : (ps : List PlainPacket) (m : Places) → length (done_flights ps m) ≡ length ps
unfolding done_flights
length-done_flights [] m = refl
length-done_flights (p ∷ ps) m = ap suc (length-done_flights ps (replay p m).after)

done_packets : (ps : List PlainPacket) (m : Places) → map (λ (f : Flight). f.packet) (done_flights ps m) ≡ ps
unfolding done_flights
done_packets [] m = refl
done_packets (p ∷ ps) m = ap (λ (qs : List PlainPacket). p ∷ qs) (done_packets ps (replay p m).after)

done_at : (ps : List PlainPacket) (m : Places) (k : ℕ) → k < length ps → flight_at (done_flights ps m) k ≡ done_flight (get_or ps k blank_packet) (before ps m k)
unfolding done_flights
done_at [] m k lt = absurd (omega arith)
done_at (p ∷ ps) m zero lt = refl
done_at (p ∷ ps) m (suc k) lt = done_at ps (replay p m).after k (omega arith)

-- what holds of each packet that was executed whole
each_done : (P : ℕ → Flight → Type 0) (ps : List PlainPacket) (m : Places) → ((k : ℕ) → k < length ps → P k (done_flight (get_or ps k blank_packet) (before ps m k))) → (k : ℕ) → k < length ps → P k (flight_at (done_flights ps m) k)
each_done P ps m h k lt = let Q : Flight → Type 0 = λ f. P k f in subst Q (sym (done_at ps m k lt)) (h k lt)

all_fit : (shape : Shape) (ps : List PlainPacket) (k : ℕ) → AllByRecursion (FitsSwitch shape) ps → k < length ps → FitsSwitch shape (get_or ps k blank_packet)
all_fit shape [] k all lt = absurd (omega arith)
all_fit shape (p ∷ ps) zero all lt = all.0
all_fit shape (p ∷ ps) (suc k) all lt = all_fit shape ps k all.1 (omega arith)

done_positions : (shape : Shape) (ps : List PlainPacket) (m : Places) → AllByRecursion (FitsSwitch shape) ps → Positions shape (length ps) (flight_at (done_flights ps m))
done_positions shape ps m all = record {
  spot = each_done (λ k f. Spot shape f) ps m (λ k lt. record { from_one = omega arith; to_done = omega arith; deepest = omega arith; first = λ one. absurd (omega (arith, one, (all_fit shape ps k all lt).passes)); done = λ _. refl });
  order = λ i j region lt below meet. inl (each_done (λ k f. f.packet.passes < f.pass) ps m (λ k lt. omega arith) i (omega arith));
  firsts = λ i j lt below one two. absurd (each_done (λ k f. f.pass ≡ 1 → ⊥) ps m (λ k lt one. omega (arith, one, (all_fit shape ps k all lt).passes)) j below two);
  single = λ i j lt below deep same. each_done (λ k f. 1 ≤ f.depth → ⊥) ps m (λ k lt deep. omega arith) i (omega arith) deep;
}

done_values : (shape : Shape) (ps : List PlainPacket) (m : Places) → AllByRecursion (FitsSwitch shape) ps → Values shape m (replay_all ps m).after ps (flight_at (done_flights ps m))
done_values shape ps m all = record {
  packet = λ k. packets_match (done_flights ps m) k ∙ ap (λ (qs : List PlainPacket). get_or qs k blank_packet) (done_packets ps m);
  fits = λ k lt. all_fit shape ps k all lt;
  size = λ k. elim (cases_lt k (length ps)) [
    | inl lt ↦ each_done (λ k f. length f.pairs ≡ length (get_or ps k blank_packet).ops) ps m (λ k lt. length-replay (get_or ps k blank_packet) (before ps m k)) k lt
    | inr ge ↦
        ap (λ (f : Flight). length f.pairs) (get_or_past (done_flights ps m) k no_flight (omega (arith, length-done_flights ps m)))
        ∙ ap (λ (q : PlainPacket). length q.ops) (sym (get_or_past ps k blank_packet ge))
  ];
  pairs = λ k i op at_i done. ap (λ (f : Flight). pair_at f.pairs i) (done_at ps m k (op_within ps k i op at_i));
  counted = λ place. record {
    count = length ps;
    small = omega arith;
    within = λ j i op lt at_i same. each_done (λ j f. slice_get (get_or ps j blank_packet).ops i ≡ Some op → IsExecuted f op) ps m (λ j lt at_i. inl (omega (arith, ((all_fit shape ps j all lt).within i op at_i).to_last))) j lt at_i;
    beyond = λ j i op from at_i same done. absurd (omega (arith, op_within ps j i op at_i));
    number = ap (λ (r : Places). fin.get r place) (sym (before-all ps m));
  };
}

done_desks : (shape : Shape) (ps : List PlainPacket) (m : Places) (desks : List Desk) → ((c : ℕ) → FitsDesk shape ps c (get_or desks c Vacant)) → Desks shape (restored m ps desks)
unfolding restored
done_desks shape ps m desks own = record {
  posted = λ c p is. subst (λ (d : Desk). FitsDesk shape ps c d) is (own c);
  entered = λ c k is. let d = subst (λ (d : Desk). FitsDesk shape ps c d) is (own c) in (
    omega (arith, d.0, length-done_flights ps m),
    ap (λ (q : PlainPacket). q.client) (packets_match (done_flights ps m) k) ∙ ap (λ (qs : List PlainPacket). (get_or qs k blank_packet).client) (done_packets ps m) ∙ d.1,
  );
  under_way = λ k lt le. absurd (each_done (λ k f. f.pass ≤ f.packet.passes → ⊥) ps m (λ k lt le. omega arith) k (omega (arith, lt, length-done_flights ps m)) le);
}

pub entered-restored : (first : Places) (packets : List PlainPacket) (desks : List Desk) → entered (restored first packets desks) ≡ packets
unfolding restored
entered-restored first packets desks = done_packets packets first

pub restored_holds : (shape : Shape) (first : Places) (packets : List PlainPacket) (desks : List Desk) → 1 ≤ shape.stages → AllByRecursion (FitsSwitch shape) packets → ((c : ℕ) → FitsDesk shape packets c (get_or desks c Vacant))
    → Holds shape first (restored first packets desks)
unfolding restored
restored_holds shape first packets desks stages all own =
    let flights = done_flights packets first in
    record {
      stages = stages;
      positions = subst (λ (n : ℕ). Positions shape n (flight_at flights)) (sym (length-done_flights packets first)) (done_positions shape packets first all);
      values = subst (λ (ps : List PlainPacket). Values shape first (replay_all packets first).after ps (flight_at flights)) (sym (done_packets packets first)) (done_values shape packets first all);
      desks = done_desks shape packets first desks own;
    }

pub start_holds : (shape : Shape) (first : Places) (s : Switch) → IsStart shape first s → Holds shape first s
start_holds shape first s start = subst (λ (x : Switch). Holds shape first x) (sym start.is) (restored_holds shape first start.packets start.desks start.stages start.fit start.own)
