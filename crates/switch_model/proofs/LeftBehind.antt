-- At any time a register is what the executed operations on it left, in the order of the packets' numbers.
use Rattle.std.proofs.Common.{◌≡◌, ℕ, ℤ, zero, suc, ◌+◌, ◌<◌, ◌≤◌, ◌==◌, ◌&&◌, ◌||◌, Bool, true, false, cond, nat_lt, List, [], ◌∷◌, ◌++◌, map, filter, length, get_or, slice_get, MatchBool, Option, Some, unwrap_or, pos, inl, inr, refl, sym, ap, ap₂, ◌∙◌, subst, arith, if◌then◌else◌}
use Rattle.std.specs.Ordering.{is_eq}
use Rattle.std.proofs.lemmas.Bool.{false_from_ne_true}
use Rattle.txn_model.specs.Places.{Places, place_cmp}
use Rattle.txn_model.specs.Serial.{pair_at}
use Rattle.txn_model.specs.declared.pairs.Pair.{Pair}
use Rattle.txn_model.specs.declared.place.Place.{Place}
use Rattle.switch_packet.specs.declared.packet.PacketOp.{PacketOp}
use Rattle.switch_packet.specs.Packets.{PlainPacket, blank_packet}
use Rattle.switch_packet.specs.PlaceChain.{PacketStep, packet_steps, is_on, PlaceChain, last_number}
use Rattle.switch_packet.specs.Replay.{register_at, always, replay}
use Rattle.switch_packet.proofs.ExecuteLaws.{made, pairs-execute, same_place}
use Rattle.switch_packet.proofs.PlaceChainLaws.{added}
use Rattle.switch_packet.proofs.ReplayLaws.{length-replay}
use Rattle.switch_model.specs.Executed.{executed_steps, all_executed}
use Rattle.switch_model.specs.Flight.{Flight, flight_at, is_executed}
use Rattle.switch_model.specs.Laws.{RegistersAreLeft}
use Rattle.switch_model.specs.Switch.{entered}
use Rattle.switch_model.proofs.Before.{before, pairs_of}
use Rattle.switch_model.proofs.Facts.{IsExecuted}
use Rattle.switch_model.proofs.Kept.{holds}
use Rattle.switch_model.proofs.Tests.{below, is_below, equal, is_equal, both, both_true, or_left, or_right}

-- ---- a chain at a place sees the steps on that place alone

pub record SeesAlike (place : Place) (a b more : List PacketStep) : Type 0 where
  pub forth : (v : ℤ) → PlaceChain place v (a ++ more) → PlaceChain place v (b ++ more)
  pub back : (v : ℤ) → PlaceChain place v (b ++ more) → PlaceChain place v (a ++ more)
  pub last : (v : ℤ) → last_number place v (a ++ more) ≡ last_number place v (b ++ more)

both_match : (b : Bool) (P Q R S : Type 0) → (P → R) → (Q → S) → MatchBool b P Q → MatchBool b R S
both_match true P Q R S f g h = f h
both_match false P Q R S f g h = g h

into_match : (b : Bool) (P Q : Type 0) → b ≡ false → Q → MatchBool b P Q
into_match true P Q e h = cc
into_match false P Q e h = h

from_match : (b : Bool) (P Q : Type 0) → b ≡ false → MatchBool b P Q → Q
from_match true P Q e h = cc
from_match false P Q e h = h

on_place : (place : Place) (steps more : List PacketStep) → SeesAlike place (filter (is_on place) steps) steps more
on_place place [] more = record { forth = λ v h. h; back = λ v h. h; last = λ v. refl }
on_place place (s ∷ steps) more = by (is_on place s) refl (on_place place steps more)
  where
    by : (b : Bool) → is_on place s ≡ b → SeesAlike place (filter (is_on place) steps) steps more → SeesAlike place (cond b (s ∷ filter (is_on place) steps) (filter (is_on place) steps)) (s ∷ steps) more
    by true is a = record {
      forth = λ v h. both_match (is_on place s) _ _ _ _ (λ h. (h.0, a.forth s.1.now h.1)) (a.forth v) h;
      back = λ v h. both_match (is_on place s) _ _ _ _ (λ h. (h.0, a.back s.1.now h.1)) (a.back v) h;
      last = λ v. a.last (if is_on place s then s.1.now else v);
    }
    by false is a = record {
      forth = λ v h. into_match (is_on place s) _ _ is (a.forth v h);
      back = λ v h. a.back v (from_match (is_on place s) _ _ is h);
      last = λ v. a.last v ∙ ap (λ (b : Bool). last_number place (if b then s.1.now else v) (steps ++ more)) (sym is);
    }

-- steps that are the same on the place
alike : (place : Place) (a b more : List PacketStep) → filter (is_on place) a ≡ filter (is_on place) b → SeesAlike place a b more
alike place a b more same =
    let one = on_place place a more in
    let two = subst (λ (x : List PacketStep). SeesAlike place x b more) (sym same) (on_place place b more) in
    record {
      forth = λ v h. two.forth v (one.back v h);
      back = λ v h. one.forth v (two.back v h);
      last = λ v. sym (one.last v) ∙ two.last v;
    }

-- ---- one packet

-- where all its operations on the place were executed, with the pairs of its replay
all_alike : (place : Place) (test : PacketOp → Bool) (ops : List PacketOp) (ps ds : List Pair) → length ps ≡ length ops → length ds ≡ length ops
    → ((i : ℕ) (op : PacketOp) → slice_get ops i ≡ Some op → is_eq (place_cmp place op.place) ≡ true → (test op ≡ true) × (pair_at ps i ≡ pair_at ds i))
    → filter (is_on place) (filter (λ (s : PacketStep). test s.0) (packet_steps ops ps)) ≡ filter (is_on place) (packet_steps ops ds)
all_alike place test [] ps ds one two same = refl
all_alike place test (op ∷ ops) [] ds one two same = absurd (omega arith)
all_alike place test (op ∷ ops) (p ∷ ps) [] one two same = absurd (omega arith)
all_alike place test (op ∷ ops) (p ∷ ps) (d ∷ ds) one two same =
    by (is_eq (place_cmp place op.place)) refl (test op) (same 0 op refl) (all_alike place test ops ps ds (omega arith) (omega arith) (λ i o at on. same (suc i) o at on))
  where
    by : (c : Bool) → is_eq (place_cmp place op.place) ≡ c → (t : Bool) → (is_eq (place_cmp place op.place) ≡ true → (t ≡ true) × (p ≡ d))
        → filter (is_on place) (filter (λ (s : PacketStep). test s.0) (packet_steps ops ps)) ≡ filter (is_on place) (packet_steps ops ds)
        → filter (is_on place) (cond t ((op, p) ∷ filter (λ (s : PacketStep). test s.0) (packet_steps ops ps)) (filter (λ (s : PacketStep). test s.0) (packet_steps ops ps))) ≡ filter (is_on place) ((op, d) ∷ packet_steps ops ds)
    by true on true here rest =
        ap₂ (λ (q : Pair) (xs : List PacketStep). cond (is_eq (place_cmp place op.place)) ((op, q) ∷ xs) xs) (here on).1 rest
    by true on false here rest = absurd (let e = (here on).0 in cc)
    by false on true here rest = ap (λ (b : Bool). cond b ((op, p) ∷ filter (is_on place) (filter (λ (s : PacketStep). test s.0) (packet_steps ops ps))) (filter (is_on place) (filter (λ (s : PacketStep). test s.0) (packet_steps ops ps)))) on ∙ rest ∙ ap (λ (b : Bool). cond b ((op, d) ∷ filter (is_on place) (packet_steps ops ds)) (filter (is_on place) (packet_steps ops ds))) (sym on)
    by false on false here rest = rest ∙ ap (λ (b : Bool). cond b ((op, d) ∷ filter (is_on place) (packet_steps ops ds)) (filter (is_on place) (packet_steps ops ds))) (sym on)

-- where none was
none_on : (place : Place) (test : PacketOp → Bool) (ops : List PacketOp) (ps : List Pair) → ((i : ℕ) (op : PacketOp) → slice_get ops i ≡ Some op → is_eq (place_cmp place op.place) ≡ true → test op ≡ false)
    → filter (is_on place) (filter (λ (s : PacketStep). test s.0) (packet_steps ops ps)) ≡ []
none_on place test [] ps none = refl
none_on place test (op ∷ ops) [] none = refl
none_on place test (op ∷ ops) (p ∷ ps) none = by (is_eq (place_cmp place op.place)) refl (test op) (none 0 op refl) (none_on place test ops ps (λ i o at on. none (suc i) o at on))
  where
    by : (c : Bool) → is_eq (place_cmp place op.place) ≡ c → (t : Bool) → (is_eq (place_cmp place op.place) ≡ true → t ≡ false)
        → filter (is_on place) (filter (λ (s : PacketStep). test s.0) (packet_steps ops ps)) ≡ []
        → filter (is_on place) (cond t ((op, p) ∷ filter (λ (s : PacketStep). test s.0) (packet_steps ops ps)) (filter (λ (s : PacketStep). test s.0) (packet_steps ops ps))) ≡ []
    by true on true here rest = absurd (let e = here on in cc)
    by true on false here rest = rest
    by false on true here rest = ap (λ (b : Bool). cond b ((op, p) ∷ filter (is_on place) (filter (λ (s : PacketStep). test s.0) (packet_steps ops ps))) (filter (is_on place) (filter (λ (s : PacketStep). test s.0) (packet_steps ops ps)))) on ∙ rest
    by false on false here rest = rest

-- ---- all packets

-- the first c packets have executed all their operations on the place, with the pairs of the replay from this map on, and the
-- others none
record IsFirst (place : Place) (flights : List Flight) (m : Places) (c : ℕ) : Type 0 where
  size : (j : ℕ) → length (flight_at flights j).pairs ≡ length (flight_at flights j).packet.ops
  within : (j i : ℕ) (op : PacketOp) → j < c → j < length flights → slice_get (flight_at flights j).packet.ops i ≡ Some op → is_eq (place_cmp place op.place) ≡ true
      → (is_executed (flight_at flights j) op ≡ true) × (pair_at (flight_at flights j).pairs i ≡ pair_at (pairs_of (map (λ (f : Flight). f.packet) flights) m j) i)
  beyond : (j i : ℕ) (op : PacketOp) → c ≤ j → j < length flights → slice_get (flight_at flights j).packet.ops i ≡ Some op → is_eq (place_cmp place op.place) ≡ true → is_executed (flight_at flights j) op ≡ false

record Leave (place : Place) (flights : List Flight) (m : Places) (c : ℕ) : Type 0 where
  chain : PlaceChain place (register_at m place) (all_executed flights)
  last : last_number place (register_at m place) (all_executed flights) ≡ register_at (before (map (λ (f : Flight). f.packet) flights) m c) place

before-zero : (ps : List PlainPacket) (m : Places) → before ps m zero ≡ m
before-zero [] m = refl
before-zero (p ∷ ps) m = refl

leave : (place : Place) (flights : List Flight) (m : Places) (c : ℕ) → IsFirst place flights m c → Leave place flights m c
leave place [] m zero is = record { chain = tt; last = refl }
leave place [] m (suc c) is = record { chain = tt; last = refl }
leave place (f ∷ fs) m zero is =
    let rest = leave place fs m zero (record {
      size = λ j. is.size (suc j);
      within = λ j i op lt. absurd (omega arith);
      beyond = λ j i op from there at on. is.beyond (suc j) i op (omega arith) (omega arith) at on;
    }) in
    let a = alike place (executed_steps f) [] (all_executed fs) (none_on place (is_executed f) f.packet.ops f.pairs (λ i op at on. is.beyond 0 i op (omega arith) (omega arith) at on)) in
    record {
      chain = a.back (register_at m place) rest.chain;
      last = a.last (register_at m place) ∙ rest.last ∙ ap (λ (x : Places). register_at x place) (before-zero (map (λ (f : Flight). f.packet) fs) m);
    }
leave place (f ∷ fs) m (suc c) is =
    let p = f.packet in
    let after = (replay p m).after in
    let steps = all_executed fs in
    let rest = leave place fs after c (record {
      size = λ j. is.size (suc j);
      within = λ j i op lt there at on. is.within (suc j) i op (omega arith) (omega arith) at on;
      beyond = λ j i op from there at on. is.beyond (suc j) i op (omega arith) (omega arith) at on;
    }) in
    let made_is : made always p.ops [] [] m ≡ (replay p m).pairs = sym (pairs-execute always p.ops [] [] m) in
    let more = added p.ops [] [] m place steps in
    let a = alike place (executed_steps f) (packet_steps p.ops (replay p m).pairs) steps
    (all_alike place (is_executed f) p.ops f.pairs (replay p m).pairs (is.size 0) (length-replay p m) (λ i op at on. is.within 0 i op (omega arith) (omega arith) at on)) in
    record {
      chain = a.back (register_at m place) (subst (λ (x : List Pair). PlaceChain place (register_at m place) (packet_steps p.ops x ++ steps)) made_is (more.chain rest.chain));
      last = a.last (register_at m place) ∙ ap (λ (x : List Pair). last_number place (register_at m place) (packet_steps p.ops x ++ steps)) (sym made_is) ∙ sym more.last ∙ rest.last;
    }

-- ---- of reached states

executed_true : (f : Flight) (op : PacketOp) → IsExecuted f op → is_executed f op ≡ true
executed_true f op done = elim done [
  | inl before ↦ or_left (nat_lt op.pass f.pass) _ (is_below _ _ before)
  | inr here ↦ or_right (nat_lt op.pass f.pass) _ (both_true (is_equal _ _ here.0) (is_below _ _ here.1))
]

when_executed : (f : Flight) (op : PacketOp) → is_executed f op ≡ true → IsExecuted f op
when_executed f op e = by (nat_lt op.pass f.pass) refl e
  where
    by : (b : Bool) → nat_lt op.pass f.pass ≡ b → (b || (op.pass == f.pass && nat_lt (op.place.stage + 1) f.depth)) ≡ true → IsExecuted f op
    by true lt e = inl (below _ _ lt)
    by false lt e = let p = both _ _ e in inr (equal _ _ p.0, below _ _ p.1)

pub left_behind : RegistersAreLeft
left_behind shape first s place reached =
    let h = holds shape first s reached in
    let c = h.values.counted place in
    let ops_at : (j i : ℕ) (op : PacketOp) → slice_get (flight_at s.flights j).packet.ops i ≡ Some op → slice_get (get_or (entered s) j blank_packet).ops i ≡ Some op =
    λ j i op at. ap (λ (p : PlainPacket). slice_get p.ops i) (sym (h.values.packet j)) ∙ at in
    let all = leave place s.flights first c.count (record {
      size = λ j. h.values.size j ∙ ap (λ (p : PlainPacket). length p.ops) (sym (h.values.packet j));
      within = λ j i op lt there at on.
          let done = c.within j i op lt (ops_at j i op at) (sym (same_place place op.place on)) in
          (executed_true (flight_at s.flights j) op done, h.values.pairs j i op (ops_at j i op at) done);
      beyond = λ j i op from there at on. false_from_ne_true (is_executed (flight_at s.flights j) op)
          (λ e. c.beyond j i op from (ops_at j i op at) (sym (same_place place op.place on)) (when_executed (flight_at s.flights j) op e));
    }) in
    record {
      chain = all.chain;
      last = ap (λ (o : Option ℤ). unwrap_or o (pos 0)) c.number ∙ sym all.last;
    }
