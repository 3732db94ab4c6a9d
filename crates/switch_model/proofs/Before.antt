-- The registers before a packet, where each one before it was executed whole.
use Rattle.std.proofs.Common.{◌≡◌, ℕ, zero, suc, ◌+◌, ◌<◌, ◌≤◌, List, [], ◌∷◌, ◌++◌, length, get_or, slice_get, Some, refl, ap, ◌∙◌, arith}
use Rattle.std.specs.FinMap as fin
use Rattle.txn_model.specs.Places.{Places}
use Rattle.txn_model.specs.declared.pairs.Pair.{Pair}
use Rattle.txn_model.specs.declared.place.Place.{Place}
use Rattle.switch_packet.specs.declared.packet.PacketOp.{PacketOp}
use Rattle.switch_packet.specs.Packets.{PlainPacket, blank_packet}
use Rattle.switch_packet.specs.Replay.{always, replay, replay_all}
use Rattle.switch_packet.proofs.ExecuteLaws.{get-untouched}

-- the registers before packet k
abbrev pub before : List PlainPacket → Places → ℕ → Places
before ps m zero = m
before [] m (suc k) = m
before (p ∷ ps) m (suc k) = before ps (replay p m).after k

-- the pairs of packet k
abbrev pub pairs_of : List PlainPacket → Places → ℕ → List Pair
pairs_of ps m k = (replay (get_or ps k blank_packet) (before ps m k)).pairs

pub before-append : (ps qs : List PlainPacket) (m : Places) (k : ℕ) → k ≤ length ps → before (ps ++ qs) m k ≡ before ps m k
before-append ps qs m zero le = none ps
  where
    none : (ps : List PlainPacket) → before (ps ++ qs) m zero ≡ before ps m zero
    none [] = refl
    none (p ∷ ps) = refl
before-append [] qs m (suc k) le = absurd (omega arith)
before-append (p ∷ ps) qs m (suc k) le = before-append ps qs (replay p m).after k (omega arith)

pub before-suc : (ps : List PlainPacket) (m : Places) (k : ℕ) → k < length ps → before ps m (suc k) ≡ (replay (get_or ps k blank_packet) (before ps m k)).after
before-suc [] m k lt = absurd (omega arith)
before-suc (p ∷ ps) m zero lt = none ps
  where
    none : (ps : List PlainPacket) → before ps (replay p m).after zero ≡ (replay p m).after
    none [] = refl
    none (q ∷ ps) = refl
before-suc (p ∷ ps) m (suc k) lt = before-suc ps (replay p m).after k (omega arith)

pub before-all : (ps : List PlainPacket) (m : Places) → before ps m (length ps) ≡ (replay_all ps m).after
unfolding replay_all
before-all [] m = refl
before-all (p ∷ ps) m = before-all ps (replay p m).after

pub pairs-replay_all : (ps : List PlainPacket) (m : Places) (k : ℕ) → k < length ps → slice_get (replay_all ps m).pairs k ≡ Some (pairs_of ps m k)
unfolding replay_all
pairs-replay_all [] m k lt = absurd (omega arith)
pairs-replay_all (p ∷ ps) m zero lt = refl
pairs-replay_all (p ∷ ps) m (suc k) lt = pairs-replay_all ps (replay p m).after k (omega arith)

-- a packet leaves a place that none of its operations is on
pub get-replay : (p : PlainPacket) (m : Places) (place : Place) → ((i : ℕ) (op : PacketOp) → slice_get p.ops i ≡ Some op → op.place ≡ place → ⊥) → fin.get (replay p m).after place ≡ fin.get m place
get-replay p m place none = get-untouched always p.ops [] [] m place (λ i op at due same. none i op at same)

-- between packets that have no operation on a place, its number stays
pub get-before : (ps : List PlainPacket) (m : Places) (place : Place) (c n : ℕ) → c + n ≤ length ps
    → ((j i : ℕ) (op : PacketOp) → c ≤ j → j < c + n → slice_get (get_or ps j blank_packet).ops i ≡ Some op → op.place ≡ place → ⊥)
    → fin.get (before ps m (c + n)) place ≡ fin.get (before ps m c) place
get-before ps m place c zero le none = let e : c + 0 ≡ c = omega arith in ap (λ (k : ℕ). fin.get (before ps m k) place) e
get-before ps m place c (suc n) le none =
    let e : c + suc n ≡ suc (c + n) = omega arith in
    ap (λ (k : ℕ). fin.get (before ps m k) place) e
    ∙ ap (λ (x : Places). fin.get x place) (before-suc ps m (c + n) (omega arith))
    ∙ get-replay (get_or ps (c + n) blank_packet) (before ps m (c + n)) place (λ i op at same. none (c + n) i op (omega arith) (omega arith) at same)
    ∙ get-before ps m place c n (omega arith) (λ j i op from to at same. none j i op from (omega (arith, to)) at same)
