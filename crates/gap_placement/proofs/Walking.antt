-- Maps behind changes and behind packets.
use Rattle.std.proofs.Common.{◌≡◌, ℕ, suc, ℤ, Bool, true, false, cond, List, [], ◌∷◌, ◌++◌, slice_get, None, Some, is_some, nat_lt, if◌then◌else◌, refl, sym, ap, ◌∙◌}
use Rattle.std.specs.FinMap as fin
use Rattle.std.specs.Option.{option_and_then}
use Rattle.std.specs.Ordering.{int_eq, is_eq}
use Rattle.txn_model.specs.Places.{Places, place_cmp}
use Rattle.txn_model.specs.declared.pairs.Pair.{Pair}
use Rattle.txn_model.specs.declared.place.Place.{Place}
use Rattle.txn_model.proofs.PlaceOrder.{place_cmp_total}
use Rattle.switch_packet.specs.Packets.{PlainIntent, PlainPacket}
use Rattle.switch_packet.specs.Replay.{register_at, packet_pair, always, execute, replay}
use Rattle.switch_packet.specs.declared.packet.PacketOp.{PacketOp}
use Rattle.switch_packet.proofs.ExecuteLaws.{same_place}
use Rattle.gap_placement.specs.Changes.{walk}
use Rattle.gap_placement.specs.Legs.{passed}
use Rattle.gap_placement.specs.Replays.{HasPlaces, CanReplay, SamePlaces}
use Rattle.gap_placement.specs.declared.change.Change.{Change}

-- a write leaves each place that was there
pub there-insert : (m : Places) (p : Place) (v : ℤ) → is_some (fin.get m p) ≡ true → SamePlaces m (fin.insert m p v)
there-insert m p v there q = ap is_some (fin.get-insert place_cmp_total m p v q) ∙ go (is_eq (place_cmp q p)) refl
  where
    go : (b : Bool) → is_eq (place_cmp q p) ≡ b → is_some (cond b (Some v) (fin.get m q)) ≡ is_some (fin.get m q)
    go true e = sym (ap (λ (k : Place). is_some (fin.get m k)) (same_place q p e) ∙ there)
    go false e = refl

pub places_same : (m n : Places) (cs : List Change) → SamePlaces m n → HasPlaces m cs → HasPlaces n cs
places_same m n [] same h = tt
places_same m n (c ∷ cs) same h = (same c.place ∙ h.0, places_same m n cs same h.1)

pub walk_append : (xs ys : List Change) (m : Places) → walk (xs ++ ys) m ≡ option_and_then (walk ys) (walk xs m)
walk_append [] ys m = refl
walk_append (c ∷ xs) ys m = by (int_eq (register_at m c.place) c.was) (walk_append xs ys (fin.insert m c.place c.now))
  where
    next : Places
    next = fin.insert m c.place c.now

    by : (b : Bool) → walk (xs ++ ys) (fin.insert m c.place c.now) ≡ option_and_then (walk ys) (walk xs (fin.insert m c.place c.now)) → (if b then walk (xs ++ ys) (fin.insert m c.place c.now) else None) ≡ option_and_then (walk ys) (if b then walk xs (fin.insert m c.place c.now) else None)
    by true rest = rest
    by false rest = refl

pub walk_same : (cs : List Change) (m n : Places) → HasPlaces m cs → walk cs m ≡ Some n → SamePlaces m n
walk_same [] m n h e = λ q. (let same : m ≡ n = cc in ap (λ (x : Places). is_some (fin.get x q)) (sym same))
walk_same (c ∷ cs) m n h e =
    let next = fin.insert m c.place c.now in
    let same = there-insert m c.place c.now h.0 in
    by (int_eq (register_at m c.place) c.was) e (λ f. walk_same cs next n (places_same m next cs same h.1) f)
  where
    by : (b : Bool) → (if b then walk cs (fin.insert m c.place c.now) else None) ≡ Some n → (walk cs (fin.insert m c.place c.now) ≡ Some n → SamePlaces (fin.insert m c.place c.now) n) → SamePlaces m n
    by true f rest q = rest f q ∙ there-insert m c.place c.now h.0 q
    by false f rest q = cc

pub execute_same : (ops : List PacketOp) (done : List Pair) (m : Places) → ((i : ℕ) (op : PacketOp) → slice_get ops i ≡ Some op → is_some (fin.get m op.place) ≡ true) → SamePlaces m (execute always ops done [] m).after
unfolding execute
execute_same [] done m h q = refl
execute_same (op ∷ ops) done m h q =
    let pair = packet_pair op done (register_at m op.place) in
    let next = fin.insert m op.place pair.now in
    let same = there-insert m op.place pair.now (h 0 op refl) in
    execute_same ops (done ++ pair ∷ []) next (λ i o e. same o.place ∙ h (suc i) o e) q ∙ same q

pub replay_same : (m : Places) (p : PlainPacket) → CanReplay m p → SamePlaces m (replay p m).after
replay_same m p can = execute_same p.ops [] m can.there

pub can_same : (m n : Places) (p : PlainPacket) → SamePlaces m n → CanReplay m p → CanReplay n p
can_same m n p same can = record { few = can.few; earlier = can.earlier; there = λ i op e. same op.place ∙ can.there i op e }

-- behind an open packet and the changes that follow it, the same places are there
pub passed_same : (intent : PlainIntent) (number : ℕ) (cs : List Change) (m n : Places) → CanReplay m intent.packet → HasPlaces m cs → passed intent number cs m ≡ Some n → SamePlaces m n
passed_same intent number cs m n can h e = by (nat_lt intent.floor number) e
  where
    by : (b : Bool) → (if b then walk cs (replay intent.packet m).after else None) ≡ Some n → SamePlaces m n
    by true f q =
        let after = (replay intent.packet m).after in
        let same = replay_same m intent.packet can in
        walk_same cs after n (places_same m after cs same h) f q ∙ same q
    by false f q = cc
