-- The places of the registers, before and behind packets.
use Rattle.std.proofs.Common.{◌≡◌, ℕ, zero, suc, Bool, true, false, cond, ℤ, List, [], ◌∷◌, map, slice_get, Option, Some, None, IsSome, IsTrue, is_some, unwrap_or, refl, sym, ap, subst, ◌∙◌, if◌then◌else◌}
use Rattle.std.specs.FinMap as fin
use Rattle.std.specs.Ordering.{is_eq}
use Rattle.std.specs.List.{AllByRecursion}
use Rattle.txn_model.specs.Places.{Places, place_cmp}
use Rattle.txn_model.specs.Tuples.{Tuples, value_at}
use Rattle.txn_model.specs.declared.op.Op.{Op}
use Rattle.txn_model.specs.declared.op.TupleId.{TupleId}
use Rattle.txn_model.specs.declared.place.Place.{Place}
use Rattle.txn_model.proofs.PlaceOrder.{place_cmp_total}
use Rattle.stage_layout.specs.Late.{is_hot}
use Rattle.stage_layout.specs.Layout.{first_cells, same_tuple, place_of}
use Rattle.stage_layout.specs.Shape.{has_place}
use Rattle.stage_layout.specs.declared.layout.LayoutRow.{LayoutRow}
use Rattle.stage_layout.specs.declared.shape.Shape.{Shape}
use Rattle.switch_packet.specs.Packets.{PlainPacket}
use Rattle.switch_packet.specs.Replay.{replay, replay_all}
use Rattle.switch_packet.specs.declared.packet.PacketOp.{PacketOp}
use Rattle.switch_packet.proofs.ExecuteLaws.{is_itself, same_place}
use Rattle.warm_split.specs.Resolved.{packet_of}
use Rattle.warm_split.specs.Sides.{hot_ops, hot_place}
use Rattle.catalogue.specs.Plan.{Plan, script_at, hot_cells}
use Rattle.catalogue.specs.Sound.{IsSound}
use Rattle.gap_placement.specs.Replays.{SamePlaces}
use Rattle.gap_placement.proofs.Walking.{execute_same}
use Rattle.fabric_model.specs.Fits.{OfPackets}
use Rattle.fabric_model.proofs.HotHistory.{places-packet}
use Rattle.fabric_core.proofs.HotPlaces.{rows_have_places}

-- a place has a number
abbrev pub IsThere : Places → Place → Type 0
IsThere m place = is_some (fin.get m place) ≡ true

-- where a number was written, there is one
written : (m : Places) (p : Place) (v : ℤ) → IsThere (fin.insert m p v) p
written m p v = ap is_some (fin.get-insert place_cmp_total m p v p) ∙ by (is_eq (place_cmp p p)) (is_itself p)
  where
    by : (b : Bool) → b ≡ true → is_some (cond b (Some v) (fin.get m p)) ≡ true
    by true is = refl
    by false is = cc

-- what was there still is
kept : (m : Places) (p q : Place) (v : ℤ) → IsThere m q → IsThere (fin.insert m p v) q
kept m p q v there = ap is_some (fin.get-insert place_cmp_total m p v q) ∙ by (is_eq (place_cmp q p))
  where
    by : (b : Bool) → is_some (cond b (Some v) (fin.get m q)) ≡ true
    by true = refl
    by false = there

-- and nothing else is
only : (m : Places) (p q : Place) (v : ℤ) (P : Place → Type 0) → P p → (IsThere m q → P q) → IsThere (fin.insert m p v) q → P q
only m p q v P one rest there = by (is_eq (place_cmp q p)) refl (sym (ap is_some (fin.get-insert place_cmp_total m p v q)) ∙ there)
  where
    by : (b : Bool) → is_eq (place_cmp q p) ≡ b → is_some (cond b (Some v) (fin.get m q)) ≡ true → P q
    by true same is = subst P (sym (same_place q p same)) one
    by false same is = rest is

cells_there : (tuples : Tuples) (rows : List LayoutRow) (t : TupleId) (place : Place) → place_of rows t ≡ Some place → IsThere (first_cells tuples rows) place
cells_there tuples [] t place is = cc
cells_there tuples (row ∷ rows) t place is = by (same_tuple row.tuple t) is (cells_there tuples rows t place)
  where
    by : (b : Bool) → (if b then Some row.place else place_of rows t) ≡ Some place → (place_of rows t ≡ Some place → IsThere (first_cells tuples rows) place) → IsThere (fin.insert (first_cells tuples rows) row.place (value_at tuples row.tuple)) place
    by true at rest = let here : row.place ≡ place = cc in subst (IsThere (fin.insert (first_cells tuples rows) row.place (value_at tuples row.tuple))) here (written (first_cells tuples rows) row.place (value_at tuples row.tuple))
    by false at rest = kept (first_cells tuples rows) row.place place (value_at tuples row.tuple) (rest at)

cells_within : (shape : Shape) (tuples : Tuples) (rows : List LayoutRow) → AllByRecursion (λ row. has_place shape row.place ≡ true) rows → (place : Place) → IsThere (first_cells tuples rows) place → has_place shape place ≡ true
cells_within shape tuples [] all place there = absurd (let clash : false ≡ true = sym (ap is_some (fin.get-empty place_cmp place)) ∙ there in cc)
cells_within shape tuples (row ∷ rows) all place there =
    only (first_cells tuples rows) row.place place (value_at tuples row.tuple) (λ p. has_place shape p ≡ true) all.0 (cells_within shape tuples rows all.1 place) there

-- ---- the places of packets

place_there : (tuples : Tuples) (rows : List LayoutRow) (t : TupleId) → is_hot rows t ≡ true → IsThere (first_cells tuples rows) (hot_place rows t)
place_there tuples rows t hot = by (place_of rows t) refl hot
  where
    by : (o : Option Place) → place_of rows t ≡ o → is_some o ≡ true → IsThere (first_cells tuples rows) (unwrap_or (place_of rows t) (record { stage = 0; array = 0; cell = 0 }))
    by None is e = cc
    by (Some place) is e = subst (λ (o : Option Place). IsThere (first_cells tuples rows) (unwrap_or o (record { stage = 0; array = 0; cell = 0 }))) (sym is) (cells_there tuples rows t place is)

hot_there : (tuples : Tuples) (rows : List LayoutRow) (ops : List Op) → AllByRecursion (IsThere (first_cells tuples rows)) (map (λ op. hot_place rows op.tuple) (hot_ops rows ops))
hot_there tuples rows [] = tt
hot_there tuples rows (op ∷ ops) = by (is_hot rows op.tuple) refl (hot_there tuples rows ops)
  where
    by : (b : Bool) → is_hot rows op.tuple ≡ b → AllByRecursion (IsThere (first_cells tuples rows)) (map (λ o. hot_place rows o.tuple) (hot_ops rows ops))
        → AllByRecursion (IsThere (first_cells tuples rows)) (map (λ o. hot_place rows o.tuple) (if b then op ∷ hot_ops rows ops else hot_ops rows ops))
    by true hot rest = (place_there tuples rows op.tuple hot, rest)
    by false cold rest = rest

unmapped : (P : Place → Type 0) (ops : List PacketOp) → AllByRecursion P (map (λ op. op.place) ops) → AllByRecursion (λ op. P op.place) ops
unmapped P [] all = tt
unmapped P (op ∷ ops) all = (all.0, unmapped P ops all.1)

-- the packet's places have registers
abbrev pub HasPlaces : Places → PlainPacket → Type 0
HasPlaces m p = AllByRecursion (λ op. IsThere m op.place) p.ops

pub packets_have_places : (plan : Plan) → OfPackets plan (HasPlaces (hot_cells plan))
packets_have_places plan client seq values hot =
    let ops = script_at plan client seq in
    unmapped (IsThere (hot_cells plan)) (packet_of plan.shape plan.layout client seq ops values).ops
    (subst (AllByRecursion (IsThere (hot_cells plan))) (sym (places-packet plan.shape plan.layout client seq ops values)) (hot_there plan.tuples plan.layout ops))

-- ---- registers behind packets

one_there : (m : Places) (ops : List PacketOp) → AllByRecursion (λ op. IsThere m op.place) ops → (i : ℕ) (op : PacketOp) → slice_get ops i ≡ Some op → IsThere m op.place
one_there m [] all i op e = cc
one_there m (o ∷ ops) all zero op e = let same : o ≡ op = cc in subst (λ (x : PacketOp). IsThere m x.place) same all.0
one_there m (o ∷ ops) all (suc i) op e = one_there m ops all.1 i op e

moved_places : (m n : Places) → SamePlaces m n → (ps : List PlainPacket) → AllByRecursion (HasPlaces m) ps → AllByRecursion (HasPlaces n) ps
moved_places m n same [] all = tt
moved_places m n same (p ∷ ps) all = (each p.ops all.0, moved_places m n same ps all.1)
  where
    each : (ops : List PacketOp) → AllByRecursion (λ op. IsThere m op.place) ops → AllByRecursion (λ op. IsThere n op.place) ops
    each [] a = tt
    each (op ∷ ops) a = (same op.place ∙ a.0, each ops a.1)

same_behind : (ps : List PlainPacket) (m : Places) → AllByRecursion (HasPlaces m) ps → SamePlaces m (replay_all ps m).after
unfolding replay_all
same_behind [] m all q = refl
same_behind (p ∷ ps) m all q =
    let same = execute_same p.ops [] m (one_there m p.ops all.0) in
    same_behind ps (replay p m).after (moved_places m (replay p m).after same ps all.1) q ∙ same q

-- registers behind packets of the session stand at places of its switch
pub registers_within : (plan : Plan) (ps : List PlainPacket) → IsSound plan → AllByRecursion (HasPlaces (hot_cells plan)) ps → (place : Place)
    → IsSome (fin.get (replay_all ps (hot_cells plan)).after place) → IsTrue (has_place plan.shape place)
registers_within plan ps sound all place some = cells_within plan.shape plan.tuples plan.layout (rows_have_places plan.shape plan.tuples plan.layout sound.layout) place (sym (same_behind ps (hot_cells plan) all place) ∙ some)
