-- Joined replies: how long they are, what their operations on hosts found, and that they are local.
use Rattle.std.proofs.Common.{◌≡◌, ℕ, ℤ, zero, suc, Bool, true, false, not, List, [], ◌∷◌, ◌++◌, drop, length, slice_get, Some, refl, sym, ap, subst, ◌∙◌, arith, if◌then◌else◌}
use Rattle.std.specs.List.{zip}
use Rattle.std.proofs.lemmas.List.{length-map}
use Rattle.txn_model.specs.Local.{IsLocalFrom}
use Rattle.txn_model.specs.Places.{Places}
use Rattle.txn_model.specs.Serial.{pair_at, pair_of}
use Rattle.txn_model.specs.declared.op.Op.{Op}
use Rattle.txn_model.specs.declared.pairs.Pair.{Pair}
use Rattle.stage_layout.specs.Late.{is_hot}
use Rattle.stage_layout.specs.declared.layout.LayoutRow.{LayoutRow}
use Rattle.stage_layout.specs.declared.shape.Shape.{Shape}
use Rattle.history_model.specs.Chain.{Step}
use Rattle.core_model.specs.Decision.{cold_steps}
use Rattle.core_model.proofs.StepsOf.{some_step}
use Rattle.switch_packet.specs.Packets.{PlainPacket}
use Rattle.switch_packet.specs.PlaceChain as packet
use Rattle.switch_packet.specs.Replay.{replay, always}
use Rattle.switch_packet.proofs.ExecuteLaws.{pairs-execute}
use Rattle.switch_packet.proofs.PlaceChainLaws.{local-made}
use Rattle.switch_packet.proofs.ReplayLaws.{length-replay}
use Rattle.warm_split.specs.Joined.{joined, joined_from, first_value}
use Rattle.warm_split.specs.Laws.{IsOneVisit}
use Rattle.stage_layout.specs.Passes.{plan_of}
use Rattle.warm_split.specs.Resolved.{packet_of, planned_ops}
use Rattle.warm_split.specs.Sides.{hot_ops}
use Rattle.warm_split.proofs.JoinedLaws.{joined_local, packet_ops, length-plan}
use Rattle.warm_split.proofs.KnownPairs.{joined_hot, joined_cold}

pub length-joined_from : (rows : List LayoutRow) (done : List Pair) (ops : List Op) (values : List ℤ) (hot : List Pair) → length (joined_from rows done ops values hot) ≡ length ops
length-joined_from rows done [] values hot = refl
length-joined_from rows done (op ∷ ops) values hot = by (is_hot rows op.tuple) refl (λ p vs hs. length-joined_from rows (done ++ p ∷ []) ops vs hs)
  where
    by : (b : Bool) → is_hot rows op.tuple ≡ b → ((p : Pair) (vs : List ℤ) (hs : List Pair) → length (joined_from rows (done ++ p ∷ []) ops vs hs) ≡ length ops) → length (joined_from rows done (op ∷ ops) values hot) ≡ suc (length ops)
    by true e rest = ap length (joined_hot rows done op ops values hot e) ∙ ap suc (rest (pair_at hot 0) values (drop 1 hot))
    by false e rest = ap length (joined_cold rows done op ops values hot e) ∙ ap suc (rest (pair_of op done (first_value values)) (drop 1 values) hot)

-- an operation on a host found the value at its place among these
pub joined_finds : (rows : List LayoutRow) (done : List Pair) (ops : List Op) (values : List ℤ) (hot : List Pair) (k : ℕ) (op : Op) (p : Pair) (v : ℤ)
    → slice_get (cold_steps rows ops (joined_from rows done ops values hot)) k ≡ Some (op, p) → slice_get values k ≡ Some v → p.was ≡ v
joined_finds rows done [] values hot k op p v is at = cc
joined_finds rows done (o ∷ ops) values hot k op p v is at = by (is_hot rows o.tuple) refl (λ q vs hs j. joined_finds rows (done ++ q ∷ []) ops vs hs j op p v)
  where
    Rest : Type 0
    Rest = (q : Pair) (vs : List ℤ) (hs : List Pair) (j : ℕ) → slice_get (cold_steps rows ops (joined_from rows (done ++ q ∷ []) ops vs hs)) j ≡ Some (op, p) → slice_get vs j ≡ Some v → p.was ≡ v

    first : (q : Pair) (vs : List ℤ) (j : ℕ) (l : List Step) → Rest → slice_get ((o, q) ∷ l) j ≡ Some (op, p) → (q.was ≡ first_value vs) → slice_get vs j ≡ Some v → ((i : ℕ) → j ≡ suc i → slice_get l i ≡ Some (op, p) → slice_get (drop 1 vs) i ≡ Some v → p.was ≡ v) → p.was ≡ v
    first q [] j l rest here found is_v later = cc
    first q (w ∷ vs) zero l rest here found is_v later =
        let same = some_step (o, q) (op, p) here in
        let value : w ≡ v = cc in
        ap (λ (z : Pair). z.was) (sym same.1) ∙ found ∙ value
    first q (w ∷ vs) (suc i) l rest here found is_v later = later i refl here is_v

    by : (b : Bool) → is_hot rows o.tuple ≡ b → Rest → p.was ≡ v
    by true e rest =
        rest (pair_at hot 0) values (drop 1 hot) k
        (ap (λ (t : Bool). slice_get (if not t then (o, pair_at hot 0) ∷ cold_steps rows ops (joined_from rows (done ++ pair_at hot 0 ∷ []) ops values (drop 1 hot)) else cold_steps rows ops (joined_from rows (done ++ pair_at hot 0 ∷ []) ops values (drop 1 hot))) k) (sym e)
        ∙ ap (λ (l : List Pair). slice_get (cold_steps rows (o ∷ ops) l) k) (sym (joined_hot rows done o ops values hot e)) ∙ is) at
    by false e rest =
        let q = pair_of o done (first_value values) in
        first q values k (cold_steps rows ops (joined_from rows (done ++ q ∷ []) ops (drop 1 values) hot)) rest
        (ap (λ (t : Bool). slice_get (if not t then (o, q) ∷ cold_steps rows ops (joined_from rows (done ++ q ∷ []) ops (drop 1 values) hot) else cold_steps rows ops (joined_from rows (done ++ q ∷ []) ops (drop 1 values) hot)) k) (sym e)
        ∙ ap (λ (l : List Pair). slice_get (cold_steps rows (o ∷ ops) l) k) (sym (joined_cold rows done o ops values hot e)) ∙ is) refl at
        (λ i same step value. rest q (drop 1 values) hot i step value)

-- the pairs of a packet's replay are local
pub local-replay : (p : PlainPacket) (m : Places) → packet.IsLocalFrom [] p.ops (replay p m).pairs
local-replay p m = subst (packet.IsLocalFrom [] p.ops) (sym (pairs-execute always p.ops [] [] m)) (local-made p.ops [] [] m)

length-zip : {X Y : Type 0} (xs : List X) (ys : List Y) → length xs ≡ length ys → length (zip xs ys) ≡ length ys
length-zip [] [] e = refl
length-zip [] (y ∷ ys) e = absurd (omega (arith, e))
length-zip (x ∷ xs) [] e = refl
length-zip (x ∷ xs) (y ∷ ys) e = ap suc (length-zip xs ys (omega (arith, e)))

pub length-packet : (shape : Shape) (rows : List LayoutRow) (client seq : ℕ) (ops : List Op) (values : List ℤ) → length (packet_of shape rows client seq ops values).ops ≡ length (hot_ops rows ops)
length-packet shape rows client seq ops values =
    let passes = (plan_of shape (planned_ops rows ops)).passes in
    ap length (packet_ops shape rows client seq ops values) ∙ length-map (zip passes (hot_ops rows ops)) _ ∙ length-zip passes (hot_ops rows ops) (length-plan shape rows ops)

-- a reply that is joined of a replay is local
pub local-joined : (shape : Shape) (rows : List LayoutRow) (client seq : ℕ) (ops : List Op) (values : List ℤ) (m : Places) → IsOneVisit rows ops
    → IsLocalFrom [] ops (joined rows ops values (replay (packet_of shape rows client seq ops values) m).pairs)
local-joined shape rows client seq ops values m visit =
    let p = packet_of shape rows client seq ops values in
    (joined_local shape rows client seq ops values (replay p m).pairs visit (length-replay p m ∙ length-packet shape rows client seq ops values)).1 (local-replay p m)
