-- Joined replies: what the packet's own operations find and leave is what the script's do.
use Rattle.std.proofs.Common.{◌≡◌, ◌↔◌, ℕ, zero, suc, ◌+◌, ◌<◌, Bool, true, false, cond, not, ℤ, pos, List, [], ◌∷◌, ◌++◌, drop, length, take, slice_get, map, filter, Option, Some, None, is_some, if◌then◌else◌, refl, sym, ap, subst, ◌∙◌, arith, append_assoc, append-nil}
use Rattle.std.specs.List.{list_any, zip, AllByRecursion}
use Rattle.std.proofs.lemmas.List.{length_push, length-map, get_or_append_left}
use Rattle.std.proofs.lemmas.Option.{get_or_from_slice_get, slice_get_within}
use Rattle.txn_model.specs.Local as script
use Rattle.txn_model.specs.Needs.{needs_list}
use Rattle.txn_model.specs.Serial.{pair_at, operand, effect, pair_of}
use Rattle.txn_model.specs.declared.op.Op.{Op}
use Rattle.txn_model.specs.declared.pairs.Pair.{Pair}
use Rattle.stage_layout.specs.Late.{Part, Before, Hot, Late, is_hot, is_before, is_in_switch, is_after, part_at, next_part, parts_of}
use Rattle.stage_layout.specs.Passes.{steps_of, plan_of}
use Rattle.stage_layout.specs.declared.layout.LayoutRow.{LayoutRow}
use Rattle.stage_layout.specs.declared.shape.Shape.{Shape}
use Rattle.stage_layout.proofs.LateLaws.{part_at-parts_of}
use Rattle.stage_layout.proofs.PassLaws.{length-steps_of}
use Rattle.switch_packet.specs.PlaceChain as packet
use Rattle.switch_packet.specs.Replay.{packet_pair}
use Rattle.switch_packet.specs.declared.packet.PacketOp.{PacketOp}
use Rattle.warm_split.specs.Joined.{joined_from, joined, first_value}
use Rattle.warm_split.specs.Laws.{IsOneVisit, JoinedAreLocal}
use Rattle.warm_split.specs.Resolved.{planned_ops, packet_op, packet_from, packet_of}
use Rattle.warm_split.specs.Sides.{hot_ops}
use Rattle.warm_split.proofs.ScriptFits.{OpFits, AllFit, all_fit}
use Rattle.warm_split.proofs.KnownPairs.{AgreeTo, joined_hot, joined_cold, joined_agree}
use Rattle.warm_split.proofs.Operands.{HasHot, operand_split, hot_push, cold_push}

-- the packet's operations for these of the script
abbrev pub packed : List LayoutRow → List Part → List Pair → List ℕ → List Op → List PacketOp
packed rows parts known passes ops = map (λ step. packet_op rows parts known step.0 step.1) (zip passes (hot_ops rows ops))

pub hot_ops-hot : (rows : List LayoutRow) (op : Op) (ops : List Op) → is_hot rows op.tuple ≡ true → hot_ops rows (op ∷ ops) ≡ op ∷ hot_ops rows ops
hot_ops-hot rows op ops e = rw e refl

pub hot_ops-cold : (rows : List LayoutRow) (op : Op) (ops : List Op) → is_hot rows op.tuple ≡ false → hot_ops rows (op ∷ ops) ≡ hot_ops rows ops
hot_ops-cold rows op ops e = rw e refl

in_switch : (hot needy : Bool) → is_in_switch (if hot then Hot else (if needy then Late else Before)) ≡ hot
in_switch true needy = refl
in_switch false true = refl
in_switch false false = refl

-- an operation is in the switch where its tuple is
pub hot_in_switch : (rows : List LayoutRow) (parts : List Part) (k : ℕ) (op : Op) → OpFits rows parts k op → is_in_switch (part_at parts k) ≡ is_hot rows op.tuple
hot_in_switch rows parts k op fits = ap is_in_switch fits.part ∙ in_switch (is_hot rows op.tuple) (list_any (λ n. not (is_before (part_at parts n.from))) (needs_list op.needs))

-- so it is in every script, whatever it needs
pub in_switch_at : (rows : List LayoutRow) (ops : List Op) (k : ℕ) (op : Op) → slice_get ops k ≡ Some op → is_in_switch (part_at (parts_of rows ops) k) ≡ is_hot rows op.tuple
in_switch_at rows ops k op at =
    let before = parts_of rows (take k ops) in
    ap is_in_switch (part_at-parts_of rows ops k op (slice_get_within ops k op at) ∙ ap (next_part rows before) (get_or_from_slice_get ops k op op at))
    ∙ in_switch (is_hot rows op.tuple) (list_any (λ n. not (is_before (part_at before n.from))) (needs_list op.needs))

-- behind the same pairs, an operation of the packet leaves what the script's leaves
pub same_left : (rows : List LayoutRow) (parts : List Part) (k : ℕ) (op : Op) (known done hot : List Pair) (pass : ℕ) (v : ℤ) → OpFits rows parts k op → is_hot rows op.tuple ≡ true → AgreeTo parts k known done → HasHot parts k done hot
    → pair_of op done v ≡ packet_pair (packet_op rows parts known pass op) hot v
same_left rows parts k op known done hot pass v fits e agree has =
    ap (λ (s : ℤ). record { was = v; now = effect op.act v s }) (operand_split parts k known done hot op.needs agree has fits.earlier (fits.turn e))

-- what agrees up to the end does so up to an operation before
pub front_agrees : (parts : List Part) (k n : ℕ) (known done more : List Pair) → length done ≡ k → AgreeTo parts (k + n) known (done ++ more) → AgreeTo parts k known done
front_agrees parts k n known done more size agree j h before =
    let d : Pair = record { was = pos 0; now = pos 0 } in
    agree j (omega arith) before ∙ get_or_append_left done more d j (omega arith)

-- so does it with one more pair at the front
pub next_agrees : (parts : List Part) (k n : ℕ) (known done more : List Pair) (p : Pair) → AgreeTo parts (k + suc n) known (done ++ p ∷ more) → AgreeTo parts ((k + 1) + n) known ((done ++ p ∷ []) ++ more)
next_agrees parts k n known done more p agree j h before = agree j (omega arith) before ∙ ap (λ (l : List Pair). pair_at l j) (sym (append_assoc done (p ∷ []) more))

-- ---- joined pairs are local where the packet's are

-- the rest of a script's pairs are local exactly where those of the packet are
abbrev pub AlikeFrom : List LayoutRow → List Part → List Pair → List ℕ → List Op → List Pair → List Pair → List ℤ → List Pair → Type 0
AlikeFrom rows parts known passes ops done hot values ps =
    (script.IsLocalFrom done ops (joined_from rows done ops values ps) → packet.IsLocalFrom hot (packed rows parts known passes ops) ps)
    × (packet.IsLocalFrom hot (packed rows parts known passes ops) ps → script.IsLocalFrom done ops (joined_from rows done ops values ps))

-- what is known where the rest of a script is joined
record IsJoining (rows : List LayoutRow) (parts : List Part) (known : List Pair) (k : ℕ) (passes : List ℕ) (ops : List Op) (done hot : List Pair) (values : List ℤ) (ps : List Pair) : Type 0 where
  passes_size : length passes ≡ length (hot_ops rows ops)
  pairs_size : length ps ≡ length (hot_ops rows ops)
  has : HasHot parts k done hot
  agree : AgreeTo parts (k + length ops) known (done ++ joined_from rows done ops values ps)

abbrev RestAlike : List LayoutRow → List Part → List Pair → ℕ → List Op → Type 0
RestAlike rows parts known k ops = (passes : List ℕ) (done hot : List Pair) (values : List ℤ) (ps : List Pair) → IsJoining rows parts known k passes ops done hot values ps → AlikeFrom rows parts known passes ops done hot values ps

alike_hot : (rows : List LayoutRow) (parts : List Part) (known : List Pair) (k : ℕ) (op : Op) (ops : List Op) → OpFits rows parts k op → RestAlike rows parts known (k + 1) ops → is_hot rows op.tuple ≡ true
    → (passes : List ℕ) (done hot : List Pair) (values : List ℤ) (ps : List Pair) → IsJoining rows parts known k passes (op ∷ ops) done hot values ps → AlikeFrom rows parts known passes (op ∷ ops) done hot values ps
alike_hot rows parts known k op ops fits rest e [] done hot values ps j = absurd (let size = j.passes_size ∙ ap length (hot_ops-hot rows op ops e) in omega (arith, size))
alike_hot rows parts known k op ops fits rest e (q ∷ qs) done hot values [] j = absurd (let size = j.pairs_size ∙ ap length (hot_ops-hot rows op ops e) in omega (arith, size))
alike_hot rows parts known k op ops fits rest e (q ∷ qs) done hot values (p ∷ ps) j =
    let front = front_agrees parts k (suc (length ops)) known done (joined_from rows done (op ∷ ops) values (p ∷ ps)) j.has.size j.agree in
    let switch : is_in_switch (part_at parts k) ≡ true = hot_in_switch rows parts k op fits ∙ e in
    let later : AlikeFrom rows parts known qs ops (done ++ p ∷ []) (hot ++ p ∷ []) values ps = rest qs (done ++ p ∷ []) (hot ++ p ∷ []) values ps (record {
      passes_size = let size = j.passes_size ∙ ap length (hot_ops-hot rows op ops e) in omega (arith, size);
      pairs_size = let size = j.pairs_size ∙ ap length (hot_ops-hot rows op ops e) in omega (arith, size);
      has = hot_push parts k done hot p j.has switch;
      agree = next_agrees parts k (length ops) known done (joined_from rows (done ++ p ∷ []) ops values ps) p (rw (joined_hot rows done op ops values (p ∷ ps) e) at j.agree);
    }) in
    let same : effect op.act p.was (operand (needs_list op.needs) (pos 0) done) ≡ (packet_pair (packet_op rows parts known q op) hot p.was).now =
    ap (λ (x : Pair). x.now) (same_left rows parts k op known done hot q p.was fits e front j.has) in
    rw e (λ l. (l.0 ∙ same, later.0 l.1), λ l. (l.0 ∙ sym same, later.1 l.1))

alike_cold : (rows : List LayoutRow) (parts : List Part) (known : List Pair) (k : ℕ) (op : Op) (ops : List Op) → OpFits rows parts k op → RestAlike rows parts known (k + 1) ops → is_hot rows op.tuple ≡ false
    → (passes : List ℕ) (done hot : List Pair) (values : List ℤ) (ps : List Pair) → IsJoining rows parts known k passes (op ∷ ops) done hot values ps → AlikeFrom rows parts known passes (op ∷ ops) done hot values ps
alike_cold rows parts known k op ops fits rest e passes done hot values ps j =
    let p = pair_of op done (first_value values) in
    let switch : is_in_switch (part_at parts k) ≡ false = hot_in_switch rows parts k op fits ∙ e in
    let later : AlikeFrom rows parts known passes ops (done ++ p ∷ []) hot (drop 1 values) ps = rest passes (done ++ p ∷ []) hot (drop 1 values) ps (record {
      passes_size = j.passes_size ∙ ap length (hot_ops-cold rows op ops e);
      pairs_size = j.pairs_size ∙ ap length (hot_ops-cold rows op ops e);
      has = cold_push parts k done hot p j.has switch;
      agree = next_agrees parts k (length ops) known done (joined_from rows (done ++ p ∷ []) ops (drop 1 values) ps) p (rw (joined_cold rows done op ops values ps e) at j.agree);
    }) in
    rw e (λ l. later.0 l.1, λ l. (refl, later.1 l))

alike : (rows : List LayoutRow) (parts : List Part) (known : List Pair) (k : ℕ) (ops : List Op) → AllFit rows parts k ops → RestAlike rows parts known k ops
alike rows parts known k [] fits [] done hot values [] j = (λ l. l, λ l. l)
alike rows parts known k [] fits (q ∷ qs) done hot values ps j = absurd (omega (arith, j.passes_size))
alike rows parts known k [] fits [] done hot values (p ∷ ps) j = absurd (omega (arith, j.pairs_size))
alike rows parts known k (op ∷ ops) fits passes done hot values ps j =
    by (is_hot rows op.tuple) refl (alike rows parts known (k + 1) ops fits.1)
  where
    by : (b : Bool) → is_hot rows op.tuple ≡ b → RestAlike rows parts known (k + 1) ops → AlikeFrom rows parts known passes (op ∷ ops) done hot values ps
    by true e rest = alike_hot rows parts known k op ops fits.0 rest e passes done hot values ps j
    by false e rest = alike_cold rows parts known k op ops fits.0 rest e passes done hot values ps j

pub starts : (parts : List Part) → HasHot parts 0 [] []
starts parts = record { size = refl; hot_size = refl; pairs = λ j h e. absurd (omega arith) }

-- the operations of the packet of a script
pub packet_ops : (shape : Shape) (rows : List LayoutRow) (client seq : ℕ) (ops : List Op) (values : List ℤ)
    → (packet_of shape rows client seq ops values).ops ≡ packed rows (parts_of rows ops) (joined rows ops values []) (plan_of shape (planned_ops rows ops)).passes ops
unfolding packet_from
packet_ops shape rows client seq ops values = refl

pub length-plan : (shape : Shape) (rows : List LayoutRow) (ops : List Op) → length (plan_of shape (planned_ops rows ops)).passes ≡ length (hot_ops rows ops)
unfolding plan_of
length-plan shape rows ops =
    length-map (steps_of (planned_ops rows ops)) (λ s. s.pass) ∙ length-steps_of (planned_ops rows ops) ∙ length-map (hot_ops rows ops) _

-- what is known agrees with the joined pairs
pub known_agrees : (rows : List LayoutRow) (ops : List Op) (values : List ℤ) (hot : List Pair) → IsOneVisit rows ops → AgreeTo (parts_of rows ops) (0 + length ops) (joined rows ops values []) ([] ++ joined rows ops values hot)
known_agrees rows ops values hot visit =
    joined_agree rows (parts_of rows ops) 0 ops [] [] values [] hot (all_fit rows ops visit) refl refl (λ j h before. refl)

pub joined_local : JoinedAreLocal
joined_local shape rows client seq ops values hot visit size =
    let passes = (plan_of shape (planned_ops rows ops)).passes in
    let both = alike rows (parts_of rows ops) (joined rows ops values []) 0 ops (all_fit rows ops visit) passes [] [] values hot (record {
      passes_size = length-plan shape rows ops;
      pairs_size = size;
      has = starts (parts_of rows ops);
      agree = known_agrees rows ops values hot visit;
    }) in
    subst (λ (l : List PacketOp). script.IsLocalFrom [] ops (joined rows ops values hot) ↔ packet.IsLocalFrom [] l hot) (sym (packet_ops shape rows client seq ops values)) (both.0, both.1)
