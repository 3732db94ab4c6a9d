-- The packets of a sound session fit its switch.
use Rattle.std.proofs.Common.{◌≡◌, ℕ, ℤ, pos, zero, suc, ◌+◌, ◌-◌, ◌^◌, ◌<◌, ◌≤◌, ◌==◌, ◌&&◌, ◌||◌, not, nat_lt, Bool, true, false, List, [], ◌∷◌, map, length, get_or, slice_get, unwrap_or, is_some, Option, Some, None, IsTrue, FitsSigned, rules, refl, sym, ap, subst, ◌∙◌, arith, if◌then◌else◌}
use Rattle.std.specs.FinMap as fin
use Rattle.std.specs.Int.{w64}
use Rattle.std.specs.List.{AllByRecursion, list_any, zip}
use Rattle.std.specs.Option.{option_and_then}
use Rattle.std.proofs.lemmas.Int.{int_wrap_fits}
use Rattle.std.proofs.lemmas.Option.{get_or_from_slice_get, slice_get_within}
use Rattle.std.proofs.lemmas.Bool.{and_parts, ltb-true}
use Rattle.std.proofs.lemmas.Bool.Decides.{nat_tests}
use Rattle.std.proofs.lemmas.List.{length-map}
use Rattle.std.proofs.lemmas.List.Elements.{recursion_from_All}
use Rattle.txn_model.specs.Needs.{needs_list, needs_of}
use Rattle.txn_model.specs.ScriptCheck.{names, is_read, uses_badly, script_fault}
use Rattle.txn_model.specs.Serial.{operand}
use Rattle.txn_model.specs.Tuples.{Tuples}
use Rattle.txn_model.specs.declared.op.Need.{Need}
use Rattle.txn_model.specs.declared.op.Op.{Op}
use Rattle.txn_model.specs.declared.op.TupleId.{TupleId}
use Rattle.txn_model.specs.declared.pairs.Pair.{Pair}
use Rattle.txn_model.specs.declared.place.Place.{Place}
use Rattle.txn_model.proofs.SerialLaws.{item_of_all, sound_uses}
use Rattle.stage_layout.specs.Late.{Part, is_hot, parts_of}
use Rattle.stage_layout.specs.Layout.{same_tuple, place_of, is_bad_row, first_bad_row, first_repeat, first_of, layout_fault}
use Rattle.stage_layout.specs.Passes.{step_at, steps_of, plan_of, greatest, ComesBefore, NeedsBelow, NeedEarlier}
use Rattle.stage_layout.specs.Regions.{touches, halves_of}
use Rattle.stage_layout.specs.Shape.{has_place, IsShape}
use Rattle.stage_layout.specs.declared.layout.LayoutFault.TheVariants.{BadPlace, PlaceTwice}
use Rattle.stage_layout.specs.declared.layout.LayoutRow.{LayoutRow}
use Rattle.stage_layout.specs.declared.pass_plan.HotOp.{HotOp}
use Rattle.stage_layout.specs.declared.pass_plan.Step.{Step}
use Rattle.stage_layout.specs.declared.shape.Shape.{Shape}
use Rattle.stage_layout.proofs.LeastPasses.{least_of, steps_are_in_order, has_passes}
use Rattle.stage_layout.proofs.Firsts.{fails_at, fails_before}
use Rattle.switch_packet.specs.declared.packet.PacketOp.{PacketOp}
use Rattle.switch_packet.specs.Packets.{PlainPacket}
use Rattle.switch_packet.specs.Ranges as fields
use Rattle.switch_packet.specs.Replay.{PlacesDiffer}
use Rattle.switch_model.specs.Fitting.{IsWithin, IsMet, FitsSwitch, IsPlanned}
use Rattle.switch_model.specs.Flight.{places_of}
use Rattle.warm_split.specs.Joined.{joined}
use Rattle.warm_split.specs.Laws.{IsOneVisit, HavePlacesOfTheirOwn}
use Rattle.warm_split.specs.Resolved.{hot_needs, cold_needs, planned_op, planned_ops, packet_op, packet_of, packet_from}
use Rattle.warm_split.specs.Sides.{hot_ops, hot_place}
use Rattle.warm_split.proofs.Distinct.{AreApart, apart_from_sound}
use Rattle.warm_split.proofs.PackedLaws.{planned_earlier, hot_few}
use Rattle.catalogue.specs.Plan.{Plan, PlainItem, items_of, script_in, script_at}
use Rattle.catalogue.specs.Sound.{IsSound}
use Rattle.fabric_model.specs.Fits.{PacketsFit, PacketsArePlanned, PacketsHaveRanges}
use Rattle.fabric_model.proofs.Kept.{visit_of, some_hot}
use Rattle.fabric_model.proofs.HotHistory.{places-packet}
use Rattle.fabric_model.proofs.JoinedSteps.{length-packet}
use Rattle.fabric_model.proofs.Layouts.{places_of_their_own}

-- ---- lists

map_at : {X Y : Type 0} (f : X → Y) (xs : List X) (i : ℕ) (x : X) → slice_get xs i ≡ Some x → slice_get (map f xs) i ≡ Some (f x)
map_at f [] i x e = cc
map_at f (y ∷ xs) zero x e = let same : y ≡ x = cc in ap (λ z. Some (f z)) same
map_at f (y ∷ xs) (suc i) x e = map_at f xs i x e

step_has : {Y : Type 0} (f : Step → Y) (steps : List Step) (j : ℕ) (y : Y) → slice_get (map f steps) j ≡ Some y → f (step_at steps j) ≡ y
step_has f [] j y e = cc
step_has f (step ∷ steps) zero y e = cc
step_has f (step ∷ steps) (suc j) y e = step_has f steps j y e

-- what each operation needs is before it
below_at : (ops : List HotOp) (k i : ℕ) (op : HotOp) → NeedEarlier k ops → slice_get ops i ≡ Some op → NeedsBelow (k + i) (needs_list op.needs)
below_at [] k i op earlier e = cc
below_at (x ∷ ops) k zero op earlier e =
    let same : x ≡ op = cc in
    subst (λ (o : HotOp). NeedsBelow (k + 0) (needs_list o.needs)) same (subst (λ (n : ℕ). NeedsBelow n (needs_list x.needs)) {x = k} {y = k + 0} (omega arith) earlier.0)
below_at (x ∷ ops) k (suc i) op earlier e = subst (λ (n : ℕ). NeedsBelow n (needs_list op.needs)) {x = (k + 1) + i} {y = k + suc i} (omega arith) (below_at ops (k + 1) i op earlier.1 e)

both : {X : Type 0} (P Q : X → Type 0) (xs : List X) → AllByRecursion P xs → AllByRecursion Q xs → AllByRecursion (λ x. P x × Q x) xs
both P Q [] p q = tt
both P Q (x ∷ xs) p q = ((p.0, q.0), both P Q xs p.1 q.1)

each : {X : Type 0} (P Q : X → Type 0) (xs : List X) → ((x : X) → P x → Q x) → AllByRecursion P xs → AllByRecursion Q xs
each P Q [] to p = tt
each P Q (x ∷ xs) to p = (to x p.0, each P Q xs to p.1)

-- ---- the places of operations in the switch

none_bad : (shape : Shape) (tuples : Tuples) (rows : List LayoutRow) → layout_fault shape tuples rows ≡ None → first_bad_row shape tuples rows ≡ None
unfolding layout_fault
none_bad shape tuples rows e = by (first_bad_row shape tuples rows) (first_repeat rows) e
  where
    by : (a b : Option ℕ) → first_of a BadPlace (first_of b PlaceTwice None) ≡ None → a ≡ None
    by None b e = refl
    by (Some k) b e = cc

good_row : (there has : Bool) → (not there || not has) ≡ false → has ≡ true
good_row true true e = refl
good_row true false e = cc
good_row false has e = cc

no_row : LayoutRow
no_row = record { tuple = record { 0 = 0 }; place = record { stage = 0; array = 0; cell = 0 } }

have_places : (shape : Shape) (tuples : Tuples) (rows : List LayoutRow) → first_bad_row shape tuples rows ≡ None → AllByRecursion (λ row. has_place shape row.place ≡ true) rows
have_places shape tuples rows none =
    recursion_from_All (λ (row : LayoutRow). has_place shape row.place ≡ true) rows (λ k d lt.
    let row = get_or rows k d in good_row (is_some (fin.get tuples row.tuple)) (has_place shape row.place) (fails_at (is_bad_row shape tuples) d rows k none lt))

-- a tuple with a place has it in the switch
placed : (shape : Shape) (rows : List LayoutRow) (t : TupleId) (place : Place) → AllByRecursion (λ row. has_place shape row.place ≡ true) rows → place_of rows t ≡ Some place → has_place shape place ≡ true
placed shape [] t place all e = cc
placed shape (row ∷ rows) t place all e = by (same_tuple row.tuple t) e (placed shape rows t place all.1)
  where
    by : (b : Bool) → (if b then Some row.place else place_of rows t) ≡ Some place → (place_of rows t ≡ Some place → has_place shape place ≡ true) → has_place shape place ≡ true
    by true at rest = let here : row.place ≡ place = cc in subst (λ (p : Place). has_place shape p ≡ true) here all.0
    by false at rest = rest at

is_placed : (rows : List LayoutRow) (t : TupleId) → is_hot rows t ≡ true → place_of rows t ≡ Some (hot_place rows t)
is_placed rows t hot = by (place_of rows t) hot
  where
    by : (o : Option Place) → is_some o ≡ true → o ≡ Some (unwrap_or o (record { stage = 0; array = 0; cell = 0 }))
    by None e = cc
    by (Some p) e = refl

-- ---- the operations in the switch

hot_each : (rows : List LayoutRow) (ops : List Op) → AllByRecursion (λ op. is_hot rows op.tuple ≡ true) (hot_ops rows ops)
hot_each rows [] = tt
hot_each rows (op ∷ ops) = by (is_hot rows op.tuple) refl (hot_each rows ops)
  where
    by : (b : Bool) → is_hot rows op.tuple ≡ b → AllByRecursion (λ o. is_hot rows o.tuple ≡ true) (hot_ops rows ops) → AllByRecursion (λ o. is_hot rows o.tuple ≡ true) (if b then op ∷ hot_ops rows ops else hot_ops rows ops)
    by true e rest = (e, rest)
    by false e rest = rest

not_named : (rows : List LayoutRow) (ops : List Op) (t : TupleId) → names ops t ≡ false → names (hot_ops rows ops) t ≡ false
not_named rows [] t e = refl
not_named rows (op ∷ ops) t e = by (is_hot rows op.tuple) (op.tuple.0 == t.0) refl e (not_named rows ops t)
  where
    by : (b n : Bool) → (op.tuple.0 == t.0) ≡ n → (n || names ops t) ≡ false → (names ops t ≡ false → names (hot_ops rows ops) t ≡ false) → names (if b then op ∷ hot_ops rows ops else hot_ops rows ops) t ≡ false
    by b true is none rest = cc
    by true false is none rest = ap (λ (n : Bool). n || names (hot_ops rows ops) t) is ∙ rest none
    by false false is none rest = rest none

hot_apart : (rows : List LayoutRow) (ops : List Op) → AreApart ops → AreApart (hot_ops rows ops)
hot_apart rows [] apart = tt
hot_apart rows (op ∷ ops) apart = by (is_hot rows op.tuple) (hot_apart rows ops apart.1)
  where
    by : (b : Bool) → AreApart (hot_ops rows ops) → AreApart (if b then op ∷ hot_ops rows ops else hot_ops rows ops)
    by true rest = (not_named rows ops op.tuple apart.0, rest)
    by false rest = rest

is_named : (ops : List Op) (j : ℕ) (op : Op) → slice_get ops j ≡ Some op → names ops op.tuple ≡ true
is_named [] j op e = cc
is_named (x ∷ ops) zero op e =
    let same : x ≡ op = cc in
    let itself : (op.tuple.0 == op.tuple.0) ≡ true = grind (arith, nat_tests) in
    ap (λ (b : Bool). b || names ops op.tuple) (ap (λ (o : Op). o.tuple.0 == op.tuple.0) same ∙ itself)
is_named (x ∷ ops) (suc j) op e = by (x.tuple.0 == op.tuple.0) (names ops op.tuple) (is_named ops j op e)
  where
    by : (a b : Bool) → b ≡ true → (a || b) ≡ true
    by true b e = refl
    by false b e = e

-- operations that are apart are on one tuple only where they are one
one_place : (ops : List Op) (i j : ℕ) (a b : Op) → AreApart ops → slice_get ops i ≡ Some a → slice_get ops j ≡ Some b → a.tuple ≡ b.tuple → i ≡ j
one_place [] i j a b apart at_i at_j same = cc
one_place (x ∷ ops) zero zero a b apart at_i at_j same = refl
one_place (x ∷ ops) zero (suc j) a b apart at_i at_j same =
    let here : x ≡ a = cc in
    let clash : true ≡ false = sym (is_named ops j b at_j) ∙ ap (names ops) (sym (ap (λ (o : Op). o.tuple) here ∙ same)) ∙ apart.0 in
    cc
one_place (x ∷ ops) (suc i) zero a b apart at_i at_j same =
    let here : x ≡ b = cc in
    let clash : true ≡ false = sym (is_named ops i a at_i) ∙ ap (names ops) (same ∙ sym (ap (λ (o : Op). o.tuple) here)) ∙ apart.0 in
    cc
one_place (x ∷ ops) (suc i) (suc j) a b apart at_i at_j same = ap suc (one_place ops i j a b apart.1 at_i at_j same)

some_of : (rows : List LayoutRow) (ops : List Op) → list_any (λ op. is_hot rows op.tuple) ops ≡ true → 1 ≤ length (hot_ops rows ops)
some_of rows [] e = cc
some_of rows (op ∷ ops) e = by (is_hot rows op.tuple) e (some_of rows ops)
  where
    by : (b : Bool) → (b || list_any (λ o. is_hot rows o.tuple) ops) ≡ true → (list_any (λ o. is_hot rows o.tuple) ops ≡ true → 1 ≤ length (hot_ops rows ops)) → 1 ≤ length (if b then op ∷ hot_ops rows ops else hot_ops rows ops)
    by true is rest = omega arith
    by false is rest = rest is

-- ---- the packet's operations

-- operation i of the packet is this one of the script's, in this pass
record Made (rows : List LayoutRow) (parts : List Part) (known : List Pair) (passes : List ℕ) (hot : List Op) (i : ℕ) (o : PacketOp) : Type 0 where
  pass : ℕ
  op : Op
  pass_at : slice_get passes i ≡ Some pass
  op_at : slice_get hot i ≡ Some op
  is : o ≡ packet_op rows parts known pass op

made_at : (rows : List LayoutRow) (parts : List Part) (known : List Pair) (passes : List ℕ) (hot : List Op) (i : ℕ) (o : PacketOp)
    → slice_get (map (λ (step : ℕ × Op). packet_op rows parts known step.0 step.1) (zip passes hot)) i ≡ Some o → Made rows parts known passes hot i o
made_at rows parts known [] hot i o e = cc
made_at rows parts known (pass ∷ passes) [] i o e = cc
made_at rows parts known (pass ∷ passes) (op ∷ hot) zero o e = record { pass = pass; op = op; pass_at = refl; op_at = refl; is = cc }
made_at rows parts known (pass ∷ passes) (op ∷ hot) (suc i) o e =
    let m = made_at rows parts known passes hot i o e in
    record { pass = m.pass; op = m.op; pass_at = m.pass_at; op_at = m.op_at; is = m.is }

-- an operation of a list
abbrev IsItem : List Op → Op → Type 0
IsItem ops op = (i : ℕ) × (slice_get ops i ≡ Some op)

filtered_item : (rows : List LayoutRow) (ops : List Op) (op : Op) (j : ℕ) → slice_get (hot_ops rows ops) j ≡ Some op → IsItem ops op
filtered_item rows [] op j e = cc
filtered_item rows (x ∷ ops) op j e = by (is_hot rows x.tuple) j e (filtered_item rows ops op)
  where
    by : (b : Bool) (k : ℕ) → slice_get (if b then x ∷ hot_ops rows ops else hot_ops rows ops) k ≡ Some op → ((i : ℕ) → slice_get (hot_ops rows ops) i ≡ Some op → IsItem ops op) → IsItem (x ∷ ops) op
    by true zero at rest = (0, at)
    by true (suc k) at rest = let r = rest k at in (suc r.0, r.1)
    by false k at rest = let r = rest k at in (suc r.0, r.1)

-- a read of a sound script needs nothing
read_has_none : (ops : List Op) (i : ℕ) (op : Op) → script_fault ops ≡ None → slice_get ops i ≡ Some op → IsTrue (is_read op.act) → needs_list op.needs ≡ []
read_has_none ops i op sound at reads =
    none (is_read op.act) (needs_list op.needs) reads
    (subst (λ (o : Op). uses_badly i o ≡ false) (get_or_from_slice_get ops i op op at) (fails_before uses_badly op ops i (sound_uses ops sound) (slice_get_within ops i op at)))
  where
    none : (r : Bool) (ns : List Need) → IsTrue r → list_any (λ n. r || not (nat_lt n.from i)) ns ≡ false → ns ≡ []
    none true [] t e = refl
    none true (n ∷ ns) t e = cc
    none false ns t e = cc

nothing_needed : (known : List Pair) → operand [] (pos 0) known ≡ pos 0
unfolding operand
nothing_needed known = int_wrap_fits w64 (pos 0) zero_fits
  where
    zero_fits : FitsSigned w64 (pos 0)
    zero_fits = search rules

-- some half is touched where there is a place
some_half : (shape : Shape) (places : List Place) → 1 ≤ length places → fields.IsOneTo 3 (halves_of shape places)
some_half shape [] one = absurd (omega (arith, one))
some_half shape (p ∷ ps) one = by (nat_lt p.stage shape.split) (touches shape ps 0) (touches shape ps 1)
  where
    by : (b t u : Bool) → fields.IsOneTo 3 ((if (if b then 0 else 1) == 0 || t then 2 ^ 0 else 0) + (if (if b then 0 else 1) == 1 || u then 2 ^ 1 else 0))
    by true t true = (omega arith, omega arith)
    by true t false = (omega arith, omega arith)
    by false true u = (omega arith, omega arith)
    by false false u = (omega arith, omega arith)

ops_fit : (passes k : ℕ) (ops : List PacketOp) → ((i : ℕ) (o : PacketOp) → slice_get ops i ≡ Some o → fields.OpFits passes (k + i) o) → fields.OpsFit passes k ops
ops_fit passes k [] each = tt
ops_fit passes k (o ∷ ops) each = (
  subst (λ (n : ℕ). fields.OpFits passes n o) {x = k + 0} {y = k} (omega arith) (each 0 o refl),
  ops_fit passes (k + 1) ops (λ i x e. subst (λ (n : ℕ). fields.OpFits passes n x) {x = k + suc i} {y = (k + 1) + i} (omega arith) (each (suc i) x e)),
)

same_before : (step : Step) (p stage pass : ℕ) (place : Place) (q : ℕ) → step.pass ≡ pass → step.place ≡ place → p ≡ q → ComesBefore step p stage → ComesBefore (record { pass = pass; place = place }) q stage
same_before step p stage pass place q a b c h =
    subst (λ (n : ℕ). ComesBefore (record { pass = pass; place = place }) n stage) c (subst (λ (l : Place). ComesBefore (record { pass = pass; place = l }) p stage) b (subst (λ (n : ℕ). ComesBefore (record { pass = n; place = step.place }) p stage) a h))

module _ (shape : Shape) (rows : List LayoutRow) (client seq : ℕ) (ops : List Op) (values : List ℤ) (own : HavePlacesOfTheirOwn rows) (places : AllByRecursion (λ row. has_place shape row.place ≡ true) rows)
    (visit : IsOneVisit rows ops) (some : list_any (λ op. is_hot rows op.tuple) ops ≡ true) where
  abbrev parts : List Part
  parts = parts_of rows ops

  abbrev known : List Pair
  known = joined rows ops values []

  abbrev hot : List Op
  hot = hot_ops rows ops

  abbrev planned : List HotOp
  planned = planned_ops rows ops

  abbrev steps : List Step
  steps = steps_of planned

  abbrev passes : List ℕ
  passes = map (λ (step : Step). step.pass) steps

  abbrev packet : PlainPacket
  packet = packet_of shape rows client seq ops values

  made : (i : ℕ) (o : PacketOp) → slice_get packet.ops i ≡ Some o → Made rows parts known passes hot i o
  unfolding packet_from plan_of
  made i o e = made_at rows parts known passes hot i o e

  counted : packet.passes ≡ greatest passes
  unfolding packet_from plan_of
  counted = refl

  ranges : AllByRecursion (λ pass. (1 ≤ pass) × (pass ≤ greatest passes)) passes
  unfolding plan_of
  ranges = (has_passes shape planned).range

  one_pass : 1 ≤ greatest passes
  unfolding plan_of
  one_pass = (has_passes shape planned).some (omega (arith, length-map hot (planned_op rows parts), some_of rows ops some))

  -- operation i has its place in the switch
  place_at : (i : ℕ) (op : Op) → slice_get hot i ≡ Some op → place_of rows op.tuple ≡ Some (hot_place rows op.tuple)
  place_at i op e = is_placed rows op.tuple (item_of_all (λ (o : Op). is_hot rows o.tuple ≡ true) hot i op (hot_each rows ops) e)

  within_of : (i : ℕ) (o : PacketOp) → Made rows parts known passes hot i o → IsWithin shape packet o
  within_of i o m =
      let range = item_of_all (λ (pass : ℕ). (1 ≤ pass) × (pass ≤ greatest passes)) passes i m.pass ranges m.pass_at in
      let place = hot_place rows m.op.tuple in
      let has : has_place shape place ≡ true = placed shape rows m.op.tuple place places (place_at i m.op m.op_at) in
      let stage : place.stage < shape.stages = ltb-true place.stage shape.stages (and_parts (nat_lt place.stage shape.stages) (nat_lt place.array shape.arrays && nat_lt place.cell shape.cells) has).0 in
      subst (IsWithin shape packet) (sym m.is) (record { from_one = range.0; to_last = subst (λ (n : ℕ). m.pass ≤ n) (sym counted) range.1; stage = stage })

  step_of : (i : ℕ) (o : PacketOp) (m : Made rows parts known passes hot i o) → (step_at steps i).pass ≡ m.pass
  step_of i o m = step_has (λ (step : Step). step.pass) steps i m.pass m.pass_at

  place_of_step : (i : ℕ) (o : PacketOp) (m : Made rows parts known passes hot i o) → (step_at steps i).place ≡ hot_place rows m.op.tuple
  place_of_step i o m =
      step_has (λ (step : Step). step.place) steps i (hot_place rows m.op.tuple)
      (ap (λ (l : List Place). slice_get l i) (least_of planned).places ∙ map_at (λ (op : HotOp). op.place) planned i (planned_op rows parts m.op) (map_at (planned_op rows parts) hot i m.op m.op_at))

  need_met : (i : ℕ) (o : PacketOp) → Made rows parts known passes hot i o → AllByRecursion (λ need. IsMet packet i o need.from) (needs_list o.needs)
  need_met i o m =
      let op = planned_op rows parts m.op in
      let at : slice_get planned i ≡ Some op = map_at (planned_op rows parts) hot i m.op m.op_at in
      let earlier = planned_earlier rows ops visit.script in
      let below : NeedsBelow i (needs_list op.needs) = subst (λ (n : ℕ). NeedsBelow n (needs_list op.needs)) {x = 0 + i} {y = i} (omega arith) (below_at planned 0 i op earlier at) in
      let before = (steps_are_in_order planned earlier).needed i op at in
      subst (λ (x : PacketOp). AllByRecursion (λ need. IsMet packet i x need.from) (needs_list x.needs)) (sym m.is)
      (each (λ (need : Need). (need.from < i) × ComesBefore (step_at steps need.from) (step_at steps i).pass op.place.stage) (λ (need : Need). IsMet packet i (packet_op rows parts known m.pass m.op) need.from) (needs_list op.needs)
      (λ need h. record {
        earlier = h.0;
        before = λ other e.
            let n = made need.from other e in
            same_before (step_at steps need.from) (step_at steps i).pass op.place.stage other.pass other.place m.pass
            (step_of need.from other n ∙ sym (ap (λ (x : PacketOp). x.pass) n.is)) (place_of_step need.from other n ∙ sym (ap (λ (x : PacketOp). x.place) n.is)) (step_of i o m) h.1;
      })
      (both (λ (need : Need). need.from < i) (λ (need : Need). ComesBefore (step_at steps need.from) (step_at steps i).pass op.place.stage) (needs_list op.needs) below before))

  differ : PlacesDiffer packet.ops
  differ i j a b at_i at_j same =
      let m = made i a at_i in
      let n = made j b at_j in
      let one : hot_place rows m.op.tuple ≡ hot_place rows n.op.tuple = sym (ap (λ (x : PacketOp). x.place) m.is) ∙ same ∙ ap (λ (x : PacketOp). x.place) n.is in
      one_place hot i j m.op n.op (hot_apart rows ops (apart_from_sound ops visit.script)) m.op_at n.op_at
      (own m.op.tuple n.op.tuple (hot_place rows n.op.tuple) (place_at i m.op m.op_at ∙ ap Some one) (place_at j n.op n.op_at))

  fits : FitsSwitch shape packet
  fits = record {
    passes = subst (λ (n : ℕ). 1 ≤ n) (sym counted) one_pass;
    within = λ i o e. within_of i o (made i o e);
    needs = λ i o e. need_met i o (made i o e);
    apart = differ;
  }

  -- ---- planned packets

  packet_halves : packet.halves ≡ halves_of shape (places_of packet)
  unfolding packet_from plan_of
  packet_halves = ap (halves_of shape) (mapped hot ∙ sym (places-packet shape rows client seq ops values))
    where
      mapped : (l : List Op) → map (λ (op : HotOp). op.place) (map (planned_op rows parts) l) ≡ map (λ (op : Op). hot_place rows op.tuple) l
      mapped [] = refl
      mapped (op ∷ l) = ap (λ (m : List Place). hot_place rows op.tuple ∷ m) (mapped l)

  has_of : (i : ℕ) (o : PacketOp) → Made rows parts known passes hot i o → has_place shape o.place ≡ true
  has_of i o m = subst (λ (x : PacketOp). has_place shape x.place ≡ true) (sym m.is) (placed shape rows m.op.tuple (hot_place rows m.op.tuple) places (place_at i m.op m.op_at))

  is_planned : IsPlanned shape packet
  is_planned = record { fits = fits; halves = packet_halves; places = λ i o e. has_of i o (made i o e) }

  -- ---- ranges

  most_passes : greatest passes ≤ 16
  unfolding plan_of
  most_passes = omega (arith, (has_passes shape planned).most, length-map hot (planned_op rows parts), hot_few rows ops visit.script)

  within_sixteen : packet.passes ≤ 16
  within_sixteen = subst (λ (n : ℕ). n ≤ 16) (sym counted) most_passes

  count_of : length packet.ops ≡ length hot
  count_of = length-packet shape rows client seq ops values

  some_place : 1 ≤ length (places_of packet)
  some_place = omega (arith, length-map packet.ops (λ (o : PacketOp). o.place), count_of, some_of rows ops some)

  op_fits : IsShape shape → (i : ℕ) (o : PacketOp) → slice_get packet.ops i ≡ Some o → fields.OpFits packet.passes i o
  op_fits limits i o e =
      let m = made i o e in
      let here = within_of i o m in
      let parts_true = and_parts (nat_lt o.place.stage shape.stages) (nat_lt o.place.array shape.arrays && nat_lt o.place.cell shape.cells) (has_of i o m) in
      let inner = and_parts (nat_lt o.place.array shape.arrays) (nat_lt o.place.cell shape.cells) parts_true.1 in
      record {
        pass = (here.from_one, here.to_last);
        stage = omega (arith, here.stage, limits.stages.1);
        array = omega (arith, ltb-true o.place.array shape.arrays inner.0, limits.arrays.1);
        cell = omega (arith, ltb-true o.place.cell shape.cells inner.1, limits.cells.1);
        earlier = each (λ (need : Need). IsMet packet i o need.from) (λ (need : Need). need.from < i) (needs_list o.needs) (λ need met. met.earlier) (need_met i o m);
        read = λ reads. subst (λ (x : PacketOp). IsTrue (is_read x.act) → (x.bias ≡ pos 0) × (needs_list x.needs ≡ [])) (sym m.is) (λ r. read_of m.pass m.op (no_needs m.op (in_script m.op i m.op_at) r)) reads;
      }
    where
      in_script : (op : Op) (j : ℕ) → slice_get hot j ≡ Some op → IsItem ops op
      in_script op j at = filtered_item rows ops op j at

      no_needs : (op : Op) → IsItem ops op → IsTrue (is_read op.act) → needs_list op.needs ≡ []
      no_needs op item reads = read_has_none ops item.0 op visit.script item.1 reads

      read_of : (pass : ℕ) (op : Op) → needs_list op.needs ≡ [] → ((packet_op rows parts known pass op).bias ≡ pos 0) × (needs_list (packet_op rows parts known pass op).needs ≡ [])
      read_of pass op none = (ap (λ (ns : List Need). operand (cold_needs parts ns) (pos 0) known) none ∙ nothing_needed known, ap (λ (ns : List Need). needs_list (needs_of (hot_needs parts ns))) none)

  low_client : client < 8 → packet.client < 8
  unfolding packet_from
  low_client low = low

  have_ranges : IsShape shape → client < 8 → fields.Fits packet
  have_ranges limits low = record {
    client = low_client low;
    passes = (subst (λ (n : ℕ). 1 ≤ n) (sym counted) one_pass, within_sixteen);
    halves = subst (fields.IsOneTo 3) (sym packet_halves) (some_half shape (places_of packet) some_place);
    count = (omega (arith, count_of, some_of rows ops some), omega (arith, count_of, hot_few rows ops visit.script));
    ops = ops_fit packet.passes 0 packet.ops (λ i o e. subst (λ (n : ℕ). fields.OpFits packet.passes n o) {x = i} {y = 0 + i} (omega arith) (op_fits limits i o e));
  }

-- the layout of a sound session has its places
sound_places : (plan : Plan) → IsSound plan → AllByRecursion (λ row. has_place plan.shape row.place ≡ true) plan.layout
sound_places plan sound = have_places plan.shape plan.tuples plan.layout (none_bad plan.shape plan.tuples plan.layout sound.layout)

pub packets_fit : (plan : Plan) → IsSound plan → PacketsFit plan
packets_fit plan sound client seq values hot =
    let ops = script_at plan client seq in
    fits plan.shape plan.layout client seq ops values (places_of_their_own plan.shape plan.tuples plan.layout sound.layout) (sound_places plan sound) (visit_of plan client seq sound (some_hot plan ops hot)) hot

pub packets_are_planned : (plan : Plan) → IsSound plan → PacketsArePlanned plan
packets_are_planned plan sound client seq values hot =
    let ops = script_at plan client seq in
    is_planned plan.shape plan.layout client seq ops values (places_of_their_own plan.shape plan.tuples plan.layout sound.layout) (sound_places plan sound) (visit_of plan client seq sound (some_hot plan ops hot)) hot

-- a client with a script is one of the session's
with_script : (plan : Plan) (client seq : ℕ) → 1 ≤ length (script_at plan client seq) → client < length plan.clients
with_script plan client seq one = in_range plan.clients client (by (seq == 0) one)
  where
    in_range : (lists : List (List PlainItem)) (c : ℕ) → 1 ≤ length (get_or lists c []) → c < length lists
    in_range [] c h = absurd (omega (arith, h))
    in_range (items ∷ lists) zero h = omega arith
    in_range (items ∷ lists) (suc c) h = omega (arith, in_range lists c h)

    found : (items : List PlainItem) (k : ℕ) → 1 ≤ length (unwrap_or (option_and_then script_in (slice_get items k)) []) → 1 ≤ length items
    found [] k h = absurd (omega (arith, h))
    found (item ∷ items) k h = omega arith

    by : (b : Bool) → 1 ≤ length (unwrap_or (option_and_then script_in (if b then None else slice_get (items_of plan client) (seq - 1))) []) → 1 ≤ length (items_of plan client)
    by true h = absurd (omega (arith, h))
    by false h = found (items_of plan client) (seq - 1) h

pub packets_have_ranges : (plan : Plan) → IsSound plan → PacketsHaveRanges plan
packets_have_ranges plan sound client seq values hot =
    let ops = script_at plan client seq in
    have_ranges plan.shape plan.layout client seq ops values (places_of_their_own plan.shape plan.tuples plan.layout sound.layout) (sound_places plan sound) (visit_of plan client seq sound (some_hot plan ops hot)) hot
    sound.limits.shape (omega (arith, with_script plan client seq (some_hot plan ops hot), sound.limits.clients))
