-- What the parts find is the first order.
use Rattle.std.proofs.Common.{◌≡◌, ℕ, zero, suc, ◌+◌, ◌<◌, Bool, true, false, List, [], ◌∷◌, ◌++◌, length, map, reverse, replicate, get_or, slice_get, nat_lt, Option, None, Some, is_some, if◌then◌else◌, refl, sym, ap, ap₂, subst, ◌∙◌, arith}
use Rattle.std.specs.FinMap as fin
use Rattle.std.specs.List.{AllByRecursion}
use Rattle.std.specs.Option.{option_map, option_and_then}
use Rattle.std.specs.Ordering.{int_eq}
use Rattle.std.proofs.lemmas.List.{length-map, reverse-append}
use Rattle.gap_placement.proofs.Steps.{each_push}
use Rattle.std.proofs.lemmas.Option.{slice_get-map}
use Rattle.txn_model.specs.Needs.{needs_list}
use Rattle.txn_model.specs.Places.{Places}
use Rattle.txn_model.specs.Serial.{operand, effect}
use Rattle.txn_model.specs.declared.op.Need.{Need}
use Rattle.txn_model.specs.declared.pairs.Pair.{Pair}
use Rattle.switch_packet.specs.Packets.{PlainIntent, PlainOutcome, PlainLog}
use Rattle.switch_packet.specs.Ranges.{Fits, OpFits, OpsFit}
use Rattle.switch_packet.specs.declared.packet.PacketOp.{PacketOp}
use Rattle.placement_model.specs.FirstOrder.{slots_of, put_all, open_ones, fill, first_order}
use Rattle.placement_model.specs.Laws.{AreAnsweredButOne}
use Rattle.placement_model.specs.Placements.{Task, tasks_of, IsPlacement, IsFirstPlacement}
use Rattle.placement_model.proofs.First.{first_order_is_first, no_order_is_no_placement}
use Rattle.gap_placement.proofs.Searching.{first_order_is, from_legs}
use Rattle.gap_placement.proofs.Standing.{tasks_are}
use Rattle.gap_placement.specs.Changes.{changes_from, changes_answered, changes_of}
use Rattle.gap_placement.specs.Facts.{Each, IfThere, IsAnswered, IsUsable}
use Rattle.gap_placement.specs.Legs.{PlainLeg, plain_leg, legs_from}
use Rattle.gap_placement.specs.Logs.{IsReadable, AreReadable, HaveTheirPlaces, HasItsPlaces}
use Rattle.gap_placement.specs.Replays.{NeedsEarlier, HasPlaces}
use Rattle.gap_placement.specs.Slots.{merge}
use Rattle.gap_placement.specs.Spots.{blank_log, blank_intent, log_at, task_of, IsSpot, spots_behind}
use Rattle.gap_placement.specs.declared.change.Change.{Change}
use Rattle.gap_placement.specs.declared.legs.Leg.{Leg}
use Rattle.gap_placement.specs.declared.spot.Spot.{Spot}

all_at : {X : Type 0} (P : X → Type 0) (xs : List X) (i : ℕ) (d : X) → AllByRecursion P xs → i < length xs → P (get_or xs i d)
all_at P [] i d h lt = absurd (omega arith)
all_at P (x ∷ xs) zero d h lt = h.0
all_at P (x ∷ xs) (suc i) d h lt = all_at P xs i d h.1 (omega arith)

all_get : {X : Type 0} (P : X → Type 0) (xs : List X) (i : ℕ) (x : X) → AllByRecursion P xs → slice_get xs i ≡ Some x → P x
all_get P [] i x h e = cc
all_get P (y ∷ xs) zero x h e = let same : y ≡ x = cc in subst P same h.0
all_get P (y ∷ xs) (suc i) x h e = all_get P xs i x h.1 e

op_fits : (passes k : ℕ) (ops : List PacketOp) (i : ℕ) (op : PacketOp) → OpsFit passes k ops → slice_get ops i ≡ Some op → OpFits passes (k + i) op
op_fits passes k [] i op h e = cc
op_fits passes k (o ∷ ops) zero op h e = let same : o ≡ op = cc in subst (λ (n : ℕ). OpFits passes n op) {x = k} (omega arith) (subst (OpFits passes k) same h.0)
op_fits passes k (o ∷ ops) (suc i) op h e = subst (λ (n : ℕ). OpFits passes n op) {x = (k + 1) + i} (omega arith) (op_fits passes (k + 1) ops i op h.1 e)

pub earlier_of : (logs : List PlainLog) (s : Spot) → AreReadable logs → IsSpot logs s → NeedsEarlier (task_of logs s).intent.packet.ops
earlier_of logs s read is i op e =
    let log = log_at logs s.client in
    let fits = all_at (λ (x : PlainIntent). Fits x.packet) log.intents s.index blank_intent (all_at IsReadable logs s.client blank_log read is.client).packets is.index in
    let p = (task_of logs s).intent.packet in
    subst (λ (n : ℕ). AllByRecursion (λ (need : Need). need.from < n) (needs_list op.needs)) {x = 0 + i} (omega arith) (op_fits p.passes 0 p.ops i op fits.ops e).earlier

-- each intent's packet can be replayed
pub usable_of : (logs : List PlainLog) (first : Places) (s : Spot) → AreReadable logs → HaveTheirPlaces first logs → IsSpot logs s → IsUsable logs first s
usable_of logs first s read there is =
    let log = log_at logs s.client in
    let fits = all_at (λ (i : PlainIntent). Fits i.packet) log.intents s.index blank_intent (all_at IsReadable logs s.client blank_log read is.client).packets is.index in
    let places = all_at (HasItsPlaces first) log.intents s.index blank_intent (all_at (λ (l : PlainLog). AllByRecursion (HasItsPlaces first) l.intents) logs s.client blank_log there is.client) is.index in
    let p = (task_of logs s).intent.packet in
    record {
      stands = is;
      replay = record {
        few = fits.count.1;
        earlier = earlier_of logs s read is;
        there = λ i op e. all_get (λ (o : PacketOp). is_some (fin.get first o.place) ≡ true) p.ops i op places e;
      };
    }

-- ---- the legs' places

local_places : (m : Places) (ops : List PacketOp) (ps done : List Pair) (cs : List Change) → ((i : ℕ) (op : PacketOp) → slice_get ops i ≡ Some op → is_some (fin.get m op.place) ≡ true) → changes_from done ops ps ≡ Some cs → HasPlaces m cs
local_places m [] [] done cs there e = let same : [] ≡ cs = cc in subst (HasPlaces m) same tt
local_places m [] (p ∷ ps) done cs there e = cc
local_places m (op ∷ ops) [] done cs there e = cc
local_places m (op ∷ ops) (p ∷ ps) done cs there e =
    by (int_eq p.now (effect op.act p.was (operand (needs_list op.needs) op.bias done))) (changes_from (done ++ p ∷ []) ops ps) e (λ more f. local_places m ops ps (done ++ p ∷ []) more (λ i o at. there (suc i) o at) f) refl
  where
    by : (b : Bool) (o : Option (List Change)) → (if b then option_map (λ more. record { place = op.place; was = p.was; now = p.now } ∷ more) o else None) ≡ Some cs → ((more : List Change) → changes_from (done ++ p ∷ []) ops ps ≡ Some more → HasPlaces m more) → changes_from (done ++ p ∷ []) ops ps ≡ o → HasPlaces m cs
    by true (Some more) h rest is = let same : record { place = op.place; was = p.was; now = p.now } ∷ more ≡ cs = cc in subst (HasPlaces m) same (there 0 op refl, rest more is)
    by true None h rest is = cc
    by false o h rest is = cc

append_places : (m : Places) (xs ys : List Change) → HasPlaces m xs → HasPlaces m ys → HasPlaces m (xs ++ ys)
append_places m [] ys a b = b
append_places m (x ∷ xs) ys a b = (a.0, append_places m xs ys a.1 b)

abbrev TaskPlaces : Places → Task → Type 0
TaskPlaces m t = (i : ℕ) (op : PacketOp) → slice_get t.intent.packet.ops i ≡ Some op → is_some (fin.get m op.place) ≡ true

answered_places : (m : Places) (t : Task) (number : ℕ) (o : Option PlainOutcome) (cs : List Change) → TaskPlaces m t → changes_answered t number o ≡ Some cs → HasPlaces m cs
answered_places m t number None cs there e = cc
answered_places m t number (Some o) cs there e = by (nat_lt t.intent.floor number) e
  where
    by : (b : Bool) → (if b then changes_from [] t.intent.packet.ops o.pairs else None) ≡ Some cs → HasPlaces m cs
    by true h = local_places m t.intent.packet.ops o.pairs [] cs there h
    by false h = cc

abbrev LegPlaces : Places → PlainLeg → Type 0
LegPlaces m leg = HasPlaces m leg.changes

each_cons : {X : Type 0} (P : X → Type 0) (x : X) (xs : List X) → P x → Each P xs → Each P (x ∷ xs)
each_cons P x xs a b zero y e = let same : x ≡ y = cc in subst P same a
each_cons P x xs a b (suc i) y e = b i y e

pub legs_places : (m : Places) (slots : List (Option Task)) (free : ℕ) (acc : List Change) (number : ℕ) (legs : List PlainLeg) → ((i : ℕ) (t : Task) → slice_get slots i ≡ Some (Some t) → TaskPlaces m t) → HasPlaces m acc → legs_from free acc number slots ≡ Some legs → Each (LegPlaces m) legs
legs_places m [] free acc number legs there h e =
    let same : record { number = free; changes = acc } ∷ [] ≡ legs = cc in
    subst (Each (LegPlaces m)) same (each_cons (LegPlaces m) (record { number = free; changes = acc }) [] h (λ i y f. cc))
legs_places m (Some t ∷ slots) free acc number legs there h e =
    by (changes_of t number) refl e (λ more is f. legs_places m slots free (acc ++ more) (number + 1) legs (λ i x at. there (suc i) x at) (append_places m acc more h (answered_places m t number t.outcome more (there 0 t refl) is)) f)
  where
    by : (o : Option (List Change)) → changes_of t number ≡ o → option_and_then (λ more. legs_from free (acc ++ more) (number + 1) slots) o ≡ Some legs → ((more : List Change) → changes_of t number ≡ Some more → legs_from free (acc ++ more) (number + 1) slots ≡ Some legs → Each (LegPlaces m) legs) → Each (LegPlaces m) legs
    by None is f rest = cc
    by (Some more) is f rest = rest more is f
legs_places m (None ∷ slots) free acc number legs there h e =
    by (legs_from number [] (number + 1) slots) refl e (λ later is. legs_places m slots number [] (number + 1) later (λ i x at. there (suc i) x at) tt is)
  where
    by : (o : Option (List PlainLeg)) → legs_from number [] (number + 1) slots ≡ o → option_map (λ later. record { number = free; changes = acc } ∷ later) o ≡ Some legs → ((later : List PlainLeg) → legs_from number [] (number + 1) slots ≡ Some later → Each (LegPlaces m) later) → Each (LegPlaces m) legs
    by None is f rest = cc
    by (Some later) is f rest = let same : record { number = free; changes = acc } ∷ later ≡ legs = cc in subst (Each (LegPlaces m)) same (each_cons (LegPlaces m) (record { number = free; changes = acc }) later h (rest later is))

-- the legs as they are held
pub held_places : (m : Places) (legs : List Leg) → Each (LegPlaces m) (map plain_leg legs) → Each (λ (leg : Leg). HasPlaces m leg.changes.items) legs
held_places m legs each i leg e = each i (plain_leg leg) (slice_get-map plain_leg legs i ∙ ap (option_map plain_leg) e)

-- ---- merging

pub merge_seen : {X Y : Type 0} (f : X → Y) (slots : List (Option X)) (free : List X) → map f (merge slots free) ≡ merge (map (option_map f) slots) (map f free)
merge_seen f [] free = refl
merge_seen f (Some x ∷ slots) free = ap (λ l. f x ∷ l) (merge_seen f slots free)
merge_seen f (None ∷ slots) [] = merge_seen f slots []
merge_seen f (None ∷ slots) (x ∷ free) = ap (λ l. f x ∷ l) (merge_seen f slots free)

pub each_merged : {X : Type 0} (P : X → Type 0) (slots : List (Option X)) (free : List X) → Each (IfThere P) slots → Each P free → Each P (merge slots free)
each_merged P [] free a b = λ i x e. cc
each_merged P (Some y ∷ slots) free a b = each_cons P y (merge slots free) (a 0 (Some y) refl) (each_merged P slots free (λ i x e. a (suc i) x e) b)
each_merged P (None ∷ slots) [] a b = each_merged P slots [] (λ i x e. a (suc i) x e) b
each_merged P (None ∷ slots) (y ∷ free) a b = each_cons P y (merge slots free) (b 0 y refl) (each_merged P slots free (λ i x e. a (suc i) x e) (λ i x e. b (suc i) x e))

pub none_each : {X : Type 0} (P : X → Type 0) (n : ℕ) → Each (IfThere P) (replicate n None)
none_each P zero = λ i x e. cc
none_each {X} P (suc n) = each_cons (IfThere P) None (replicate n None) tt (none_each P n)

seen_none : {X Y : Type 0} (f : X → Y) (n : ℕ) → map (option_map f) (replicate n None) ≡ replicate n None
seen_none f zero = refl
seen_none {X} {Y} f (suc n) = ap (λ (l : List (Option Y)). None ∷ l) (seen_none f n)

-- ---- the whole

pub put_is_slots : (logs : List PlainLog) (slots : List (Option Spot)) → slots ≡ replicate (length (spots_behind 0 logs)) None
    → put_all (map (task_of logs) (spots_behind 0 logs)) (map (option_map (task_of logs)) slots) ≡ slots_of (tasks_of logs)
put_is_slots logs slots e =
    let n = sym (length-map (spots_behind 0 logs) (task_of logs)) ∙ ap length (tasks_are logs) in
    ap₂ put_all (tasks_are logs) (ap (map (option_map (task_of logs))) e ∙ seen_none (task_of logs) (length (spots_behind 0 logs)) ∙ ap (λ (k : ℕ). replicate k None) n)

pub no_slots : (logs : List PlainLog) (first : Places) → None ≡ slots_of (tasks_of logs) → first_order logs first ≡ None
no_slots logs first e = ap (option_and_then (λ (slots : List (Option Task)). fill 1 first slots (open_ones (tasks_of logs)))) (sym e)

but_one_of : (logs : List PlainLog) → AreReadable logs → AreAnsweredButOne logs
but_one_of [] h = tt
but_one_of (log ∷ logs) h = (h.0.but_one, but_one_of logs h.1)

pub no_placement : (logs : List PlainLog) (first : Places) → AreReadable logs → first_order logs first ≡ None → (order : List Task) → IsPlacement logs first order → ⊥
no_placement logs first read e order p = no_order_is_no_placement logs first order (but_one_of logs read) e p

pub is_first : (logs : List PlainLog) (first : Places) (order : List Task) → AreReadable logs → first_order logs first ≡ Some order → IsFirstPlacement logs first order
is_first logs first order read e = first_order_is_first logs first order (but_one_of logs read) e

pub order_is : (logs : List PlainLog) (first : Places) (slots : List (Option Task)) (legs : Option (List PlainLeg)) (found : Option (List Task)) → Some slots ≡ slots_of (tasks_of logs) → legs ≡ legs_from 0 [] 1 slots → found ≡ from_legs first (open_ones (tasks_of logs)) legs
    → first_order logs first ≡ option_map (merge slots) found
order_is logs first slots legs found e is found_is = first_order_is logs first slots (sym e) ∙ ap (λ (o : Option (List PlainLeg)). option_map (merge slots) (from_legs first (open_ones (tasks_of logs)) o)) (sym is) ∙ ap (option_map (merge slots)) (sym found_is)

pub tasks_placed : (logs : List PlainLog) (first : Places) → AreReadable logs → HaveTheirPlaces first logs → (slots : List (Option Spot)) → Each (IfThere (IsAnswered logs)) slots → (i : ℕ) (t : Task) → slice_get (map (option_map (task_of logs)) slots) i ≡ Some (Some t) → TaskPlaces first t
tasks_placed logs first read there [] each i t e = cc
tasks_placed logs first read there (None ∷ slots) each zero t e = cc
tasks_placed logs first read there (Some s ∷ slots) each zero t e =
    let same : task_of logs s ≡ t = cc in
    subst (TaskPlaces first) same (usable_of logs first s read there (each 0 (Some s) refl).stands).replay.there
tasks_placed logs first read there (o ∷ slots) each (suc i) t e = tasks_placed logs first read there slots (λ j x f. each (suc j) x f) i t e

pub usable_there : (logs : List PlainLog) (first : Places) → AreReadable logs → HaveTheirPlaces first logs → (o : Option Spot) → IfThere (IsSpot logs) o → IfThere (IsUsable logs first) o
usable_there logs first read there None h = tt
usable_there logs first read there (Some s) h = usable_of logs first s read there h

pub answered_there : (logs : List PlainLog) (first : Places) → AreReadable logs → HaveTheirPlaces first logs → (o : Option Spot) → IfThere (IsAnswered logs) o → IfThere (IsUsable logs first) o
answered_there logs first read there None h = tt
answered_there logs first read there (Some s) h = usable_of logs first s read there h.stands

pub each_reverse : {X : Type 0} (P : X → Type 0) (xs : List X) → Each P xs → Each P (reverse xs)
each_reverse P [] a = λ i x e. cc
each_reverse P (y ∷ xs) a = subst (Each P) (sym (reverse-append (y ∷ []) xs)) (each_push P (reverse xs) y (each_reverse P xs (λ i x e. a (suc i) x e)) (a 0 y refl))
