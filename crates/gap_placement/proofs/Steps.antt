-- One step of each loop.
use Rattle.std.proofs.Common.{◌≡◌, ℕ, zero, suc, ◌+◌, ◌-◌, ◌<◌, ◌≤◌, ℤ, ◌+ℤ◌, Bool, true, false, List, [], ◌∷◌, ◌++◌, drop, take, length, map, get_or, slice_get, set, filter, not, Option, None, Some, is_some, is_none, nat_lt, if◌then◌else◌, refl, sym, ap, ap₂, subst, ◌∙◌, arith, w64, SFits, to_z, of_z}
use Rattle.std.specs.FinMap as fin
use Rattle.std.specs.Ordering.{int_eq}
use Rattle.std.proofs.lemmas.Bool.Decides.{Decides-int_eq, nat_tests}
use Rattle.std.proofs.lemmas.Int.{to_z-of_z}
use Rattle.std.specs.Option.{option_map}
use Rattle.std.proofs.lemmas.List.{drop_more, drop_all, take_more, append_assoc, append-nil, map-append, length-map}
use Rattle.std.proofs.lemmas.Option.{slice_get-get_or, slice_get_within, get_or_from_slice_get}
use Rattle.txn_model.specs.Places.{Places}
use Rattle.txn_model.specs.declared.pairs.Pair.{Pair}
use Rattle.txn_model.proofs.OperandLaws.{drop_at_item}
use Rattle.txn_model.proofs.SerialLaws.{needed-take}
use Rattle.txn_model.specs.Needs.{needs_list}
use Rattle.txn_model.specs.Number.{wrap}
use Rattle.txn_model.specs.Serial.{operand, effect}
use Rattle.txn_model.specs.declared.op.Need.{Need}
use Rattle.std.specs.List.{AllByRecursion}
use Rattle.switch_packet.specs.Replay.{register_at, packet_pair, always, execute}
use Rattle.switch_packet.specs.declared.packet.PacketOp.{PacketOp}
use Rattle.gap_placement.proofs.Walking.{there-insert, places_same}
use Rattle.gap_placement.specs.Changes.{walk, changes_from, changes_answered, changes_of}
use Rattle.gap_placement.specs.Facts.{Each}
use Rattle.gap_placement.specs.Replays.{HasPlaces}
use Rattle.switch_packet.specs.Packets.{PlainIntent, PlainOutcome, plain_intent, plain_log}
use Rattle.switch_packet.specs.declared.record.LogView.{LogView}
use Rattle.placement_model.specs.FirstOrder.{open_ones}
use Rattle.placement_model.specs.Placements.{Task}
use Rattle.gap_placement.specs.Spots.{spots_from, spots_behind}
use Rattle.gap_placement.specs.declared.change.Change.{Change}
use Rattle.gap_placement.specs.declared.spot.Spot.{Spot}

-- numbers that are the same as they are held
pub same_held : (a b : ℤ) → SFits w64 a → SFits w64 b → of_z w64 a ≡ of_z w64 b → a ≡ b
same_held a b fa fb e = sym (to_z-of_z w64 a fa) ∙ ap (to_z w64) e ∙ to_z-of_z w64 b fb

pub not_same : (a b : ℤ) → (a ≡ b → ⊥) → int_eq a b ≡ false
not_same a b n = by (int_eq a b) refl
  where
    by : (t : Bool) → int_eq a b ≡ t → t ≡ false
    by true e = absurd (n ((Decides-int_eq a b).0 e))
    by false e = refl

pub is_same : (a b : ℤ) → a ≡ b → int_eq a b ≡ true
is_same a b e = (Decides-int_eq a b).1 e

pub walk_on : (cs : List Change) (i : ℕ) (d : Change) (m : Places) → i < length cs → register_at m (get_or cs i d).place ≡ (get_or cs i d).was → walk (drop (i + 1) cs) (fin.insert m (get_or cs i d).place (get_or cs i d).now) ≡ walk (drop i cs) m
walk_on cs i d m lt e =
    let this = get_or cs i d in
    sym (ap (λ (l : List Change). walk l m) (drop_more cs i d lt) ∙ ap (λ (b : Bool). if b then walk (drop (i + 1) cs) (fin.insert m this.place this.now) else None) (is_same (register_at m this.place) this.was e))

pub walk_off : (cs : List Change) (i : ℕ) (d : Change) (m : Places) → i < length cs → (register_at m (get_or cs i d).place ≡ (get_or cs i d).was → ⊥) → None ≡ walk (drop i cs) m
walk_off cs i d m lt n =
    let this = get_or cs i d in
    sym (ap (λ (l : List Change). walk l m) (drop_more cs i d lt) ∙ ap (λ (b : Bool). if b then walk (drop (i + 1) cs) (fin.insert m this.place this.now) else None) (not_same (register_at m this.place) this.was n))

pub walk_end : (cs : List Change) (i : ℕ) (m : Places) → length cs ≤ i → Some m ≡ walk (drop i cs) m
walk_end cs i m le = sym (ap (λ (l : List Change). walk l m) (drop_all i cs le))

pub places_here : (cs : List Change) (i : ℕ) (d : Change) (m : Places) → i < length cs → HasPlaces m (drop i cs) → HasPlaces m (get_or cs i d ∷ drop (i + 1) cs)
places_here cs i d m lt h = subst (HasPlaces m) (drop_more cs i d lt) h

pub places_on : (cs : List Change) (i : ℕ) (d : Change) (m next : Places) → i < length cs → HasPlaces m (drop i cs) → next ≡ fin.insert m (get_or cs i d).place (get_or cs i d).now → HasPlaces next (drop (i + 1) cs)
places_on cs i d m next lt h e =
    let this = get_or cs i d in
    let here = places_here cs i d m lt h in
    subst (λ (x : Places). HasPlaces x (drop (i + 1) cs)) (sym e) (places_same m (fin.insert m this.place this.now) (drop (i + 1) cs) (there-insert m this.place this.now here.0) here.1)

-- ---- spots

pub spots_step : (front : List Spot) (client i count : ℕ) → i < count → (front ++ record { client = client; index = i } ∷ []) ++ spots_from client (i + 1) (count - (i + 1)) ≡ front ++ spots_from client i (count - i)
spots_step front client i count lt =
    append_assoc front (record { client = client; index = i } ∷ []) (spots_from client (i + 1) (count - (i + 1)))
    ∙ ap (λ (n : ℕ). front ++ spots_from client i n) {x = suc (count - (i + 1))} (omega arith)

pub spots_end : (front : List Spot) (client i count : ℕ) → count ≤ i → front ≡ front ++ spots_from client i (count - i)
spots_end front client i count le = sym (append-nil front) ∙ ap (λ (n : ℕ). front ++ spots_from client i n) {x = 0} (omega arith)

-- ---- what is so of each item

pub each_push : {X : Type 0} (P : X → Type 0) (xs : List X) (y : X) → Each P xs → P y → Each P (xs ++ y ∷ [])
each_push P [] y a b zero x e = let same : y ≡ x = cc in subst P same b
each_push P [] y a b (suc i) x e = cc
each_push P (z ∷ xs) y a b zero x e = a 0 x e
each_push P (z ∷ xs) y a b (suc i) x e = each_push P xs y (λ j w f. a (suc j) w f) b i x e

pub each_set : {X : Type 0} (P : X → Type 0) (xs : List X) (k : ℕ) (y : X) → Each P xs → P y → Each P (set xs k y)
each_set P [] k y a b i x e = cc
each_set P (z ∷ xs) zero y a b zero x e = let same : y ≡ x = cc in subst P same b
each_set P (z ∷ xs) zero y a b (suc i) x e = a (suc i) x e
each_set P (z ∷ xs) (suc k) y a b zero x e = a 0 x e
each_set P (z ∷ xs) (suc k) y a b (suc i) x e = each_set P xs k y (λ j w f. a (suc j) w f) b i x e

pub each_at : {X : Type 0} (P : X → Type 0) (xs : List X) (i : ℕ) (d : X) → Each P xs → i < length xs → P (get_or xs i d)
each_at P xs i d each lt = each i (get_or xs i d) (slice_get-get_or xs i d lt)

-- ---- open intents

module _ {X : Type 0} (f : X → Task) where
  abbrev seen : List (Option X) → List (Option Task)
  seen xs = map (option_map f) xs

  abbrev rest_open : List X → List (Option Task)
  rest_open xs = open_ones (map f xs)

  none_some : {Y : Type 0} (o : Option Y) (b : Bool) → is_some o ≡ b → is_none o ≡ not b
  none_some None true e = cc
  none_some None false e = refl
  none_some (Some y) true e = refl
  none_some (Some y) false e = cc

  abbrev with_first : Bool → X → List X → List (Option Task)
  with_first b x xs = map (λ (t : Task). Some t) (if b then f x ∷ filter (λ (t : Task). is_none t.outcome) (map f xs) else filter (λ (t : Task). is_none t.outcome) (map f xs))

  pub open_more : (xs : List X) (i : ℕ) (d : X) (front : List (Option X)) → i < length xs → is_some (f (get_or xs i d)).outcome ≡ false → seen (front ++ Some (get_or xs i d) ∷ []) ++ rest_open (drop (i + 1) xs) ≡ seen front ++ rest_open (drop i xs)
  open_more xs i d front lt e =
      let this = get_or xs i d in
      ap (λ (l : List (Option Task)). l ++ rest_open (drop (i + 1) xs)) (map-append (option_map f) front (Some this ∷ []))
      ∙ append_assoc (seen front) (Some (f this) ∷ []) (rest_open (drop (i + 1) xs))
      ∙ ap (λ (l : List (Option Task)). seen front ++ l) (sym (ap rest_open (drop_more xs i d lt) ∙ ap (λ (b : Bool). with_first b this (drop (i + 1) xs)) (none_some (f this).outcome false e)))

  pub open_same : (xs : List X) (i : ℕ) (d : X) (front : List (Option X)) → i < length xs → is_some (f (get_or xs i d)).outcome ≡ true → seen front ++ rest_open (drop (i + 1) xs) ≡ seen front ++ rest_open (drop i xs)
  open_same xs i d front lt e =
      let this = get_or xs i d in
      ap (λ (l : List (Option Task)). seen front ++ l) (sym (ap rest_open (drop_more xs i d lt) ∙ ap (λ (b : Bool). with_first b this (drop (i + 1) xs)) (none_some (f this).outcome true e)))

  pub open_end : (xs : List X) (i : ℕ) (front : List (Option X)) → length xs ≤ i → seen front ≡ seen front ++ rest_open (drop i xs)
  open_end xs i front le = sym (ap (λ (l : List X). seen front ++ rest_open l) (drop_all i xs le) ∙ append-nil (seen front))

-- ---- a packet's replay

pub replay_step : (ops : List PacketOp) (i : ℕ) (op : PacketOp) (done : List Pair) (m : Places) → slice_get ops i ≡ Some op
    → execute always (drop (i + 1) ops) (done ++ packet_pair op done (register_at m op.place) ∷ []) [] (fin.insert m op.place (packet_pair op done (register_at m op.place)).now) ≡ execute always (drop i ops) done [] m
unfolding execute
replay_step ops i op done m at = sym (ap (λ (l : List PacketOp). execute always l done [] m) (drop_at_item ops i op at))

pub replay_end : (ops : List PacketOp) (i : ℕ) (done : List Pair) (m : Places) → length ops ≤ i → record { pairs = done; after = m } ≡ execute always (drop i ops) done [] m
unfolding execute
replay_end ops i done m le = sym (ap (λ (l : List PacketOp). execute always l done [] m) (drop_all i ops le))

-- ---- changes of an answered packet

pub operand_take : (ns : List Need) (bias : ℤ) (i : ℕ) (done : List Pair) → AllByRecursion (λ n. n.from < i) ns → operand ns bias (take i done) ≡ operand ns bias done
unfolding operand
operand_take ns bias i done h = ap (λ (z : ℤ). wrap (bias +ℤ z)) (needed-take ns i done h)

abbrev pub change_at : PacketOp → Pair → Change
change_at op p = record { place = op.place; was = p.was; now = p.now }

abbrev pub left_changes : List PacketOp → List Pair → ℕ → Option (List Change)
left_changes ops ps i = changes_from (take i ps) (drop i ops) (drop i ps)

abbrev pub behind_front : List Change → Option (List Change) → Option (List Change)
behind_front front o = option_map (λ cs. front ++ cs) o

front_push : (front : List Change) (c : Change) (o : Option (List Change)) → behind_front (front ++ c ∷ []) o ≡ behind_front front (option_map (λ cs. c ∷ cs) o)
front_push front c None = refl
front_push front c (Some cs) = ap (λ (l : List Change). Some l) (append_assoc front (c ∷ []) cs)

module _ (ops : List PacketOp) (ps : List Pair) (i : ℕ) (op : PacketOp) (p : Pair) (at_op : slice_get ops i ≡ Some op) (at_p : slice_get ps i ≡ Some p) where
  abbrev wanted : ℤ
  wanted = effect op.act p.was (operand (needs_list op.needs) op.bias (take i ps))

  abbrev here_by : Bool → Option (List Change)
  here_by b = if b then option_map (λ cs. change_at op p ∷ cs) (changes_from (take i ps ++ p ∷ []) (drop (i + 1) ops) (drop (i + 1) ps)) else None

  here_is : left_changes ops ps i ≡ here_by (int_eq p.now wanted)
  here_is = ap₂ (λ (a : List PacketOp) (b : List Pair). changes_from (take i ps) a b) (drop_at_item ops i op at_op) (drop_at_item ps i p at_p)

  taken : take (i + 1) ps ≡ take i ps ++ p ∷ []
  taken = take_more ps i p (slice_get_within ps i p at_p) ∙ ap (λ (x : Pair). take i ps ++ x ∷ []) (get_or_from_slice_get ps i p p at_p)

  pub changes_step : (front : List Change) → p.now ≡ wanted → behind_front (front ++ change_at op p ∷ []) (left_changes ops ps (i + 1)) ≡ behind_front front (left_changes ops ps i)
  changes_step front e =
      front_push front (change_at op p) (left_changes ops ps (i + 1))
      ∙ ap (behind_front front) (ap (λ (d : List Pair). option_map (λ cs. change_at op p ∷ cs) (changes_from d (drop (i + 1) ops) (drop (i + 1) ps))) taken ∙ sym (here_is ∙ ap here_by (is_same p.now wanted e)))

  pub changes_stop : (front : List Change) → (p.now ≡ wanted → ⊥) → None ≡ behind_front front (left_changes ops ps i)
  changes_stop front n = sym (ap (behind_front front) (here_is ∙ ap here_by (not_same p.now wanted n)))

pub changes_end : (ops : List PacketOp) (ps : List Pair) (i : ℕ) (front : List Change) → length ops ≤ i → length ps ≤ i → Some front ≡ behind_front front (left_changes ops ps i)
changes_end ops ps i front le_ops le_ps =
    sym (ap₂ (λ (a : List PacketOp) (b : List Pair). behind_front front (changes_from (take i ps) a b)) (drop_all i ops le_ops) (drop_all i ps le_ps) ∙ ap (λ (l : List Change). Some l) (append-nil front))

pub changes_unequal : (ops : List PacketOp) (ps done : List Pair) → (length ps ≡ length ops → ⊥) → changes_from done ops ps ≡ None
changes_unequal [] [] done n = absurd (n refl)
changes_unequal [] (p ∷ ps) done n = refl
changes_unequal (op ∷ ops) [] done n = refl
changes_unequal (op ∷ ops) (p ∷ ps) done n = by (int_eq p.now (effect op.act p.was (operand (needs_list op.needs) op.bias done))) (changes_unequal ops ps (done ++ p ∷ []) (λ e. n (ap (λ (k : ℕ). suc k) e)))
  where
    by : (b : Bool) → changes_from (done ++ p ∷ []) ops ps ≡ None → (if b then option_map (λ cs. change_at op p ∷ cs) (changes_from (done ++ p ∷ []) ops ps) else None) ≡ None
    by true e = ap (option_map (λ (cs : List Change). change_at op p ∷ cs)) e
    by false e = refl

-- ---- views

pub views_step : (front : List Spot) (views : List LogView) (k : ℕ) (view : LogView) → k < length views → view ≡ get_or views k view
    → (front ++ spots_from k 0 (length view.intents.items)) ++ spots_behind (k + 1) (map plain_log (drop (k + 1) views)) ≡ front ++ spots_behind k (map plain_log (drop k views))
views_step front views k view lt e =
    append_assoc front (spots_from k 0 (length view.intents.items)) (spots_behind (k + 1) (map plain_log (drop (k + 1) views)))
    ∙ ap (λ (n : ℕ). front ++ (spots_from k 0 n ++ spots_behind (k + 1) (map plain_log (drop (k + 1) views)))) (sym (length-map view.intents.items plain_intent))
    ∙ ap (λ (l : List LogView). front ++ spots_behind k (map plain_log l)) (sym (drop_more views k view lt ∙ ap (λ (v : LogView). v ∷ drop (k + 1) views) (sym e)))

pub views_end : (front : List Spot) (views : List LogView) (k : ℕ) → length views ≤ k → front ≡ front ++ spots_behind k (map plain_log (drop k views))
views_end front views k le = sym (ap (λ (l : List LogView). front ++ spots_behind k (map plain_log l)) (drop_all k views le) ∙ append-nil front)

-- ---- an answered task's changes

pub below_is : (a b : ℕ) → a < b → nat_lt a b ≡ true
below_is a b lt = grind (arith, nat_tests)

pub not_below_is : (a b : ℕ) → b ≤ a → nat_lt a b ≡ false
not_below_is a b le = grind (arith, nat_tests)

changes_by : (task : Task) (number : ℕ) (intent : PlainIntent) (o : PlainOutcome) (b : Bool) → intent ≡ task.intent → task.outcome ≡ Some o → nat_lt intent.floor number ≡ b → (if b then changes_from [] intent.packet.ops o.pairs else None) ≡ changes_of task number
changes_by task number intent o b same e lt =
    sym (ap (changes_answered task number) e ∙ ap (λ (i : PlainIntent). if nat_lt i.floor number then changes_from [] i.packet.ops o.pairs else None) (sym same) ∙ ap (λ (t : Bool). if t then changes_from [] intent.packet.ops o.pairs else None) lt)

pub changes_is : (task : Task) (number : ℕ) (intent : PlainIntent) (o : PlainOutcome) → intent ≡ task.intent → task.outcome ≡ Some o → intent.floor < number → changes_from [] intent.packet.ops o.pairs ≡ changes_of task number
changes_is task number intent o same e lt = changes_by task number intent o true same e (below_is intent.floor number lt)

some_is : {X : Type 0} (o : Option X) → is_some o ≡ true → (x : X) × (o ≡ Some x)
some_is None e = cc
some_is (Some x) e = (x, refl)

pub changes_none : (task : Task) (number : ℕ) (intent : PlainIntent) → intent ≡ task.intent → is_some task.outcome ≡ true → number ≤ intent.floor → None ≡ changes_of task number
changes_none task number intent same e le = let o = some_is task.outcome e in changes_by task number intent o.0 false same o.1 (not_below_is intent.floor number le)
