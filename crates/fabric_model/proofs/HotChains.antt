-- Chains at the tuples in the switch: they are the chains at their places.
use Rattle.std.proofs.Common.{◌≡◌, ℕ, ℤ, ◌==◌, Bool, true, false, List, [], ◌∷◌, ◌++◌, map, filter, length, drop, Option, Some, None, is_some, unwrap_or, refl, sym, ap, ◌∙◌, arith, if◌then◌else◌, MatchBool, Ordering, Less, Equal, Greater}
use Rattle.std.specs.Ordering.{is_eq, ordering_reverse}
use Rattle.std.proofs.lemmas.Bool.Decides.{nat_tests}
use Rattle.std.proofs.lemmas.List.Elements.{filter-append}
use Rattle.std.proofs.lemmas.List.{map-append}
use Rattle.txn_model.proofs.PlaceOrder.{place_cmp_total, place_cmp_exact}
use Rattle.txn_model.specs.Places.{place_cmp}
use Rattle.txn_model.specs.Serial.{pair_at, pair_of}
use Rattle.txn_model.specs.declared.op.Op.{Op}
use Rattle.txn_model.specs.declared.op.TupleId.{TupleId}
use Rattle.txn_model.specs.declared.pairs.Pair.{Pair}
use Rattle.txn_model.specs.declared.place.Place.{Place}
use Rattle.stage_layout.specs.Late.{is_hot}
use Rattle.stage_layout.specs.Layout.{place_of}
use Rattle.stage_layout.specs.declared.layout.LayoutRow.{LayoutRow}
use Rattle.history_model.specs.Chain.{Step, steps_of, Chain, last_value, names_tuple}
use Rattle.switch_packet.specs.declared.packet.PacketOp.{PacketOp}
use Rattle.switch_packet.specs.PlaceChain.{PacketStep, packet_steps, PlaceChain, is_on, last_number}
use Rattle.warm_split.specs.Joined.{joined_from, first_value}
use Rattle.warm_split.specs.Laws.{HavePlacesOfTheirOwn}
use Rattle.warm_split.specs.Sides.{hot_ops, hot_place}
use Rattle.warm_split.proofs.JoinedLaws.{hot_ops-hot, hot_ops-cold}
use Rattle.warm_split.proofs.KnownPairs.{joined_hot, joined_cold}

-- the pairs of the steps on a tuple, or on a place
abbrev pub tuple_pairs : TupleId → List Step → List Pair
tuple_pairs t steps = map (λ s. s.1) (filter (names_tuple t) steps)

abbrev pub place_pairs : Place → List PacketStep → List Pair
place_pairs place steps = map (λ s. s.1) (filter (is_on place) steps)

-- from v on, each pair finds what the one before left
abbrev pub Linked : ℤ → List Pair → Type 0
Linked v [] = Unit {0}
Linked v (p ∷ ps) = (p.was ≡ v) × Linked p.now ps

abbrev pub last_of : ℤ → List Pair → ℤ
last_of v [] = v
last_of v (p ∷ ps) = last_of p.now ps

pub chain-Linked : (t : TupleId) (v : ℤ) (steps : List Step) → Linked v (tuple_pairs t steps) → Chain t v steps
chain-Linked t v [] links = tt
chain-Linked t v (s ∷ steps) links = by (names_tuple t s) (λ w. chain-Linked t w steps) links
  where
    by : (b : Bool) → ((w : ℤ) → Linked w (tuple_pairs t steps) → Chain t w steps) → Linked v (map (λ x. x.1) (if b then s ∷ filter (names_tuple t) steps else filter (names_tuple t) steps)) → MatchBool b ((s.1.was ≡ v) × Chain t s.1.now steps) (Chain t v steps)
    by true rest l = (l.0, rest s.1.now l.1)
    by false rest l = rest v l

pub last_value-last_of : (t : TupleId) (v : ℤ) (steps : List Step) → last_value t v steps ≡ last_of v (tuple_pairs t steps)
last_value-last_of t v [] = refl
last_value-last_of t v (s ∷ steps) = by (names_tuple t s) (λ w. last_value-last_of t w steps)
  where
    by : (b : Bool) → ((w : ℤ) → last_value t w steps ≡ last_of w (tuple_pairs t steps)) → last_value t (if b then s.1.now else v) steps ≡ last_of v (map (λ x. x.1) (if b then s ∷ filter (names_tuple t) steps else filter (names_tuple t) steps))
    by true rest = rest s.1.now
    by false rest = rest v

pub Linked-chain : (place : Place) (v : ℤ) (steps : List PacketStep) → PlaceChain place v steps → Linked v (place_pairs place steps)
Linked-chain place v [] chain = tt
Linked-chain place v (s ∷ steps) chain = by (is_on place s) (λ w. Linked-chain place w steps) chain
  where
    by : (b : Bool) → ((w : ℤ) → PlaceChain place w steps → Linked w (place_pairs place steps)) → MatchBool b ((s.1.was ≡ v) × PlaceChain place s.1.now steps) (PlaceChain place v steps) → Linked v (map (λ x. x.1) (if b then s ∷ filter (is_on place) steps else filter (is_on place) steps))
    by true rest c = (c.0, rest s.1.now c.1)
    by false rest c = rest v c

pub last_number-last_of : (place : Place) (v : ℤ) (steps : List PacketStep) → last_number place v steps ≡ last_of v (place_pairs place steps)
last_number-last_of place v [] = refl
last_number-last_of place v (s ∷ steps) = by (is_on place s) (λ w. last_number-last_of place w steps)
  where
    by : (b : Bool) → ((w : ℤ) → last_number place w steps ≡ last_of w (place_pairs place steps)) → last_number place (if b then s.1.now else v) steps ≡ last_of v (map (λ x. x.1) (if b then s ∷ filter (is_on place) steps else filter (is_on place) steps))
    by true rest = rest s.1.now
    by false rest = rest v

pub tuple_pairs-append : (t : TupleId) (a b : List Step) → tuple_pairs t (a ++ b) ≡ tuple_pairs t a ++ tuple_pairs t b
tuple_pairs-append t a b = ap (map (λ (s : Step). s.1)) (filter-append (names_tuple t) a b) ∙ map-append (λ (s : Step). s.1) (filter (names_tuple t) a) (filter (names_tuple t) b)

pub place_pairs-append : (place : Place) (a b : List PacketStep) → place_pairs place (a ++ b) ≡ place_pairs place a ++ place_pairs place b
place_pairs-append place a b = ap (map (λ (s : PacketStep). s.1)) (filter-append (is_on place) a b) ∙ map-append (λ (s : PacketStep). s.1) (filter (is_on place) a) (filter (is_on place) b)

-- ---- one script and its packet

-- an operation is on a hot tuple exactly where the packet's operation is on its place
module _ (rows : List LayoutRow) (own : HavePlacesOfTheirOwn rows) (t : TupleId) (place : Place) (hot_t : place_of rows t ≡ Some place) where
  same_number : (a b : TupleId) → (a.0 == b.0) ≡ true → a ≡ b
  same_number a b e = let n : a.0 ≡ b.0 = grind (arith, nat_tests) in ap (λ (k : ℕ). record { 0 = k }) n

  at_place : (u : TupleId) → is_hot rows u ≡ true → place_of rows u ≡ Some (hot_place rows u)
  at_place u hot = by (place_of rows u) refl hot
    where
      by : (o : Option Place) → place_of rows u ≡ o → is_some o ≡ true → place_of rows u ≡ Some (hot_place rows u)
      by (Some q) is h = is ∙ ap Some (sym (ap (λ (x : Option Place). unwrap_or x (record { stage = 0; array = 0; cell = 0 })) is))
      by None is h = cc

  not_eq : (r : Ordering) → (r ≡ Equal → ⊥) → is_eq r ≡ false
  not_eq Less n = refl
  not_eq Equal n = absurd (n refl)
  not_eq Greater n = refl

  self_equal : (r : Ordering) → r ≡ ordering_reverse r → is_eq r ≡ true
  self_equal Less e = cc
  self_equal Equal e = refl
  self_equal Greater e = cc

  some_place : {a b : Place} → Some a ≡ Some b → a ≡ b
  some_place e = cc

  both_on : (op : Op) (pair : Pair) → is_hot rows op.tuple ≡ true → names_tuple t (op, pair) ≡ is_eq (place_cmp place (hot_place rows op.tuple))
  both_on op pair hot = by (op.tuple.0 == t.0) refl
    where
      by : (b : Bool) → (op.tuple.0 == t.0) ≡ b → b ≡ is_eq (place_cmp place (hot_place rows op.tuple))
      by true e =
          let here : hot_place rows op.tuple ≡ place = some_place (sym (at_place op.tuple hot) ∙ ap (place_of rows) (same_number op.tuple t e) ∙ hot_t) in
          sym (ap is_eq (ap (place_cmp place) here) ∙ self_equal (place_cmp place place) (place_cmp_total.antisymm place place))
      by false e = sym (not_eq (place_cmp place (hot_place rows op.tuple)) (λ r.
          let here : place ≡ hot_place rows op.tuple = place_cmp_exact place (hot_place rows op.tuple) r in
          let same : op.tuple ≡ t = own op.tuple t place (at_place op.tuple hot ∙ ap Some (sym here)) hot_t in
          clash (op.tuple.0) t.0 (ap (λ (x : TupleId). x.0) same) e))
        where
          clash : (a b : ℕ) → a ≡ b → (a == b) ≡ false → ⊥
          clash a b e f = grind (arith, nat_tests)

  pub other_tuple : (op : Op) → is_hot rows op.tuple ≡ false → (op.tuple.0 == t.0) ≡ false
  other_tuple op cold = by (op.tuple.0 == t.0) refl
    where
      by : (b : Bool) → (op.tuple.0 == t.0) ≡ b → b ≡ false
      by false e = refl
      by true e = let hot : is_hot rows op.tuple ≡ true = ap is_some (ap (place_of rows) (same_number op.tuple t e) ∙ hot_t) in cc

  -- the pairs on the tuple are those on the place
  pub same_pairs : (done : List Pair) (ops : List Op) (values : List ℤ) (hot : List Pair) (pops : List PacketOp) → map (λ op. op.place) pops ≡ map (λ op. hot_place rows op.tuple) (hot_ops rows ops) → length hot ≡ length pops
      → tuple_pairs t (steps_of ops (joined_from rows done ops values hot)) ≡ place_pairs place (packet_steps pops hot)
  same_pairs done [] values hot [] places size = refl
  same_pairs done [] values hot (po ∷ pops) places size = cc
  same_pairs done (op ∷ ops) values hot pops places size =
      by (is_hot rows op.tuple) refl (λ vs hs ps q pl sz. same_pairs (done ++ q ∷ []) ops vs hs ps pl sz)
    where
      Rest : Type 0
      Rest = (vs : List ℤ) (hs : List Pair) (ps : List PacketOp) (q : Pair) → map (λ op. op.place) ps ≡ map (λ op. hot_place rows op.tuple) (hot_ops rows ops) → length hs ≡ length ps
          → tuple_pairs t (steps_of ops (joined_from rows (done ++ q ∷ []) ops vs hs)) ≡ place_pairs place (packet_steps ps hs)

      hot_one : is_hot rows op.tuple ≡ true → Rest → (h : List Pair) (p : List PacketOp) → map (λ op. op.place) p ≡ hot_place rows op.tuple ∷ map (λ op. hot_place rows op.tuple) (hot_ops rows ops) → length h ≡ length p
          → tuple_pairs t (steps_of (op ∷ ops) (pair_at h 0 ∷ joined_from rows (done ++ pair_at h 0 ∷ []) ops values (drop 1 h))) ≡ place_pairs place (packet_steps p h)
      hot_one e rest [] [] pl sz = cc
      hot_one e rest [] (po ∷ p) pl sz = absurd (omega (arith, sz))
      hot_one e rest (x ∷ h) [] pl sz = cc
      hot_one e rest (x ∷ h) (po ∷ p) pl sz =
          let here : po.place ≡ hot_place rows op.tuple = cc in
          let behind : map (λ (o : PacketOp). o.place) p ≡ map (λ (o : Op). hot_place rows o.tuple) (hot_ops rows ops) = cc in
          let more = rest values h p x behind (omega (arith, sz)) in
          ap (λ (b : Bool). map (λ (s : Step). s.1) (if b then (op, x) ∷ filter (names_tuple t) (steps_of ops (joined_from rows (done ++ x ∷ []) ops values h)) else filter (names_tuple t) (steps_of ops (joined_from rows (done ++ x ∷ []) ops values h))))
          (both_on op x e ∙ ap (λ (q : Place). is_eq (place_cmp place q)) (sym here))
          ∙ under (is_eq (place_cmp place po.place)) more
        where
          under : (b : Bool) → tuple_pairs t (steps_of ops (joined_from rows (done ++ x ∷ []) ops values h)) ≡ place_pairs place (packet_steps p h)
              → map (λ (s : Step). s.1) (if b then (op, x) ∷ filter (names_tuple t) (steps_of ops (joined_from rows (done ++ x ∷ []) ops values h)) else filter (names_tuple t) (steps_of ops (joined_from rows (done ++ x ∷ []) ops values h)))
              ≡ map (λ (s : PacketStep). s.1) (if b then (po, x) ∷ filter (is_on place) (packet_steps p h) else filter (is_on place) (packet_steps p h))
          under true m = ap (λ (l : List Pair). x ∷ l) m
          under false m = m

      by : (b : Bool) → is_hot rows op.tuple ≡ b → Rest → tuple_pairs t (steps_of (op ∷ ops) (joined_from rows done (op ∷ ops) values hot)) ≡ place_pairs place (packet_steps pops hot)
      by true e rest =
          ap (λ (l : List Pair). tuple_pairs t (steps_of (op ∷ ops) l)) (joined_hot rows done op ops values hot e)
          ∙ hot_one e rest hot pops (places ∙ ap (map (λ (o : Op). hot_place rows o.tuple)) (hot_ops-hot rows op ops e)) size
      by false e rest =
          let v = pair_of op done (first_value values) in
          ap (λ (l : List Pair). tuple_pairs t (steps_of (op ∷ ops) l)) (joined_cold rows done op ops values hot e)
          ∙ ap (λ (b : Bool). map (λ (s : Step). s.1) (if b then (op, v) ∷ filter (names_tuple t) (steps_of ops (joined_from rows (done ++ v ∷ []) ops (drop 1 values) hot)) else filter (names_tuple t) (steps_of ops (joined_from rows (done ++ v ∷ []) ops (drop 1 values) hot)))) (other_tuple op e)
          ∙ rest (drop 1 values) hot pops v (places ∙ ap (map (λ (o : Op). hot_place rows o.tuple)) (hot_ops-cold rows op ops e)) size
