-- What the execution of the operations that are due gives: the pair of each operation, and the number at each place.
use Rattle.std.proofs.Common.{◌≡◌, ℕ, ℤ, ◌+ℤ◌, pos, zero, suc, Bool, true, false, cond, List, [], ◌∷◌, ◌++◌, take, drop, slice_get, Option, Some, unwrap_or, refl, sym, ap, ap₂, ◌∙◌, arith, append_assoc, append-nil}
use Rattle.std.specs.FinMap as fin
use Rattle.std.specs.List.{AllByRecursion}
use Rattle.std.specs.Ordering.{is_eq}
use Rattle.std.specs.declared.cmp.Ordering.{Ordering}
use Rattle.std.specs.declared.cmp.Ordering.TheVariants.{Less, Equal, Greater}
use Rattle.std.proofs.lemmas.Cmp.{eq_by_cmp_equiv}
use Rattle.std.proofs.lemmas.List.{get_or-drop}
use Rattle.txn_model.specs.Needs.{needs_list}
use Rattle.txn_model.specs.Number.{wrap}
use Rattle.txn_model.specs.Places.{Places, place_cmp}
use Rattle.txn_model.specs.Serial.{operand, effect, needed, part_of, pair_at}
use Rattle.txn_model.specs.declared.op.Need.{Need}
use Rattle.txn_model.specs.declared.pairs.Pair.{Pair}
use Rattle.txn_model.specs.declared.place.Place.{Place}
use Rattle.txn_model.proofs.PlaceOrder.{place_cmp_total, place_cmp_exact}
use Rattle.switch_packet.specs.declared.packet.PacketOp.{PacketOp}
use Rattle.switch_packet.specs.Replay.{PlacesDiffer, register_at, packet_pair, pair_now, map_now, execute}

-- ---- numbers at places

equal_order : (o : Ordering) → is_eq o ≡ true → o ≡ Equal
equal_order Less e = cc
equal_order Equal e = refl
equal_order Greater e = cc

pub is_itself : (p : Place) → is_eq (place_cmp p p) ≡ true
is_itself p = (eq_by_cmp_equiv place_cmp_total).refl p

pub same_place : (p q : Place) → is_eq (place_cmp p q) ≡ true → p ≡ q
same_place p q e = place_cmp_exact p q (equal_order (place_cmp p q) e)

pub get-there : (m : Places) (place : Place) (v : ℤ) → fin.get (fin.insert m place v) place ≡ Some v
get-there m place v = fin.get-insert place_cmp_total m place v place ∙ ap (λ (b : Bool). cond b (Some v) (fin.get m place)) (is_itself place)

pub get-elsewhere : (m : Places) (place other : Place) (v : ℤ) → (place ≡ other → ⊥) → fin.get (fin.insert m place v) other ≡ fin.get m other
get-elsewhere m place other v n = fin.get-insert place_cmp_total m place v other ∙ by (is_eq (place_cmp other place)) refl
  where
    by : (b : Bool) → is_eq (place_cmp other place) ≡ b → cond b (Some v) (fin.get m other) ≡ fin.get m other
    by true e = absurd (n (sym (same_place other place e)))
    by false e = refl

-- ---- the pairs that are added

-- the pairs of the operations, behind those in done
abbrev pub made : (PacketOp → Bool) → List PacketOp → List Pair → List Pair → Places → List Pair
made due [] done rest m = []
made due (op ∷ ops) done rest m =
    let pair = pair_now (due op) op done (pair_at rest 0) (register_at m op.place) in
    pair ∷ made due ops (done ++ pair ∷ []) (drop 1 rest) (map_now (due op) m op.place pair.now)

pub pairs-execute : (due : PacketOp → Bool) (ops : List PacketOp) (done rest : List Pair) (m : Places) → (execute due ops done rest m).pairs ≡ done ++ made due ops done rest m
unfolding execute
pairs-execute due [] done rest m = sym (append-nil done)
pairs-execute due (op ∷ ops) done rest m =
    let pair = pair_now (due op) op done (pair_at rest 0) (register_at m op.place) in
    pairs-execute due ops (done ++ pair ∷ []) (drop 1 rest) (map_now (due op) m op.place pair.now) ∙ append_assoc done (pair ∷ []) (made due ops (done ++ pair ∷ []) (drop 1 rest) (map_now (due op) m op.place pair.now))

-- ---- places that differ

pub rest_differ : (op : PacketOp) (ops : List PacketOp) → PlacesDiffer (op ∷ ops) → PlacesDiffer ops
rest_differ op ops apart i j a b at_a at_b same = let e : suc i ≡ suc j = apart (suc i) (suc j) a b at_a at_b same in omega arith

pub first_differs : (op : PacketOp) (ops : List PacketOp) → PlacesDiffer (op ∷ ops) → (i : ℕ) (a : PacketOp) → slice_get ops i ≡ Some a → op.place ≡ a.place → ⊥
first_differs op ops apart i a at_a same = let e : 0 ≡ suc i = apart 0 (suc i) op a refl at_a same in absurd (omega arith)

-- ---- numbers behind an execution

pub get-map_now : (b : Bool) (m : Places) (place other : Place) (v : ℤ) → (b ≡ true → place ≡ other → ⊥) → fin.get (map_now b m place v) other ≡ fin.get m other
get-map_now true m place other v n = get-elsewhere m place other v (n refl)
get-map_now false m place other v n = refl

-- a place on which no operation is due keeps its number
pub get-untouched : (due : PacketOp → Bool) (ops : List PacketOp) (done rest : List Pair) (m : Places) (place : Place)
    → ((i : ℕ) (op : PacketOp) → slice_get ops i ≡ Some op → due op ≡ true → op.place ≡ place → ⊥)
    → fin.get (execute due ops done rest m).after place ≡ fin.get m place
unfolding execute
get-untouched due [] done rest m place none = refl
get-untouched due (op ∷ ops) done rest m place none =
    let pair = pair_now (due op) op done (pair_at rest 0) (register_at m op.place) in
    get-untouched due ops (done ++ pair ∷ []) (drop 1 rest) (map_now (due op) m op.place pair.now) place (λ i a at_a is same. none (suc i) a at_a is same)
    ∙ get-map_now (due op) m op.place place pair.now (λ is same. none 0 op refl is same)

-- a due operation's place has the number that the operation leaves
pub get-executed : (due : PacketOp → Bool) (ops : List PacketOp) (done rest : List Pair) (m : Places) (i : ℕ) (op : PacketOp)
    → PlacesDiffer ops → slice_get ops i ≡ Some op → due op ≡ true
    → fin.get (execute due ops done rest m).after op.place ≡ Some (pair_at (made due ops done rest m) i).now
unfolding execute
get-executed due [] done rest m i op apart at is = cc
get-executed due (first ∷ ops) done rest m zero op apart at is =
    let same : first ≡ op = cc in
    let pair = pair_now (due first) first done (pair_at rest 0) (register_at m first.place) in
    let after = map_now (due first) m first.place pair.now in
    let here : fin.get (execute due ops (done ++ pair ∷ []) (drop 1 rest) after).after first.place ≡ fin.get after first.place =
    get-untouched due ops (done ++ pair ∷ []) (drop 1 rest) after first.place (λ j a at_a due_a e. first_differs first ops apart j a at_a (sym e)) in
    let now : fin.get after first.place ≡ Some pair.now = ap (λ (b : Bool). fin.get (map_now b m first.place pair.now) first.place) (ap due same ∙ is) ∙ get-there m first.place pair.now in
    ap (λ (o : PacketOp). fin.get (execute due ops (done ++ pair ∷ []) (drop 1 rest) after).after o.place) (sym same) ∙ here ∙ now
get-executed due (first ∷ ops) done rest m (suc i) op apart at is =
    let pair = pair_now (due first) first done (pair_at rest 0) (register_at m first.place) in
    get-executed due ops (done ++ pair ∷ []) (drop 1 rest) (map_now (due first) m first.place pair.now) i op (rest_differ first ops apart) at is

register_from_get : (m n : Places) (place : Place) → fin.get m place ≡ fin.get n place → register_at m place ≡ register_at n place
register_from_get m n place e = ap (λ (o : Option ℤ). unwrap_or o (pos 0)) e

-- ---- pairs behind an execution

-- each operation's pair: of its execution where it is due, and else its old one
pub pair_at-made : (due : PacketOp → Bool) (ops : List PacketOp) (done rest : List Pair) (m : Places) (i : ℕ) (op : PacketOp)
    → PlacesDiffer ops → slice_get ops i ≡ Some op
    → pair_at (made due ops done rest m) i ≡ pair_now (due op) op (done ++ take i (made due ops done rest m)) (pair_at rest i) (register_at m op.place)
pair_at-made due [] done rest m i op apart at = cc
pair_at-made due (first ∷ ops) done rest m zero op apart at =
    let same : first ≡ op = cc in
    ap (λ (o : PacketOp). pair_now (due o) o done (pair_at rest 0) (register_at m o.place)) same
    ∙ ap (λ (d : List Pair). pair_now (due op) op d (pair_at rest 0) (register_at m op.place)) (sym (append-nil done))
pair_at-made due (first ∷ ops) done rest m (suc i) op apart at =
    let pair = pair_now (due first) first done (pair_at rest 0) (register_at m first.place) in
    let after = map_now (due first) m first.place pair.now in
    let more = made due ops (done ++ pair ∷ []) (drop 1 rest) after in
    let step : pair_at more i ≡ pair_now (due op) op ((done ++ pair ∷ []) ++ take i more) (pair_at (drop 1 rest) i) (register_at after op.place) =
    pair_at-made due ops (done ++ pair ∷ []) (drop 1 rest) after i op (rest_differ first ops apart) at in
    let was : register_at after op.place ≡ register_at m op.place = register_from_get after m op.place (get-map_now (due first) m first.place op.place pair.now (λ d. first_differs first ops apart i op at)) in
    let old : pair_at (drop 1 rest) i ≡ pair_at rest (suc i) = get_or-drop 1 rest i zero_pair ∙ ap (pair_at rest) (omega arith) in
    step
    ∙ ap (λ (d : List Pair). pair_now (due op) op d (pair_at (drop 1 rest) i) (register_at after op.place)) (append_assoc done (pair ∷ []) (take i more))
    ∙ ap (λ (x : Pair). pair_now (due op) op (done ++ pair ∷ take i more) x (register_at after op.place)) old
    ∙ ap (λ (v : ℤ). pair_now (due op) op (done ++ pair ∷ take i more) (pair_at rest (suc i)) v) was
  where
    zero_pair : Pair
    zero_pair = record { was = pos 0; now = pos 0 }

-- ---- an operation's pair depends on what it finds and on what it needs

same_needed : (needs : List Need) (a b : List Pair) → AllByRecursion (λ n. pair_at a n.from ≡ pair_at b n.from) needs → needed needs a ≡ needed needs b
same_needed [] a b same = refl
same_needed (n ∷ ns) a b same = ap₂ (λ (x : Pair) (v : ℤ). part_of n.which x +ℤ v) same.0 (same_needed ns a b same.1)

pub same_pair : (op : PacketOp) (a b : List Pair) (v w : ℤ) → AllByRecursion (λ n. pair_at a n.from ≡ pair_at b n.from) (needs_list op.needs) → v ≡ w → packet_pair op a v ≡ packet_pair op b w
unfolding operand
same_pair op a b v w same e =
    ap₂ (λ (s t : ℤ). record { was = s; now = effect op.act s t }) e (ap (λ (t : ℤ). wrap (op.bias +ℤ t)) (same_needed (needs_list op.needs) a b same))
