-- Entries and stages keep what holds of what was executed.
use Rattle.std.proofs.Common.{◌≡◌, ◌⊎◌, ℕ, ℤ, zero, suc, ◌+◌, ◌-◌, ◌<◌, ◌≤◌, Bool, true, false, List, [], ◌∷◌, ◌++◌, length, take, get_or, slice_get, Option, Some, None, unwrap_or, pos, inl, inr, refl, sym, ap, ◌∙◌, subst, arith}
use Rattle.std.specs.FinMap as fin
use Rattle.std.specs.List.{AllByRecursion}
use Rattle.std.specs.Ordering.{is_eq}
use Rattle.std.proofs.lemmas.Bool.{cases_eq, cases_lt, false_from_ne_true}
use Rattle.std.proofs.Math.Seq.{get_or-append_seam}
use Rattle.std.proofs.lemmas.List.{get_or-take, get_or_append_left, get_or_past, length_push, length-map}
use Rattle.std.proofs.lemmas.Option.{slice_get-get_or, slice_get_within}
use Rattle.txn_model.specs.Needs.{needs_list}
use Rattle.txn_model.specs.Places.{Places, place_cmp}
use Rattle.txn_model.specs.Serial.{pair_at}
use Rattle.txn_model.specs.declared.op.Need.{Need}
use Rattle.txn_model.specs.declared.pairs.Pair.{Pair}
use Rattle.txn_model.specs.declared.place.Place.{Place}
use Rattle.stage_layout.specs.Regions.{region_of}
use Rattle.stage_layout.specs.declared.shape.Shape.{Shape}
use Rattle.switch_packet.specs.declared.packet.PacketOp.{PacketOp}
use Rattle.switch_packet.specs.Packets.{PlainPacket, blank_packet}
use Rattle.switch_packet.specs.Replay.{Replayed, register_at, pair_now, execute, always, replay}
use Rattle.switch_packet.proofs.ExecuteLaws.{made, pairs-execute, pair_at-made, get-untouched, get-executed, same_pair, same_place, is_itself}
use Rattle.switch_packet.proofs.ReplayLaws.{length-execute}
use Rattle.switch_model.specs.Fitting.{FitsSwitch, IsMet}
use Rattle.switch_model.specs.Event.{in_first_slot}
use Rattle.switch_model.specs.Flight.{Flight, zero_pair, fresh_flight, packet_touches, is_due}
use Rattle.switch_model.proofs.Before.{before, before-suc, before-append, pairs_of, get-before}
use Rattle.switch_model.proofs.Facts.{IsAhead, Meet, Positions, IsExecuted, Counted, Values}
use Rattle.switch_model.proofs.Positions.{Becomes, each_becomes}
use Rattle.switch_model.proofs.Tests.{clash, due_at, touches_own}

-- packet k stands in slot x, and all holds
pub record Turn (shape : Shape) (first registers : Places) (packets : List PlainPacket) (at : ℕ → Flight) (k x : ℕ) : Type 0 where
  pub positions : Positions shape (length packets) at
  pub values : Values shape first registers packets at
  pub there : k < length packets
  pub slot : (at k).depth ≡ x + 1

-- an operation that is due wasn't executed
pub not_yet : (f : Flight) (x : ℕ) (op : PacketOp) → f.depth ≡ x + 1 → is_due f.pass x op ≡ true → IsExecuted f op → ⊥
not_yet f x op slot due done = let d = due_at f.pass x op due in elim done [ inl before ↦ omega (arith, d.0) | inr here ↦ omega (arith, d.0, d.1, here.0, here.1) ]

-- an operation of a packet ahead that is at the same stage was executed
ahead_executed : (f g : Flight) (x : ℕ) (op : PacketOp) → IsAhead f g → g.depth ≡ x + 1 → op.pass ≤ f.packet.passes → op.place.stage ≡ x → IsExecuted f op
ahead_executed f g x op ahead slot pass stage = elim ahead [
  | inl done ↦ inl (omega arith)
  | inr l ↦ elim (cases_lt op.pass f.pass) [
    | inl lt ↦ inl lt
    | inr ge ↦ inr (omega (arith, l.last), omega (arith, l.deeper))
  ]
]

pub others_executed : (shape : Shape) (first registers : Places) (packets : List PlainPacket) (at : ℕ → Flight) (k x : ℕ) → Turn shape first registers packets at k x
    → (i : ℕ) (op : PacketOp) → slice_get (get_or packets k blank_packet).ops i ≡ Some op → is_due (at k).pass x op ≡ true
    → (j a : ℕ) (other : PacketOp) → j < k → slice_get (get_or packets j blank_packet).ops a ≡ Some other → other.place ≡ op.place → IsExecuted (at j) other
others_executed shape first registers packets at k x t i op at_i due j a other lt at_a same =
    let d = due_at (at k).pass x op due in
    let stage : other.place.stage ≡ op.place.stage = ap (λ (p : Place). p.stage) same in
    let region = region_of shape op.place.stage in
    let one : packet_touches shape (get_or packets j blank_packet) (region_of shape other.place.stage) ≡ true = touches_own shape (get_or packets j blank_packet).ops a other at_a in
    let two : packet_touches shape (get_or packets k blank_packet) region ≡ true = touches_own shape (get_or packets k blank_packet).ops i op at_i in
    let meet : Meet shape region (at j) (at k) = record {
      first = ap (λ (p : PlainPacket). packet_touches shape p region) (t.values.packet j) ∙ ap (λ (y : ℕ). packet_touches shape (get_or packets j blank_packet) (region_of shape y)) (sym stage) ∙ one;
      second = ap (λ (p : PlainPacket). packet_touches shape p region) (t.values.packet k) ∙ two;
    } in
    let within = (t.values.fits j (omega (arith, t.there))).within a other at_a in
    let passes : (at j).packet.passes ≡ (get_or packets j blank_packet).passes = ap (λ (p : PlainPacket). p.passes) (t.values.packet j) in
    ahead_executed (at j) (at k) x other (t.positions.order j k region lt t.there meet) t.slot (omega (arith, within.to_last)) (stage ∙ d.1)

-- the register that a due operation finds is as all packets before left it
pub register_before : (shape : Shape) (first registers : Places) (packets : List PlainPacket) (at : ℕ → Flight) (k x : ℕ) → Turn shape first registers packets at k x
    → (i : ℕ) (op : PacketOp) → slice_get (get_or packets k blank_packet).ops i ≡ Some op → is_due (at k).pass x op ≡ true
    → ((t : Counted first registers packets at op.place) → t.count ≤ k) × (fin.get registers op.place ≡ fin.get (before packets first k) op.place)
register_before shape first registers packets at k x t i op at_i due = (few, go (t.values.counted op.place))
  where
    few : (c : Counted first registers packets at op.place) → c.count ≤ k
    few c = elim (cases_lt k c.count) [
      | inl lt ↦ absurd (not_yet (at k) x op t.slot due (c.within k i op lt at_i refl))
      | inr le ↦ le
    ]

    go : Counted first registers packets at op.place → fin.get registers op.place ≡ fin.get (before packets first k) op.place
    go c =
        let le : c.count ≤ k = few c in
        let rest : c.count + (k - c.count) ≡ k = omega arith in
        c.number
        ∙ sym (get-before packets first op.place c.count (k - c.count) (omega (arith, t.there)) (λ j a other from to at_a same. c.beyond j a other from at_a same (others_executed shape first registers packets at k x t i op at_i due j a other (omega arith) at_a same)))
        ∙ ap (λ (m : ℕ). fin.get (before packets first m) op.place) rest

-- ---- the pairs

needs_alike : (P Q : Need → Type 0) → ((n : Need) → P n → Q n) → (ns : List Need) → AllByRecursion P ns → AllByRecursion Q ns
needs_alike P Q f [] all = tt
needs_alike P Q f (n ∷ ns) all = (f n all.0, needs_alike P Q f ns all.1)

-- what an operation that is due needs was executed
need_executed : (f : Flight) (x : ℕ) (p : PlainPacket) (i : ℕ) (op other : PacketOp) (from : ℕ) → f.depth ≡ x + 1 → is_due f.pass x op ≡ true → IsMet p i op from → slice_get p.ops from ≡ Some other → IsExecuted f other
need_executed f x p i op other from slot due met at =
    let d = due_at f.pass x op due in
    elim (met.before other at) [
      | inl before ↦ inl (omega (arith, d.0))
      | inr here ↦ inr (here.0 ∙ d.0, omega (arith, d.1, here.1))
    ]

-- packet k's pairs and registers behind the stage
abbrev pub behind : List PlainPacket → (ℕ → Flight) → Places → ℕ → ℕ → Replayed
behind packets at registers k x = execute (is_due (at k).pass x) (get_or packets k blank_packet).ops [] (at k).pairs registers

-- an operation that isn't due keeps its pair
pair_kept : (shape : Shape) (first registers : Places) (packets : List PlainPacket) (at : ℕ → Flight) (k x : ℕ) → Turn shape first registers packets at k x
    → (i : ℕ) (op : PacketOp) → slice_get (get_or packets k blank_packet).ops i ≡ Some op → is_due (at k).pass x op ≡ false → pair_at (behind packets at registers k x).pairs i ≡ pair_at (at k).pairs i
pair_kept shape first registers packets at k x t i op at_i not_due =
    let p = get_or packets k blank_packet in
    let due = is_due (at k).pass x in
    let m = made due p.ops [] (at k).pairs registers in
    ap (λ (ps : List Pair). pair_at ps i) (pairs-execute due p.ops [] (at k).pairs registers)
    ∙ pair_at-made due p.ops [] (at k).pairs registers i op ((t.values.fits k t.there).apart) at_i
    ∙ ap (λ (b : Bool). pair_now b op (take i m) (pair_at (at k).pairs i) (register_at registers op.place)) not_due

-- an executed one has its pair of the replay, so it keeps that
kept_is_replayed : (shape : Shape) (first registers : Places) (packets : List PlainPacket) (at : ℕ → Flight) (k x : ℕ) → Turn shape first registers packets at k x
    → (i : ℕ) (op : PacketOp) → slice_get (get_or packets k blank_packet).ops i ≡ Some op → IsExecuted (at k) op → pair_at (behind packets at registers k x).pairs i ≡ pair_at (pairs_of packets first k) i
kept_is_replayed shape first registers packets at k x t i op at_i done =
    pair_kept shape first registers packets at k x t i op at_i (false_from_ne_true (is_due (at k).pass x op) (λ due. not_yet (at k) x op t.slot due done))
    ∙ t.values.pairs k i op at_i done

-- a due operation gets its pair of the replay
due_is_replayed : (shape : Shape) (first registers : Places) (packets : List PlainPacket) (at : ℕ → Flight) (k x : ℕ) → Turn shape first registers packets at k x
    → (i : ℕ) (op : PacketOp) → slice_get (get_or packets k blank_packet).ops i ≡ Some op → is_due (at k).pass x op ≡ true → pair_at (behind packets at registers k x).pairs i ≡ pair_at (pairs_of packets first k) i
due_is_replayed shape first registers packets at k x t i op at_i due_i =
    let p = get_or packets k blank_packet in
    let due = is_due (at k).pass x in
    let fit = t.values.fits k t.there in
    let m = made due p.ops [] (at k).pairs registers in
    let start = before packets first k in
    let d = made always p.ops [] [] start in
    let executed : (behind packets at registers k x).pairs ≡ m = pairs-execute due p.ops [] (at k).pairs registers in
    let replayed : pairs_of packets first k ≡ d = pairs-execute always p.ops [] [] start in
    let alike : (n : Need) → IsMet p i op n.from → pair_at (take i m) n.from ≡ pair_at (take i d) n.from = λ n met.
    let there : n.from < length p.ops = omega (arith, met.earlier, slice_get_within p.ops i op at_i) in
    let other = get_or p.ops n.from op in
    let at_n : slice_get p.ops n.from ≡ Some other = slice_get-get_or p.ops n.from op there in
    let done = need_executed (at k) x p i op other n.from t.slot due_i met at_n in
    get_or-take i m n.from zero_pair met.earlier
    ∙ ap (λ (ps : List Pair). pair_at ps n.from) (sym executed)
    ∙ kept_is_replayed shape first registers packets at k x t n.from other at_n done
    ∙ ap (λ (ps : List Pair). pair_at ps n.from) replayed
    ∙ sym (get_or-take i d n.from zero_pair met.earlier) in
    let found = register_before shape first registers packets at k x t i op at_i due_i in
    ap (λ (ps : List Pair). pair_at ps i) executed
    ∙ pair_at-made due p.ops [] (at k).pairs registers i op fit.apart at_i
    ∙ ap (λ (b : Bool). pair_now b op (take i m) (pair_at (at k).pairs i) (register_at registers op.place)) due_i
    ∙ same_pair op (take i m) (take i d) (register_at registers op.place) (register_at start op.place)
    (needs_alike (λ n. IsMet p i op n.from) (λ n. pair_at (take i m) n.from ≡ pair_at (take i d) n.from) alike (needs_list op.needs) (fit.needs i op at_i))
    (ap (λ (o : Option ℤ). unwrap_or o (pos 0)) found.1)
    ∙ sym (pair_at-made always p.ops [] [] start i op fit.apart at_i)
    ∙ ap (λ (ps : List Pair). pair_at ps i) (sym replayed)

-- ---- packet k behind the stage

-- the flight that packet k becomes: its executed operations are those that were, and those that were due
pub record Leaves (packets : List PlainPacket) (at : ℕ → Flight) (registers : Places) (k x : ℕ) (f : Flight) : Type 0 where
  pub packet : f.packet ≡ (at k).packet
  pub pairs : f.pairs ≡ (behind packets at registers k x).pairs
  pub kept : (op : PacketOp) → IsExecuted (at k) op → IsExecuted f op
  pub due : (op : PacketOp) → is_due (at k).pass x op ≡ true → IsExecuted f op
  pub only : (i : ℕ) (op : PacketOp) → slice_get (get_or packets k blank_packet).ops i ≡ Some op → IsExecuted f op → IsExecuted (at k) op ⊎ (is_due (at k).pass x op ≡ true)

-- an operation on the place that is due
record DueOn (due : PacketOp → Bool) (ops : List PacketOp) (place : Place) : Type 0 where
  i : ℕ
  op : PacketOp
  at_i : slice_get ops i ≡ Some op
  is : due op ≡ true
  on : op.place ≡ place

abbrev NoneDue : (PacketOp → Bool) → List PacketOp → Place → Type 0
NoneDue due ops place = (i : ℕ) (op : PacketOp) → slice_get ops i ≡ Some op → due op ≡ true → op.place ≡ place → ⊥

none_more : (due : PacketOp → Bool) (o : PacketOp) (ops : List PacketOp) (place : Place) → (due o ≡ true → o.place ≡ place → ⊥) → NoneDue due ops place → NoneDue due (o ∷ ops) place
none_more due o ops place here rest zero op at d same = let e : o ≡ op = cc in here (ap due e ∙ d) (ap (λ (y : PacketOp). y.place) e ∙ same)
none_more due o ops place here rest (suc i) op at d same = rest i op at d same

search_due : (due : PacketOp → Bool) (ops : List PacketOp) (place : Place) → DueOn due ops place ⊎ NoneDue due ops place
search_due due [] place = inr (λ i op at d same. cc)
search_due due (o ∷ ops) place = by (due o) refl (is_eq (place_cmp o.place place)) refl (search_due due ops place)
  where
    by : (b : Bool) → due o ≡ b → (c : Bool) → is_eq (place_cmp o.place place) ≡ c → DueOn due ops place ⊎ NoneDue due ops place → DueOn due (o ∷ ops) place ⊎ NoneDue due (o ∷ ops) place
    by b d c e (inl f) = inl (record { i = suc f.i; op = f.op; at_i = f.at_i; is = f.is; on = f.on })
    by true d true e (inr n) = inl (record { i = 0; op = o; at_i = refl; is = d; on = same_place o.place place e })
    by true d false e (inr n) = inr (none_more due o ops place (λ t same. clash _ (ap (λ (q : Place). is_eq (place_cmp o.place q)) (sym same) ∙ is_itself o.place) e) n)
    by false d c e (inr n) = inr (none_more due o ops place (λ t same. clash _ t d) n)

some_same : {X : Type 0} {a b : X} → Some a ≡ Some b → a ≡ b
some_same e = cc

-- the count at a place on which an operation was due
count_moves : (shape : Shape) (first registers : Places) (packets : List PlainPacket) (at next : ℕ → Flight) (k x : ℕ) (f : Flight) → Turn shape first registers packets at k x
    → Becomes k f at next → Leaves packets at registers k x f → (i : ℕ) (op : PacketOp) → slice_get (get_or packets k blank_packet).ops i ≡ Some op → is_due (at k).pass x op ≡ true
    → Counted first (behind packets at registers k x).after packets next op.place
count_moves shape first registers packets at next k x f t b l i op at_i due =
    let p = get_or packets k blank_packet in
    let start = before packets first k in
    let test = is_due (at k).pass x in
    let apart = (t.values.fits k t.there).apart in
    let old = t.values.counted op.place in
    let few : old.count ≤ k = (register_before shape first registers packets at k x t i op at_i due).0 old in
    let replayed : pairs_of packets first k ≡ made always p.ops [] [] start = pairs-execute always p.ops [] [] start in
    let executed : (behind packets at registers k x).pairs ≡ made test p.ops [] (at k).pairs registers = pairs-execute test p.ops [] (at k).pairs registers in
    let next_k : suc k ≡ k + 1 = omega arith in
    record {
      count = k + 1;
      small = omega (arith, t.there);
      within = λ j a other lt at_a same. each_becomes (λ j g. j < k + 1 → slice_get (get_or packets j blank_packet).ops a ≡ Some other → IsExecuted g other) k f at next b
          (λ _ at_a. let e : a ≡ i = apart a i other op at_a at_i same in let o : other ≡ op = some_same (sym at_a ∙ ap (slice_get p.ops) e ∙ at_i) in l.due other (ap test o ∙ due))
          j (λ n lt at_a. others_executed shape first registers packets at k x t i op at_i due j a other (omega arith) at_a same)
          lt at_a;
      beyond = λ j a other from at_a same done.
          let n : (j ≡ k → ⊥) = λ e. omega arith in
          let R : Flight → Type 0 = λ g. IsExecuted g other in
          old.beyond j a other (omega arith) at_a same (subst R (b.others j n) done);
      number =
          get-executed test p.ops [] (at k).pairs registers i op apart at_i due
          ∙ ap (λ (y : Pair). Some y.now) (ap (λ (ps : List Pair). pair_at ps i) (sym executed) ∙ due_is_replayed shape first registers packets at k x t i op at_i due ∙ ap (λ (ps : List Pair). pair_at ps i) replayed)
          ∙ sym (get-executed always p.ops [] [] start i op apart at_i refl)
          ∙ ap (λ (m : Places). fin.get m op.place) (sym (before-suc packets first k t.there))
          ∙ ap (λ (n : ℕ). fin.get (before packets first n) op.place) next_k;
    }

-- and at one on which none was
count_stays : (shape : Shape) (first registers : Places) (packets : List PlainPacket) (at next : ℕ → Flight) (k x : ℕ) (f : Flight)
    → Becomes k f at next → Leaves packets at registers k x f → (place : Place) → NoneDue (is_due (at k).pass x) (get_or packets k blank_packet).ops place
    → Counted first registers packets at place → Counted first (behind packets at registers k x).after packets next place
count_stays shape first registers packets at next k x f b l place none c = record {
  count = c.count;
  small = c.small;
  within = λ j a other lt at_a same. each_becomes (λ j g. j < c.count → slice_get (get_or packets j blank_packet).ops a ≡ Some other → IsExecuted g other) k f at next b
      (λ lt at_a. l.kept other (c.within k a other lt at_a same)) j (λ n lt at_a. c.within j a other lt at_a same) lt at_a;
  beyond = λ j a other from at_a same. each_becomes (λ j g. c.count ≤ j → slice_get (get_or packets j blank_packet).ops a ≡ Some other → IsExecuted g other → ⊥) k f at next b
      (λ from at_a done. elim (l.only a other at_a done) [ inl was ↦ c.beyond k a other from at_a same was | inr due ↦ none a other at_a due same ])
      j (λ n from at_a done. c.beyond j a other from at_a same done) from at_a;
  number = get-untouched (is_due (at k).pass x) (get_or packets k blank_packet).ops [] (at k).pairs registers place none ∙ c.number;
}

pub stage_keeps : (shape : Shape) (first registers : Places) (packets : List PlainPacket) (at next : ℕ → Flight) (k x : ℕ) (f : Flight) → Turn shape first registers packets at k x
    → Becomes k f at next → Leaves packets at registers k x f → Values shape first (behind packets at registers k x).after packets next
stage_keeps shape first registers packets at next k x f t b l = record {
  packet = λ i. each_becomes (λ i g. g.packet ≡ get_or packets i blank_packet) k f at next b (l.packet ∙ t.values.packet k) i (λ _. t.values.packet i);
  fits = t.values.fits;
  size = λ i. each_becomes (λ i g. length g.pairs ≡ length (get_or packets i blank_packet).ops) k f at next b
      (ap length l.pairs ∙ omega (arith, length-execute (is_due (at k).pass x) (get_or packets k blank_packet).ops [] (at k).pairs registers)) i (λ _. t.values.size i);
  pairs = λ j i op at_i done. each_becomes (λ j g. slice_get (get_or packets j blank_packet).ops i ≡ Some op → IsExecuted g op → pair_at g.pairs i ≡ pair_at (pairs_of packets first j) i) k f at next b
      (λ at_i done. ap (λ (ps : List Pair). pair_at ps i) l.pairs ∙ elim (l.only i op at_i done) [
        | inl was ↦ kept_is_replayed shape first registers packets at k x t i op at_i was
        | inr due ↦ due_is_replayed shape first registers packets at k x t i op at_i due
      ])
      j (λ _ at_i done. t.values.pairs j i op at_i done) at_i done;
  counted = λ place. elim (search_due (is_due (at k).pass x) (get_or packets k blank_packet).ops place) [
    | inl d ↦ subst (λ (q : Place). Counted first (behind packets at registers k x).after packets next q) d.on (count_moves shape first registers packets at next k x f t b l d.i d.op d.at_i d.is)
    | inr none ↦ count_stays shape first registers packets at next k x f b l place none (t.values.counted place)
  ];
}

-- ---- entries change nothing that was executed

pub later_entry_values : (shape : Shape) (first registers : Places) (packets : List PlainPacket) (at next : ℕ → Flight) (k : ℕ) → Values shape first registers packets at → (at k).depth ≡ 0
    → Becomes k (in_first_slot (at k)) at next → Values shape first registers packets next
later_entry_values shape first registers packets at next k v none b = record {
  packet = λ i. each_becomes (λ i g. g.packet ≡ get_or packets i blank_packet) k (in_first_slot (at k)) at next b (v.packet k) i (λ _. v.packet i);
  fits = v.fits;
  size = λ i. each_becomes (λ i g. length g.pairs ≡ length (get_or packets i blank_packet).ops) k (in_first_slot (at k)) at next b (v.size k) i (λ _. v.size i);
  pairs = λ j i op at_i done. each_becomes (λ j g. slice_get (get_or packets j blank_packet).ops i ≡ Some op → IsExecuted g op → pair_at g.pairs i ≡ pair_at (pairs_of packets first j) i) k (in_first_slot (at k)) at next b
      (λ at_i done. v.pairs k i op at_i (back op done)) j (λ _ at_i done. v.pairs j i op at_i done) at_i done;
  counted = λ place. let c = v.counted place in record {
    count = c.count;
    small = c.small;
    within = λ j a op lt at_a same. each_becomes (λ j g. j < c.count → slice_get (get_or packets j blank_packet).ops a ≡ Some op → IsExecuted g op) k (in_first_slot (at k)) at next b
        (λ lt at_a. forth op (c.within k a op lt at_a same)) j (λ n lt at_a. c.within j a op lt at_a same) lt at_a;
    beyond = λ j a op from at_a same. each_becomes (λ j g. c.count ≤ j → slice_get (get_or packets j blank_packet).ops a ≡ Some op → IsExecuted g op → ⊥) k (in_first_slot (at k)) at next b
        (λ from at_a done. c.beyond k a op from at_a same (back op done)) j (λ n from at_a done. c.beyond j a op from at_a same done) from at_a;
    number = c.number;
  };
}
  where
    back : (op : PacketOp) → IsExecuted (in_first_slot (at k)) op → IsExecuted (at k) op
    back op done = elim done [ inl before ↦ inl before | inr here ↦ absurd (omega (arith, here.1)) ]

    forth : (op : PacketOp) → IsExecuted (at k) op → IsExecuted (in_first_slot (at k)) op
    forth op done = elim done [ inl before ↦ inl before | inr here ↦ absurd (omega (arith, here.1)) ]

-- ---- a packet more

-- no item stands behind the last one
pub get_or_other : {X : Type 0} (xs : List X) (y d : X) (k : ℕ) → (k ≡ length xs → ⊥) → get_or (xs ++ y ∷ []) k d ≡ get_or xs k d
get_or_other xs y d k n = elim (cases_lt k (length xs)) [
  | inl lt ↦ get_or_append_left xs (y ∷ []) d k lt
  | inr ge ↦ get_or_past (xs ++ y ∷ []) k d (omega (arith, length_push xs y, above k n ge)) ∙ sym (get_or_past xs k d ge)
]
  where
    above : (k : ℕ) → (k ≡ length xs → ⊥) → length xs ≤ k → length xs + 1 ≤ k
    above k n ge = elim (cases_lt (length xs) k) [ inl lt ↦ omega arith | inr le ↦ absurd (n (omega arith)) ]

packet_last : (packets : List PlainPacket) (p : PlainPacket) → get_or (packets ++ p ∷ []) (length packets) blank_packet ≡ p
packet_last packets p = get_or-append_seam packets p [] blank_packet

packet_other : (packets : List PlainPacket) (p : PlainPacket) (k : ℕ) → (k ≡ length packets → ⊥) → get_or (packets ++ p ∷ []) k blank_packet ≡ get_or packets k blank_packet
packet_other packets p k n = get_or_other packets p blank_packet k n

-- nothing of a packet that just entered was executed
fresh_has_none : (shape : Shape) (p : PlainPacket) (i : ℕ) (op : PacketOp) → FitsSwitch shape p → slice_get p.ops i ≡ Some op → IsExecuted (fresh_flight p) op → ⊥
fresh_has_none shape p i op fit at done = let within = fit.within i op at in elim done [ inl before ↦ omega (arith, within.from_one) | inr here ↦ omega (arith, here.1) ]

-- an operation is one of a packet that has entered
pub op_within : (packets : List PlainPacket) (k i : ℕ) (op : PacketOp) → slice_get (get_or packets k blank_packet).ops i ≡ Some op → k < length packets
op_within packets k i op at = elim (cases_lt k (length packets)) [
  | inl lt ↦ lt
  | inr ge ↦ absurd (let none : None ≡ Some op = sym (ap (λ (q : PlainPacket). slice_get q.ops i) (get_or_past packets k blank_packet ge)) ∙ at in cc)
]

pub first_entry_values : (shape : Shape) (first registers : Places) (packets : List PlainPacket) (at next : ℕ → Flight) (p : PlainPacket) → Values shape first registers packets at → FitsSwitch shape p
    → Becomes (length packets) (fresh_flight p) at next → Values shape first registers (packets ++ p ∷ []) next
first_entry_values shape first registers packets at next p v fit b = record {
  packet = λ i. each_becomes (λ i g. g.packet ≡ get_or (packets ++ p ∷ []) i blank_packet) (length packets) (fresh_flight p) at next b (sym (packet_last packets p)) i (λ n. v.packet i ∙ sym (packet_other packets p i n));
  fits = λ i lt. elim (cases_eq i (length packets)) [
    | inl e ↦ subst (λ (q : PlainPacket). FitsSwitch shape q) (sym (ap (λ (j : ℕ). get_or (packets ++ p ∷ []) j blank_packet) e ∙ packet_last packets p)) fit
    | inr n ↦ subst (λ (q : PlainPacket). FitsSwitch shape q) (sym (packet_other packets p i n)) (v.fits i (omega (arith, length_push packets p)))
  ];
  size = λ i. each_becomes (λ i g. length g.pairs ≡ length (get_or (packets ++ p ∷ []) i blank_packet).ops) (length packets) (fresh_flight p) at next b
      (length-map p.ops (λ op. zero_pair) ∙ ap (λ (q : PlainPacket). length q.ops) (sym (packet_last packets p))) i (λ n. v.size i ∙ ap (λ (q : PlainPacket). length q.ops) (sym (packet_other packets p i n)));
  pairs = λ j i op at_i done. each_becomes (λ j g. slice_get (get_or (packets ++ p ∷ []) j blank_packet).ops i ≡ Some op → IsExecuted g op → pair_at g.pairs i ≡ pair_at (pairs_of (packets ++ p ∷ []) first j) i) (length packets) (fresh_flight p) at next b
      (λ at_i done. absurd (fresh_has_none shape p i op fit (ap (λ (q : PlainPacket). slice_get q.ops i) (sym (packet_last packets p)) ∙ at_i) done))
      j (λ n at_i done. let old = ap (λ (q : PlainPacket). slice_get q.ops i) (sym (packet_other packets p j n)) ∙ at_i in v.pairs j i op old done ∙ ap (λ (ps : List Pair). pair_at ps i) (same_pairs j n (op_within packets j i op old)))
      at_i done;
  counted = λ place. let c = v.counted place in record {
    count = c.count;
    small = omega (arith, c.small, length_push packets p);
    within = λ j a op lt at_a same. each_becomes (λ j g. j < c.count → slice_get (get_or (packets ++ p ∷ []) j blank_packet).ops a ≡ Some op → IsExecuted g op) (length packets) (fresh_flight p) at next b
        (λ lt at_a. absurd (omega (arith, c.small))) j (λ n lt at_a. c.within j a op lt (ap (λ (q : PlainPacket). slice_get q.ops a) (sym (packet_other packets p j n)) ∙ at_a) same) lt at_a;
    beyond = λ j a op from at_a same. each_becomes (λ j g. c.count ≤ j → slice_get (get_or (packets ++ p ∷ []) j blank_packet).ops a ≡ Some op → IsExecuted g op → ⊥) (length packets) (fresh_flight p) at next b
        (λ from at_a done. fresh_has_none shape p a op fit (ap (λ (q : PlainPacket). slice_get q.ops a) (sym (packet_last packets p)) ∙ at_a) done)
        j (λ n from at_a done. c.beyond j a op from (ap (λ (q : PlainPacket). slice_get q.ops a) (sym (packet_other packets p j n)) ∙ at_a) same done) from at_a;
    number = c.number ∙ ap (λ (m : Places). fin.get m place) (sym (before-append packets (p ∷ []) first c.count c.small));
  };
}
  where
    same_pairs : (j : ℕ) → (j ≡ length packets → ⊥) → j < length packets → pairs_of packets first j ≡ pairs_of (packets ++ p ∷ []) first j
    same_pairs j n lt =
        ap (λ (q : PlainPacket). (replay q (before packets first j)).pairs) (sym (packet_other packets p j n))
        ∙ ap (λ (m : Places). (replay (get_or (packets ++ p ∷ []) j blank_packet) m).pairs) (sym (before-append packets (p ∷ []) first j (omega arith)))
