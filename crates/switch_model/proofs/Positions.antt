-- Entries and stages keep what holds of where packets are.
use Rattle.std.proofs.Common.{◌≡◌, ℕ, ◌+◌, ◌<◌, ◌≤◌, true, List, inl, inr, refl, sym, ap, ◌∙◌, subst, arith}
use Rattle.std.proofs.lemmas.Bool.{cases_eq, cases_lt}
use Rattle.txn_model.specs.declared.pairs.Pair.{Pair}
use Rattle.stage_layout.specs.declared.shape.Shape.{Shape}
use Rattle.switch_packet.specs.Packets.{PlainPacket}
use Rattle.switch_model.specs.Flight.{Flight, packet_touches, fresh_flight}
use Rattle.switch_model.specs.Event.{in_first_slot}
use Rattle.switch_model.proofs.Facts.{Spot, IsAhead, Meet, Positions}
use Rattle.switch_model.proofs.Tests.{HasPassed}

-- packet k is now this flight, and the others are as they were
pub record Becomes (k : ℕ) (f : Flight) (at next : ℕ → Flight) : Type 0 where
  pub this : next k ≡ f
  pub others : (i : ℕ) → (i ≡ k → ⊥) → next i ≡ at i

-- what holds of one flight, by whether it is the k-th
pub each_becomes : (P : ℕ → Flight → Type 0) (k : ℕ) (f : Flight) (at next : ℕ → Flight) → Becomes k f at next → P k f → (i : ℕ) → ((i ≡ k → ⊥) → P i (at i)) → P i (next i)
each_becomes P k f at next b here i there = elim (cases_eq i k) [
  | inl e ↦ let Q : ℕ → Type 0 = λ j. P j (next j) in subst Q (sym e) (let R : Flight → Type 0 = λ g. P k g in subst R (sym b.this) here)
  | inr n ↦ let R : Flight → Type 0 = λ g. P i g in subst R (sym (b.others i n)) (there n)
]

-- what holds of two flights, the first with the smaller number
pub two_become : (P : Flight → Flight → Type 0) (k : ℕ) (f : Flight) (at next : ℕ → Flight) → Becomes k f at next → (i j : ℕ) → i < j
    → ((i ≡ k → ⊥) → (j ≡ k → ⊥) → P (at i) (at j)) → (k < j → i ≡ k → P f (at j)) → (i < k → j ≡ k → P (at i) f) → P (next i) (next j)
two_become P k f at next b i j lt neither first second = elim (cases_eq i k) [
  | inl e ↦
      let R : Flight → Type 0 = λ g. P g (next j) in
      let S : Flight → Type 0 = λ g. P f g in
      subst R (sym (ap next e ∙ b.this)) (subst S (sym (b.others j (λ same. omega arith))) (first (omega arith) e))
  | inr n ↦ elim (cases_eq j k) [
    | inl e ↦
        let R : Flight → Type 0 = λ g. P (next i) g in
        let S : Flight → Type 0 = λ g. P g f in
        subst R (sym (ap next e ∙ b.this)) (subst S (sym (b.others i n)) (second (omega arith) e))
    | inr m ↦
        let R : Flight → Type 0 = λ g. P (next i) g in
        let S : Flight → Type 0 = λ g. P g (at j) in
        subst R (sym (b.others j m)) (subst S (sym (b.others i n)) (neither n m))
  ]
]

-- ---- an entry for the first pass

pub first_entry_keeps : (shape : Shape) (n : ℕ) (at next : ℕ → Flight) (p : PlainPacket) → Positions shape n at → Becomes n (fresh_flight p) at next → 1 ≤ shape.stages → 1 ≤ p.passes
    → ((i : ℕ) → (at i).depth ≡ 1 → ⊥)
    → ((i region : ℕ) → packet_touches shape p region ≡ true → packet_touches shape (at i).packet region ≡ true → HasPassed (at i))
    → Positions shape (n + 1) next
first_entry_keeps shape n at next p held b stages passes free unheld = record {
  spot = λ i lt. each_becomes (λ i f. i < n + 1 → Spot shape f) n (fresh_flight p) at next b (λ _. record { from_one = omega arith; to_done = omega arith; deepest = omega arith; first = λ _. omega arith; done = λ over. absurd (omega arith) }) i (λ m lt. held.spot i (omega arith)) lt;
  order = λ i j region lt below meet. two_become (λ f g. j < n + 1 → Meet shape region f g → IsAhead f g) n (fresh_flight p) at next b i j lt
      (λ m o below meet. held.order i j region lt (omega arith) meet)
      (λ over e below meet. absurd (omega arith))
      (λ under e below meet. ahead (at i) (held.spot i (omega arith)) (free i) (unheld i region meet.second meet.first))
      below meet;
  firsts = λ i j lt below one two. two_become (λ f g. j < n + 1 → f.pass ≡ 1 → g.pass ≡ 1 → g.depth < f.depth) n (fresh_flight p) at next b i j lt
      (λ m o below one two. held.firsts i j lt (omega arith) one two)
      (λ over e below one two. absurd (omega arith))
      (λ under e below one two. deeper (at i).depth ((held.spot i (omega arith)).first one) (free i))
      below one two;
  single = λ i j lt below deep same. two_become (λ f g. j < n + 1 → 1 ≤ f.depth → f.depth ≡ g.depth → ⊥) n (fresh_flight p) at next b i j lt
      (λ m o below deep same. held.single i j lt (omega arith) deep same)
      (λ over e below deep same. absurd (omega arith))
      (λ under e below deep same. free i same)
      below deep same;
}
  where
    deeper : (d : ℕ) → 1 ≤ d → (d ≡ 1 → ⊥) → 1 < d
    deeper d from n = elim (cases_eq d 1) [ inl e ↦ absurd (n e) | inr m ↦ omega arith ]

    ahead : (f : Flight) → Spot shape f → (f.depth ≡ 1 → ⊥) → HasPassed f → IsAhead f (fresh_flight p)
    ahead f spot n passed = elim (cases_eq f.pass f.packet.passes) [
      | inl e ↦ inr (record { last = e; first = refl; deeper = deeper f.depth (passed.in_slot e) n })
      | inr m ↦ inl (omega (arith, passed.last))
    ]

-- ---- an entry for a later pass

pub later_entry_keeps : (shape : Shape) (n k : ℕ) (at next : ℕ → Flight) → k < n → Positions shape n at → Becomes k (in_first_slot (at k)) at next → 1 ≤ shape.stages
    → 2 ≤ (at k).pass → (at k).pass ≤ (at k).packet.passes → (at k).depth ≡ 0 → ((i : ℕ) → (at i).depth ≡ 1 → ⊥)
    → Positions shape n next
later_entry_keeps shape n k at next there held b stages later to out free =
    let f = in_first_slot (at k) in record {
      spot = λ i lt. each_becomes (λ i f. i < n → Spot shape f) k f at next b (λ _. record { from_one = omega arith; to_done = omega arith; deepest = omega arith; first = λ _. omega arith; done = λ over. absurd (omega arith) }) i (λ m lt. held.spot i lt) lt;
      order = λ i j region lt below meet. two_become (λ f g. j < n → Meet shape region f g → IsAhead f g) k f at next b i j lt
          (λ m o below meet. held.order i j region lt below meet)
          (λ over e below meet. elim (held.order k j region over below (record { first = meet.first; second = meet.second })) [ inl done ↦ absurd (omega arith) | inr l ↦ absurd (omega (arith, l.deeper)) ])
          (λ under e below meet. elim (held.order i k region under there (record { first = meet.first; second = meet.second })) [ inl done ↦ inl done | inr l ↦ absurd (omega (arith, l.first)) ])
          below meet;
      firsts = λ i j lt below one two. two_become (λ f g. j < n → f.pass ≡ 1 → g.pass ≡ 1 → g.depth < f.depth) k f at next b i j lt
          (λ m o below one two. held.firsts i j lt below one two)
          (λ over e below one two. absurd (omega arith))
          (λ under e below one two. absurd (omega arith))
          below one two;
      single = λ i j lt below deep same. two_become (λ f g. j < n → 1 ≤ f.depth → f.depth ≡ g.depth → ⊥) k f at next b i j lt
          (λ m o below deep same. held.single i j lt below deep same)
          (λ over e below deep same. free j (sym same))
          (λ under e below deep same. free i same)
          below deep same;
    }

-- ---- a packet leaves a stage

-- in its present pass
pub next_slot_keeps : (shape : Shape) (n k x : ℕ) (at next : ℕ → Flight) (pairs : List Pair) → k < n → Positions shape n at
    → Becomes k (record { packet = (at k).packet; pass = (at k).pass; depth = (at k).depth + 1; pairs = pairs }) at next
    → (at k).depth ≡ x + 1 → x + 1 < shape.stages → ((i : ℕ) → (at i).depth ≡ x + 2 → ⊥)
    → Positions shape n next
next_slot_keeps shape n k x at next pairs there held b slot inside free =
    let f : Flight = record { packet = (at k).packet; pass = (at k).pass; depth = (at k).depth + 1; pairs = pairs } in
    let s = held.spot k there in
    record {
      spot = λ i lt. each_becomes (λ i f. i < n → Spot shape f) k f at next b (λ _. record { from_one = s.from_one; to_done = s.to_done; deepest = omega arith; first = λ _. omega arith; done = λ over. absurd (let none = s.done over in omega arith) }) i (λ m lt. held.spot i lt) lt;
      order = λ i j region lt below meet. two_become (λ f g. j < n → Meet shape region f g → IsAhead f g) k f at next b i j lt
          (λ m o below meet. held.order i j region lt below meet)
          (λ over e below meet. elim (held.order k j region over below (record { first = meet.first; second = meet.second })) [ inl done ↦ inl done | inr l ↦ inr (record { last = l.last; first = l.first; deeper = omega (arith, l.deeper) }) ])
          (λ under e below meet. elim (held.order i k region under there (record { first = meet.first; second = meet.second })) [ inl done ↦ inl done | inr l ↦ inr (record { last = l.last; first = l.first; deeper = above (at i).depth l.deeper (free i) }) ])
          below meet;
      firsts = λ i j lt below one two. two_become (λ f g. j < n → f.pass ≡ 1 → g.pass ≡ 1 → g.depth < f.depth) k f at next b i j lt
          (λ m o below one two. held.firsts i j lt below one two)
          (λ over e below one two. let d = held.firsts k j over below one two in omega arith)
          (λ under e below one two. above (at i).depth (held.firsts i k under there one two) (free i))
          below one two;
      single = λ i j lt below deep same. two_become (λ f g. j < n → 1 ≤ f.depth → f.depth ≡ g.depth → ⊥) k f at next b i j lt
          (λ m o below deep same. held.single i j lt below deep same)
          (λ over e below deep same. free j (omega arith))
          (λ under e below deep same. free i (omega arith))
          below deep same;
    }
  where
    above : (d : ℕ) → (at k).depth < d → (d ≡ x + 2 → ⊥) → (at k).depth + 1 < d
    above d more n = elim (cases_eq d (x + 2)) [ inl e ↦ absurd (n e) | inr m ↦ omega arith ]

-- and from the last stage
pub last_slot_keeps : (shape : Shape) (n k x : ℕ) (at next : ℕ → Flight) (pairs : List Pair) → k < n → Positions shape n at
    → Becomes k (record { packet = (at k).packet; pass = (at k).pass + 1; depth = 0; pairs = pairs }) at next
    → (at k).depth ≡ x + 1 → x + 1 ≡ shape.stages
    → Positions shape n next
last_slot_keeps shape n k x at next pairs there held b slot last =
    let f : Flight = record { packet = (at k).packet; pass = (at k).pass + 1; depth = 0; pairs = pairs } in
    let s = held.spot k there in
    record {
      spot = λ i lt. each_becomes (λ i f. i < n → Spot shape f) k f at next b (λ _. record { from_one = omega arith; to_done = under_way; deepest = omega arith; first = λ one. absurd (omega (arith, s.from_one)); done = λ over. refl }) i (λ m lt. held.spot i lt) lt;
      order = λ i j region lt below meet. two_become (λ f g. j < n → Meet shape region f g → IsAhead f g) k f at next b i j lt
          (λ m o below meet. held.order i j region lt below meet)
          (λ over e below meet. elim (held.order k j region over below (record { first = meet.first; second = meet.second })) [ inl done ↦ inl (omega arith) | inr l ↦ inl (omega (arith, l.last)) ])
          (λ under e below meet. elim (held.order i k region under there (record { first = meet.first; second = meet.second })) [ inl done ↦ inl done | inr l ↦ absurd (omega (arith, l.deeper, (held.spot i (omega arith)).deepest)) ])
          below meet;
      firsts = λ i j lt below one two. two_become (λ f g. j < n → f.pass ≡ 1 → g.pass ≡ 1 → g.depth < f.depth) k f at next b i j lt
          (λ m o below one two. held.firsts i j lt below one two)
          (λ over e below one two. absurd (omega (arith, s.from_one)))
          (λ under e below one two. absurd (omega (arith, s.from_one)))
          below one two;
      single = λ i j lt below deep same. two_become (λ f g. j < n → 1 ≤ f.depth → f.depth ≡ g.depth → ⊥) k f at next b i j lt
          (λ m o below deep same. held.single i j lt below deep same)
          (λ over e below deep same. absurd (omega arith))
          (λ under e below deep same. absurd (omega arith))
          below deep same;
    }
  where
    under_way : (at k).pass + 1 ≤ (at k).packet.passes + 1
    under_way = elim (cases_lt (at k).packet.passes (at k).pass) [
      | inl over ↦ let none = (held.spot k there).done over in absurd (omega arith)
      | inr le ↦ omega arith
    ]
