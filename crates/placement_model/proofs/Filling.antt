-- Slots that are filled: what the search finds, and that it finds the least.
use Rattle.std.proofs.Common.{◌≡◌, ◌≢◌, ◌⊎◌, ℕ, zero, suc, ◌+◌, ◌<◌, ◌≤◌, Bool, true, false, List, [], ◌∷◌, ◌++◌, set, get_or, length, Option, None, Some, is_some, if◌then◌else◌, inl, inr, refl, sym, ap, subst, ◌∙◌, arith, get_or-set_same, get_or-set_other}
use Rattle.std.specs.List.{list_any}
use Rattle.std.specs.Option.{option_and_then}
use Rattle.std.proofs.lemmas.Bool.{cases_lt}
use Rattle.std.proofs.lemmas.List.{get_or_past, length-set}
use Rattle.txn_model.specs.Places.{Places}
use Rattle.switch_packet.specs.Packets.{PlainOutcome}
use Rattle.switch_packet.specs.Replay.{replay}
use Rattle.placement_model.specs.FirstOrder.{slot_at, or_else, first_some, follow, fill}
use Rattle.placement_model.specs.Placements.{Task, CanFollow, free_client, free_clients, NotAfter}
use Rattle.placement_model.proofs.Having.{followed, follows}

-- the order has the slots' tasks at their places, and at each free one an open task, until none is open
abbrev pub Fills : List (Option Task) → List (Option Task) → List Task → Type 0
Fills [] standing [] = list_any is_some standing ≡ false
Fills [] standing (t ∷ order) = ⊥
Fills (slot ∷ slots) standing [] = ⊥
Fills (Some s ∷ slots) standing (t ∷ order) = (t ≡ s) × Fills slots standing order
Fills (None ∷ slots) standing (t ∷ order) = (k : ℕ) × (slot_at standing k ≡ Some t) × Fills slots (set standing k None) order

-- where the first that a function finds comes from
abbrev FoundAt : {X : Type 0} → (ℕ → Option X) → ℕ → ℕ → X → Type 0
FoundAt f k n x = (j : ℕ) × (k ≤ j) × (j < k + n) × (f j ≡ Some x)

pub found_at : {X : Type 0} (f : ℕ → Option X) (k n : ℕ) (x : X) → first_some f k n ≡ Some x → FoundAt f k n x
found_at f k zero x e = cc
found_at {X = X} f k (suc n) x e = by (f k) refl e (λ h. found_at f (k + 1) n x h)
  where
    by : (o : Option X) → f k ≡ o → or_else o (first_some f (k + 1) n) ≡ Some x → (first_some f (k + 1) n ≡ Some x → FoundAt f (k + 1) n x) → FoundAt f k (suc n) x
    by (Some y) is h rest = (k, omega arith, omega arith, is ∙ h)
    by None is h rest = let later = rest h in (later.0, omega (arith, later.1), omega (arith, later.2), later.3)

-- it is found no later than at a place where there is one
abbrev FoundBy : {X : Type 0} → (ℕ → Option X) → ℕ → ℕ → ℕ → Type 0
FoundBy {X} f k n i = (j : ℕ) × (y : X) × (j ≤ i) × (f j ≡ Some y) × (first_some f k n ≡ Some y)

pub found_by : {X : Type 0} (f : ℕ → Option X) (k n i : ℕ) (x : X) → f i ≡ Some x → k ≤ i → i < k + n → FoundBy f k n i
found_by f k zero i x at from to = absurd (omega arith)
found_by {X = X} f k (suc n) i x at from to = by (f k) refl (λ later. found_by f (k + 1) n i x at later (omega arith))
  where
    next : f k ≡ None → k < i
    next none = elim (cases_lt k i) [ inl lt ↦ lt | inr le ↦ absurd (let same : k ≡ i = omega (arith, le, from) in let clash : None ≡ Some x = sym none ∙ ap f same ∙ at in cc) ]

    by : (o : Option X) → f k ≡ o → (k + 1 ≤ i → FoundBy f (k + 1) n i) → FoundBy f k (suc n) i
    by (Some y) is rest = (k, y, from, is, ap (λ (o : Option X). or_else o (first_some f (k + 1) n)) is)
    by None is rest = let later = rest (omega (arith, next is)) in (later.0, later.1, later.2, later.3, ap (λ (o : Option X). or_else o (first_some f (k + 1) n)) is ∙ later.4)

-- a candidate for a free slot
abbrev pub tried : ℕ → Places → List (Option Task) → List (Option Task) → ℕ → Task → Option (List Task)
tried number m slots standing k task = follow task number (replay task.intent.packet m) (λ after. fill (number + 1) after slots (set standing k None))

abbrev pub candidate : ℕ → Places → List (Option Task) → List (Option Task) → ℕ → Option (List Task)
candidate number m slots standing k = option_and_then (tried number m slots standing k) (slot_at standing k)

chosen : (number : ℕ) (m : Places) (slots standing : List (Option Task)) (k : ℕ) (order : List Task) → candidate number m slots standing k ≡ Some order → (t : Task) × (slot_at standing k ≡ Some t) × (tried number m slots standing k t ≡ Some order)
chosen number m slots standing k order e = by (slot_at standing k) refl e
  where
    by : (o : Option Task) → slot_at standing k ≡ o → option_and_then (tried number m slots standing k) o ≡ Some order → (t : Task) × (slot_at standing k ≡ Some t) × (tried number m slots standing k t ≡ Some order)
    by (Some t) is h = (t, is, h)
    by None is h = cc

-- what the search finds fills the slots and can follow
abbrev IsFound : ℕ → Places → List (Option Task) → List (Option Task) → List Task → Type 0
IsFound number m slots standing order = Fills slots standing order × CanFollow number m order

pub fill_finds : (slots : List (Option Task)) (number : ℕ) (m : Places) (standing : List (Option Task)) (order : List Task) → fill number m slots standing ≡ Some order → IsFound number m slots standing order
unfolding fill
fill_finds [] number m standing order e = by (list_any is_some standing) refl order e
  where
    by : (b : Bool) → list_any is_some standing ≡ b → (o : List Task) → (if b then None else Some []) ≡ Some o → IsFound number m [] standing o
    by true is o h = cc
    by false is [] h = (is, tt)
    by false is (t ∷ o) h = cc
fill_finds (Some s ∷ slots) number m standing order e =
    let f = followed s number (replay s.intent.packet m) (λ after. fill (number + 1) after slots standing) order e in
    let rest = fill_finds slots (number + 1) (replay s.intent.packet m).after standing f.tasks f.follows in
    subst (IsFound number m (Some s ∷ slots) standing) (sym f.whole) ((refl, rest.0), (f.can, rest.1))
fill_finds (None ∷ slots) number m standing order e =
    let at = found_at (candidate number m slots standing) 0 (length standing) order e in
    let c = chosen number m slots standing at.0 order at.3 in
    let t = c.0 in
    let f = followed t number (replay t.intent.packet m) (λ after. fill (number + 1) after slots (set standing at.0 None)) order c.2 in
    let rest = fill_finds slots (number + 1) (replay t.intent.packet m).after (set standing at.0 None) f.tasks f.follows in
    subst (IsFound number m (None ∷ slots) standing) (sym f.whole) ((at.0, c.1, rest.0), (f.can, rest.1))

-- the open tasks have no outcomes, and their clients ascend
pub record AreOpen (standing : List (Option Task)) : Type 0 where
  pub free : (k : ℕ) (t : Task) → slot_at standing k ≡ Some t → t.outcome ≡ None
  pub rising : (j k : ℕ) (s t : Task) → j < k → slot_at standing j ≡ Some s → slot_at standing k ≡ Some t → s.client < t.client

same_or_not : (a b : ℕ) → (a ≡ b) ⊎ (a ≢ b)
same_or_not a b = elim (cases_lt a b) [ inl lt ↦ inr (λ e. omega arith) | inr le ↦ elim (cases_lt b a) [ inl lt ↦ inr (λ e. omega arith) | inr ge ↦ inl (omega arith) ] ]

-- one that stands without the k-th stood before
pub kept : (standing : List (Option Task)) (k j : ℕ) (t : Task) → slot_at (set standing k None) j ≡ Some t → slot_at standing j ≡ Some t
kept standing k j t e = elim (same_or_not j k) [
  | inl same ↦ elim (cases_lt k (length standing)) [
    | inl lt ↦ absurd (let clash : None ≡ Some t = sym (ap (λ (i : ℕ). get_or (set standing k None) i None) same ∙ get_or-set_same standing k None None lt) ∙ e in cc)
    | inr le ↦ absurd (let clash : None ≡ Some t = sym (get_or_past (set standing k None) j None (omega (arith, le, same, length-set standing k None))) ∙ e in cc)
  ]
  | inr n ↦ sym (get_or-set_other standing k j None None n) ∙ e
]

pub still_open : (standing : List (Option Task)) (k : ℕ) → AreOpen standing → AreOpen (set standing k None)
still_open standing k h = record {
  free = λ j t e. h.free j t (kept standing k j t e);
  rising = λ i j s t lt e f. h.rising i j s t lt (kept standing k i s e) (kept standing k j t f);
}

pub there : (standing : List (Option Task)) (k : ℕ) (t : Task) → slot_at standing k ≡ Some t → k < length standing
there standing k t e = elim (cases_lt k (length standing)) [ inl lt ↦ lt | inr le ↦ absurd (let clash : None ≡ Some t = sym (get_or_past standing k None le) ∙ e in cc) ]

same_front : (front xs ys : List ℕ) → NotAfter xs ys → NotAfter (front ++ xs) (front ++ ys)
same_front [] xs ys h = h
same_front (x ∷ front) xs ys h = inr (refl, same_front front xs ys h)

-- what the search finds, which is no later than another one that fills the slots
pub record FindsBy (number : ℕ) (m : Places) (slots standing : List (Option Task)) (other : List Task) : Type 0 where
  pub order : List Task
  pub found : fill number m slots standing ≡ Some order
  pub least : NotAfter (free_clients order) (free_clients other)

free_one : (t : Task) (order : List Task) → t.outcome ≡ None → free_clients (t ∷ order) ≡ t.client ∷ free_clients order
free_one t order e = ap (λ (o : Option PlainOutcome). free_client t o ++ free_clients order) e

pub fill_finds_by : (slots : List (Option Task)) (number : ℕ) (m : Places) (standing : List (Option Task)) (other : List Task) → AreOpen standing → Fills slots standing other → CanFollow number m other → FindsBy number m slots standing other
unfolding fill
fill_finds_by [] number m standing [] stand fills can = record { order = []; found = ap (λ (b : Bool). if b then None else Some []) fills; least = tt }
fill_finds_by [] number m standing (t ∷ other) stand fills can = absurd fills
fill_finds_by (Some s ∷ slots) number m standing [] stand fills can = absurd fills
fill_finds_by (None ∷ slots) number m standing [] stand fills can = absurd fills
fill_finds_by (Some s ∷ slots) number m standing (t ∷ other) stand fills can =
    let this = subst (λ (x : Task). CanFollow number m (x ∷ other)) fills.0 can in
    let rest = fill_finds_by slots (number + 1) (replay s.intent.packet m).after standing other stand fills.1 this.1 in
    record {
      order = s ∷ rest.order;
      found = follows s number (replay s.intent.packet m) (λ after. fill (number + 1) after slots standing) rest.order this.0 rest.found;
      least = subst (λ (x : Task). NotAfter (free_clients (s ∷ rest.order)) (free_clients (x ∷ other))) (sym fills.0) (same_front (free_client s s.outcome) (free_clients rest.order) (free_clients other) rest.least);
    }
fill_finds_by (None ∷ slots) number m standing (t ∷ other) stand fills can =
    let k = fills.0 in
    let rest = fill_finds_by slots (number + 1) (replay t.intent.packet m).after (set standing k None) other (still_open standing k stand) fills.2 can.1 in
    let here : candidate number m slots standing k ≡ Some (t ∷ rest.order) =
    ap (option_and_then (tried number m slots standing k)) fills.1 ∙ follows t number (replay t.intent.packet m) (λ after. fill (number + 1) after slots (set standing k None)) rest.order can.0 rest.found in
    let first = found_by (candidate number m slots standing) 0 (length standing) k (t ∷ rest.order) here (omega arith) (omega (arith, there standing k t fills.1)) in
    record {
      order = first.1;
      found = first.4;
      least = elim (cases_lt first.0 k) [
        | inl lt ↦ (
            let c = chosen number m slots standing first.0 first.1 first.3 in
            let f = followed c.0 number (replay c.0.intent.packet m) (λ after. fill (number + 1) after slots (set standing first.0 None)) first.1 c.2 in
            subst (λ (l : List Task). NotAfter (free_clients l) (free_clients (t ∷ other))) (sym f.whole)
            (subst (λ (l : List ℕ). NotAfter l (free_clients (t ∷ other))) (sym (free_one c.0 f.tasks (stand.free first.0 c.0 c.1)))
            (subst (λ (l : List ℕ). NotAfter (c.0.client ∷ free_clients f.tasks) l) (sym (free_one t other (stand.free k t fills.1))) (inl (stand.rising first.0 k c.0 t lt c.1 fills.1)))))
        | inr le ↦ (
            let same : first.0 ≡ k = omega (arith, le, first.2) in
            let order : Some first.1 ≡ Some (t ∷ rest.order) = sym first.3 ∙ ap (candidate number m slots standing) same ∙ here in
            let is : first.1 ≡ t ∷ rest.order = cc in
            subst (λ (l : List Task). NotAfter (free_clients l) (free_clients (t ∷ other))) (sym is) (same_front (free_client t t.outcome) (free_clients rest.order) (free_clients other) rest.least))
      ];
    }
