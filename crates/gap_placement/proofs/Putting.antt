-- Answered intents are put at their numbers, and what the slots between free ones change is gathered.
use Rattle.std.proofs.Common.{◌≡◌, ℕ, ◌+◌, ◌-◌, ◌<◌, ◌≤◌, Bool, true, false, ◌&&◌, List, [], ◌∷◌, ◌++◌, drop, length, map, set, get_or, nat_lt, nat_le, Option, None, Some, is_none, is_some, if◌then◌else◌, refl, sym, ap, ap₂, subst, ◌∙◌}
use Rattle.std.specs.Option.{option_map, option_and_then}
use Rattle.std.proofs.lemmas.List.{append_assoc, drop_more, drop_all, length-map, map-set}
use Rattle.std.proofs.Math.ListN.{get_or-map}
use Rattle.switch_packet.specs.Packets.{PlainOutcome}
use Rattle.placement_model.specs.FirstOrder.{put_answered, put_all}
use Rattle.placement_model.specs.Placements.{Task}
use Rattle.gap_placement.proofs.Steps.{each_set}
use Rattle.gap_placement.specs.Changes.{changes_of}
use Rattle.gap_placement.specs.Facts.{Each}
use Rattle.gap_placement.specs.Legs.{PlainLeg, legs_from}
use Rattle.gap_placement.specs.Slots.{put_at}
use Rattle.gap_placement.specs.declared.change.Change.{Change}

module _ {X : Type 0} (f : X → Task) where
  abbrev seen : List (Option X) → List (Option Task)
  seen xs = map (option_map f) xs

  none_seen : (o : Option X) → is_none (option_map f o) ≡ is_none o
  none_seen None = refl
  none_seen (Some x) = refl

  abbrev can_put : ℕ → List (Option X) → Bool
  can_put n slots = nat_lt 0 n && (nat_le n (length slots) && is_none (get_or slots (n - 1) None))

  pub put_seen : (n : ℕ) (x : X) (slots : List (Option X)) → put_at n (f x) (seen slots) ≡ option_map seen (put_at n x slots)
  put_seen n x slots =
      ap (λ (b : Bool). if b then Some (set (seen slots) (n - 1) (Some (f x))) else None)
      (ap₂ (λ (k : ℕ) (b : Bool). nat_lt 0 n && (nat_le n k && b)) (length-map slots (option_map f)) (ap is_none (get_or-map (option_map f) slots (n - 1) None) ∙ none_seen (get_or slots (n - 1) None)))
      ∙ by (can_put n slots)
    where
      by : (b : Bool) → (if b then Some (set (map (option_map f) slots) (n - 1) (Some (f x))) else None) ≡ option_map (map (option_map f)) (if b then Some (set slots (n - 1) (Some x)) else None)
      by true = ap (λ (l : List (Option Task)). Some l) (sym (map-set (option_map f) slots (n - 1) (Some x)))
      by false = refl

  -- what is left to be put
  abbrev left_put : List X → ℕ → List (Option X) → Option (List (Option Task))
  left_put xs i slots = put_all (map f (drop i xs)) (seen slots)

  here_put : (xs : List X) (i : ℕ) (d : X) (slots : List (Option X)) (o : Option PlainOutcome) → i < length xs → (f (get_or xs i d)).outcome ≡ o → left_put xs i slots ≡ option_and_then (put_all (map f (drop (i + 1) xs))) (put_answered (f (get_or xs i d)) (seen slots) o)
  here_put xs i d slots o lt e =
      ap (λ (l : List X). put_all (map f l) (seen slots)) (drop_more xs i d lt)
      ∙ ap (λ (x : Option PlainOutcome). option_and_then (put_all (map f (drop (i + 1) xs))) (put_answered (f (get_or xs i d)) (seen slots) x)) e

  pub put_step : (xs : List X) (i : ℕ) (d : X) (slots : List (Option X)) (o : PlainOutcome) (next : Option (List (Option X))) → i < length xs → (f (get_or xs i d)).outcome ≡ Some o → next ≡ put_at o.number (get_or xs i d) slots
      → left_put xs i slots ≡ option_and_then (put_all (map f (drop (i + 1) xs))) (option_map seen next)
  put_step xs i d slots o next lt e is =
      here_put xs i d slots (Some o) lt e ∙ ap (option_and_then (put_all (map f (drop (i + 1) xs)))) (put_seen o.number (get_or xs i d) slots ∙ ap (option_map seen) (sym is))

  none_is : {Y : Type 0} (o : Option Y) → is_some o ≡ false → o ≡ None
  none_is None e = refl
  none_is (Some y) e = cc

  pub put_skip : (xs : List X) (i : ℕ) (d : X) (slots : List (Option X)) → i < length xs → is_some (f (get_or xs i d)).outcome ≡ false → left_put xs (i + 1) slots ≡ left_put xs i slots
  put_skip xs i d slots lt e = sym (here_put xs i d slots None lt (none_is (f (get_or xs i d)).outcome e))

  pub put_end : (xs : List X) (i : ℕ) (slots : List (Option X)) → length xs ≤ i → Some (seen slots) ≡ left_put xs i slots
  put_end xs i slots le = sym (ap (λ (l : List X). put_all (map f l) (seen slots)) (drop_all i xs le))

  pub put_each : (P : Option X → Type 0) (n : ℕ) (x : X) (slots next : List (Option X)) → Some next ≡ put_at n x slots → Each P slots → P (Some x) → Each P next
  put_each P n x slots next e each px = by (can_put n slots) e
    where
      by : (b : Bool) → Some next ≡ (if b then Some (set slots (n - 1) (Some x)) else None) → Each P next
      by true h = let same : next ≡ set slots (n - 1) (Some x) = cc in subst (Each P) (sym same) (each_set P slots (n - 1) (Some x) each px)
      by false h = cc

  -- ---- legs

  -- what is found for the slots that are left
  abbrev left_legs : List PlainLeg → ℕ → List Change → List (Option X) → ℕ → Option (List PlainLeg)
  left_legs front free changes slots i = option_map (λ later. front ++ later) (legs_from free changes (i + 1) (seen (drop i slots)))

  pub legs_more : (front : List PlainLeg) (free : ℕ) (changes : List Change) (slots : List (Option X)) (i : ℕ) (x : X) (next : Option (List Change)) → i < length slots → get_or slots i None ≡ Some x
      → next ≡ option_map (λ more. changes ++ more) (changes_of (f x) (i + 1))
      → left_legs front free changes slots i ≡ option_and_then (λ now. left_legs front free now slots (i + 1)) next
  legs_more front free changes slots i x next lt here is =
      ap (λ (l : List (Option X)). option_map (λ later. front ++ later) (legs_from free changes (i + 1) (seen l))) (drop_more slots i None lt ∙ ap (λ (o : Option X). o ∷ drop (i + 1) slots) here)
      ∙ by (changes_of (f x) (i + 1))
      ∙ ap (option_and_then (λ (now : List Change). left_legs front free now slots (i + 1))) (sym is)
    where
      by : (o : Option (List Change)) → option_map (λ later. front ++ later) (option_and_then (λ more. legs_from free (changes ++ more) (i + 1 + 1) (map (option_map f) (drop (i + 1) slots))) o)
          ≡ option_and_then (λ now. option_map (λ later. front ++ later) (legs_from free now (i + 1 + 1) (map (option_map f) (drop (i + 1) slots)))) (option_map (λ more. changes ++ more) o)
      by None = refl
      by (Some more) = refl

  pub legs_free : (front : List PlainLeg) (free : ℕ) (changes : List Change) (slots : List (Option X)) (i : ℕ) → i < length slots → get_or slots i None ≡ None
      → left_legs (front ++ record { number = free; changes = changes } ∷ []) (i + 1) [] slots (i + 1) ≡ left_legs front free changes slots i
  legs_free front free changes slots i lt here =
      by (legs_from (i + 1) [] (i + 1 + 1) (seen (drop (i + 1) slots)))
      ∙ sym (ap (λ (l : List (Option X)). option_map (λ later. front ++ later) (legs_from free changes (i + 1) (seen l))) (drop_more slots i None lt ∙ ap (λ (o : Option X). o ∷ drop (i + 1) slots) here))
    where
      by : (o : Option (List PlainLeg)) → option_map (λ later. (front ++ record { number = free; changes = changes } ∷ []) ++ later) o ≡ option_map (λ later. front ++ later) (option_map (λ later. record { number = free; changes = changes } ∷ later) o)
      by None = refl
      by (Some later) = ap (λ (l : List PlainLeg). Some l) (append_assoc front (record { number = free; changes = changes } ∷ []) later)

  pub legs_end : (front : List PlainLeg) (free : ℕ) (changes : List Change) (slots : List (Option X)) (i : ℕ) → length slots ≤ i → Some (front ++ record { number = free; changes = changes } ∷ []) ≡ left_legs front free changes slots i
  legs_end front free changes slots i le = sym (ap (λ (l : List (Option X)). option_map (λ later. front ++ later) (legs_from free changes (i + 1) (seen l))) (drop_all i slots le))
