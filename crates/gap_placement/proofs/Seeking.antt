-- The search for open packets, candidate by candidate.
use Rattle.std.proofs.Common.{◌≡◌, ◌==◌, ℕ, suc, ◌+◌, ◌-◌, ◌<◌, ◌≤◌, Bool, true, false, List, [], ◌∷◌, ◌++◌, drop, length, map, reverse, set, get_or, Option, None, Some, is_some, if◌then◌else◌, refl, sym, ap, subst, ◌∙◌, arith}
use Rattle.std.specs.Prelude.{Result, Ok, Err, Vec, IfOk}
use Rattle.std.specs.Global.{Global}
use Rattle.txn_model.specs.declared.items.NoMemory.{NoMemory}
use Rattle.std.specs.List.{list_any}
use Rattle.std.specs.Option.{option_map, option_and_then}
use Rattle.std.proofs.lemmas.Bool.Decides.{Decides-eqb}
use Rattle.std.proofs.lemmas.List.{reverse-append, map-set, length-map}
use Rattle.std.proofs.Math.ListN.{get_or-map}
use Rattle.txn_model.specs.Places.{Places}
use Rattle.switch_packet.specs.Packets.{PlainLog}
use Rattle.placement_model.specs.FirstOrder.{slot_at, or_else, first_some}
use Rattle.placement_model.specs.Placements.{Task}
use Rattle.gap_placement.proofs.Walking.{can_same}
use Rattle.gap_placement.specs.Changes.{walk}
use Rattle.gap_placement.specs.Facts.{Each, IfThere, IsUsable}
use Rattle.gap_placement.specs.Legs.{PlainLeg, plain_leg, passed, tried, seek, start}
use Rattle.gap_placement.specs.Replays.{SamePlaces}
use Rattle.gap_placement.specs.Spots.{task_of}
use Rattle.gap_placement.specs.declared.legs.Leg.{Leg}
use Rattle.gap_placement.specs.declared.spot.Spot.{Spot}

pub first_next : {X : Type 0} (f : ℕ → Option X) (k n : ℕ) → k < n → f k ≡ None → first_some f (k + 1) (n - (k + 1)) ≡ first_some f k (n - k)
first_next f k n lt e = sym (ap (first_some f k) {y = suc (n - (k + 1))} (omega arith) ∙ ap (λ o. or_else o (first_some f (k + 1) (n - (k + 1)))) e)

pub first_here : {X : Type 0} (f : ℕ → Option X) (k n : ℕ) (x : X) → k < n → f k ≡ Some x → Some x ≡ first_some f k (n - k)
first_here f k n x lt e = sym (ap (first_some f k) {y = suc (n - (k + 1))} (omega arith) ∙ ap (λ o. or_else o (first_some f (k + 1) (n - (k + 1)))) e)

pub first_past : {X : Type 0} (f : ℕ → Option X) (k n : ℕ) → n ≤ k → None ≡ first_some f k (n - k)
first_past f k n le = sym (ap (first_some f k) {y = 0} (omega arith))

pub not_usable : (logs : List PlainLog) (m n : Places) → SamePlaces m n → (s : Spot) → IsUsable logs n s → IsUsable logs m s
not_usable logs m n same s h = record { stands = h.stands; replay = can_same n m (task_of logs s).intent.packet (λ p. sym (same p)) h.replay }

pub usable_then : (logs : List PlainLog) (m n : Places) → SamePlaces m n → (o : Option Spot) → IfThere (IsUsable logs m) o → IfThere (IsUsable logs n) o
usable_then logs m n same None h = tt
usable_then logs m n same (Some s) h = record { stands = h.stands; replay = can_same m n (task_of logs s).intent.packet same h.replay }

module _ (logs : List PlainLog) (leg : PlainLeg) (legs : List PlainLeg) (m : Places) (standing : List (Option Spot)) where
  abbrev seen : List (Option Spot) → List (Option Task)
  seen xs = map (option_map (task_of logs)) xs

  -- what a candidate gives
  abbrev pub candidate : ℕ → Option (List Task)
  candidate k = option_and_then (λ task. tried task leg m (λ after. seek legs after (set (seen standing) k None))) (slot_at (seen standing) k)

  here : (k : ℕ) (o : Option Spot) → get_or standing k None ≡ o → slot_at (seen standing) k ≡ option_map (task_of logs) o
  here k o e = get_or-map (option_map (task_of logs)) standing k None ∙ ap (option_map (task_of logs)) e

  pub free_candidate : (k : ℕ) → get_or standing k None ≡ None → candidate k ≡ None
  free_candidate k e = ap (option_and_then (λ (task : Task). tried task leg m (λ after. seek legs after (set (seen standing) k None)))) (here k None e)

  pub candidate_is : (k : ℕ) (s : Spot) (o : Option Places) → get_or standing k None ≡ Some s → o ≡ passed (task_of logs s).intent leg.number leg.changes m
      → candidate k ≡ option_map (λ tasks. task_of logs s ∷ tasks) (option_and_then (λ after. seek legs after (map (option_map (task_of logs)) (set standing k None))) o)
  candidate_is k s o e is =
      ap (option_and_then (λ (task : Task). tried task leg m (λ after. seek legs after (set (seen standing) k None)))) (here k (Some s) e)
      ∙ ap (λ (p : Option Places). option_map (λ tasks. task_of logs s ∷ tasks) (option_and_then (λ after. seek legs after (set (seen standing) k None)) p)) (sym is)
      ∙ ap (λ (l : List (Option Task)). option_map (λ tasks. task_of logs s ∷ tasks) (option_and_then (λ after. seek legs after l) o)) (sym (map-set (option_map (task_of logs)) standing k None))

  -- the search tries all candidates
  pub seek_is : first_some candidate 0 (length standing) ≡ seek (leg ∷ legs) m (seen standing)
  unfolding seek
  seek_is = ap (first_some candidate 0) (sym (length-map standing (option_map (task_of logs))))

pub one_more : (logs : List PlainLog) (found : List Spot) (s : Spot) → map (task_of logs) (reverse (found ++ s ∷ [])) ≡ task_of logs s ∷ map (task_of logs) (reverse found)
one_more logs found s = ap (map (task_of logs)) (reverse-append found (s ∷ []))

pub seek_none : (m : Places) (standing : List (Option Task)) → list_any is_some standing ≡ true → None ≡ seek [] m standing
unfolding seek
seek_none m standing e = sym (ap (λ (b : Bool). if b then None else Some []) e)

pub seek_end : (m : Places) (standing : List (Option Task)) → list_any is_some standing ≡ false → Some [] ≡ seek [] m standing
unfolding seek
seek_end m standing e = sym (ap (λ (b : Bool). if b then None else Some []) e)

pub any_seen : {X : Type 0} (f : X → Task) (xs : List (Option X)) → list_any is_some (map (option_map f) xs) ≡ list_any is_some xs
any_seen f [] = refl
any_seen f (None ∷ xs) = any_seen f xs
any_seen f (Some x ∷ xs) = refl

pub not_empty : {X : Type 0} (xs : List X) → (length xs == 0) ≡ false → 0 < length xs
not_empty [] e = cc
not_empty (x ∷ xs) e = omega arith

pub is_nothing : {X : Type 0} (xs : List X) → (length xs == 0) ≡ true → xs ≡ []
is_nothing [] e = refl
is_nothing (x ∷ xs) e = absurd (let n = (Decides-eqb (length (x ∷ xs)) 0).0 e in omega (arith, n))

pub legs_whole : (legs : List Leg) (leg : Leg) → 0 < length legs → leg ≡ get_or legs 0 leg → plain_leg leg ∷ map plain_leg (drop 1 legs) ≡ map plain_leg legs
legs_whole [] leg lt e = absurd (omega arith)
legs_whole (l ∷ legs) leg lt e = ap (λ (x : Leg). plain_leg x ∷ map plain_leg legs) e

pub first_leg : (P : Leg → Type 0) (legs : List Leg) (leg : Leg) → Each P legs → 0 < length legs → leg ≡ get_or legs 0 leg → P leg
first_leg P [] leg each lt e = absurd (omega arith)
first_leg P (l ∷ legs) leg each lt e = subst P (sym e) (each 0 l refl)

pub later_legs : (P Q : Leg → Type 0) (legs : List Leg) → Each P legs → ((x : Leg) → P x → Q x) → Each Q (drop 1 legs)
later_legs P Q [] each go i x e = cc
later_legs P Q (l ∷ legs) each go i x e = go x (each (suc i) x e)

pub each_other : {X : Type 0} (P Q : X → Type 0) (xs : List X) → Each P xs → ((x : X) → P x → Q x) → Each Q xs
each_other P Q xs each go i x e = go x (each i x e)

-- a candidate behind which nothing is found
pub fails_then : (t : Task) (o : Option (List Task)) → None ≡ o → option_map (λ tasks. t ∷ tasks) o ≡ None
fails_then t o e = ap (option_map (λ (tasks : List Task). t ∷ tasks)) (sym e)

-- ---- from the first leg on

pub start_is : (leg : PlainLeg) (legs : List PlainLeg) (first : Places) (standing : List (Option Task)) (o : Option Places) → walk leg.changes first ≡ o → option_and_then (λ after. seek legs after standing) o ≡ start (leg ∷ legs) first standing
start_is leg legs first standing o e = sym (ap (option_and_then (λ (after : Places). seek legs after standing)) e)

pub search_found : (f : Spot → Task) (r : Result (Option (Vec Spot Global)) NoMemory) (x y : Option (List Task)) → x ≡ y → IfOk r (λ found. option_map (λ spots. map f (reverse spots.items)) found ≡ x) → IfOk r (λ found. option_map (λ spots. map f (reverse spots.items)) found ≡ y)
search_found f r x y e h = subst (λ (o : Option (List Task)). IfOk r (λ found. option_map (λ spots. map f (reverse spots.items)) found ≡ o)) e h

pub search_usable : (logs : List PlainLog) (m n : Places) → SamePlaces m n → (r : Result (Option (Vec Spot Global)) NoMemory) → IfOk r (λ found. IfThere (λ spots. Each (IsUsable logs n) spots.items) found) → IfOk r (λ found. IfThere (λ spots. Each (IsUsable logs m) spots.items) found)
search_usable logs m n same (Ok None) h = tt
search_usable logs m n same (Ok (Some spots)) h = each_other (IsUsable logs n) (IsUsable logs m) spots.items h (not_usable logs m n same)
search_usable logs m n same (Err e) h = tt
