-- A leg is shortened change by change.
use Rattle.std.proofs.Common.{◌≡◌, ℕ, zero, suc, ◌+◌, ◌<◌, ◌≤◌, ℤ, length, take, drop, get_or, Bool, true, false, ◌&&◌, ◌||◌, not, List, [], ◌∷◌, ◌++◌, map, Option, None, Some, if◌then◌else◌, refl, sym, ap, ap₂, subst, ◌∙◌, ◌⊎◌, inl, inr}
use Rattle.std.specs.BTreeSet as set
use Rattle.std.specs.BTreeSet.{BTreeSet}
use Rattle.std.specs.FinMap as fin
use Rattle.std.specs.Prelude.{⊤}
use Rattle.std.specs.List.{list_any}
use Rattle.std.specs.Option.{option_and_then}
use Rattle.std.specs.Ordering.{int_eq, is_eq}
use Rattle.std.proofs.lemmas.Bool.Decides.{Decides-int_eq}
use Rattle.std.proofs.lemmas.List.{append-nil, drop_all, drop_more, map-append, take_more}
use Rattle.txn_model.specs.Places.{Places, place_cmp}
use Rattle.txn_model.specs.declared.place.Place.{Place}
use Rattle.switch_packet.specs.Replay.{register_at}
use Rattle.switch_packet.proofs.ExecuteLaws.{is_itself, same_place}
use Rattle.gap_placement.proofs.Nearing.{register_here, register_elsewhere, tell}
use Rattle.gap_placement.proofs.Steps.{is_same, not_same}
use Rattle.gap_placement.proofs.Walking.{walk_append, there-insert, places_same}
use Rattle.gap_placement.specs.Changes.{walk}
use Rattle.gap_placement.specs.Legs.{plain_leg}
use Rattle.gap_placement.specs.Near.{has_place, Splits, BothSplit, IsShort, IsShortLeg, IsTouched, Contradicts, is_first_at, touched, leaving}
use Rattle.gap_placement.specs.Replays.{HasPlaces, SamePlaces}
use Rattle.gap_placement.specs.declared.change.Change.{Change}
use Rattle.gap_placement.specs.declared.legs.Leg.{Leg}

-- ---- truth values

or_true : (a : Bool) → (a || true) ≡ true
or_true true = refl
or_true false = refl

or_false : (a : Bool) → (a || false) ≡ a
or_false true = refl
or_false false = refl

or_first : (a b : Bool) → (a || b) ≡ false → a ≡ false
or_first true b e = cc
or_first false b e = refl

or_second : (a b : Bool) → (a || b) ≡ false → b ≡ false
or_second true b e = cc
or_second false b e = e

or_assoc : (a b c : Bool) → ((a || b) || c) ≡ (a || (b || c))
or_assoc true b c = refl
or_assoc false b c = refl

and_assoc : (a b c : Bool) → ((a && b) && c) ≡ (a && (b && c))
and_assoc true b c = refl
and_assoc false b c = refl

and_true : (a : Bool) → (a && true) ≡ a
and_true true = refl
and_true false = refl

pub not_equal : (p q : Place) → (p ≡ q → ⊥) → is_eq (place_cmp p q) ≡ false
not_equal p q n = by (is_eq (place_cmp p q)) refl
  where
    by : (b : Bool) → is_eq (place_cmp p q) ≡ b → b ≡ false
    by true e = absurd (n (same_place p q e))
    by false e = refl

pub differing : (p q : Place) → is_eq (place_cmp p q) ≡ false → p ≡ q → ⊥
differing p q e f = let same : is_eq (place_cmp p q) ≡ true = subst (λ (x : Place). is_eq (place_cmp p x) ≡ true) f (is_itself p) in cc

-- ---- touched places

pub touched_more : (ds : List Change) (c : Change) (q : Place) → touched (ds ++ c ∷ []) q ≡ (touched ds q || is_eq (place_cmp c.place q))
touched_more [] c q = or_false (is_eq (place_cmp c.place q))
touched_more (d ∷ ds) c q =
    ap (λ (b : Bool). is_eq (place_cmp d.place q) || b) (touched_more ds c q) ∙ sym (or_assoc (is_eq (place_cmp d.place q)) (touched ds q) (is_eq (place_cmp c.place q)))

touched_here : (ds : List Change) (c : Change) → touched (ds ++ c ∷ []) c.place ≡ true
touched_here ds c = touched_more ds c c.place ∙ ap (λ (b : Bool). touched ds c.place || b) (is_itself c.place) ∙ or_true (touched ds c.place)

touched_elsewhere : (ds : List Change) (c : Change) (q : Place) → (c.place ≡ q → ⊥) → touched (ds ++ c ∷ []) q ≡ touched ds q
touched_elsewhere ds c q n = touched_more ds c q ∙ ap (λ (b : Bool). touched ds q || b) (not_equal c.place q n) ∙ or_false (touched ds q)

-- no two of the changes are at one place
abbrev pub AllDiffer : List Change → Type 0
AllDiffer [] = ⊤
AllDiffer (d ∷ ds) = (touched ds d.place ≡ false) × AllDiffer ds

pub differ_more : (ds : List Change) (c : Change) → AllDiffer ds → touched ds c.place ≡ false → AllDiffer (ds ++ c ∷ [])
differ_more [] c h e = (refl, tt)
differ_more (d ∷ ds) c h e =
    let n = differing d.place c.place (or_first (is_eq (place_cmp d.place c.place)) (touched ds c.place) e) in
    (touched_elsewhere ds c d.place (λ f. n (sym f)) ∙ h.0, differ_more ds c h.1 (or_second (is_eq (place_cmp d.place c.place)) (touched ds c.place) e))

-- ---- what the changes of a leg have done so far, where some of them are the first ones at their near places

-- the map has what these find
abbrev pub fits : List Change → Places → Bool
fits [] m = true
fits (d ∷ ds) m = int_eq (register_at m d.place) d.was && fits ds m

fits_more : (ds : List Change) (c : Change) (m : Places) → fits (ds ++ c ∷ []) m ≡ (fits ds m && int_eq (register_at m c.place) c.was)
fits_more [] c m = and_true (int_eq (register_at m c.place) c.was)
fits_more (d ∷ ds) c m = ap (λ (b : Bool). int_eq (register_at m d.place) d.was && b) (fits_more ds c m) ∙ sym (and_assoc (int_eq (register_at m d.place) d.was) (fits ds m) (int_eq (register_at m c.place) c.was))

-- the place is near, and none of these is there
abbrev pub is_free : Places → List Change → Place → Bool
is_free near ds p = has_place near p && not (touched ds p)

abbrev pub Reaches : Places → Places → List Change → Places → Places → Type 0
Reaches near known ds m whole = (p : Place) → register_at whole p ≡ (if is_free near ds p then register_at m p else register_at known p)

abbrev pub Outcome : Places → Places → List Change → Places → Bool → Option Places → Type 0
Outcome near known ds m true None = ⊥
Outcome near known ds m true (Some whole) = Reaches near known ds m whole
Outcome near known ds m false None = ⊤
Outcome near known ds m false (Some whole) = ⊥

abbrev pub HasWalked : Places → Places → Places → List Change → List Change → Type 0
HasWalked near before known ds cs = (whole m : Places) → Splits near before whole m → Outcome near known ds m (fits ds m) (walk cs whole)

pub walked_nothing : (near known : Places) → HasWalked near known known [] []
walked_nothing near known whole m s p = by (has_place near p) (s p)
  where
    by : (b : Bool) → register_at whole p ≡ (if b then register_at m p else register_at known p) → register_at whole p ≡ (if b && true then register_at m p else register_at known p)
    by true e = e
    by false e = e

module _ (near before known : Places) (ds cs : List Change) (c : Change) where
  abbrev next : Places
  next = fin.insert known c.place c.now

  abbrev more : List Change
  more = ds ++ c ∷ []

  reaches_first : (m whole : Places) → Reaches near known ds m whole → Reaches near next more m (fin.insert whole c.place c.now)
  reaches_first m whole h q = by (tell c.place q)
    where
      gone : (a : Bool) (b : Bool) → b ≡ true → (a && not b) ≡ false
      gone true true e = refl
      gone false true e = refl
      gone a false e = cc

      by : (c.place ≡ q) ⊎ (c.place ≡ q → ⊥) → register_at (fin.insert whole c.place c.now) q ≡ (if is_free near more q then register_at m q else register_at next q)
      by (inl e) =
          subst (λ (x : Place). register_at (fin.insert whole c.place c.now) x ≡ (if is_free near more x then register_at m x else register_at next x)) e
          (register_here whole c.place c.now
          ∙ sym (ap (λ (b : Bool). if b then register_at m c.place else register_at next c.place) (gone (has_place near c.place) (touched more c.place) (touched_here ds c)) ∙ register_here known c.place c.now))
      by (inr n) =
          register_elsewhere whole c.place q c.now n ∙ h q
          ∙ ap₂ (λ (t : Bool) (v : ℤ). if has_place near q && not t then register_at m q else v) (sym (touched_elsewhere ds c q n)) (sym (register_elsewhere known c.place q c.now n))

  first_reached : (m w : Places) → Reaches near known ds m w → (b : Bool) → Outcome near next more m b (if b then Some (fin.insert w c.place c.now) else None)
  first_reached m w e true = reaches_first m w e
  first_reached m w e false = tt

  pub first_step : HasWalked near before known ds cs → is_free near ds c.place ≡ true → HasWalked near before next more (cs ++ c ∷ [])
  first_step h free whole m s =
      subst (λ (b : Bool). Outcome near next more m b (walk (cs ++ c ∷ []) whole)) (sym (fits_more ds c m))
      (subst (λ (o : Option Places). Outcome near next more m (fits ds m && int_eq (register_at m c.place) c.was) o) (sym (walk_append cs (c ∷ []) whole))
      (by (fits ds m) (walk cs whole) (h whole m s)))
    where
      by : (b : Bool) (o : Option Places) → Outcome near known ds m b o → Outcome near next more m (b && int_eq (register_at m c.place) c.was) (option_and_then (walk (c ∷ [])) o)
      by true None e = absurd e
      by false None e = tt
      by false (Some w) e = absurd e
      by true (Some w) e =
          let same : register_at w c.place ≡ register_at m c.place = e c.place ∙ ap (λ (b : Bool). if b then register_at m c.place else register_at known c.place) free in
          subst (λ (v : ℤ). Outcome near next more m (int_eq (register_at m c.place) c.was) (if int_eq v c.was then Some (fin.insert w c.place c.now) else None)) (sym same) (first_reached m w e (int_eq (register_at m c.place) c.was))

  reaches_known : (m whole : Places) → is_free near ds c.place ≡ false → Reaches near known ds m whole → Reaches near next ds m (fin.insert whole c.place c.now)
  reaches_known m whole free h q = by (tell c.place q)
    where
      by : (c.place ≡ q) ⊎ (c.place ≡ q → ⊥) → register_at (fin.insert whole c.place c.now) q ≡ (if is_free near ds q then register_at m q else register_at next q)
      by (inl e) =
          subst (λ (x : Place). register_at (fin.insert whole c.place c.now) x ≡ (if is_free near ds x then register_at m x else register_at next x)) e
          (register_here whole c.place c.now ∙ sym (ap (λ (b : Bool). if b then register_at m c.place else register_at next c.place) free ∙ register_here known c.place c.now))
      by (inr n) =
          register_elsewhere whole c.place q c.now n ∙ h q ∙ ap (λ (v : ℤ). if is_free near ds q then register_at m q else v) (sym (register_elsewhere known c.place q c.now n))

  pub known_step : HasWalked near before known ds cs → is_free near ds c.place ≡ false → register_at known c.place ≡ c.was → HasWalked near before next ds (cs ++ c ∷ [])
  known_step h free found whole m s =
      subst (λ (o : Option Places). Outcome near next ds m (fits ds m) o) (sym (walk_append cs (c ∷ []) whole)) (by (fits ds m) (walk cs whole) (h whole m s))
    where
      by : (b : Bool) (o : Option Places) → Outcome near known ds m b o → Outcome near next ds m b (option_and_then (walk (c ∷ [])) o)
      by true None e = absurd e
      by false None e = tt
      by false (Some w) e = absurd e
      by true (Some w) e =
          let same : register_at w c.place ≡ c.was = e c.place ∙ ap (λ (b : Bool). if b then register_at m c.place else register_at known c.place) free ∙ found in
          subst (λ (t : Bool). Outcome near next ds m true (if t then Some (fin.insert w c.place c.now) else None)) (sym (is_same (register_at w c.place) c.was same)) (reaches_known m w free e)

  pub contradicts : (rest : List Change) → HasWalked near before known ds cs → is_free near ds c.place ≡ false → (register_at known c.place ≡ c.was → ⊥) → Contradicts near before (cs ++ c ∷ rest)
  contradicts rest h free n whole m s = walk_append cs (c ∷ rest) whole ∙ by (fits ds m) (walk cs whole) (h whole m s)
    where
      by : (b : Bool) (o : Option Places) → Outcome near known ds m b o → option_and_then (walk (c ∷ rest)) o ≡ None
      by b None e = refl
      by false (Some w) e = absurd e
      by true (Some w) e =
          let same : register_at w c.place ≡ register_at known c.place = e c.place ∙ ap (λ (b : Bool). if b then register_at m c.place else register_at known c.place) free in
          ap (λ (t : Bool). if t then walk rest (fin.insert w c.place c.now) else None) (not_same (register_at w c.place) c.was (λ f. n (sym same ∙ f)))

-- ---- what the short changes do

abbrev ShortOutcome : Places → List Change → Places → Bool → Option Places → Type 0
ShortOutcome known ds m true None = ⊥
ShortOutcome known ds m true (Some n) = (q : Place) → register_at n q ≡ (if touched ds q then register_at known q else register_at m q)
ShortOutcome known ds m false None = ⊤
ShortOutcome known ds m false (Some n) = ⊥

fits_elsewhere : (ds : List Change) (m : Places) (p : Place) (v : ℤ) → touched ds p ≡ false → fits ds (fin.insert m p v) ≡ fits ds m
fits_elsewhere [] m p v e = refl
fits_elsewhere (d ∷ ds) m p v e =
    let n = differing d.place p (or_first (is_eq (place_cmp d.place p)) (touched ds p) e) in
    ap₂ (λ (x : ℤ) (b : Bool). int_eq x d.was && b) (register_elsewhere m p d.place v (λ f. n (sym f))) (fits_elsewhere ds m p v (or_second (is_eq (place_cmp d.place p)) (touched ds p) e))

short_walk : (known : Places) (ds : List Change) → AllDiffer ds → (m : Places) → ShortOutcome known ds m (fits ds m) (walk (leaving known ds) m)
short_walk known [] h m = λ q. refl
short_walk known (d ∷ ds) h m = by (int_eq (register_at m d.place) d.was) (short_walk known ds h.1 (fin.insert m d.place (register_at known d.place)))
  where
    numbers : (q : Place) → (d.place ≡ q) ⊎ (d.place ≡ q → ⊥) → (if touched ds q then register_at known q else register_at (fin.insert m d.place (register_at known d.place)) q) ≡ (if is_eq (place_cmp d.place q) || touched ds q then register_at known q else register_at m q)
    numbers q (inl e) =
        subst (λ (x : Place). (if touched ds x then register_at known x else register_at (fin.insert m d.place (register_at known d.place)) x) ≡ (if is_eq (place_cmp d.place x) || touched ds x then register_at known x else register_at m x)) e
        (ap (λ (b : Bool). if b then register_at known d.place else register_at (fin.insert m d.place (register_at known d.place)) d.place) h.0
        ∙ register_here m d.place (register_at known d.place)
        ∙ sym (ap (λ (b : Bool). if b || touched ds d.place then register_at known d.place else register_at m d.place) (is_itself d.place)))
    numbers q (inr n) =
        ap (λ (v : ℤ). if touched ds q then register_at known q else v) (register_elsewhere m d.place q (register_at known d.place) n)
        ∙ sym (ap (λ (b : Bool). if b || touched ds q then register_at known q else register_at m q) (not_equal d.place q n))

    wider : (b : Bool) (o : Option Places) → ShortOutcome known ds (fin.insert m d.place (register_at known d.place)) b o → ShortOutcome known (d ∷ ds) m b o
    wider true None e = absurd e
    wider false None e = tt
    wider false (Some n) e = absurd e
    wider true (Some n) e = λ q. e q ∙ numbers q (tell d.place q)

    by : (b : Bool) → ShortOutcome known ds (fin.insert m d.place (register_at known d.place)) (fits ds (fin.insert m d.place (register_at known d.place))) (walk (leaving known ds) (fin.insert m d.place (register_at known d.place)))
        → ShortOutcome known (d ∷ ds) m (b && fits ds m) (if b then walk (leaving known ds) (fin.insert m d.place (register_at known d.place)) else None)
    by false rest = tt
    by true rest =
        wider (fits ds m) (walk (leaving known ds) (fin.insert m d.place (register_at known d.place)))
        (subst (λ (b : Bool). ShortOutcome known ds (fin.insert m d.place (register_at known d.place)) b (walk (leaving known ds) (fin.insert m d.place (register_at known d.place))))
        (fits_elsewhere ds m d.place (register_at known d.place) h.0) rest)

pub short_is : (near before known : Places) (ds cs : List Change) → HasWalked near before known ds cs → AllDiffer ds → IsShort near before cs known (leaving known ds)
short_is near before known ds cs h differ whole m s = both (fits ds m) (walk cs whole) (walk (leaving known ds) m) (h whole m s) (short_walk known ds differ m)
  where
    join : (a t : Bool) (x k y : ℤ) → y ≡ (if t then k else x) → (if a && not t then x else k) ≡ (if a then y else k)
    join true true x k y e = sym e
    join true false x k y e = sym e
    join false true x k y e = refl
    join false false x k y e = refl

    both : (b : Bool) (o r : Option Places) → Outcome near known ds m b o → ShortOutcome known ds m b r → BothSplit near known o r
    both true None r e f = absurd e
    both false (Some w) r e f = absurd e
    both false None None e f = tt
    both false None (Some n) e f = absurd f
    both true (Some w) None e f = absurd f
    both true (Some w) (Some n) e f = λ p. e p ∙ join (has_place near p) (touched ds p) (register_at m p) (register_at known p) (register_at n p) (f p)

pub leaving_places : (near known : Places) (ds : List Change) → HasPlaces near ds → HasPlaces near (leaving known ds)
leaving_places near known [] h = tt
leaving_places near known (d ∷ ds) h = (h.0, leaving_places near known ds h.1)

-- ---- a leg, change by change

-- behind the changes that are done, before those that are left
pub record IsUnderWay (near before known : Places) (ds : List Change) (places : BTreeSet Place) (done left : List Change) : Type 0 where
  pub walked : HasWalked near before known ds done
  pub differ : AllDiffer ds
  pub near_ones : HasPlaces near ds
  pub seen : (place : Place) → set.contains place_cmp places place ≡ touched ds place
  pub same : SamePlaces before known
  pub there : HasPlaces known left

pub under_way : (near known : Places) (ds : List Change) (places : BTreeSet Place) (left : List Change) → ds ≡ [] → places.keys ≡ [] → HasPlaces known left → IsUnderWay near known known ds places [] left
under_way near known ds places left none nowhere there =
    record {
      walked = subst (λ (l : List Change). HasWalked near known known l []) (sym none) (walked_nothing near known);
      differ = subst AllDiffer (sym none) tt;
      near_ones = subst (HasPlaces near) (sym none) tt;
      seen = λ place. ap (λ (ks : List Place). list_any (λ k. is_eq (place_cmp place k)) ks) nowhere ∙ sym (ap (λ (l : List Change). touched l place) none);
      same = λ place. refl;
      there = there;
    }

places_more : (near : Places) (ds : List Change) (c : Change) → HasPlaces near ds → has_place near c.place ≡ true → HasPlaces near (ds ++ c ∷ [])
places_more near [] c h e = (e, tt)
places_more near (d ∷ ds) c h e = (h.0, places_more near ds c h.1 e)

module _ (near before known : Places) (ds : List Change) (places : BTreeSet Place) (done left : List Change) (c : Change) (h : IsUnderWay near before known ds places done (c ∷ left)) where
  abbrev after : Places
  after = fin.insert known c.place c.now

  free_is : is_first_at near places c.place ≡ is_free near ds c.place
  free_is = ap (λ (b : Bool). has_place near c.place && not b) (h.seen c.place)

  both_first : (a t : Bool) → (a && not t) ≡ true → a ≡ true
  both_first true t e = refl
  both_first false t e = cc

  both_second : (a t : Bool) → (a && not t) ≡ true → t ≡ false
  both_second true true e = cc
  both_second true false e = refl
  both_second false t e = cc

  pub goes_on : (next_ds : List Change) (more_places : BTreeSet Place) → next_ds ≡ (if is_first_at near places c.place then ds ++ c ∷ [] else ds)
      → IsTouched (is_first_at near places c.place) c.place places more_places → (is_first_at near places c.place || int_eq (register_at known c.place) c.was) ≡ true
      → IsUnderWay near before after next_ds more_places (done ++ c ∷ []) left
  goes_on next_ds more_places is more fit = by (is_first_at near places c.place) (sym free_is) is more fit
    where
      there_then : SamePlaces known (fin.insert known c.place c.now)
      there_then = there-insert known c.place c.now h.there.0

      by : (b : Bool) → is_free near ds c.place ≡ b → next_ds ≡ (if b then ds ++ c ∷ [] else ds) → IsTouched b c.place places more_places → (b || int_eq (register_at known c.place) c.was) ≡ true
          → IsUnderWay near before (fin.insert known c.place c.now) next_ds more_places (done ++ c ∷ []) left
      by true e d s f =
          subst (λ (l : List Change). IsUnderWay near before (fin.insert known c.place c.now) l more_places (done ++ c ∷ []) left) (sym d) (record {
            walked = first_step near before known ds done c h.walked e;
            differ = differ_more ds c h.differ (both_second (has_place near c.place) (touched ds c.place) e);
            near_ones = places_more near ds c h.near_ones (both_first (has_place near c.place) (touched ds c.place) e);
            seen = λ q. s q ∙ ap (λ (b : Bool). b || is_eq (place_cmp c.place q)) (h.seen q) ∙ sym (touched_more ds c q);
            same = λ q. there_then q ∙ h.same q;
            there = places_same known (fin.insert known c.place c.now) left there_then h.there.1;
          })
      by false e d s f =
          subst (λ (l : List Change). IsUnderWay near before (fin.insert known c.place c.now) l more_places (done ++ c ∷ []) left) (sym d) (record {
            walked = known_step near before known ds done c h.walked e ((Decides-int_eq (register_at known c.place) c.was).0 f);
            differ = h.differ;
            near_ones = h.near_ones;
            seen = λ q. s q ∙ or_false (set.contains place_cmp places q) ∙ h.seen q;
            same = λ q. there_then q ∙ h.same q;
            there = places_same known (fin.insert known c.place c.now) left there_then h.there.1;
          })

  pub comes_to_nothing : (is_first_at near places c.place || int_eq (register_at known c.place) c.was) ≡ false → Contradicts near before (done ++ c ∷ left)
  comes_to_nothing e =
      contradicts near before known ds done c left h.walked (sym free_is ∙ or_first (is_first_at near places c.place) (int_eq (register_at known c.place) c.was) e)
      (λ f. let same = is_same (register_at known c.place) c.was f in let other = or_second (is_first_at near places c.place) (int_eq (register_at known c.place) c.was) e in cc)

pub shortened : (near before known : Places) (ds : List Change) (places : BTreeSet Place) (number : ℕ) (cs : List Change) → IsUnderWay near before known ds places cs [] → IsShortLeg near before (record { number = number; changes = cs }) known (record { number = number; changes = leaving known ds })
shortened near before known ds places number cs h =
    record { number = refl; changes = short_is near before known ds cs h.walked h.differ; places = leaving_places near known ds h.near_ones }

-- ---- the same, by the changes' places in the list

take_drop : {X : Type 0} (i : ℕ) (xs : List X) → take i xs ++ drop i xs ≡ xs
take_drop zero xs = refl
take_drop (suc i) [] = refl
take_drop (suc i) (x ∷ xs) = ap (λ l. x ∷ l) (take_drop i xs)

module _ (near before known : Places) (ds : List Change) (places : BTreeSet Place) (cs : List Change) (i : ℕ) (h : IsUnderWay near before known ds places (take i cs) (drop i cs)) where
  here_left : (d : Change) → i < length cs → IsUnderWay near before known ds places (take i cs) (get_or cs i d ∷ drop (i + 1) cs)
  here_left d lt = subst (λ (l : List Change). IsUnderWay near before known ds places (take i cs) l) (drop_more cs i d lt) h

  pub next_change : (d : Change) → i < length cs → (next_known : Places) (next_ds : List Change) (more_places : BTreeSet Place)
      → next_known ≡ fin.insert known (get_or cs i d).place (get_or cs i d).now
      → next_ds ≡ (if is_first_at near places (get_or cs i d).place then ds ++ get_or cs i d ∷ [] else ds)
      → IsTouched (is_first_at near places (get_or cs i d).place) (get_or cs i d).place places more_places
      → (is_first_at near places (get_or cs i d).place || int_eq (register_at known (get_or cs i d).place) (get_or cs i d).was) ≡ true
      → IsUnderWay near before next_known next_ds more_places (take (i + 1) cs) (drop (i + 1) cs)
  next_change d lt next_known next_ds more_places set_is ds_is touch fit =
      let this = get_or cs i d in
      subst (λ (x : Places). IsUnderWay near before x next_ds more_places (take (i + 1) cs) (drop (i + 1) cs)) (sym set_is)
      (subst (λ (l : List Change). IsUnderWay near before (fin.insert known this.place this.now) next_ds more_places l (drop (i + 1) cs)) (sym (take_more cs i d lt))
      (goes_on near before known ds places (take i cs) (drop (i + 1) cs) this (here_left d lt) next_ds more_places ds_is touch fit))

  pub contradicted : (d : Change) → i < length cs → (is_first_at near places (get_or cs i d).place || int_eq (register_at known (get_or cs i d).place) (get_or cs i d).was) ≡ false → Contradicts near before cs
  contradicted d lt unfit =
      let this = get_or cs i d in
      subst (λ (l : List Change). Contradicts near before l) (ap (λ (l : List Change). take i cs ++ l) (sym (drop_more cs i d lt)) ∙ take_drop i cs)
      (comes_to_nothing near before known ds places (take i cs) (drop (i + 1) cs) this (here_left d lt) unfit)

  pub through : length cs ≤ i → (number : ℕ) (short : List Change) → short ≡ leaving known ds → IsShortLeg near before (record { number = number; changes = cs }) known (record { number = number; changes = short })
  through le number short is =
      let taken : take i cs ≡ cs = sym (append-nil (take i cs)) ∙ ap (λ (l : List Change). take i cs ++ l) (sym (drop_all i cs le)) ∙ take_drop i cs in
      subst (λ (l : List Change). IsShortLeg near before (record { number = number; changes = cs }) known (record { number = number; changes = l })) (sym is)
      (shortened near before known ds places number cs
      (subst (λ (l : List Change). IsUnderWay near before known ds places cs l) (drop_all i cs le) (subst (λ (l : List Change). IsUnderWay near before known ds places l (drop i cs)) taken h)))

-- ---- legs, one after another

pub one_more_leg : (legs : List Leg) (i : ℕ) (leg : Leg) → i < length legs → leg ≡ get_or legs i leg → map plain_leg (take (i + 1) legs) ≡ map plain_leg (take i legs) ++ plain_leg leg ∷ []
one_more_leg legs i leg lt e = ap (map plain_leg) (take_more legs i leg lt ∙ ap (λ (x : Leg). take i legs ++ x ∷ []) (sym e)) ∙ map-append plain_leg (take i legs) (leg ∷ [])

pub legs_around : (legs : List Leg) (i : ℕ) (leg : Leg) → i < length legs → leg ≡ get_or legs i leg → map plain_leg (take i legs) ++ plain_leg leg ∷ map plain_leg (drop (i + 1) legs) ≡ map plain_leg legs
legs_around legs i leg lt e =
    sym (map-append plain_leg (take i legs) (leg ∷ drop (i + 1) legs))
    ∙ ap (map plain_leg) (ap (λ (l : List Leg). take i legs ++ l) (sym (drop_more legs i leg lt ∙ ap (λ (x : Leg). x ∷ drop (i + 1) legs) (sym e))) ∙ take_drop i legs)

pub all_legs : (legs : List Leg) (i : ℕ) → length legs ≤ i → take i legs ≡ legs
all_legs legs i le = sym (append-nil (take i legs)) ∙ ap (λ (l : List Leg). take i legs ++ l) (sym (drop_all i legs le)) ∙ take_drop i legs
