-- What the search on the near registers stands on, and what it finds, in the words of the whole ones.
use Rattle.std.proofs.Common.{◌≡◌, ℕ, zero, suc, ◌+◌, ◌<◌, ◌≤◌, ℤ, Bool, true, false, cond, List, [], ◌∷◌, ◌++◌, length, map, drop, get_or, slice_get, Option, None, Some, is_some, T, IsTrue, refl, sym, ap, subst, ◌∙◌, inl, inr, arith}
use Rattle.std.specs.Prelude.{Result, Ok, Err, Vec, IfOk}
use Rattle.std.specs.BTreeSet as set
use Rattle.std.specs.BTreeSet.{BTreeSet}
use Rattle.std.specs.FinMap as fin
use Rattle.std.specs.FinMap.Entries.{find, where_key, is_sorted, is_sorted-where_key, find-where_key}
use Rattle.std.specs.Global.{Global}
use Rattle.std.specs.Option.{option_map}
use Rattle.std.specs.Ordering.{is_eq}
use Rattle.std.specs.declared.cmp.Ordering.TheVariants.{Equal}
use Rattle.std.proofs.lemmas.Bool.{cases_lt}
use Rattle.std.proofs.lemmas.List.{append_assoc, append-nil, drop_more, drop_all}
use Rattle.txn_model.specs.Places.{Places, place_cmp}
use Rattle.txn_model.specs.declared.items.NoMemory.{NoMemory}
use Rattle.txn_model.specs.declared.place.Place.{Place}
use Rattle.txn_model.proofs.PlaceOrder.{place_cmp_total, place_cmp_exact}
use Rattle.switch_packet.specs.Packets.{PlainLog}
use Rattle.switch_packet.specs.declared.packet.PacketOp.{PacketOp}
use Rattle.gap_placement.proofs.Seeking.{each_other}
use Rattle.gap_placement.specs.Facts.{Each, IfThere, IsUsable}
use Rattle.gap_placement.specs.Near.{IsPart, Touches, AllTouch, AreIn, StayIn}
use Rattle.gap_placement.specs.Spots.{task_of}
use Rattle.gap_placement.specs.declared.spot.Spot.{Spot}

-- ---- open packets

touching_usable : (logs : List PlainLog) (first near : Places) (o : Option Spot) → IfThere (IsUsable logs first) o → IfThere (Touches near) (option_map (task_of logs) o) → IfThere (IsUsable logs near) o
touching_usable logs first near None u t = tt
touching_usable logs first near (Some s) u t = record { stands = u.stands; replay = record { few = u.replay.few; earlier = u.replay.earlier; there = t } }

-- on the near map the packets that stand open can be replayed too
pub usable_near : (logs : List PlainLog) (first near : Places) (standing : List (Option Spot)) → Each (IfThere (IsUsable logs first)) standing → AllTouch near (map (option_map (task_of logs)) standing) → Each (IfThere (IsUsable logs near)) standing
usable_near logs first near [] u t i x e = cc
usable_near logs first near (o ∷ standing) u t zero x e =
    let same : o ≡ x = cc in
    subst (IfThere (IsUsable logs near)) same (touching_usable logs first near o (u 0 o refl) (t 0 (option_map (task_of logs) o) refl))
usable_near logs first near (o ∷ standing) u t (suc i) x e = usable_near logs first near standing (λ j y f. u (suc j) y f) (λ j y f. t (suc j) y f) i x e

usable_whole : (logs : List PlainLog) (near first : Places) → IsPart near first → (s : Spot) → IsUsable logs near s → IsUsable logs first s
usable_whole logs near first part s u =
    record {
      stands = u.stands;
      replay = record { few = u.replay.few; earlier = u.replay.earlier; there = λ i op e. let there = u.replay.there i op e in ap is_some (part op.place there) ∙ there };
    }

pub found_usable : (logs : List PlainLog) (near first : Places) → IsPart near first → (r : Result (Option (Vec Spot Global)) NoMemory) → IfOk r (λ found. IfThere (λ spots. Each (IsUsable logs near) spots.items) found) → IfOk r (λ found. IfThere (λ spots. Each (IsUsable logs first) spots.items) found)
found_usable logs near first part (Ok None) h = tt
found_usable logs near first part (Ok (Some spots)) h = each_other (IsUsable logs near) (IsUsable logs first) spots.items h (usable_whole logs near first part)
found_usable logs near first part (Err e) h = tt

-- ---- the near registers

truth : (b : Bool) → T b → IsTrue b
truth true h = refl
truth false h = absurd h

holds : (b : Bool) → IsTrue b → T b
holds b h = subst T (sym h) tt

module _ (places : BTreeSet Place) where
  abbrev has : Place → Bool
  has place = set.contains place_cmp places place

  abbrev pub kept : List (Place × ℤ) → List (Place × ℤ)
  kept rows = where_key place_cmp has rows

  pub kept_sorted : (first : Places) (rows : List (Place × ℤ)) → rows ≡ kept (fin.entries first) → IsTrue (is_sorted place_cmp rows)
  kept_sorted first rows e = subst (λ (l : List (Place × ℤ)). IsTrue (is_sorted place_cmp l)) (sym e) (truth (is_sorted place_cmp (kept (fin.entries first))) (is_sorted-where_key place_cmp has (fin.entries first) (fin.entries_sorted first)))

  alike : (place x : Place) → place_cmp place x ≡ Equal → has x ≡ has place
  alike place x e = ap has (sym (place_cmp_exact place x e))

  near_has : (first : Places) (place : Place) → fin.get (fin.retain_keys first has) place ≡ cond (has place) (fin.get first place) None
  near_has first place = fin.get-retain_keys first has place (alike place)

  pub kept_is : (first : Places) (rows : List (Place × ℤ)) → rows ≡ kept (fin.entries first) → fin.from_sorted rows ≡ fin.retain_keys first has
  kept_is first rows e =
      fin.same_map place_cmp_total place_cmp_exact (fin.from_sorted rows) (fin.retain_keys first has)
      (λ q. fin.get-from_sorted place_cmp rows q (holds (is_sorted place_cmp rows) (kept_sorted first rows e))
      ∙ ap (find place_cmp q) e
      ∙ find-where_key place_cmp has q (alike q) (fin.entries first)
      ∙ ap (λ (o : Option ℤ). cond (has q) o None) (sym (fin.get-entries first q))
      ∙ sym (near_has first q))

  -- one more row
  pub kept_more : (front rows : List (Place × ℤ)) (i : ℕ) (d : Place × ℤ) → i < length rows → has (get_or rows i d).0 ≡ true → (front ++ get_or rows i d ∷ []) ++ kept (drop (i + 1) rows) ≡ front ++ kept (drop i rows)
  kept_more front rows i d lt e =
      let row = get_or rows i d in
      append_assoc front (row ∷ []) (kept (drop (i + 1) rows))
      ∙ ap (λ (l : List (Place × ℤ)). front ++ l) (sym (ap kept (drop_more rows i d lt) ∙ ap (λ (b : Bool). cond b (row ∷ kept (drop (i + 1) rows)) (kept (drop (i + 1) rows))) e))

  pub kept_less : (front rows : List (Place × ℤ)) (i : ℕ) (d : Place × ℤ) → i < length rows → has (get_or rows i d).0 ≡ false → front ++ kept (drop (i + 1) rows) ≡ front ++ kept (drop i rows)
  kept_less front rows i d lt e =
      let row = get_or rows i d in
      ap (λ (l : List (Place × ℤ)). front ++ l) (sym (ap kept (drop_more rows i d lt) ∙ ap (λ (b : Bool). cond b (row ∷ kept (drop (i + 1) rows)) (kept (drop (i + 1) rows))) e))

  pub kept_end : (front rows : List (Place × ℤ)) (i : ℕ) → length rows ≤ i → front ≡ front ++ kept (drop i rows)
  kept_end front rows i le = sym (ap (λ (l : List (Place × ℤ)). front ++ kept l) (drop_all i rows le) ∙ append-nil front)

  pub near_part : (first near : Places) → near ≡ fin.retain_keys first has → IsPart near first
  near_part first near is place e = by (has place) (ap (λ (m : Places). fin.get m place) is ∙ near_has first place)
    where
      by : (b : Bool) → fin.get near place ≡ cond b (fin.get first place) None → fin.get first place ≡ fin.get near place
      by true f = sym f
      by false f = let clash : is_some (fin.get near place) ≡ false = ap is_some f in cc

  pub near_touches : (logs : List PlainLog) (first near : Places) → near ≡ fin.retain_keys first has → (standing : List (Option Spot))
      → ((k : ℕ) → k < length standing → IfThere (λ spot. AreIn places (task_of logs spot).intent.packet.ops) (get_or standing k None)) → Each (IfThere (IsUsable logs first)) standing → AllTouch near (map (option_map (task_of logs)) standing)
  near_touches logs first near is [] ins usable i x e = cc
  near_touches logs first near is (o ∷ standing) ins usable zero x e =
      let same : option_map (task_of logs) o ≡ x = cc in
      subst (IfThere (Touches near)) same (one o (ins 0 (omega arith)) (usable 0 o refl))
    where
      one : (s : Option Spot) → IfThere (λ spot. AreIn places (task_of logs spot).intent.packet.ops) s → IfThere (IsUsable logs first) s → IfThere (Touches near) (option_map (task_of logs) s)
      one None a u = tt
      one (Some s) a u =
          λ j op at. ap (λ (m : Places). is_some (fin.get m op.place)) is ∙ ap is_some (near_has first op.place ∙ ap (λ (b : Bool). cond b (fin.get first op.place) None) (a j op at)) ∙ u.replay.there j op at
  near_touches logs first near is (o ∷ standing) ins usable (suc i) x e =
      near_touches logs first near is standing (λ k lt. ins (suc k) (omega (arith, lt))) (λ k y f. usable (suc k) y f) i x e

-- ---- the places that open packets touch

pub if_ok : {X E : Type 0} (P Q : X → Type 0) (r : Result X E) → IfOk r P → ((x : X) → P x → Q x) → IfOk r Q
if_ok P Q (Ok x) h go = go x h
if_ok P Q (Err e) h go = tt

stays_true : (b a : Bool) → a ≡ true → cond b true a ≡ true
stays_true true a e = refl
stays_true false a e = e

pub stays_in : (places more : BTreeSet Place) (place : Place) → set.Updates place_cmp places more place true → StayIn places more
stays_in places more place u q e = u.0 q ∙ stays_true (is_eq (place_cmp place q)) (set.contains place_cmp places q) e

pub one_more_in : (places more : BTreeSet Place) (ops : List PacketOp) (i : ℕ) (op : PacketOp) → slice_get ops i ≡ Some op → set.Updates place_cmp places more op.place true
    → ((k : ℕ) (o : PacketOp) → k < i → slice_get ops k ≡ Some o → set.contains place_cmp places o.place ≡ true) → (k : ℕ) (o : PacketOp) → k < i + 1 → slice_get ops k ≡ Some o → set.contains place_cmp more o.place ≡ true
one_more_in places more ops i op at u before k o lt e =
    elim (cases_lt k i) [
      | inl less ↦ stays_in places more op.place u o.place (before k o less e)
      | inr le ↦ (let here : k ≡ i = omega (arith, le, lt) in
          let both : Some op ≡ Some o = sym at ∙ ap (slice_get ops) (sym here) ∙ e in
          let same : op ≡ o = cc in
          subst (λ (x : PacketOp). set.contains place_cmp more x.place ≡ true) same u.1)
    ]

module _ (logs : List PlainLog) (places more : BTreeSet Place) where
  abbrev ops_of : Spot → List PacketOp
  ops_of s = (task_of logs s).intent.packet.ops

  still_in : (o : Option Spot) → StayIn places more → IfThere (λ s. AreIn places (ops_of s)) o → IfThere (λ s. AreIn more (ops_of s)) o
  still_in None stay h = tt
  still_in (Some s) stay h = λ i op e. stay op.place (h i op e)

  pub one_more_slot : (standing : List (Option Spot)) (i : ℕ) → StayIn places more → IfThere (λ s. AreIn more (ops_of s)) (get_or standing i None)
      → ((k : ℕ) → k < i → IfThere (λ s. AreIn places (ops_of s)) (get_or standing k None)) → (k : ℕ) → k < i + 1 → IfThere (λ s. AreIn more (ops_of s)) (get_or standing k None)
  one_more_slot standing i stay here before k lt =
      elim (cases_lt k i) [
        | inl less ↦ still_in (get_or standing k None) stay (before k less)
        | inr le ↦ (let same : k ≡ i = omega (arith, le, lt) in subst (λ (n : ℕ). IfThere (λ s. AreIn more (ops_of s)) (get_or standing n None)) (sym same) here)
      ]
