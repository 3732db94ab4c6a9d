-- The search on the near registers with the short legs finds what the search on all registers finds.
use Rattle.std.proofs.Common.{◌≡◌, ℕ, zero, suc, ℤ, pos, Bool, true, false, List, [], ◌∷◌, ◌++◌, length, set, unwrap_or, nat_lt, Option, None, Some, if◌then◌else◌, refl, sym, ap, subst, ◌∙◌, ◌⊎◌, inl, inr}
use Rattle.std.specs.FinMap as fin
use Rattle.std.specs.Option.{option_map, option_and_then}
use Rattle.std.specs.Ordering.{is_eq}
use Rattle.txn_model.specs.Places.{Places, place_cmp}
use Rattle.txn_model.specs.declared.pairs.Pair.{Pair}
use Rattle.txn_model.specs.declared.place.Place.{Place}
use Rattle.switch_packet.specs.Packets.{PlainIntent}
use Rattle.switch_packet.specs.Replay.{register_at, packet_pair, always, execute, replay}
use Rattle.switch_packet.specs.declared.packet.PacketOp.{PacketOp}
use Rattle.switch_packet.proofs.ExecuteLaws.{is_itself, same_place, get-there, get-elsewhere}
use Rattle.placement_model.specs.FirstOrder.{slot_at}
use Rattle.placement_model.specs.Placements.{Task}
use Rattle.gap_placement.proofs.Searching.{first_some-same, first_some-none}
use Rattle.gap_placement.proofs.Steps.{each_set}
use Rattle.gap_placement.specs.Changes.{walk}
use Rattle.gap_placement.specs.Facts.{IfThere}
use Rattle.gap_placement.specs.Legs.{PlainLeg, passed, tried, seek, start}
use Rattle.gap_placement.specs.Near.{has_place, IsPart, OpsTouch, Touches, AllTouch, Splits, BothSplit, IsShort, Contradicts, IsShortLeg}
use Rattle.gap_placement.specs.declared.change.Change.{Change}

-- ---- numbers at places

pub register_here : (m : Places) (p : Place) (v : ℤ) → register_at (fin.insert m p v) p ≡ v
register_here m p v = ap (λ (o : Option ℤ). unwrap_or o (pos 0)) (get-there m p v)

pub register_elsewhere : (m : Places) (p q : Place) (v : ℤ) → (p ≡ q → ⊥) → register_at (fin.insert m p v) q ≡ register_at m q
register_elsewhere m p q v n = ap (λ (o : Option ℤ). unwrap_or o (pos 0)) (get-elsewhere m p q v n)

-- two places are the same, or they differ
pub tell : (p q : Place) → (p ≡ q) ⊎ (p ≡ q → ⊥)
tell p q = by (is_eq (place_cmp p q)) refl
  where
    by : (b : Bool) → is_eq (place_cmp p q) ≡ b → (p ≡ q) ⊎ (p ≡ q → ⊥)
    by true e = inl (same_place p q e)
    by false e = inr (λ f. let same : is_eq (place_cmp p q) ≡ true = subst (λ (x : Place). is_eq (place_cmp p x) ≡ true) f (is_itself p) in cc)

-- ---- maps that are split

pub part_splits : (near whole : Places) → IsPart near whole → Splits near whole whole near
part_splits near whole part p = by (has_place near p) refl
  where
    by : (b : Bool) → has_place near p ≡ b → register_at whole p ≡ (if b then register_at near p else register_at whole p)
    by true e = ap (λ (o : Option ℤ). unwrap_or o (pos 0)) (part p e)
    by false e = refl

-- a write at a near place
near_write : (near known whole m : Places) (p : Place) (v : ℤ) → has_place near p ≡ true → Splits near known whole m → Splits near known (fin.insert whole p v) (fin.insert m p v)
near_write near known whole m p v here s q = by (tell p q)
  where
    by : (p ≡ q) ⊎ (p ≡ q → ⊥) → register_at (fin.insert whole p v) q ≡ (if has_place near q then register_at (fin.insert m p v) q else register_at known q)
    by (inl e) =
        subst (λ (x : Place). register_at (fin.insert whole p v) x ≡ (if has_place near x then register_at (fin.insert m p v) x else register_at known x)) e
        (register_here whole p v ∙ sym (ap (λ (b : Bool). if b then register_at (fin.insert m p v) p else register_at known p) here ∙ register_here m p v))
    by (inr n) =
        register_elsewhere whole p q v n ∙ s q ∙ ap (λ (x : ℤ). if has_place near q then x else register_at known q) (sym (register_elsewhere m p q v n))

execute_split : (near : Places) (ops : List PacketOp) (done : List Pair) (known whole m : Places) → OpsTouch near ops → Splits near known whole m → Splits near known (execute always ops done [] whole).after (execute always ops done [] m).after
unfolding execute
execute_split near [] done known whole m t s = s
execute_split near (op ∷ ops) done known whole m t s =
    let here = t 0 op refl in
    let same : register_at whole op.place ≡ register_at m op.place = s op.place ∙ ap (λ (b : Bool). if b then register_at m op.place else register_at known op.place) here in
    let pair = packet_pair op done (register_at m op.place) in
    let next = fin.insert m op.place pair.now in
    subst (λ (v : ℤ). Splits near known (execute always ops (done ++ packet_pair op done v ∷ []) [] (fin.insert whole op.place (packet_pair op done v).now)).after (execute always ops (done ++ pair ∷ []) [] next).after) (sym same)
    (execute_split near ops (done ++ pair ∷ []) known (fin.insert whole op.place pair.now) next (λ i o e. t (suc i) o e) (near_write near known whole m op.place pair.now here s))

passed_split : (near known after whole m : Places) (intent : PlainIntent) (number : ℕ) (cs short : List Change) → OpsTouch near intent.packet.ops → IsShort near known cs after short → Splits near known whole m
    → BothSplit near after (passed intent number cs whole) (passed intent number short m)
passed_split near known after whole m intent number cs short t is s = by (nat_lt intent.floor number)
  where
    by : (b : Bool) → BothSplit near after (if b then walk cs (replay intent.packet whole).after else None) (if b then walk short (replay intent.packet m).after else None)
    by true = is (replay intent.packet whole).after (replay intent.packet m).after (execute_split near intent.packet.ops [] known whole m t s)
    by false = tt

-- ---- one task that is tried

then_alike : (near next : Places) (f g : Places → Option (List Task)) → ((x y : Places) → Splits near next x y → f x ≡ g y) → (a b : Option Places) → BothSplit near next a b → option_and_then f a ≡ option_and_then g b
then_alike near next f g same None None e = refl
then_alike near next f g same None (Some y) e = absurd e
then_alike near next f g same (Some x) None e = absurd e
then_alike near next f g same (Some x) (Some y) e = same x y e

tried_alike : (near known next whole m : Places) (leg short : PlainLeg) (task : Task) (f g : Places → Option (List Task)) → Touches near task → IsShortLeg near known leg next short → Splits near known whole m
    → ((x y : Places) → Splits near next x y → f x ≡ g y) → tried task leg whole f ≡ tried task short m g
tried_alike near known next whole m leg short task f g t h s same =
    ap (option_map (λ (tasks : List Task). task ∷ tasks))
    (then_alike near next f g same (passed task.intent leg.number leg.changes whole) (passed task.intent leg.number short.changes m) (passed_split near known next whole m task.intent leg.number leg.changes short.changes t h.changes s)
    ∙ ap (λ (n : ℕ). option_and_then g (passed task.intent n short.changes m)) (sym h.number))

nothing_behind : (task : Task) (o : Option Places) → option_map (λ tasks. task ∷ tasks) (option_and_then (λ (x : Places). None) o) ≡ None
nothing_behind task None = refl
nothing_behind task (Some x) = refl

tried_none : (near known next whole m : Places) (leg short : PlainLeg) (task : Task) (f : Places → Option (List Task)) → Touches near task → IsShortLeg near known leg next short → Splits near known whole m
    → ((x y : Places) → Splits near next x y → f x ≡ None) → tried task leg whole f ≡ None
tried_none near known next whole m leg short task f t h s none =
    tried_alike near known next whole m leg short task f (λ x. None) t h s none ∙ nothing_behind task (passed task.intent short.number short.changes m)

tried_fails : (near known whole m : Places) (leg : PlainLeg) (task : Task) (f : Places → Option (List Task)) → Touches near task → Contradicts near known leg.changes → Splits near known whole m → tried task leg whole f ≡ None
tried_fails near known whole m leg task f t bad s = by (nat_lt task.intent.floor leg.number)
  where
    by : (b : Bool) → option_map (λ tasks. task ∷ tasks) (option_and_then f (if b then walk leg.changes (replay task.intent.packet whole).after else None)) ≡ None
    by true =
        ap (λ (o : Option Places). option_map (λ (tasks : List Task). task ∷ tasks) (option_and_then f o))
        (bad (replay task.intent.packet whole).after (replay task.intent.packet m).after (execute_split near task.intent.packet.ops [] known whole m t s))
    by false = refl

slot_touches : (near : Places) (standing : List (Option Task)) (k : ℕ) (task : Task) → AllTouch near standing → slot_at standing k ≡ Some task → Touches near task
slot_touches near [] k task t e = cc
slot_touches near (o ∷ standing) zero task t e = subst (IfThere (Touches near)) e (t 0 o refl)
slot_touches near (o ∷ standing) (suc k) task t e = slot_touches near standing k task (λ i x f. t (suc i) x f) e

-- two ways to try what stands there
slots_alike : (near : Places) (standing : List (Option Task)) (k : ℕ) (f g : Task → Option (List Task)) → AllTouch near standing → ((task : Task) → Touches near task → f task ≡ g task) → option_and_then f (slot_at standing k) ≡ option_and_then g (slot_at standing k)
slots_alike near standing k f g t same = by (slot_at standing k) refl
  where
    by : (o : Option Task) → slot_at standing k ≡ o → option_and_then f o ≡ option_and_then g o
    by None e = refl
    by (Some task) e = same task (slot_touches near standing k task t e)

slots_none : (near : Places) (standing : List (Option Task)) (k : ℕ) (f : Task → Option (List Task)) → AllTouch near standing → ((task : Task) → Touches near task → f task ≡ None) → option_and_then f (slot_at standing k) ≡ None
slots_none near standing k f t none = by (slot_at standing k) refl
  where
    by : (o : Option Task) → slot_at standing k ≡ o → option_and_then f o ≡ None
    by None e = refl
    by (Some task) e = none task (slot_touches near standing k task t e)

one_taken : (near : Places) (standing : List (Option Task)) (k : ℕ) → AllTouch near standing → AllTouch near (set standing k None)
one_taken near standing k t = each_set (IfThere (Touches near)) standing k None t tt

-- ---- legs and short legs

-- the short legs of legs, from what is known at first to what is known behind them
abbrev pub AreShort : Places → Places → List PlainLeg → Places → List PlainLeg → Type 0
AreShort near known [] after [] = known ≡ after
AreShort near known [] after (short ∷ shorts) = ⊥
AreShort near known (leg ∷ legs) after [] = ⊥
AreShort near known (leg ∷ legs) after (short ∷ shorts) = (next : Places) × IsShortLeg near known leg next short × AreShort near next legs after shorts

pub short_more : (legs shorts : List PlainLeg) (near known next after : Places) (leg short : PlainLeg) → AreShort near known legs next shorts → IsShortLeg near next leg after short → AreShort near known (legs ++ leg ∷ []) after (shorts ++ short ∷ [])
short_more [] [] near known next after leg short h is = (after, subst (λ (x : Places). IsShortLeg near x leg after short) (sym h) is, refl)
short_more [] (s ∷ shorts) near known next after leg short h is = absurd h
short_more (l ∷ legs) [] near known next after leg short h is = absurd h
short_more (l ∷ legs) (s ∷ shorts) near known next after leg short h is = (h.0, h.1, short_more legs shorts near h.0 next after leg short h.2 is)

seek_alike : (legs shorts : List PlainLeg) (near known after whole m : Places) (standing : List (Option Task)) → AreShort near known legs after shorts → Splits near known whole m → AllTouch near standing → seek legs whole standing ≡ seek shorts m standing
unfolding seek
seek_alike [] [] near known after whole m standing h s t = refl
seek_alike [] (short ∷ shorts) near known after whole m standing h s t = absurd h
seek_alike (leg ∷ legs) [] near known after whole m standing h s t = absurd h
seek_alike (leg ∷ legs) (short ∷ shorts) near known after whole m standing h s t =
    first_some-same
    (λ k. option_and_then (λ task. tried task leg whole (λ x. seek legs x (set standing k None))) (slot_at standing k))
    (λ k. option_and_then (λ task. tried task short m (λ x. seek shorts x (set standing k None))) (slot_at standing k)) 0 (length standing)
    (λ k. slots_alike near standing k (λ task. tried task leg whole (λ x. seek legs x (set standing k None))) (λ task. tried task short m (λ x. seek shorts x (set standing k None))) t
    (λ task touch. tried_alike near known h.0 whole m leg short task (λ x. seek legs x (set standing k None)) (λ x. seek shorts x (set standing k None)) touch h.1 s
    (λ x y next. seek_alike legs shorts near h.0 after x y (set standing k None) h.2 next (one_taken near standing k t))))

seek_fails : (legs shorts : List PlainLeg) (leg : PlainLeg) (rest : List PlainLeg) (near known next whole m : Places) (standing : List (Option Task)) → AreShort near known legs next shorts → Contradicts near next leg.changes → Splits near known whole m → AllTouch near standing
    → seek (legs ++ leg ∷ rest) whole standing ≡ None
unfolding seek
seek_fails [] [] leg rest near known next whole m standing h bad s t =
    first_some-none (λ k. option_and_then (λ task. tried task leg whole (λ x. seek rest x (set standing k None))) (slot_at standing k)) 0 (length standing)
    (λ k. slots_none near standing k (λ task. tried task leg whole (λ x. seek rest x (set standing k None))) t
    (λ task touch. tried_fails near next whole m leg task (λ x. seek rest x (set standing k None)) touch bad (subst (λ (x : Places). Splits near x whole m) h s)))
seek_fails [] (short ∷ shorts) leg rest near known next whole m standing h bad s t = absurd h
seek_fails (l ∷ legs) [] leg rest near known next whole m standing h bad s t = absurd h
seek_fails (l ∷ legs) (short ∷ shorts) leg rest near known next whole m standing h bad s t =
    first_some-none (λ k. option_and_then (λ task. tried task l whole (λ x. seek (legs ++ leg ∷ rest) x (set standing k None))) (slot_at standing k)) 0 (length standing)
    (λ k. slots_none near standing k (λ task. tried task l whole (λ x. seek (legs ++ leg ∷ rest) x (set standing k None))) t
    (λ task touch. tried_none near known h.0 whole m l short task (λ x. seek (legs ++ leg ∷ rest) x (set standing k None)) touch h.1 s
    (λ x y split. seek_fails legs shorts leg rest near h.0 next x y (set standing k None) h.2 bad split (one_taken near standing k t))))

pub start_alike : (legs shorts : List PlainLeg) (near first after : Places) (standing : List (Option Task)) → AreShort near first legs after shorts → IsPart near first → AllTouch near standing → start shorts near standing ≡ start legs first standing
start_alike [] [] near first after standing h part t = refl
start_alike [] (short ∷ shorts) near first after standing h part t = absurd h
start_alike (leg ∷ legs) [] near first after standing h part t = absurd h
start_alike (leg ∷ legs) (short ∷ shorts) near first after standing h part t =
    sym (then_alike near h.0 (λ x. seek legs x standing) (λ x. seek shorts x standing) (λ x y split. seek_alike legs shorts near h.0 after x y standing h.2 split t)
    (walk leg.changes first) (walk short.changes near) (h.1.changes first near (part_splits near first part)))

nothing_then : (o : Option Places) → ◌≡◌ {A = Option (List Task)} (option_and_then (λ (x : Places). None) o) None
nothing_then None = refl
nothing_then (Some x) = refl

pub start_fails : (legs shorts : List PlainLeg) (leg : PlainLeg) (rest : List PlainLeg) (near first next : Places) (standing : List (Option Task)) → AreShort near first legs next shorts → Contradicts near next leg.changes → IsPart near first → AllTouch near standing
    → None ≡ start (legs ++ leg ∷ rest) first standing
start_fails [] [] leg rest near first next standing h bad part t =
    sym (ap (option_and_then (λ (x : Places). seek rest x standing)) (bad first near (subst (λ (x : Places). Splits near x first near) h (part_splits near first part))))
start_fails [] (short ∷ shorts) leg rest near first next standing h bad part t = absurd h
start_fails (l ∷ legs) [] leg rest near first next standing h bad part t = absurd h
start_fails (l ∷ legs) (short ∷ shorts) leg rest near first next standing h bad part t =
    sym (then_alike near h.0 (λ x. seek (legs ++ leg ∷ rest) x standing) (λ x. None) (λ x y split. seek_fails legs shorts leg rest near h.0 next x y standing h.2 bad split t)
    (walk l.changes first) (walk short.changes near) (h.1.changes first near (part_splits near first part))
    ∙ nothing_then (walk short.changes near))
