-- Totals over the clients of a session, and what they ask of its items.
use Rattle.std.proofs.Common.{◌≡◌, ℕ, zero, suc, ◌+◌, ◌*◌, ◌<◌, ◌≤◌, List, [], ◌∷◌, ◌++◌, length, map, get_or, drop, arith, refl, sym, ap, ap₂, subst, ◌∙◌, length-append}
use Rattle.std.specs.Prelude.{sum_by, All, None}
use Rattle.std.specs.List.{flat_map, AllByRecursion}
use Rattle.std.proofs.lemmas.List.{drop_more, drop_all, length-map}
use Rattle.std.proofs.lemmas.List.Elements.{All-head, All-tail, recursion_from_All}
use Rattle.std.proofs.lemmas.List.Sums.{sum_by-append}
use Rattle.txn_model.proofs.SerialLaws.{sound_length}
use Rattle.catalogue.specs.Items.{plain_item, plain_items}
use Rattle.catalogue.specs.Plan.{Plan, PlainItem, Run, Lose}
use Rattle.catalogue.specs.Sound.{IsSound, IsFitItem}
use Rattle.catalogue.specs.declared.item.Item.{Item}
use Rattle.declust.specs.Greedy.{all_items}
use Rattle.declust.specs.Total.{HaveNoFault}
use Rattle.declust.specs.Uses.{uses_in, uses_from}
use Rattle.declust.specs.declared.uses.Use.{Use}
use Rattle.declust.proofs.UseLists.{uses_from-append, length-items, few_items}

abbrev pub all_of : List (List PlainItem) → List PlainItem
all_of lists = flat_map (λ items. items) lists

-- ---- scripts that can be run

fit_items : (plan : Plan) (items : List PlainItem) → AllByRecursion (IsFitItem plan) items → HaveNoFault items
fit_items plan [] h = tt
fit_items plan (Run ops ∷ items) h = (h.0.script, fit_items plan items h.1)
fit_items plan (Lose ∷ items) h = fit_items plan items h.1

both : (xs ys : List PlainItem) → HaveNoFault xs → HaveNoFault ys → HaveNoFault (xs ++ ys)
both [] ys h g = g
both (Run ops ∷ xs) ys h g = (h.0, both xs ys h.1 g)
both (Lose ∷ xs) ys h g = both xs ys h g

lists_fit : (plan : Plan) (lists : List (List PlainItem)) → All (All (IsFitItem plan)) lists → HaveNoFault (all_of lists)
lists_fit plan [] h = tt
lists_fit plan (l ∷ lists) h =
    both l (all_of lists) (fit_items plan l (recursion_from_All (IsFitItem plan) l (All-head (All (IsFitItem plan)) l lists h))) (lists_fit plan lists (All-tail (All (IsFitItem plan)) l lists h))

pub no_faults : (plan : Plan) → IsSound plan → HaveNoFault (all_items plan)
no_faults plan sound = lists_fit plan plan.clients sound.items

pub client_fit : (plan : Plan) (client : ℕ) → IsSound plan → client < length plan.clients → HaveNoFault (get_or plan.clients client [])
client_fit plan client sound lt =
    let items = get_or plan.clients client [] in fit_items plan items (recursion_from_All (IsFitItem plan) items (sound.items client [] lt))

-- the item at a place can be run
pub fit_at : (items : List Item) (i : ℕ) (item : Item) → i < length items → item ≡ get_or items i item → HaveNoFault (plain_items items) → HaveNoFault (plain_item item ∷ [])
fit_at items i item lt is h = subst (λ x. HaveNoFault (plain_item x ∷ [])) (sym is) (go items i lt h)
  where
    first : (x : PlainItem) (xs : List PlainItem) → HaveNoFault (x ∷ xs) → HaveNoFault (x ∷ [])
    first (Run ops) xs h = (h.0, tt)
    first Lose xs h = tt

    rest : (x : PlainItem) (xs : List PlainItem) → HaveNoFault (x ∷ xs) → HaveNoFault xs
    rest (Run ops) xs h = h.1
    rest Lose xs h = h

    go : (xs : List Item) (k : ℕ) → k < length xs → HaveNoFault (plain_items xs) → HaveNoFault (plain_item (get_or xs k item) ∷ [])
    go [] k lt h = absurd (omega arith)
    go (x ∷ xs) zero lt h = first (plain_item x) (plain_items xs) h
    go (x ∷ xs) (suc k) lt h = go xs k (omega (arith, lt)) (rest (plain_item x) (plain_items xs) h)

-- ---- client by client

module _ (lists : List (List PlainItem)) (client : ℕ) (lt : client < length lists) where
  pub next_client : all_of (drop client lists) ≡ get_or lists client [] ++ all_of (drop (client + 1) lists)
  next_client = ap all_of (drop_more lists client [] lt)

  pub sum_more : (f : PlainItem → ℕ) → sum_by f (all_of (drop client lists)) ≡ sum_by f (get_or lists client []) + sum_by f (all_of (drop (client + 1) lists))
  sum_more f = ap (sum_by f) next_client ∙ sum_by-append f (get_or lists client []) (all_of (drop (client + 1) lists))

  pub length_more : length (all_of (drop client lists)) ≡ length (get_or lists client []) + length (all_of (drop (client + 1) lists))
  length_more = ap length next_client ∙ length-append (get_or lists client []) (all_of (drop (client + 1) lists))

  pub uses_more : (n : ℕ) → uses_from n (all_of (drop client lists)) ≡ uses_from n (get_or lists client []) ++ uses_from (n + length (get_or lists client [])) (all_of (drop (client + 1) lists))
  uses_more n = ap (uses_from n) next_client ∙ uses_from-append n (get_or lists client []) (all_of (drop (client + 1) lists))

left_fewer : (lists : List (List PlainItem)) (client : ℕ) → length (all_of (drop client lists)) ≤ length (all_of lists)
left_fewer lists zero = omega arith
left_fewer [] (suc client) = omega arith
left_fewer (l ∷ lists) (suc client) = omega (arith, left_fewer lists client, length-append l (all_of lists))

-- no client has more items than all have
pub client_few : (plan : Plan) (client : ℕ) → IsSound plan → client < length plan.clients → length (get_or plan.clients client []) ≤ 4096
client_few plan client sound lt = omega (arith, length_more plan.clients client lt, left_fewer plan.clients client, few_items plan sound)

pub nothing_left : (lists : List (List PlainItem)) (client : ℕ) → length lists ≤ client → all_of (drop client lists) ≡ []
nothing_left lists client le = ap all_of (drop_all client lists le)

-- ---- few uses

few_in : (n : ℕ) (item : PlainItem) (items : List PlainItem) → HaveNoFault (item ∷ items) → length (uses_in n item) ≤ 16
few_in n (Run ops) items h =
    let size : length (uses_in n (Run ops)) ≡ length ops = length-map {B = Use} ops (λ op. record { tuple = op.tuple; item = n }) in
    omega (arith, sound_length ops h.0, size)
few_in n Lose items h = omega arith

after : (item : PlainItem) (items : List PlainItem) → HaveNoFault (item ∷ items) → HaveNoFault items
after (Run ops) items h = h.1
after Lose items h = h

pub few_uses : (n : ℕ) (items : List PlainItem) → HaveNoFault items → length (uses_from n items) ≤ length items * 16
few_uses n [] h = omega arith
few_uses n (item ∷ items) h = omega (arith, few_in n item items h, few_uses (n + 1) items (after item items h), length-append (uses_in n item) (uses_from (n + 1) items))
