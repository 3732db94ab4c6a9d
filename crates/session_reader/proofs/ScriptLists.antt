-- What holds of each script of a session.
use Rattle.std.proofs.Common.{◌≡◌, ℕ, ◌+◌, Bool, true, false, ◌&&◌, List, [], ◌∷◌, map, get_or, slice_get, All, Option, Some, None, option_map, refl, ◌∙◌, arith, rules}
use Rattle.std.specs.List.{list_all}
use Rattle.std.specs.Option.{option_or}
use Rattle.std.proofs.lemmas.Bool.Decides.{nat_tests}
use Rattle.std.proofs.lemmas.List.{length-map}
use Rattle.std.proofs.lemmas.List.Elements.{All-cons}
use Rattle.txn_model.specs.ScriptCheck.{first_repeat, first_bad_use, script_fault}
use Rattle.txn_model.specs.declared.op.Op.{Op}
use Rattle.catalogue.specs.Plan.{PlainItem, Run, Lose}
use Rattle.session_draft.specs.Written.{WrittenItem, run, lose, Written}
use Rattle.session_reader.specs.Built.{op_of, item_of}
use Rattle.session_reader.specs.FirstPlace.{first_in_item, found_of, first_place}
use Rattle.session_reader.specs.Limits.{of_script, has_ops_that_fit, over_limit}
use Rattle.session_reader.specs.Rules.{HasOps, OfScript}
use Rattle.session_reader.proofs.ScriptRules.{no_fault}
use Rattle.session_reader.proofs.Searches.{first_in_items, first_in_clients, first_of_client, first_place_counted}
use Rattle.session_reader.proofs.WithinLimits.{within}

neither : {A : Type 0} (a b : Option A) → option_or a b ≡ None → (a ≡ None) × (b ≡ None)
neither None b e = (refl, e)
neither (Some x) b e = cc

unmapped : {A B : Type 0} (f : A → B) (a : Option A) → option_map f a ≡ None → a ≡ None
unmapped f None e = refl
unmapped f (Some x) e = cc

-- nothing is found in the script
abbrev pub FindsNone : (List Op → Option ℕ) → List Op → Type 0
FindsNone find ops = find ops ≡ None

none_in_item : (find : List Op → Option ℕ) (item : PlainItem) → first_in_item find item ≡ None → OfScript (FindsNone find) item
none_in_item find (Run ops) e = e
none_in_item find Lose e = tt

none_in_items : (find : List Op → Option ℕ) (client seq : ℕ) (items : List PlainItem) → first_in_items find client seq items ≡ None → All (OfScript (FindsNone find)) items
none_in_items find client seq [] e = search (rules, arith)
none_in_items find client seq (item ∷ items) e =
    let split = neither (option_map (λ op. record { client = client; seq = seq; op = op }) (first_in_item find item)) (first_in_items find client (seq + 1) items) e in
    All-cons (OfScript (FindsNone find)) item items (none_in_item find item (unmapped _ _ split.0)) (none_in_items find client (seq + 1) items split.1)

none_in_clients : (find : List Op → Option ℕ) (client : ℕ) (clients : List (List PlainItem)) → first_in_clients find client clients ≡ None → All (All (OfScript (FindsNone find))) clients
none_in_clients find client [] e = search (rules, arith)
none_in_clients find client (items ∷ clients) e =
    let split = neither (slice_get (found_of find client items) 0) (first_in_clients find (client + 1) clients) e in
    All-cons (All (OfScript (FindsNone find))) items clients (none_in_items find client 1 items (first_of_client find client items ∙ split.0)) (none_in_clients find (client + 1) clients split.1)

-- a search that finds nothing finds nothing in each script
pub none_found : (find : List Op → Option ℕ) (clients : List (List PlainItem)) → first_place find clients ≡ None → All (All (OfScript (FindsNone find))) clients
none_found find clients e = none_in_clients find 0 clients (first_place_counted find clients ∙ e)

of_both : (P Q R : List Op → Type 0) → ((ops : List Op) → P ops → Q ops → R ops) → (item : PlainItem) → OfScript P item → OfScript Q item → OfScript R item
of_both P Q R f (Run ops) p q = f ops p q
of_both P Q R f Lose p q = tt

-- what follows of two facts of each script
pub both : (P Q R : List Op → Type 0) → ((ops : List Op) → P ops → Q ops → R ops) → (clients : List (List PlainItem))
    → All (All (OfScript P)) clients → All (All (OfScript Q)) clients → All (All (OfScript R)) clients
both P Q R f clients p q k d lt i e below = of_both P Q R f (get_or (get_or clients k d) i e) (p k d lt i e below) (q k d lt i e below)

-- scripts that can be searched for bad uses
pub ready_for_needs : (clients : List (List PlainItem)) → All (All (OfScript HasOps)) clients → first_place first_repeat clients ≡ None
    → All (All (OfScript (λ ops. HasOps ops × (first_repeat ops ≡ None)))) clients
ready_for_needs clients ops e =
    both HasOps (FindsNone first_repeat) (λ ops. HasOps ops × (first_repeat ops ≡ None)) (λ _ p q. (p, q)) clients ops (none_found first_repeat clients e)

-- scripts without a fault
pub ready_for_turns : (clients : List (List PlainItem)) → All (All (OfScript HasOps)) clients → first_place first_repeat clients ≡ None → first_place first_bad_use clients ≡ None
    → All (All (OfScript (λ ops. script_fault ops ≡ None))) clients
ready_for_turns clients ops once earlier =
    both (λ ops. HasOps ops × (first_repeat ops ≡ None)) (FindsNone first_bad_use) (λ ops. script_fault ops ≡ None) (λ ops p q. no_fault ops p.0 p.1 q) clients
    (ready_for_needs clients ops once) (none_found first_bad_use clients earlier)

left : (a b : Bool) → (a && b) ≡ true → a ≡ true
left true b h = refl
left false b h = cc

right : (a b : Bool) → (a && b) ≡ true → b ≡ true
right true b h = h
right false b h = cc

item_has_ops : (item : WrittenItem) → of_script has_ops_that_fit item ≡ true → OfScript HasOps (item_of item)
item_has_ops (run ops) h =
    let n = length-map ops op_of in
    record { some = grind (arith, nat_tests, n); few = grind (arith, nat_tests, n) }
item_has_ops lose h = tt

items_have_ops : (items : List WrittenItem) → list_all (of_script has_ops_that_fit) items ≡ true → All (OfScript HasOps) (map item_of items)
items_have_ops [] h = search (rules, arith)
items_have_ops (item ∷ items) h =
    All-cons (OfScript HasOps) (item_of item) (map item_of items) (item_has_ops item (left _ _ h)) (items_have_ops items (right (of_script has_ops_that_fit item) _ h))

clients_have_ops : (clients : List (List WrittenItem)) → list_all (list_all (of_script has_ops_that_fit)) clients ≡ true → All (All (OfScript HasOps)) (map (map item_of) clients)
clients_have_ops [] h = search (rules, arith)
clients_have_ops (items ∷ clients) h =
    All-cons (All (OfScript HasOps)) (map item_of items) (map (map item_of) clients) (items_have_ops items (left _ _ h)) (clients_have_ops clients (right (list_all (of_script has_ops_that_fit) items) _ h))

-- within the limits each script has 1 to 16 operations
pub scripts_have_ops : (w : Written) → over_limit w ≡ None → All (All (OfScript HasOps)) (map (map item_of) w.clients)
scripts_have_ops w e = clients_have_ops w.clients (within w e).ops
