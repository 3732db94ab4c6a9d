-- The draft of a sound session keeps each limit.
use Rattle.std.proofs.Common.{◌≡◌, ℕ, ◌≤◌, true, List, [], ◌∷◌, map, length, nat_le, sum_by, None, refl, sym, ◌∙◌, arith}
use Rattle.std.specs.FinMap as fin
use Rattle.std.specs.FinMap.{entries}
use Rattle.std.specs.List.{All, AllByRecursion, list_all}
use Rattle.std.proofs.lemmas.Bool.Decides.{nat_tests}
use Rattle.std.proofs.lemmas.List.{length-map}
use Rattle.std.proofs.lemmas.List.Elements.{recursion_from_All}
use Rattle.std.proofs.lemmas.List.Sums.{sum_by-cons}
use Rattle.txn_model.specs.declared.op.Op.{Op}
use Rattle.txn_model.proofs.NeedsLaws.{length-needs_list-le}
use Rattle.catalogue.specs.Plan.{Plan, PlainItem, Run, Lose}
use Rattle.catalogue.specs.Sound.{IsFitItem, IsSound}
use Rattle.session_reader.specs.Limits.{is_between, stages_fit, arrays_fit, cells_fit, split_fits, hosts_fit, tuples_fit, layout_fits, tries_fit, clients_fit, items_fit, of_script, has_ops_that_fit, ops_fit, has_few_needs, has_needs_that_fit, needs_fit, over_limit}
use Rattle.session_text.specs.AsWritten.{op_written, item_written, row_written, written_of}
use Rattle.session_text.proofs.ScriptsBack.{keeps}

between : (least most n : ℕ) → (least ≤ n) × (n ≤ most) → is_between least most n ≡ true
between least most n h = let low = h.0 in let high = h.1 in grind (arith, nat_tests, low, high)

few : (n most : ℕ) → n ≤ most → nat_le n most ≡ true
few n most h = grind (arith, nat_tests)

items_written : (clients : List (List PlainItem)) → sum_by length (map (map item_written) clients) ≡ sum_by length clients
items_written [] = refl
items_written (items ∷ clients) =
    sum_by-cons length (map item_written items) (map (map item_written) clients) ∙ rw (length-map items item_written, items_written clients) refl ∙ sym (sum_by-cons length items clients)

item_ops : (plan : Plan) (items : List PlainItem) → AllByRecursion (IsFitItem plan) items → list_all (of_script has_ops_that_fit) (map item_written items) ≡ true
item_ops plan [] fit = refl
item_ops plan (Run ops ∷ items) fit =
    let size = (keeps ops fit.0.script).size in
    let n = length-map ops op_written in
    rw (between 1 16 (length (map op_written ops)) (omega (arith, n, size.some), omega (arith, n, size.few))) (item_ops plan items fit.1)
item_ops plan (Lose ∷ items) fit = item_ops plan items fit.1

client_ops : (plan : Plan) (clients : List (List PlainItem)) → AllByRecursion (All (IsFitItem plan)) clients
    → list_all (list_all (of_script has_ops_that_fit)) (map (map item_written) clients) ≡ true
client_ops plan [] fit = refl
client_ops plan (items ∷ clients) fit = rw (item_ops plan items (recursion_from_All (IsFitItem plan) items fit.0)) (client_ops plan clients fit.1)

op_needs : (ops : List Op) → list_all has_few_needs (map op_written ops) ≡ true
op_needs [] = refl
op_needs (op ∷ ops) = rw (few _ 4 (length-needs_list-le op.needs)) (op_needs ops)

item_needs : (items : List PlainItem) → list_all (of_script has_needs_that_fit) (map item_written items) ≡ true
item_needs [] = refl
item_needs (Run ops ∷ items) = rw (op_needs ops) (item_needs items)
item_needs (Lose ∷ items) = item_needs items

client_needs : (clients : List (List PlainItem)) → list_all (list_all (of_script has_needs_that_fit)) (map (map item_written) clients) ≡ true
client_needs [] = refl
client_needs (items ∷ clients) = rw (item_needs items) (client_needs clients)

pub limits_back : (plan : Plan) → IsSound plan → over_limit (written_of plan) ≡ None
unfolding over_limit
limits_back plan sound =
    let w = written_of plan in
    let limits = sound.limits in
    let shape = limits.shape in
    let stages : stages_fit w.shape ≡ true = between 1 12 plan.shape.stages shape.stages in
    let arrays : arrays_fit w.shape ≡ true = between 1 4 plan.shape.arrays shape.arrays in
    let cells : cells_fit w.shape ≡ true = between 1 4096 plan.shape.cells shape.cells in
    let split : split_fits w.shape ≡ true = few plan.shape.split plan.shape.stages shape.split in
    let hosts : hosts_fit w.shape ≡ true = between 1 8 plan.shape.hosts shape.hosts in
    let tuples : tuples_fit w ≡ true = few (length (entries plan.tuples)) 65536 (omega (arith, limits.tuples, fin.len-entries plan.tuples)) in
    let layout : layout_fits w ≡ true = few (length (map row_written plan.layout)) 65536 (omega (arith, limits.rows, length-map plan.layout row_written)) in
    let tries : tries_fit w ≡ true = between 1 16 plan.tries limits.tries in
    let clients : clients_fit w ≡ true = few (length (map (map item_written) plan.clients)) 8 (omega (arith, limits.clients, length-map plan.clients (map item_written))) in
    let items : items_fit w ≡ true = few (sum_by length (map (map item_written) plan.clients)) 4096 (omega (arith, limits.items, items_written plan.clients)) in
    let ops : ops_fit w ≡ true = client_ops plan plan.clients (recursion_from_All (All (IsFitItem plan)) plan.clients sound.items) in
    let needs : needs_fit w ≡ true = client_needs plan.clients in
    rw (stages, arrays, cells, split, hosts) (rw (tuples, layout, tries, clients, items, ops, needs) refl)
