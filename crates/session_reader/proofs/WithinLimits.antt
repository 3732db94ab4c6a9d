-- What it means that a session that is written keeps each limit.
use Rattle.std.proofs.Common.{◌≡◌, ℕ, ◌<◌, ◌≤◌, ◌^◌, Bool, true, false, List, [], ◌∷◌, map, length, nat_le, sum_by, get_or, All, Vec, Option, None, refl, sym, ap, ◌∙◌, arith}
use Rattle.std.specs.Global.{Global}
use Rattle.std.specs.List.{list_all}
use Rattle.std.proofs.lemmas.Bool.Decides.{nat_tests}
use Rattle.std.proofs.lemmas.List.{length-map, get_or-map}
use Rattle.std.proofs.lemmas.List.Sums.{get_or-le-sum_by, sum_by-cons}
use Rattle.stage_layout.specs.Shape.{IsShape}
use Rattle.catalogue.specs.Items.{plain_item, plain_items, plain_lists}
use Rattle.catalogue.specs.declared.item.Item.{Item}
use Rattle.session_draft.specs.Written.{WrittenItem, Written}
use Rattle.session_reader.specs.Built.{item_of, shape_of}
use Rattle.session_reader.specs.Limits.{is_between, stages_fit, arrays_fit, cells_fit, split_fits, hosts_fit, tuples_fit, layout_fits, tries_fit, clients_fit, items_fit, ops_fit, of_script, has_ops_that_fit, broken, over_limit}
use Rattle.session_reader.specs.declared.fault.Limit.{Limit}
use Rattle.session_reader.specs.declared.fault.Limit.TheVariants.{Stages, Arrays, Cells, Split, Hosts, Tuples, Layout, Tries, Clients, Items, Ops}

pub record Within (w : Written) : Type 0 where
  pub shape : IsShape (shape_of w.shape)
  pub tuples : length w.tuples ≤ 65536
  pub layout : length w.layout ≤ 65536
  pub tries : (1 ≤ w.tries) × (w.tries ≤ 16)
  pub clients : length w.clients ≤ 8
  pub items : sum_by length w.clients ≤ 4096
  pub ops : list_all (list_all (of_script has_ops_that_fit)) w.clients ≡ true

kept : (limit : Limit) (test : Bool) (behind : Option Limit) → broken limit test behind ≡ None → (test ≡ true) × (behind ≡ None)
kept limit true behind e = (refl, e)
kept limit false behind e = cc

between : (least most n : ℕ) → is_between least most n ≡ true → (least ≤ n) × (n ≤ most)
between least most n e = (grind (arith, nat_tests), grind (arith, nat_tests))

few : (n most : ℕ) → nat_le n most ≡ true → n ≤ most
few n most e = grind (arith, nat_tests)

pub within : (w : Written) → over_limit w ≡ None → Within w
unfolding over_limit
within w e =
    let s = w.shape in
    let stages = kept Stages (stages_fit s) _ e in
    let arrays = kept Arrays (arrays_fit s) _ stages.1 in
    let cells = kept Cells (cells_fit s) _ arrays.1 in
    let split = kept Split (split_fits s) _ cells.1 in
    let hosts = kept Hosts (hosts_fit s) _ split.1 in
    let tuples = kept Tuples (tuples_fit w) _ hosts.1 in
    let layout = kept Layout (layout_fits w) _ tuples.1 in
    let tries = kept Tries (tries_fit w) _ layout.1 in
    let clients = kept Clients (clients_fit w) _ tries.1 in
    let items = kept Items (items_fit w) _ clients.1 in
    let ops = kept Ops (ops_fit w) _ items.1 in
    record {
      shape = record {
        stages = between 1 12 s.stages stages.0;
        arrays = between 1 4 s.arrays arrays.0;
        cells = between 1 4096 s.cells cells.0;
        split = few s.split s.stages split.0;
        hosts = between 1 8 s.hosts hosts.0;
      };
      tuples = few _ 65536 tuples.0;
      layout = few _ 65536 layout.0;
      tries = between 1 16 w.tries tries.0;
      clients = few _ 8 clients.0;
      items = few _ 4096 items.0;
      ops = ops.0;
    }

-- as many items are built as are written
pub items_built : (clients : List (List WrittenItem)) → sum_by length (map (map item_of) clients) ≡ sum_by length clients
items_built [] = refl
items_built (items ∷ clients) =
    sum_by-cons length (map item_of items) (map (map item_of) clients) ∙ rw (length-map items item_of, items_built clients) refl ∙ sym (sum_by-cons length items clients)

-- lists of items are as long as what they stand for
few_items : (lists : List (Vec Item Global)) (most : ℕ) → sum_by length (plain_lists lists) ≤ most → (k : ℕ) (d : Vec Item Global) → k < length lists → length (get_or lists k d).items ≤ most
few_items lists most le k d lt =
    let at = get_or-map (λ (list : Vec Item Global). plain_items list.items) lists k d [] lt in
    let below = get_or-le-sum_by length (plain_lists lists) k [] (omega (arith, lt, length-map lists (λ (list : Vec Item Global). plain_items list.items))) in
    omega (arith, le, below, ap length at, length-map (get_or lists k d).items plain_item)

pub clients_built : (lists : List (Vec Item Global)) (clients : List (List WrittenItem)) → plain_lists lists ≡ map (map item_of) clients → length lists ≡ length clients
clients_built lists clients e = sym (length-map lists (λ (list : Vec Item Global). plain_items list.items)) ∙ ap length e ∙ length-map clients (map item_of)

pub short_lists : (lists : List (Vec Item Global)) (clients : List (List WrittenItem)) → plain_lists lists ≡ map (map item_of) clients → sum_by length clients ≤ 4096 → All (λ list. length list.items < 2 ^ 32) lists
short_lists lists clients e le k d lt =
    let all : sum_by length (plain_lists lists) ≤ 4096 = rw (e, items_built clients) le in
    omega (arith, few_items lists 4096 all k d lt)
