-- Each part of a session, written and read.
use Rattle.std.proofs.Common.{◌≡◌, ℕ, ◌<◌, ◌≤◌, ◌^◌, ℤ, pos, negsuc, List, [], ◌∷◌, map, Bool, true, false, Option, Some, None, option_map, nat_lt, nat_le, w64, SFits, refl, ap, ◌∙◌, arith}
use Rattle.std.proofs.lemmas.Bool.Decides.{nat_tests}
use Rattle.std.specs.List.{AllByRecursion}
use Rattle.std.specs.FinMap.{entries, entries_sorted, is_sorted}
use Rattle.std.specs.Prelude.{FitsSigned, T, if◌then◌else◌}
use Rattle.std.proofs.lemmas.List.{map-id}
use Rattle.serde_json.specs.Data.{Data, string}
use Rattle.session_draft.specs.Json.{number_to, integer_of, each, list_each}
use Rattle.session_draft.specs.OpText.{tuple_of, which_of, need_of, op_of}
use Rattle.session_draft.specs.Sections.{item_of, clients_of, layout_row_of, layout_of, tuple_row_of, tuples_of, shape_of}
use Rattle.session_draft.specs.Written.{run}
use Rattle.session_draft.proofs.JsonLists.{items_list-items_of}
use Rattle.txn_model.specs.Needs.{needs_list}
use Rattle.txn_model.specs.ScriptCheck.{is_read}
use Rattle.txn_model.specs.declared.op.Act.{Act}
use Rattle.txn_model.specs.declared.op.Act.TheVariants.{Read, Put, Add, Choose}
use Rattle.txn_model.specs.declared.op.Need.{Need}
use Rattle.txn_model.specs.declared.op.Needs.{Needs}
use Rattle.txn_model.specs.declared.op.Op.{Op}
use Rattle.txn_model.specs.declared.op.TupleId.{TupleId}
use Rattle.txn_model.specs.declared.op.Which.{Which}
use Rattle.txn_model.specs.declared.op.Which.TheVariants.{Old, Moved}
use Rattle.txn_model.specs.Tuples.{Tuples, tuple_cmp}
use Rattle.stage_layout.specs.declared.layout.LayoutRow.{LayoutRow}
use Rattle.stage_layout.specs.declared.shape.Shape.{Shape}
use Rattle.catalogue.specs.Plan.{PlainItem, Run, Lose}
use Rattle.session_text.specs.SessionData.{list, natural, integer, which_name, need_data, needs_data, act_data, op_data, item_data, client_data, clients_data, layout_row_data, layout_data, tuple_row_data, tuples_data, shape_data}
use Rattle.session_text.specs.AsWritten.{op_written, item_written, row_written, shape_written}
use Rattle.session_text.specs.Typed.{IsTypedTuple, IsTypedNeed, act_numbers, IsTypedOp, IsTypedLayoutRow, IsTypedRow, IsTypedShape}

pub natural_read : (most n : ℕ) → n ≤ most → most < 2 ^ 63 → number_to most (natural n) ≡ Some n
natural_read most n in_range small =
    let fits : nat_lt n (2 ^ 63) ≡ true = grind (arith, nat_tests) in
    let below : nat_le n most ≡ true = grind (arith, nat_tests) in
    rw (fits, below) refl

pub integer_read : (z : ℤ) → SFits w64 z → integer_of (integer z) ≡ Some z
integer_read (pos n) fits =
    let less : n < 2 ^ 63 = omega (arith, fits.sfits) in
    let fits : nat_lt n (2 ^ 63) ≡ true = grind (arith, nat_tests) in
    rw fits refl
integer_read (negsuc n) fits = refl

each_read : {A B : Type 0} (read : Data → Option B) (write : A → Data) (as_read : A → B) (P : A → Type 0) → ((x : A) → P x → read (write x) ≡ Some (as_read x))
    → (xs : List A) → AllByRecursion P xs → each read (map write xs) ≡ Some (map as_read xs)
each_read read write as_read P one [] all = refl
each_read read write as_read P one (x ∷ xs) all = rw (one x all.0) (rw (each_read read write as_read P one xs all.1) refl)

-- a list of what is read one by one
pub list_read : {A B : Type 0} (read : Data → Option B) (write : A → Data) (as_read : A → B) (P : A → Type 0) → ((x : A) → P x → read (write x) ≡ Some (as_read x))
    → (xs : List A) → AllByRecursion P xs → list_each read (list (map write xs)) ≡ Some (map as_read xs)
list_read read write as_read P one xs all = ap (each read) (items_list-items_of (map write xs)) ∙ each_read read write as_read P one xs all

pub tuple_read : (t : TupleId) → IsTypedTuple t → tuple_of (natural t.0) ≡ Some t
tuple_read t typed = ap (option_map (λ (n : ℕ). record { 0 = n })) (natural_read 4294967295 t.0 (omega (arith, typed)) (omega arith))

which_read : (which : Which) → which_of (string (which_name which)) ≡ Some which
which_read Old = refl
which_read Moved = refl

need_read : (need : Need) → IsTypedNeed need → need_of (need_data need) ≡ Some need
need_read need typed = rw (which_read need.which, natural_read 255 need.from (omega (arith, typed)) (omega arith)) refl

needs_read : (needs : Needs) → AllByRecursion IsTypedNeed (needs_list needs) → list_each need_of (needs_data needs) ≡ Some (needs_list needs)
needs_read needs typed = list_read need_of need_data (λ need. need) IsTypedNeed need_read (needs_list needs) typed ∙ ap Some (map-id (needs_list needs))

-- no needs, where a read with a need is a bad use
abbrev pub ReadsAlone : Op → Type 0
ReadsAlone op = is_read op.act ≡ true → needs_list op.needs ≡ []

act_read : (t : TupleId) (needs : Needs) (act : Act) → IsTypedTuple t → AllByRecursion (FitsSigned w64) (act_numbers act) → AllByRecursion IsTypedNeed (needs_list needs)
    → (is_read act ≡ true → needs_list needs ≡ []) → op_of (act_data t needs act) ≡ Some (record { tuple = t; act = act; needs = needs_list needs })
unfolding op_of
act_read t needs Read tuple numbers typed alone = rw (tuple_read t tuple, alone refl) refl
act_read t needs (Put base) tuple numbers typed alone = rw (tuple_read t tuple, integer_read base numbers.0, needs_read needs typed) refl
act_read t needs (Add base) tuple numbers typed alone = rw (tuple_read t tuple, integer_read base numbers.0, needs_read needs typed) refl
act_read t needs (Choose limit above below) tuple numbers typed alone =
    rw (tuple_read t tuple, integer_read limit numbers.0, integer_read above numbers.1.0, integer_read below numbers.1.1.0, needs_read needs typed) refl

op_read : (op : Op) → IsTypedOp op × ReadsAlone op → op_of (op_data op) ≡ Some (op_written op)
op_read op fit = act_read op.tuple op.needs op.act fit.0.tuple fit.0.act fit.0.needs fit.1

-- what is needed of an item to be read as it was written
abbrev pub IsReadable : PlainItem → Type 0
IsReadable (Run ops) = AllByRecursion (λ op. IsTypedOp op × ReadsAlone op) ops
IsReadable Lose = Unit {0}

item_read : (item : PlainItem) → IsReadable item → item_of (item_data item) ≡ Some (item_written item)
item_read (Run ops) fit = ap (option_map run) (list_read op_of op_data op_written (λ op. IsTypedOp op × ReadsAlone op) op_read ops fit)
item_read Lose fit = refl

client_read : (items : List PlainItem) → AllByRecursion IsReadable items → list_each item_of (client_data items) ≡ Some (map item_written items)
client_read items fit = list_read item_of item_data item_written IsReadable item_read items fit

pub clients_read : (clients : List (List PlainItem)) → AllByRecursion (AllByRecursion IsReadable) clients → clients_of (clients_data clients) ≡ Some (map (map item_written) clients)
unfolding clients_of
clients_read clients fit = list_read (list_each item_of) client_data (map item_written) (AllByRecursion IsReadable) client_read clients fit

row_read : (row : LayoutRow) → IsTypedLayoutRow row → layout_row_of (layout_row_data row) ≡ Some (row_written row)
row_read row typed =
    rw (
      tuple_read row.tuple typed.tuple,
      natural_read 255 row.place.stage (omega (arith, typed.stage)) (omega arith),
      natural_read 255 row.place.array (omega (arith, typed.array)) (omega arith),
      natural_read 65535 row.place.cell (omega (arith, typed.cell)) (omega arith),
    ) refl

pub layout_read : (rows : List LayoutRow) → AllByRecursion IsTypedLayoutRow rows → layout_of (layout_data rows) ≡ Some (map row_written rows)
unfolding layout_of
layout_read rows typed = list_read layout_row_of layout_row_data row_written IsTypedLayoutRow row_read rows typed

tuple_row_read : (row : TupleId × ℤ) → IsTypedRow row → tuple_row_of (tuple_row_data row) ≡ Some row
tuple_row_read row typed = rw (tuple_read row.0 typed.0, integer_read row.1 typed.1) refl

kept : (b : Bool) (rows : List (TupleId × ℤ)) → T b → (if b then Some rows else None) ≡ Some rows
kept true rows h = refl
kept false rows h = absurd h

pub tuples_read : (tuples : Tuples) → AllByRecursion IsTypedRow (entries tuples) → tuples_of (tuples_data tuples) ≡ Some (entries tuples)
unfolding tuples_of
tuples_read tuples typed =
    let rows : list_each tuple_row_of (tuples_data tuples) ≡ Some (entries tuples) =
    list_read tuple_row_of tuple_row_data (λ row. row) IsTypedRow tuple_row_read (entries tuples) typed ∙ ap Some (map-id (entries tuples)) in
    rw rows (kept (is_sorted tuple_cmp (entries tuples)) (entries tuples) (entries_sorted tuples))

pub shape_read : (shape : Shape) → IsTypedShape shape → shape_of (shape_data shape) ≡ Some (shape_written shape)
unfolding shape_of
shape_read shape typed =
    rw (
      natural_read 255 shape.stages (omega (arith, typed.stages)) (omega arith),
      natural_read 255 shape.arrays (omega (arith, typed.arrays)) (omega arith),
      natural_read 255 shape.split (omega (arith, typed.split)) (omega arith),
      natural_read 255 shape.hosts (omega (arith, typed.hosts)) (omega arith),
      natural_read 65535 shape.cells (omega (arith, typed.cells)) (omega arith),
    ) refl
