-- Each section of a session has a text that is read as itself.
use Rattle.std.proofs.Common.{◌≡◌, ℕ, ◌<◌, ◌^◌, ℤ, List, [], ◌∷◌, ◌++◌, Some, w64, refl, arith}
use Rattle.std.specs.FinMap.{entries}
use Rattle.std.specs.Fmt.{decimal}
use Rattle.std.specs.List.{AllByRecursion}
use Rattle.std.specs.Prelude.{FitsSigned, codes}
use Rattle.std.specs.Str.{IsUtf8}
use Rattle.std.proofs.lemmas.Fmt.{IsAscii-decimal}
use Rattle.std.proofs.lemmas.List.Elements.{recursion_from_All}
use Rattle.std.proofs.lemmas.Str.{IsUtf8-append, IsUtf8-nil, IsUtf8-from_ascii}
use Rattle.json.proofs.Printed.Utf8.{IsUtf8-are_ascii}
use Rattle.serde_json.specs.Data.{string}
use Rattle.session_draft.specs.Json.{json_of}
use Rattle.txn_model.specs.Needs.{needs_list}
use Rattle.txn_model.specs.declared.op.Act.{Act}
use Rattle.txn_model.specs.declared.op.Act.TheVariants.{Read, Put, Add, Choose}
use Rattle.txn_model.specs.declared.op.Need.{Need}
use Rattle.txn_model.specs.declared.op.Needs.{Needs}
use Rattle.txn_model.specs.declared.op.Op.{Op}
use Rattle.txn_model.specs.declared.op.TupleId.{TupleId}
use Rattle.txn_model.specs.declared.op.Which.{Which}
use Rattle.txn_model.specs.declared.op.Which.TheVariants.{Old, Moved}
use Rattle.stage_layout.specs.declared.layout.LayoutRow.{LayoutRow}
use Rattle.stage_layout.specs.declared.shape.Shape.{Shape}
use Rattle.catalogue.specs.Plan.{Plan, PlainItem, Run, Lose}
use Rattle.catalogue.specs.Sound.{IsSound, IsActor, IsWithinLimits}
use Rattle.catalogue.specs.declared.actor.Actor.{Actor}
use Rattle.catalogue.specs.declared.actor.Actor.TheVariants.{Client, Port, Stage, Recover}
use Rattle.catalogue.specs.ActorWord.{actor_word}
use Rattle.session_text.specs.Canonical.{canonical, text_line}
use Rattle.session_text.specs.SessionData.{natural, integer, which_name, need_data, needs_data, act_data, op_data, item_data, client_data, clients_data, layout_row_data, tuple_row_data, shape_data, more_words, schedule_text, data_of}
use Rattle.session_text.specs.Typed.{IsTypedTuple, IsTypedNeed, act_numbers, IsTypedOp, IsTypedItem, IsTypedLayoutRow, IsTypedRow, IsTypedShape, IsTypedActor, IsTyped}
use Rattle.session_text.proofs.JsonParts.{IsJson, string_json, natural_json, integer_json, list_json, map_json, object_json, compact_read, line_read}
use Rattle.session_text.proofs.Shallow.{session_deep}

tuple_json : (t : TupleId) → IsTypedTuple t → IsJson (natural t.0)
tuple_json t typed = natural_json t.0 (omega (arith, typed))

byte_json : (n : ℕ) → n < 2 ^ 8 → IsJson (natural n)
byte_json n small = natural_json n (omega (arith, small))

short_json : (n : ℕ) → n < 2 ^ 16 → IsJson (natural n)
short_json n small = natural_json n (omega (arith, small))

which_utf8 : (which : Which) → IsUtf8 (which_name which)
which_utf8 Old = IsUtf8-are_ascii (codes "old") refl
which_utf8 Moved = IsUtf8-are_ascii (codes "moved") refl

need_json : (need : Need) → IsTypedNeed need → IsJson (need_data need)
need_json need typed = list_json (string (which_name need.which) ∷ natural need.from ∷ []) (string_json (which_name need.which) (which_utf8 need.which), (byte_json need.from typed, tt))

needs_json : (needs : Needs) → AllByRecursion IsTypedNeed (needs_list needs) → IsJson (needs_data needs)
needs_json needs typed = map_json need_data IsTypedNeed need_json (needs_list needs) typed

act_json : (t : TupleId) (needs : Needs) (act : Act) → IsTypedTuple t → AllByRecursion (FitsSigned w64) (act_numbers act) → AllByRecursion IsTypedNeed (needs_list needs) → IsJson (act_data t needs act)
act_json t needs Read tuple numbers typed = list_json (string (codes "read") ∷ natural t.0 ∷ []) (string_json (codes "read") (IsUtf8-are_ascii (codes "read") refl), (tuple_json t tuple, tt))
act_json t needs (Put base) tuple numbers typed =
    list_json (string (codes "put") ∷ natural t.0 ∷ integer base ∷ needs_data needs ∷ [])
    (string_json (codes "put") (IsUtf8-are_ascii (codes "put") refl), (tuple_json t tuple, (integer_json base numbers.0, (needs_json needs typed, tt))))
act_json t needs (Add base) tuple numbers typed =
    list_json (string (codes "add") ∷ natural t.0 ∷ integer base ∷ needs_data needs ∷ [])
    (string_json (codes "add") (IsUtf8-are_ascii (codes "add") refl), (tuple_json t tuple, (integer_json base numbers.0, (needs_json needs typed, tt))))
act_json t needs (Choose limit above below) tuple numbers typed =
    list_json (string (codes "choose") ∷ natural t.0 ∷ integer limit ∷ integer above ∷ integer below ∷ needs_data needs ∷ []) (
      string_json (codes "choose") (IsUtf8-are_ascii (codes "choose") refl),
      (tuple_json t tuple, (integer_json limit numbers.0, (integer_json above numbers.1.0, (integer_json below numbers.1.1.0, (needs_json needs typed, tt))))),
    )

op_json : (op : Op) → IsTypedOp op → IsJson (op_data op)
op_json op typed = act_json op.tuple op.needs op.act typed.tuple typed.act typed.needs

item_json : (item : PlainItem) → IsTypedItem item → IsJson (item_data item)
item_json (Run ops) typed = map_json op_data IsTypedOp op_json ops typed
item_json Lose typed = string_json (codes "lose") (IsUtf8-are_ascii (codes "lose") refl)

client_json : (items : List PlainItem) → AllByRecursion IsTypedItem items → IsJson (client_data items)
client_json items typed = map_json item_data IsTypedItem item_json items typed

clients_json : (clients : List (List PlainItem)) → AllByRecursion (AllByRecursion IsTypedItem) clients → IsJson (clients_data clients)
clients_json clients typed = map_json client_data (AllByRecursion IsTypedItem) client_json clients typed

row_json : (row : LayoutRow) → IsTypedLayoutRow row → IsJson (layout_row_data row)
row_json row typed =
    list_json (natural row.tuple.0 ∷ natural row.place.stage ∷ natural row.place.array ∷ natural row.place.cell ∷ [])
    (tuple_json row.tuple typed.tuple, (byte_json row.place.stage typed.stage, (byte_json row.place.array typed.array, (short_json row.place.cell typed.cell, tt))))

tuple_row_json : (row : TupleId × ℤ) → IsTypedRow row → IsJson (tuple_row_data row)
tuple_row_json row typed = list_json (natural row.0.0 ∷ integer row.1 ∷ []) (tuple_json row.0 typed.0, (integer_json row.1 typed.1, tt))

word_utf8 : (actor : Actor) → IsTypedActor actor → IsUtf8 (actor_word actor)
word_utf8 (Client c) typed = IsUtf8-append (99 ∷ []) (decimal c) (IsUtf8-are_ascii (99 ∷ []) refl) (IsUtf8-from_ascii _ (IsAscii-decimal c (omega (arith, typed))))
word_utf8 (Port c) typed = IsUtf8-append (112 ∷ []) (decimal c) (IsUtf8-are_ascii (112 ∷ []) refl) (IsUtf8-from_ascii _ (IsAscii-decimal c (omega (arith, typed))))
word_utf8 (Stage s) typed = IsUtf8-append (115 ∷ []) (decimal s) (IsUtf8-are_ascii (115 ∷ []) refl) (IsUtf8-from_ascii _ (IsAscii-decimal s (omega (arith, typed))))
word_utf8 Recover typed = IsUtf8-are_ascii (114 ∷ []) refl

more_utf8 : (actors : List Actor) → AllByRecursion IsTypedActor actors → IsUtf8 (more_words actors)
more_utf8 [] all = IsUtf8-nil
more_utf8 (actor ∷ actors) all =
    IsUtf8-append (codes " ") (actor_word actor ++ more_words actors) (IsUtf8-are_ascii (codes " ") refl)
    (IsUtf8-append (actor_word actor) (more_words actors) (word_utf8 actor all.0) (more_utf8 actors all.1))

schedule_utf8 : (actors : List Actor) → AllByRecursion IsTypedActor actors → IsUtf8 (schedule_text actors)
schedule_utf8 [] all = IsUtf8-nil
schedule_utf8 (actor ∷ actors) all = IsUtf8-append (actor_word actor) (more_words actors) (word_utf8 actor all.0) (more_utf8 actors all.1)

actor_typed : (plan : Plan) (actor : Actor) → IsWithinLimits plan → IsActor plan actor → IsTypedActor actor
actor_typed plan (Client c) limits is = omega (arith, limits.clients, is)
actor_typed plan (Port c) limits is = omega (arith, limits.clients, is)
actor_typed plan (Stage s) limits is = omega (arith, limits.shape.stages, is)
actor_typed plan Recover limits is = tt

-- the actors of a sound session have small numbers
actors_typed : (plan : Plan) (actors : List Actor) → IsWithinLimits plan → AllByRecursion (IsActor plan) actors → AllByRecursion IsTypedActor actors
actors_typed plan [] limits all = tt
actors_typed plan (actor ∷ actors) limits all = (actor_typed plan actor limits all.0, actors_typed plan actors limits all.1)

shape_json : (shape : Shape) → IsTypedShape shape → IsJson (shape_data shape)
shape_json shape typed =
    let arrays = byte_json shape.arrays typed.arrays in
    let cells = short_json shape.cells typed.cells in
    let hosts = byte_json shape.hosts typed.hosts in
    let split = byte_json shape.split typed.split in
    let stages = byte_json shape.stages typed.stages in
    object_json _ (
      IsUtf8-are_ascii (codes "arrays") refl,
      (
        arrays,
        (
          IsUtf8-are_ascii (codes "cells") refl,
          (
            cells,
            (IsUtf8-are_ascii (codes "hosts") refl, (hosts, (IsUtf8-are_ascii (codes "split") refl, (split, (IsUtf8-are_ascii (codes "stages") refl, (stages, tt)))))),
          ),
        ),
      ),
    )
    (rw (arrays.reads, cells.reads, hosts.reads, split.reads, stages.reads) refl)

session_json : (plan : Plan) → IsTyped plan → AllByRecursion IsTypedActor plan.schedule → IsJson (data_of plan)
session_json plan typed actors =
    let clients = clients_json plan.clients typed.clients in
    let layout = map_json layout_row_data IsTypedLayoutRow row_json plan.layout typed.layout in
    let schedule = string_json (schedule_text plan.schedule) (schedule_utf8 plan.schedule actors) in
    let shape = shape_json plan.shape typed.shape in
    let tries = byte_json plan.tries typed.tries in
    let tuples = map_json tuple_row_data IsTypedRow tuple_row_json (entries plan.tuples) typed.tuples in
    object_json _ (
      IsUtf8-are_ascii (codes "clients") refl,
      (
        clients,
        (
          IsUtf8-are_ascii (codes "layout") refl,
          (
            layout,
            (
              IsUtf8-are_ascii (codes "schedule") refl,
              (
                schedule,
                (IsUtf8-are_ascii (codes "shape") refl, (shape, (IsUtf8-are_ascii (codes "tries") refl, (tries, (IsUtf8-are_ascii (codes "tuples") refl, (tuples, tt)))))),
              ),
            ),
          ),
        ),
      ),
    )
    (rw (clients.reads, layout.reads, shape.reads, tries.reads, tuples.reads) refl)

-- the canonical text of a session of a program is read as its value
pub canonical_json : (plan : Plan) → IsTyped plan → AllByRecursion IsTypedActor plan.schedule → json_of (canonical plan) ≡ Some (data_of plan)
unfolding canonical
canonical_json plan typed actors = compact_read (data_of plan) (session_json plan typed actors) (session_deep plan)

sound_actors : (plan : Plan) → IsSound plan → AllByRecursion IsTypedActor plan.schedule
sound_actors plan sound = actors_typed plan plan.schedule sound.limits (recursion_from_All (IsActor plan) plan.schedule sound.schedule)

-- so is that of a sound one
pub canonical_read : (plan : Plan) → IsSound plan → IsTyped plan → json_of (canonical plan) ≡ Some (data_of plan)
canonical_read plan sound typed = canonical_json plan typed (sound_actors plan sound)

pub text_line_read : (plan : Plan) → IsSound plan → IsTyped plan → json_of (text_line plan) ≡ Some (data_of plan)
unfolding canonical
text_line_read plan sound typed = line_read (data_of plan) (session_json plan typed (sound_actors plan sound)) (session_deep plan)
