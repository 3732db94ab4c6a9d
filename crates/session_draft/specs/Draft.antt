-- The draft that a session text is, or the first section that isn't as the grammar says.
use Rattle.std.specs.Prelude.{ℕ, List, codes, if◌then◌else◌, Option, Result, Ok, Err, ⊤}
use Rattle.std.specs.Option.{ok_or}
use Rattle.serde_json.specs.Data.{Data}
use Rattle.serde_json.specs.Find.{get, as_str}
use Rattle.session_draft.specs.Json as json
use Rattle.session_draft.specs.Sections.{is_session, shape_of, tuples_of, layout_of, clients_of}
use Rattle.session_draft.specs.Written.{Written}
use Rattle.session_draft.specs.declared.data.Misread.{Misread}
use Rattle.session_draft.specs.declared.data.Misread.TheVariants.{Misfit, NoMemory}
use Rattle.session_draft.specs.declared.read.DraftFault.{DraftFault}
use Rattle.session_draft.specs.declared.read.DraftFault.TheVariants.{NotJson, BadShape}
use Rattle.session_draft.specs.declared.read.Section.{Section}
use Rattle.session_draft.specs.declared.read.Section.TheVariants.{Whole, Shape, Tuples, Layout, Tries, Clients, Schedule}

-- the first fault is the whole one's
infixl 10 ◌>>=◌
abbrev pub ◌>>=◌ : {A B E : Type 0} → Result A E → (A → Result B E) → Result B E
Ok x >>= f = f x
Err e >>= f = Err e

abbrev pub section_fault : Section → Misread → DraftFault
section_fault name Misfit = BadShape name
section_fault name NoMemory = DraftFault.NoMemory

-- what stands at a key, read by its part of the grammar; a fault of this section where it isn't there or isn't so
abbrev pub section : {A : Type 0} → Section → List ℕ → (Data → Option A) → Data → Result A DraftFault
section name key reads d = ok_or (json.◌>>=◌ (get key d) reads) (BadShape name)

-- an object with no other keys than the six
abbrev pub whole : Data → Result ⊤ DraftFault
whole d = if is_session d then Ok tt else Err (BadShape Whole)

-- the draft that a JSON value is
unfoldable pub draft_of : Data → Result Written DraftFault
draft_of d = do
  _ ← whole d
  shape ← section Shape (codes "shape") shape_of d
  tuples ← section Tuples (codes "tuples") tuples_of d
  layout ← section Layout (codes "layout") layout_of d
  tries ← section Tries (codes "tries") (json.number_to 255) d
  clients ← section Clients (codes "clients") clients_of d
  schedule ← section Schedule (codes "schedule") as_str d
  Ok (record { shape = shape; tuples = tuples; layout = layout; tries = tries; clients = clients; schedule = schedule })

-- the draft that these bytes are
abbrev pub draft_of_bytes : List ℕ → Result Written DraftFault
draft_of_bytes bytes = do
  d ← ok_or (json.json_of bytes) NotJson
  draft_of d
