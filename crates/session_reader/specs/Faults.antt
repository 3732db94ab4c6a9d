-- Faults of the parts of a session text as faults of the whole.
use Rattle.std.specs.Prelude.{Option, Some, None, Result, Ok, Err, ⊤}
use Rattle.stage_layout.specs.declared.layout.LayoutFault.{LayoutFault}
use Rattle.stage_layout.specs.declared.layout.LayoutFault.TheVariants as layout
use Rattle.session_draft.specs.declared.read.DraftFault.{DraftFault}
use Rattle.session_draft.specs.declared.read.DraftFault.TheVariants as draft
use Rattle.session_reader.specs.declared.fault.SessionFault.{SessionFault}
use Rattle.session_reader.specs.declared.fault.SessionFault.TheVariants.{NotJson, BadShape, BadPlace, PlaceTwice, NoMemory}

-- a text that is no draft
abbrev pub draft_fault : DraftFault → SessionFault
draft_fault draft.NotJson = NotJson
draft_fault (draft.BadShape section) = BadShape section
draft_fault draft.NoMemory = NoMemory

-- a row of the layout
abbrev pub place_fault : LayoutFault → SessionFault
place_fault (layout.BadPlace row) = BadPlace row
place_fault (layout.PlaceTwice row) = PlaceTwice row
place_fault layout.NoMemory = NoMemory

-- what was found is a fault of this kind
abbrev pub refuse : {A : Type 0} → (A → SessionFault) → Option A → Result ⊤ SessionFault
refuse fault None = Ok tt
refuse fault (Some at) = Err (fault at)

-- the result with each fault read as another
abbrev pub faults_as : {A E F : Type 0} → (E → F) → Result A E → Result A F
faults_as f (Ok a) = Ok a
faults_as f (Err e) = Err (f e)
