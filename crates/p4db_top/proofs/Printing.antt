-- What stands behind the note of a command that prints a text.
use Rattle.std.proofs.Common.{◌≡◌, ℕ, List, Option, inl, inr, subst}
use Rattle.catalogue.specs.Plan.{Plan}
use Rattle.session_reader.specs.declared.fault.SessionFault.{SessionFault}
use Rattle.p4db_top.specs.declared.note.Note.{Note}
use Rattle.p4db_top.specs.declared.note.Note.TheVariants.{Done, WriteFault, Session, NoMemory}
use Rattle.p4db_top.specs.Headline.{IsRead}
use Rattle.p4db_top.specs.Prints.{ExplainsPrint, Printed, Written}

module _ (IsOutput : Plan → List ℕ → Type 0) where
  pub printed_by : (note : Note) (text : List ℕ) (session : Plan) (before after : Option (List ℕ)) → IsOutput session text → Written note text before after → Printed IsOutput note session before after
  printed_by Done text session before after is h = (text, is, h)
  printed_by WriteFault text session before after is h = (text, is, h)
  printed_by NoMemory text session before after is h = inr (text, is, h)
  printed_by other text session before after is h = absurd h

  pub print_explained : (note : Note) (left rest before after : Option (List ℕ)) (session : Plan) → IsRead left rest session → Printed IsOutput note session before after → ExplainsPrint IsOutput note left rest before after
  print_explained Done left rest before after session read p = record { session = session; text = p.0; read = read; output = p.1; printed = p.2 }
  print_explained WriteFault left rest before after session read p = record { session = session; text = p.0; read = read; output = p.1; printed = p.2 }
  print_explained NoMemory left rest before after session read (inl same) = inl ((read.bytes, read.taken.within, read.taken.taken), same)
  print_explained NoMemory left rest before after session read (inr p) = inr (record { session = session; text = p.0; read = read; output = p.1; printed = p.2 })
  print_explained other left rest before after session read p = absurd p

  -- printing gives no fault of a text
  pub print_is_no_fault : (note : Note) (before after : Option (List ℕ)) (session : Plan) (fault : SessionFault) → Printed IsOutput note session before after → note ≡ Session fault → ⊥
  print_is_no_fault note before after session fault p is = subst (λ (n : Note). Printed IsOutput n session before after) is p
