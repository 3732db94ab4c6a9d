-- The words of a schedule, and the actors of those that were read so far.
use Rattle.std.proofs.Common.{◌≡◌, ℕ, ◌==◌, false, List, ◌++◌, length, Result, Ok, Err, refl}
use Rattle.std.specs.List.{slice_split}
use Rattle.catalogue.specs.declared.actor.Actor.{Actor}
use Rattle.session_reader.specs.SessionOf.{words_of}
use Rattle.session_reader.specs.declared.fault.SessionFault.{SessionFault}

-- the actors in front of those of the other words
abbrev pub with_front : List Actor → Result (List Actor) SessionFault → Result (List Actor) SessionFault
with_front front (Ok actors) = Ok (front ++ actors)
with_front front (Err fault) = Err fault

pub words_of-some : (text : List ℕ) → (length text == 0) ≡ false → words_of text ≡ slice_split (λ b. b == 32) text
words_of-some text e = rw e refl
