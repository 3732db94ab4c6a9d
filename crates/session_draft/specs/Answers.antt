-- What a call answers, beside a definition of it.
use Rattle.std.specs.Prelude.{◌≡◌, ◌≢◌, Option, Some, None, Result, Ok, Err}
use Rattle.session_draft.specs.declared.data.Misread.{Misread}
use Rattle.session_draft.specs.declared.data.Misread.TheVariants.{Misfit, NoMemory}

-- the call answers what is defined; where it ends for want of memory nothing is said
abbrev pub Answers : {A B E : Type 0} → E → (A → B) → Result A E → Result B E → Type 0
Answers no_memory view (Ok x) defined = defined ≡ Ok (view x)
Answers no_memory view (Err e) defined = e ≢ no_memory → defined ≡ Err e

-- the same of a part of a text
abbrev pub Gives : {A B : Type 0} → (A → B) → Result A Misread → Option B → Type 0
Gives view (Ok x) defined = defined ≡ Some (view x)
Gives view (Err Misfit) defined = defined ≡ None
Gives view (Err NoMemory) defined = Unit {0}
