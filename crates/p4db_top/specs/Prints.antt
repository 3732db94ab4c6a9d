-- What stands behind each note of a command that prints a text of a session and runs nothing. The text is one that the command's
-- relation allows for the session.
use Rattle.std.specs.Prelude.{◌≡◌, ◌⊎◌, ℕ, List, Option}
use Rattle.std.specs.Io.KnownBytes.{Appends}
use Rattle.catalogue.specs.Plan.{Plan}
use Rattle.hot_set.specs.Hottest.{IsHotList}
use Rattle.hot_set.specs.declared.ranking.HotRow.{HotRow}
use Rattle.list_text.specs.HotText.{hot_text}
use Rattle.port_io.specs.ReadAll.{TakesWithin, TakesBeyond}
use Rattle.port_io.specs.WriteAll.{AppendsFront}
use Rattle.p4db_top.specs.Headline.{most_input, IsRead, Refuses}
use Rattle.p4db_top.specs.declared.note.Note.{Note}
use Rattle.p4db_top.specs.declared.note.Note.TheVariants.{Done, ReadFault, InputTooLong, WriteFault, Session, NoMemory}

-- a session was read, and exactly a text of it was written
pub record Prints (IsOutput : Plan → List ℕ → Type 0) (left rest before after : Option (List ℕ)) : Type 0 where
  pub session : Plan
  pub text : List ℕ
  -- all that was left in the source is the text of this session
  pub read : IsRead left rest session
  pub output : IsOutput session text
  pub printed : Appends before after text

-- a session was read, and a front of a text of it was written
pub record PrintsFront (IsOutput : Plan → List ℕ → Type 0) (left rest before after : Option (List ℕ)) : Type 0 where
  pub session : Plan
  pub text : List ℕ
  pub read : IsRead left rest session
  pub output : IsOutput session text
  pub printed : AppendsFront before after text

abbrev pub ExplainsPrint : (Plan → List ℕ → Type 0) → Note → (left rest before after : Option (List ℕ)) → Type 0
ExplainsPrint IsOutput Done left rest before after = Prints IsOutput left rest before after
ExplainsPrint IsOutput ReadFault left rest before after = TakesWithin most_input left rest × (after ≡ before)
ExplainsPrint IsOutput InputTooLong left rest before after = TakesBeyond most_input left rest × (after ≡ before)
ExplainsPrint IsOutput WriteFault left rest before after = PrintsFront IsOutput left rest before after
ExplainsPrint IsOutput (Session fault) left rest before after = Refuses left rest fault × (after ≡ before)
ExplainsPrint IsOutput NoMemory left rest before after = (TakesWithin most_input left rest × (after ≡ before)) ⊎ PrintsFront IsOutput left rest before after
ExplainsPrint IsOutput other left rest before after = ⊥

-- what stands behind each note of printing a text
abbrev pub Written : Note → List ℕ → (before after : Option (List ℕ)) → Type 0
Written Done text before after = Appends before after text
Written WriteFault text before after = AppendsFront before after text
Written NoMemory text before after = AppendsFront before after text
Written other text before after = ⊥

-- what stands behind each note of printing a text of a session that was read
abbrev pub Printed : (Plan → List ℕ → Type 0) → Note → Plan → (before after : Option (List ℕ)) → Type 0
Printed IsOutput Done session before after = (text : List ℕ) × IsOutput session text × Appends before after text
Printed IsOutput WriteFault session before after = (text : List ℕ) × IsOutput session text × AppendsFront before after text
Printed IsOutput NoMemory session before after = (after ≡ before) ⊎ ((text : List ℕ) × IsOutput session text × AppendsFront before after text)
Printed IsOutput other session before after = ⊥

-- the text of the k most used tuples of a session
pub record IsHotText (k : ℕ) (session : Plan) (text : List ℕ) : Type 0 where
  pub rows : List HotRow
  pub list : IsHotList session k rows
  pub is : text ≡ hot_text rows
