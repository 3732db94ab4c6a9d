-- Generated sessions: what is drawn of one that is run, what is written of one, and what stands behind each note of these commands.
use Rattle.std.specs.Prelude.{◌≡◌, ◌⊎◌, ℕ, ◌*◌, List, Option, Ok}
use Rattle.std.specs.Io.KnownBytes.{Appends}
use Rattle.catalogue.specs.Plan.{Plan}
use Rattle.fabric_core.specs.Racks.{Rack}
use Rattle.port_io.specs.WriteAll.{AppendsFront}
use Rattle.session_reader.specs.SessionOf.{session_of}
use Rattle.session_text.specs.Canonical.{text_line}
use Rattle.smallbank.specs.Bank.{bank_load}
use Rattle.ycsb.specs.Ycsb.{ycsb_load}
use Rattle.words_cli.specs.declared.command.Draws.{Draws}
use Rattle.words_cli.specs.declared.command.Work.{Work}
use Rattle.words_cli.specs.declared.command.Work.TheVariants.{SmallBank, Ycsb}
use Rattle.p4db_top.specs.declared.note.Note.{Note}
use Rattle.p4db_top.specs.declared.note.Note.TheVariants.{Done, WriteFault, LogChanged, NoMemory}
use Rattle.p4db_top.specs.declared.output.Output.TheVariants.{Summary}
use Rattle.p4db_top.specs.Drawing.{drawn_by}
use Rattle.p4db_top.specs.Headline.{ExplainsRun}
use Rattle.p4db_top.specs.Order.{Way, Driven}

-- the session that is generated
abbrev pub load_plan : Work → Plan
load_plan (SmallBank plan) = bank_load plan
load_plan (Ycsb plan) = ycsb_load plan

-- the session is the generated one
abbrev pub IsLoad : Work → Plan → Type 0
IsLoad work session = session ≡ load_plan work

-- what the actors of its run are drawn from: sixteen for each of its items, and the number that its scripts are drawn from
abbrev pub load_draws : Work → Draws
load_draws (SmallBank plan) = record { count = 16 * (plan.clients * plan.scripts); number = plan.number }
load_draws (Ycsb plan) = record { count = 16 * (plan.clients * plan.scripts); number = plan.number }

-- so its run takes its turns
abbrev pub load_way : Work → Way
load_way work = Driven (drawn_by (load_draws work))

-- ---- `gen`

-- What stands behind status 0 of `gen`.
pub record Generates (work : Work) (before after : Option (List ℕ)) : Type 0 where
  -- exactly the canonical text of the generated session and a newline were written
  pub printed : Appends before after (text_line (load_plan work))
  -- and that is read as this session
  pub reads_back : session_of (text_line (load_plan work)) ≡ Ok (load_plan work)

abbrev pub ExplainsGen : Work → Note → (before after : Option (List ℕ)) → Type 0
ExplainsGen work Done before after = Generates work before after
ExplainsGen work WriteFault before after = AppendsFront before after (text_line (load_plan work))
ExplainsGen work NoMemory before after = (after ≡ before) ⊎ AppendsFront before after (text_line (load_plan work))
ExplainsGen work other before after = ⊥

-- ---- `drive`

-- No log is ever found changed: no item of the session loses the switch.
abbrev pub ExplainsDrive : Work → Note → (before after : Option (List ℕ)) → (old new : Rack) → Type 0
ExplainsDrive work (LogChanged c at) before after old new = ⊥
ExplainsDrive work NoMemory before after old new = ((after ≡ before) × (new ≡ old)) ⊎ ExplainsRun (load_way work) (IsLoad work) Summary NoMemory before after old new
ExplainsDrive work note before after old new = ExplainsRun (load_way work) (IsLoad work) Summary note before after old new
