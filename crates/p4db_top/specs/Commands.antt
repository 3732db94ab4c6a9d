-- What stands behind each note of the program, by the command that its words are.
use Rattle.std.specs.Prelude.{◌≡◌, ◌⊎◌, ℕ, true, List, Option, Some, None, IsTrue}
use Rattle.port_io.specs.Cause.{Rose}
use Rattle.catalogue.specs.Plan.{Plan}
use Rattle.catalogue.specs.declared.actor.Actor.{Actor}
use Rattle.fabric_model.specs.Driven.{has_no_loss}
use Rattle.fabric_core.specs.Racks.{Rack}
use Rattle.words_cli.specs.declared.command.Command.{Command}
use Rattle.words_cli.specs.declared.command.Command.TheVariants.{Run, Race, Recover, Hot, Layout, Gen, Drive}
use Rattle.words_cli.specs.declared.command.Draws.{Draws}
use Rattle.p4db_top.specs.declared.note.Note.{Note}
use Rattle.p4db_top.specs.declared.note.Note.TheVariants.{Usage, NoMemory}
use Rattle.p4db_top.specs.Drawing.{drawn_by}
use Rattle.p4db_top.specs.declared.output.Output.TheVariants.{Report, Summary}
use Rattle.p4db_top.specs.Headline.{Explains, Headline, IsRead}
use Rattle.p4db_top.specs.Layouts.{IsLayoutText}
use Rattle.p4db_top.specs.Loads.{ExplainsDrive, ExplainsGen, Generates, IsLoad, load_way}
use Rattle.p4db_top.specs.Order.{Driven, Raced, scheduled}
use Rattle.p4db_top.specs.Prints.{ExplainsPrint, IsHotText, Prints}
use Rattle.p4db_top.specs.Recovering.{CanRecover, ExplainsRecovery, PrintsRecovered}

-- the actors that `run` takes first: those of the schedule, or so many drawn ones
abbrev pub listed_by : Option Draws → Plan → List Actor
listed_by None session = scheduled session
listed_by (Some draws) session = drawn_by draws session

-- what status 0 says
abbrev pub Promises : Command → (left rest before after : Option (List ℕ)) → (old new : Rack) → Type 0
Promises (Run draws) left rest before after old new = Headline (Driven (listed_by draws)) (IsRead left rest) Report before after old new
Promises (Race threads) left rest before after old new = Headline Raced (IsRead left rest) Report before after old new
Promises Recover left rest before after old new = PrintsRecovered left rest before after old
Promises (Hot k) left rest before after old new = Prints (IsHotText k) left rest before after
Promises (Layout k) left rest before after old new = Prints (IsLayoutText k) left rest before after
Promises (Gen work) left rest before after old new = Generates work before after
Promises (Drive work) left rest before after old new = Headline (load_way work) (IsLoad work) Summary before after old new

-- what each note says, where this is the command
abbrev pub ExplainsBy : Command → Note → (left rest before after : Option (List ℕ)) → (old new : Rack) → Type 0
ExplainsBy (Run draws) note left rest before after old new = Explains (Driven (listed_by draws)) note left rest before after old new
ExplainsBy (Race threads) note left rest before after old new = Explains Raced note left rest before after old new
ExplainsBy Recover note left rest before after old new = ExplainsRecovery note left rest before after old new
ExplainsBy (Hot k) note left rest before after old new = ExplainsPrint (IsHotText k) note left rest before after
ExplainsBy (Layout k) note left rest before after old new = ExplainsPrint (IsLayoutText k) note left rest before after
ExplainsBy (Gen work) note left rest before after old new = ExplainsGen work note before after
ExplainsBy (Drive work) note left rest before after old new = ExplainsDrive work note before after old new

-- what each note says; words that are no command are refused
abbrev pub ExplainsWords : Option Command → Note → (left rest before after : Option (List ℕ)) → (old new : Rack) → Type 0
ExplainsWords None note left rest before after old new = (note ≡ Usage) ⊎ (note ≡ NoMemory)
ExplainsWords (Some command) note left rest before after old new = ExplainsBy command note left rest before after old new

-- A session runs to its end where no log failed, and its logs keep what is written, or none of its items loses the switch.
abbrev pub CanRun : Plan → (old new : Rack) → Type 0
CanRun session old new = (Rose old.faults new.faults → ⊥) × (IsTrue old.keeps ⊎ (has_no_loss session ≡ true))

-- where the command owes status 0 or want of memory of a session that it reads
abbrev pub CanDo : Command → Plan → (old new : Rack) → Type 0
CanDo (Run draws) session old new = CanRun session old new
CanDo (Race threads) session old new = CanRun session old new
CanDo Recover session old new = (Rose old.faults new.faults → ⊥) × CanRecover session old
CanDo (Hot k) session old new = Unit {0}
CanDo (Layout k) session old new = Unit {0}
CanDo (Gen work) session old new = ⊥
CanDo (Drive work) session old new = ⊥

-- where a command that generates its session owes them: no log failed
abbrev pub CanGenerate : Command → (old new : Rack) → Type 0
CanGenerate (Gen work) old new = Unit {0}
CanGenerate (Drive work) old new = Rose old.faults new.faults → ⊥
CanGenerate other old new = ⊥

-- the command touches logs, and be it to read them
abbrev pub TouchesLogs : Command → Type 0
TouchesLogs (Run draws) = Unit {0}
TouchesLogs (Race threads) = Unit {0}
TouchesLogs Recover = Unit {0}
TouchesLogs (Hot k) = ⊥
TouchesLogs (Layout k) = ⊥
TouchesLogs (Gen work) = ⊥
TouchesLogs (Drive work) = Unit {0}

-- the command generates its session, and doesn't read one
abbrev pub ReadsNothing : Command → Type 0
ReadsNothing (Gen work) = Unit {0}
ReadsNothing (Drive work) = Unit {0}
ReadsNothing other = ⊥

-- the command is one whose threads wait for each other
abbrev pub IsRace : Command → Type 0
IsRace (Race threads) = Unit {0}
IsRace other = ⊥
