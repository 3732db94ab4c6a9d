-- The ranges of a command's numbers.
use Rattle.std.specs.Prelude.{◌≤◌, Some, None}
use Rattle.catalogue.specs.LoadPlans.{IsBankPlan, IsYcsbPlan}
use Rattle.words_cli.specs.Table.{most_draws, most_threads, most_tuples}
use Rattle.words_cli.specs.declared.command.Command.{Command}
use Rattle.words_cli.specs.declared.command.Command.TheVariants.{Run, Race, Recover, Hot, Layout, Gen, Drive}
use Rattle.words_cli.specs.declared.command.Work.{Work}
use Rattle.words_cli.specs.declared.command.Work.TheVariants.{SmallBank, Ycsb}

abbrev pub IsWork : Work → Type 0
IsWork (SmallBank plan) = IsBankPlan plan
IsWork (Ycsb plan) = IsYcsbPlan plan

abbrev pub InRange : Command → Type 0
InRange (Run None) = Unit {0}
InRange (Run (Some draws)) = draws.count ≤ most_draws
InRange (Race threads) = (1 ≤ threads) × (threads ≤ most_threads)
InRange Recover = Unit {0}
InRange (Hot k) = k ≤ most_tuples
InRange (Layout k) = k ≤ most_tuples
InRange (Gen work) = IsWork work
InRange (Drive work) = IsWork work
