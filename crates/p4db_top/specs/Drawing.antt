-- The actors of a run that are drawn.
use Rattle.std.specs.Prelude.{List}
use Rattle.catalogue.specs.Plan.{Plan}
use Rattle.catalogue.specs.declared.actor.Actor.{Actor}
use Rattle.schedule.specs.Dice.{seeded, words_of}
use Rattle.schedule.specs.Drawn.{drawn}
use Rattle.words_cli.specs.declared.command.Draws.{Draws}

-- as many actors of the session as are wanted, drawn from the words of the generator that the number seeds
abbrev pub drawn_by : Draws → Plan → List Actor
drawn_by draws session = drawn session draws.count (words_of (seeded draws.number))
