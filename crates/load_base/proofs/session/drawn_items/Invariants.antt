use Rattle.std.proofs.Common.{◌≡◌, ◌≤◌, ◌-◌, length}
use Rattle.std.specs.List.{All}
use Rattle.catalogue.specs.Items.{plain_items}
use Rattle.schedule.specs.Dice.{words_of}
use Rattle.load_base.specs.Load.{run_drawn, IsFitItemFor}
use Rattle.load_base.specs.Times.{times}
use Rattle.load_base.proofs.TimesLaws.{going_on}
use Rattle.load_base.proofs.session.drawn_items.Given as goal

abbrev pub invariant-loop : goal.invariant-loop
invariant-loop g l = record {
  bound : l.counter ≤ l.scripts;
  len : length l.items.items ≡ l.counter;
  rest : going_on (run_drawn (g.L.Load.script l.load)) (plain_items l.items.items) (l.scripts - l.counter) (words_of l.dice) ≡ times (run_drawn (g.L.Load.script l.load)) l.scripts (words_of l.fn.dice);
  fit : All (IsFitItemFor (g.L.Load.size l.load)) (plain_items l.items.items);
}
