use Rattle.std.proofs.Common.{◌≡◌, ◌≤◌, ◌<◌, ◌-◌, ◌^◌, length}
use Rattle.std.specs.List.{All}
use Rattle.catalogue.specs.Items.{plain_lists}
use Rattle.schedule.specs.Dice.{seeded, words_of}
use Rattle.load_base.specs.Load.{run_drawn, drawn_clients, IsFitItemFor}
use Rattle.load_base.specs.Times.{times}
use Rattle.load_base.proofs.TimesLaws.{going_on}
use Rattle.load_base.proofs.session.drawn_clients.Given as goal

abbrev pub invariant-loop : goal.invariant-loop
invariant-loop g l = record {
  end : l.end ≡ (g.L.Load.size l.load).clients;
  bound : l.counter ≤ l.end;
  len : length l.clients.items ≡ l.counter;
  rest : going_on (times (run_drawn (g.L.Load.script l.load)) (g.L.Load.size l.load).scripts) (plain_lists l.clients.items) (l.end - l.counter) (words_of l.dice) ≡ drawn_clients (g.L.Load.size l.load) (g.L.Load.script l.load) (words_of (seeded (g.L.Load.size l.load).number));
  fit : All (All (IsFitItemFor (g.L.Load.size l.load))) (plain_lists l.clients.items);
  short : All (λ list. length list.items < 2 ^ 32) l.clients.items;
}
