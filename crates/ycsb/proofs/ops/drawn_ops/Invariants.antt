use Rattle.std.proofs.Common.{◌≡◌, ◌≤◌, ◌-◌}
use Rattle.schedule.specs.Dice.{words_of}
use Rattle.ycsb.specs.Ycsb.{drawn_ops, ycsb_script}
use Rattle.ycsb.proofs.ops.drawn_ops.Given as goal

abbrev pub invariant-loop : goal.invariant-loop
invariant-loop l = record {
  end : l.end ≡ l.plan.ops;
  bound : l.counter ≤ l.end;
  rest : drawn_ops l.plan (l.end - l.counter) l.ops.items (words_of l.dice) ≡ ycsb_script l.plan (words_of l.fn.dice);
}
