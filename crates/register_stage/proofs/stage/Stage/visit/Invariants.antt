use Rattle.std.proofs.Common.{◌≡◌}
use Rattle.register_stage.proofs.Steps.{IsWalked}
use Rattle.register_stage.proofs.stage.Stage.visit.Given as goal

abbrev pub invariant-loop-i : goal.invariant-loop-i
invariant-loop-i l = record {
  walked : IsWalked l.packet.ops.items l.pass l.initial.self l.initial.pairs.items l.i l.self l.pairs.items;
  spare : l.pairs.spare ≡ l.initial.pairs.spare;
}
