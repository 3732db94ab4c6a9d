use Rattle.std.proofs.Common.{◌≡◌, ◌+◌, length, map, take}
use Rattle.std.specs.List.{zip}
use Rattle.stage_layout.specs.Late.{parts_of}
use Rattle.warm_split.specs.Resolved.{packet_op}
use Rattle.warm_split.specs.Sides.{hot_ops}
use Rattle.warm_split.proofs.packets.push_ops.Given as goal

-- the packet's operations so far
abbrev pub invariant-loop-i : goal.invariant-loop-i
invariant-loop-i l = record {
  ops : l.to.items ≡ map (λ step. packet_op l.layout (parts_of l.layout l.script.items) l.pairs.items step.0 step.1) (zip l.plan.passes (hot_ops l.layout (take l.i l.script.items)));
  room : length l.to.items + l.to.spare ≡ l.fn.to.spare;
}
