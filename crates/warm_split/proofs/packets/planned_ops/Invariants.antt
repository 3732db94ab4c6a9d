use Rattle.std.proofs.Common.{◌≡◌, ◌≤◌, length, map, take}
use Rattle.stage_layout.specs.Late.{parts_of}
use Rattle.warm_split.specs.Resolved.{planned_op}
use Rattle.warm_split.specs.Sides.{hot_ops}
use Rattle.warm_split.proofs.packets.planned_ops.Given as goal

-- the hot operations so far
abbrev pub invariant-loop-i : goal.invariant-loop-i
invariant-loop-i l = record {
  size : length l.ops ≡ 16;
  few : l.count ≤ l.i;
  ops : take l.count l.ops ≡ map (planned_op l.layout (parts_of l.layout l.script.items)) (hot_ops l.layout (take l.i l.script.items));
}
