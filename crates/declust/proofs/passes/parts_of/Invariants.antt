use Rattle.std.proofs.Common.{take}
use Rattle.stage_layout.specs.Late.{parts_of}
use Rattle.warm_split.specs.Parts.{AreSets}
use Rattle.declust.proofs.passes.parts_of.Given as goal

-- the operations so far are in their parts
abbrev pub invariant-loop-i : goal.invariant-loop-i
invariant-loop-i l = AreSets (parts_of l.layout (take l.i l.ops)) l.parts
