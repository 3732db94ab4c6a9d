use Rattle.std.proofs.Common.{◌≡◌, ℕ, ◌<◌, false, [], get_or, take}
use Rattle.txn_model.specs.declared.op.Act.TheVariants.{Read}
use Rattle.txn_model.specs.Needs.{needs_of}
use Rattle.txn_model.specs.declared.op.Op.{Op}
use Rattle.stage_layout.specs.Late.{parts_of, turns_badly}
use Rattle.warm_split.specs.Parts.{AreSets}
use Rattle.warm_split.proofs.parts.split_ops.Given as goal

abbrev pub no_op : Op
no_op = record { tuple = record { 0 = 0 }; act = Read; needs = needs_of [] }

-- the operations so far are in their parts, and none of them turns badly
abbrev pub invariant-loop-i : goal.invariant-loop-i
invariant-loop-i l = record {
  sets : AreSets (parts_of l.layout (take l.i l.ops)) l.parts;
  turns : (k : ℕ) → k < l.i → turns_badly l.layout (parts_of l.layout (take k l.ops)) (get_or l.ops k no_op) ≡ false;
}
