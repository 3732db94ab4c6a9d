use Rattle.std.proofs.Common.{◌<◌, ℕ, get_or, None, map}
use Rattle.switch_packet.specs.Packets.{plain_log}
use Rattle.gap_placement.specs.Facts.{IfThere}
use Rattle.gap_placement.specs.Near.{AreIn}
use Rattle.gap_placement.specs.Spots.{task_of}
use Rattle.gap_placement.proofs.near.near_registers.Given as goal

abbrev pub invariant-loop-i : goal.invariant-loop-i
invariant-loop-i l = (k : ℕ) → k < l.i → IfThere (λ spot. AreIn l.places (task_of (map plain_log l.views) spot).intent.packet.ops) (get_or l.standing k None)
