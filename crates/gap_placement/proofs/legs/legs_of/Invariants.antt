use Rattle.std.proofs.Common.{◌≡◌, ◌+◌, ◌++◌, [], drop, map}
use Rattle.std.specs.Option.{option_map}
use Rattle.switch_packet.specs.Packets.{plain_log}
use Rattle.gap_placement.specs.Legs.{plain_leg, legs_from}
use Rattle.gap_placement.specs.Spots.{task_of}
use Rattle.gap_placement.proofs.legs.legs_of.Given as goal

abbrev pub invariant-loop-i : goal.invariant-loop-i
invariant-loop-i l =
    option_map (λ later. map plain_leg l.legs.items ++ later) (legs_from l.free l.changes.items (l.i + 1) (map (option_map (task_of (map plain_log l.views))) (drop l.i l.slots)))
    ≡ legs_from 0 [] 1 (map (option_map (task_of (map plain_log l.views))) l.slots)
