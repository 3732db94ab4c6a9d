use Rattle.std.proofs.Common.{◌≡◌, [], ◌++◌, take, drop}
use Rattle.std.specs.Option.{option_map}
use Rattle.gap_placement.specs.Changes.{changes_from}
use Rattle.gap_placement.proofs.change.add_changes.Given as goal

abbrev pub invariant-loop-i : goal.invariant-loop-i
invariant-loop-i l =
    option_map (λ changes. l.to.items ++ changes) (changes_from (take l.i l.pairs.items) (drop l.i l.packet.ops.items) (drop l.i l.pairs.items))
    ≡ option_map (λ changes. l.fn.to.items ++ changes) (changes_from [] l.packet.ops.items l.pairs.items)
