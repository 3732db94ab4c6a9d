use Rattle.std.proofs.Common.{◌≡◌, map, drop, length, nat_le, sum_by}
use Rattle.session_draft.specs.Written.{written_items}
use Rattle.session_reader.proofs.limits.items_fit.Given as goal

-- the items that are left fit into the room that is left where all fit
abbrev pub invariant-loop-items : goal.invariant-loop-items
invariant-loop-items l = nat_le (sum_by length (map written_items (drop l.items-index l.clients))) l.room ≡ nat_le (sum_by length (map written_items l.clients)) 4096
