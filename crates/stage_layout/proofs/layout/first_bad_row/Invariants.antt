use Rattle.std.proofs.Common.{◌≡◌, ℕ, ◌<◌, false, get_or}
use Rattle.stage_layout.specs.Layout.{is_bad_row}
use Rattle.stage_layout.proofs.NoRow.{no_row}
use Rattle.stage_layout.proofs.layout.first_bad_row.Given as goal

-- no row so far is a bad one
abbrev pub invariant-loop-i : goal.invariant-loop-i
invariant-loop-i l = (k : ℕ) → k < l.i → is_bad_row l.shape l.tuples (get_or l.rows k no_row) ≡ false
