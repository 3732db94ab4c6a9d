use Rattle.std.proofs.Common.{◌≡◌, take}
use Rattle.declust.specs.Plain.{plain_rows, tuples_of}
use Rattle.declust.proofs.plain.plain_rows.Given as goal

-- the rows so far
abbrev pub invariant-loop-i : goal.invariant-loop-i
invariant-loop-i l = l.rows.items ≡ plain_rows l.shape (tuples_of (take l.i l.hot))
