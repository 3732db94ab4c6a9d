-- When a script can be run: 1 to 16 operations, no tuple named twice, needs of earlier operations alone.
use Rattle.std.specs.Prelude.{ℕ, ◌||◌, ◌==◌, Bool, true, false, not, List, take, length, position, nat_lt, Option, Some, None, if◌then◌else◌}
use Rattle.std.specs.List.{list_any, enumerate_from}
use Rattle.txn_model.specs.Needs.{needs_list}
use Rattle.txn_model.specs.declared.op.Act.{Act}
use Rattle.txn_model.specs.declared.op.Act.TheVariants.{Read, Put, Add, Choose}
use Rattle.txn_model.specs.declared.op.TupleId.{TupleId}
use Rattle.txn_model.specs.declared.op.Op.{Op}
use Rattle.txn_model.specs.declared.script.ScriptFault.{ScriptFault}
use Rattle.txn_model.specs.declared.script.ScriptFault.TheVariants.{Empty, TooLong, TupleTwice, BadUse}

-- one of the operations names the tuple
abbrev pub names : List Op → TupleId → Bool
names ops t = list_any (λ op. op.tuple.0 == t.0) ops

-- the first place at which the tuple of an earlier operation is named again
abbrev pub first_repeat : List Op → Option ℕ
first_repeat ops = position (λ at. names (take at.0 ops) at.1.tuple) (enumerate_from 0 ops)

abbrev pub is_read : Act → Bool
is_read Read = true
is_read (Put base) = false
is_read (Add base) = false
is_read (Choose limit above below) = false

-- operation k needs one that isn't earlier, or is a read with a need
abbrev pub uses_badly : ℕ → Op → Bool
uses_badly k op = list_any (λ n. is_read op.act || not (nat_lt n.from k)) (needs_list op.needs)

-- the first place at which an operation has a bad use
abbrev pub first_bad_use : List Op → Option ℕ
first_bad_use ops = position (λ at. uses_badly at.0 at.1) (enumerate_from 0 ops)

abbrev pub first_of : Option ℕ → (ℕ → ScriptFault) → Option ScriptFault → Option ScriptFault
first_of None fault other = other
first_of (Some k) fault other = Some (fault k)

-- what is wrong with a script, the first in this order
unfoldable pub script_fault : List Op → Option ScriptFault
script_fault ops =
    if length ops == 0 then Some Empty else
    (if nat_lt 16 (length ops) then Some (TooLong (length ops)) else
    first_of (first_repeat ops) TupleTwice (first_of (first_bad_use ops) BadUse None))
