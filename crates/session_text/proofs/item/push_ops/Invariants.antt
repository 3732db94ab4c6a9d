use Rattle.std.proofs.Common.{drop, string_bytes}
use Rattle.session_text.specs.SessionData.{op_data}
use Rattle.session_text.specs.Typed.{IsTypedOp}
use Rattle.session_text.proofs.Loops.{IsWriting}
use Rattle.session_text.proofs.item.push_ops.Given as goal

abbrev pub invariant-loop-op : goal.invariant-loop-op
invariant-loop-op l = IsWriting op_data IsTypedOp (string_bytes l.initial.text) (string_bytes l.text) l.later (drop l.op-index l.ops) l.ops
