use Rattle.std.proofs.Common.{drop, nat_lt, string_bytes}
use Rattle.txn_model.specs.Needs.{needs_list}
use Rattle.session_text.specs.SessionData.{need_data}
use Rattle.session_text.specs.Typed.{IsTypedNeed}
use Rattle.session_text.proofs.Loops.{IsWriting}
use Rattle.session_text.proofs.item.push_needs.Given as goal

abbrev pub invariant-loop-i : goal.invariant-loop-i
invariant-loop-i l =
    IsWriting need_data IsTypedNeed (string_bytes l.initial.text) (string_bytes l.text) (nat_lt 0 l.i) (drop l.i (needs_list l.needs)) (needs_list l.needs)
