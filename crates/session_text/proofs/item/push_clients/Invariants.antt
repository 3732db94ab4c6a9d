use Rattle.std.proofs.Common.{drop, nat_lt, string_bytes}
use Rattle.std.specs.List.{AllByRecursion}
use Rattle.session_text.specs.SessionData.{client_data}
use Rattle.session_text.specs.Typed.{IsTypedItem}
use Rattle.session_text.proofs.Loops.{IsWriting}
use Rattle.session_text.proofs.item.push_clients.Given as goal

abbrev pub invariant-loop-client : goal.invariant-loop-client
invariant-loop-client l =
    IsWriting client_data (AllByRecursion IsTypedItem) (string_bytes l.initial.text) (string_bytes l.text) (nat_lt 0 l.client) (drop l.client l.clients) l.clients
