-- Laws of placements.
use Rattle.std.specs.Prelude.{◌≡◌, List, None, Some}
use Rattle.std.specs.List.{AllByRecursion}
use Rattle.txn_model.specs.Places.{Places}
use Rattle.switch_packet.specs.Packets.{PlainLog}
use Rattle.placement_model.specs.FirstOrder.{first_order}
use Rattle.placement_model.specs.Placements.{Task, IsPlacement, IsFirstPlacement, IsAnsweredButOne}

-- each client has at most one intent without an outcome
abbrev pub AreAnsweredButOne : List PlainLog → Type 0
AreAnsweredButOne logs = AllByRecursion IsAnsweredButOne logs

-- the first order is the first placement
abbrev pub FirstOrderIsFirst : Type 0
FirstOrderIsFirst = (logs : List PlainLog) (first : Places) (order : List Task) → AreAnsweredButOne logs → first_order logs first ≡ Some order → IsFirstPlacement logs first order

-- where there is none, there is no placement
abbrev pub NoOrderIsNoPlacement : Type 0
NoOrderIsNoPlacement = (logs : List PlainLog) (first : Places) (order : List Task) → AreAnsweredButOne logs → first_order logs first ≡ None → IsPlacement logs first order → ⊥
