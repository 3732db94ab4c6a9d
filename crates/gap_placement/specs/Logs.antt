-- What is asked of logs whose placement is sought.
use Rattle.std.specs.Prelude.{List, IsSome}
use Rattle.std.specs.FinMap as fin
use Rattle.std.specs.List.{AllByRecursion}
use Rattle.txn_model.specs.Places.{Places}
use Rattle.switch_packet.specs.Packets.{PlainIntent, PlainLog}
use Rattle.switch_packet.specs.Ranges.{Fits}
use Rattle.placement_model.specs.Placements.{IsAnsweredButOne}

-- at most the last intent has no outcome, and the packets have their fields in their ranges, as in each log that is read
pub record IsReadable (log : PlainLog) : Type 0 where
  pub but_one : IsAnsweredButOne log
  pub packets : AllByRecursion (λ i. Fits i.packet) log.intents

abbrev pub AreReadable : List PlainLog → Type 0
AreReadable logs = AllByRecursion IsReadable logs

-- the places of the intent's packet are in the map
abbrev pub HasItsPlaces : Places → PlainIntent → Type 0
HasItsPlaces m i = AllByRecursion (λ op. IsSome (fin.get m op.place)) i.packet.ops

-- so are those of all packets of the logs
abbrev pub HaveTheirPlaces : Places → List PlainLog → Type 0
HaveTheirPlaces m logs = AllByRecursion (λ log. AllByRecursion (HasItsPlaces m) log.intents) logs
