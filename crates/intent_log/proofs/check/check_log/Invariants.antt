use Rattle.std.proofs.Common.{◌≡◌, map, vec_capacity}
use Rattle.std.specs.Prelude.{IsTrue}
use Rattle.port_io.specs.LogRack.{AllStay}
use Rattle.switch_packet.specs.Packets.{plain_intent, plain_outcome}
use Rattle.intent_log.specs.Ahead.{IsPieceOf}
use Rattle.intent_log.proofs.TextLaws.{HasCompared}
use Rattle.intent_log.proofs.check.check_log.Given as goal

abbrev pub invariant-loop-k : goal.invariant-loop-k
invariant-loop-k g l = record {
  compared : HasCompared (g.L.LogRack.told l.initial.rack l.client) (map plain_intent l.want.intents.items) (map plain_outcome l.want.outcomes.items) l.k l.at;
  ahead : IsPieceOf (g.L.LogRack.told l.initial.rack l.client) l.ahead;
  room : vec_capacity l.buf ≡ vec_capacity l.initial.buf;
  stay : AllStay (g.L.LogRack.told l.initial.rack) (g.L.LogRack.told l.rack);
  keeps_on : IsTrue (g.L.LogRack.keeps l.initial.rack) → IsTrue (g.L.LogRack.keeps l.rack);
  still : g.L.LogRack.faults l.rack ≡ g.L.LogRack.faults l.initial.rack;
}
