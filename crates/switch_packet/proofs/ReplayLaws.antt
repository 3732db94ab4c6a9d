-- Execution and replays of packets and of lists of packets.
use Rattle.std.proofs.Common.{◌≡◌, ◌+◌, Bool, List, [], ◌∷◌, ◌++◌, length, drop, refl, ap, arith}
use Rattle.std.proofs.lemmas.List.{length_push}
use Rattle.txn_model.specs.Places.{Places}
use Rattle.txn_model.specs.Serial.{pair_at}
use Rattle.txn_model.specs.declared.pairs.Pair.{Pair}
use Rattle.switch_packet.specs.Laws.{OnePairEach, ReplaysInTurn}
use Rattle.switch_packet.specs.declared.packet.PacketOp.{PacketOp}
use Rattle.switch_packet.specs.Replay.{ReplayedAll, register_at, pair_now, map_now, execute, always, replay, replay_all}

pub length-execute : (due : PacketOp → Bool) (ops : List PacketOp) (done rest : List Pair) (m : Places) → length (execute due ops done rest m).pairs ≡ length done + length ops
unfolding execute
length-execute due [] done rest m = omega arith
length-execute due (op ∷ ops) done rest m =
    let pair = pair_now (due op) op done (pair_at rest 0) (register_at m op.place) in
    omega (arith, length-execute due ops (done ++ pair ∷ []) (drop 1 rest) (map_now (due op) m op.place pair.now), length_push done pair)

pub length-replay : OnePairEach
length-replay p m = omega (arith, length-execute always p.ops [] [] m)

pub replay_all-append : ReplaysInTurn
unfolding replay_all
replay_all-append [] b m = refl
replay_all-append (p ∷ ps) b m =
    ap (λ (r : ReplayedAll). let made : ReplayedAll = record { pairs = (replay p m).pairs ∷ r.pairs; after = r.after } in made) (replay_all-append ps b (replay p m).after)
