-- Pairs of zeros, one more at a time.
use Rattle.std.proofs.Common.{◌≡◌, ℕ, pos, ◌+◌, ◌<◌, ◌++◌, ◌∷◌, [], List, length, map, take, get_or, ap, ◌∙◌}
use Rattle.std.proofs.lemmas.List.{map-append, take_more}
use Rattle.txn_model.specs.declared.op.Act.TheVariants.{Read}
use Rattle.txn_model.specs.Needs.{needs_of}
use Rattle.txn_model.specs.declared.pairs.Pair.{Pair}
use Rattle.switch_model.specs.Flight.{zero_pair}
use Rattle.switch_packet.specs.declared.packet.PacketOp.{PacketOp}

mapped_more : {X : Type 0} (f : X → Pair) (xs : List X) (i : ℕ) (d : X) → i < length xs → map f (take (i + 1) xs) ≡ map f (take i xs) ++ f (get_or xs i d) ∷ []
mapped_more f xs i d lt = ap (map f) (take_more xs i d lt) ∙ map-append f (take i xs) (get_or xs i d ∷ [])

-- with a pair of zeros for each operation, for one more operation there is one more
pub zeros_more : (ops : List PacketOp) (i : ℕ) → i < length ops → map (λ op. zero_pair) (take (i + 1) ops) ≡ map (λ op. zero_pair) (take i ops) ++ zero_pair ∷ []
zeros_more ops i lt = mapped_more (λ op. zero_pair) ops i (record { pass = 0; place = record { stage = 0; array = 0; cell = 0 }; act = Read; bias = pos 0; needs = needs_of [] }) lt
