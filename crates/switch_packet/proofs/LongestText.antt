-- A packet whose text is as long as any.
use Rattle.std.proofs.Common.{◌≡◌, ℕ, zero, suc, ◌+◌, ◌*◌, ◌≤◌, pos, List, [], ◌∷◌, length, replicate, refl, arith, rules, FitsSigned, w64}
use Rattle.std.specs.List.{flat_map, AllByRecursion}
use Rattle.std.proofs.lemmas.List.{length-append, length-replicate}
use Rattle.txn_model.specs.Needs.{needs_list, needs_of}
use Rattle.txn_model.specs.declared.op.Act.TheVariants.{Choose}
use Rattle.txn_model.specs.declared.op.Need.{Need}
use Rattle.txn_model.specs.declared.op.Which.TheVariants.{Old}
use Rattle.switch_packet.specs.declared.packet.PacketOp.{PacketOp}
use Rattle.switch_packet.specs.Packets.{PlainPacket}
use Rattle.switch_packet.specs.Ranges.{OpFits, OpsFit, OpIsTyped, IsPacket, act_numbers}
use Rattle.switch_packet.specs.PacketText.{op_text, packet_text}
use Rattle.switch_packet.specs.Laws.{IsLongestText}
use Rattle.switch_packet.proofs.LengthLaws.{length-op_text, length-packet_text-le}

first_pair : Need
first_pair = record { from = 0; which = Old }

-- an operation with three numbers and these needs
abbrev choosing : List Need → PacketOp
choosing needs = record { pass = 1; place = record { stage = 0; array = 0; cell = 0 }; act = Choose (pos 0) (pos 0) (pos 0); bias = pos 0; needs = needs_of needs }

abbrev needy : PacketOp
needy = choosing (first_pair ∷ first_pair ∷ first_pair ∷ first_pair ∷ [])

abbrev longest : PlainPacket
longest = record { client = 0; seq = 0; passes = 1; halves = 1; ops = choosing [] ∷ replicate 15 needy }

needy_texts : (n : ℕ) → length (flat_map op_text (replicate n needy)) ≡ 48 * n
needy_texts zero = refl
needy_texts (suc n) = omega (arith, needy_texts n, length-op_text needy, length-append (op_text needy) (flat_map op_text (replicate n needy)))

needy_fits : (k : ℕ) → 1 ≤ k → OpFits 1 k needy
unfolding first_pair
needy_fits k later = record { pass = (omega arith, omega arith); stage = omega arith; array = omega arith; cell = omega arith; earlier = (omega arith, (omega arith, (omega arith, (omega arith, tt)))); read = λ e. cc e }

all_fit : (k n : ℕ) → 1 ≤ k → OpsFit 1 k (replicate n needy)
all_fit k zero later = tt
all_fit k (suc n) later = (needy_fits k later, all_fit (k + 1) n (omega arith))

typed : (needs : List Need) → OpIsTyped (choosing needs)
typed needs = let zero_fits : FitsSigned w64 (pos 0) = search rules in record { bias = zero_fits; act = (zero_fits, (zero_fits, (zero_fits, tt))) }

all_typed : (n : ℕ) → AllByRecursion OpIsTyped (replicate n needy)
all_typed zero = tt
all_typed (suc n) = (typed (first_pair ∷ first_pair ∷ first_pair ∷ first_pair ∷ []), all_typed n)

longest_is_packet : IsPacket longest
longest_is_packet =
    record {
      fits = record {
        client = omega arith;
        passes = (omega arith, omega arith);
        halves = (omega arith, omega arith);
        count = (omega arith, omega arith);
        ops = (record { pass = (omega arith, omega arith); stage = omega arith; array = omega arith; cell = omega arith; earlier = tt; read = λ e. cc e }, all_fit 1 15 (omega arith));
      };
      typed = record { seq = omega arith; ops = (typed [], all_typed 15) };
    }

length-longest : length (packet_text longest) ≡ 772
unfolding packet_text
length-longest = omega (arith, needy_texts 15, length-op_text (choosing []), length-append (op_text (choosing [])) (flat_map op_text (replicate 15 needy)))

pub longest_text : IsLongestText 772
longest_text = (length-packet_text-le, (longest, longest_is_packet, length-longest))
