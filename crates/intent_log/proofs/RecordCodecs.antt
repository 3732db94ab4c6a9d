-- Records are read and spelled alike.
use Rattle.std.proofs.Common.{◌≡◌, ℕ, ◌+◌, ◌<◌, ◌≤◌, List, [], ◌∷◌, ◌++◌, length, Ok, ◌⊎◌, inl, inr, refl, sym, subst, arith}
use Rattle.std.specs.Int.{w32, w64, to_be_bytes}
use Rattle.std.specs.List.{flat_map, AllByRecursion}
use Rattle.std.proofs.lemmas.List.{append-nil}
use Rattle.txn_model.specs.declared.pairs.Pair.{Pair}
use Rattle.switch_packet.specs.Packets.{PlainIntent, PlainOutcome}
use Rattle.switch_packet.specs.PacketText.{packet_text}
use Rattle.switch_packet.proofs.Codecs.{IsCodec, EachIs, byte_codec, either_codec, field_codec, bind_codec, done_codec, recast, each_codec}
use Rattle.switch_packet.proofs.NumberCodecs.{u32_codec, u64_codec, i64_codec, zeros_codec}
use Rattle.switch_packet.proofs.PacketCodecs.{packet_codec}
use Rattle.intent_log.specs.LogText.{intent_text, pair_text, outcome_text}
use Rattle.intent_log.specs.Records.{IsIntent, IsPair, IsOutcome}
use Rattle.intent_log.specs.Grammar.{Record, Intended, Answered, record_text, IsRecord}
use Rattle.intent_log.specs.Reading.{pair_at, intent_at, outcome_at, record_behind, record_at}

pair_codec : IsCodec pair_text IsPair pair_at
unfolding pair_at pair_text
pair_codec =
    recast pair_text IsPair
    (field_codec i64_codec (λ (p : Pair). p.was) (λ p v. v.was) (λ was w.
    field_codec i64_codec (λ (p : Pair). p.now) (λ p v. v.0.now) (λ now n.
    done_codec (record { was = was; now = now }) (λ p. (IsPair p × (p.was ≡ was)) × (p.now ≡ now)) ((record { was = w; now = n }, refl), refl)
    (λ p v. rw (← v.0.1, ← v.1) refl))))
    (λ p v. v) (λ p v. v) (λ p v. rw append-nil refl)

-- ---- what stands behind the first byte

abbrev intent_tail : PlainIntent → List ℕ
intent_tail i = 1 ∷ 0 ∷ 0 ∷ to_be_bytes w64 i.floor ++ packet_text i.packet

abbrev outcome_tail : PlainOutcome → List ℕ
outcome_tail o = 1 ∷ length o.pairs ∷ 0 ∷ to_be_bytes w32 o.seq ++ to_be_bytes w64 o.number ++ flat_map pair_text o.pairs

intent_codec : IsCodec intent_tail IsIntent intent_at
unfolding intent_at
intent_codec =
    recast intent_tail IsIntent
    (field_codec (byte_codec 1 1 (omega arith)) (λ (i : PlainIntent). 1) (λ i v. (omega arith, omega arith)) (λ version n.
    field_codec (zeros_codec 2) (λ (i : PlainIntent). tt) (λ i v. tt) (λ z y.
    field_codec u64_codec (λ (i : PlainIntent). i.floor) (λ i v. v.0.0.floor) (λ floor f.
    field_codec packet_codec (λ (i : PlainIntent). i.packet) (λ i v. v.0.0.0.packet) (λ packet p.
    done_codec (record { floor = floor; packet = packet }) (λ i. (((IsIntent i × (1 ≡ version)) × (tt ≡ z)) × (i.floor ≡ floor)) × (i.packet ≡ packet))
    ((((record { floor = f; packet = p }, omega (arith, n.0, n.1)), refl), refl), refl)
    (λ i v. rw (← v.0.1, ← v.1) refl))))))
    (λ i v. v) (λ i v. v) (λ i v. rw append-nil refl)

all_from_each : (i : ℕ) (ps : List Pair) → EachIs (λ _. IsPair) i ps → AllByRecursion IsPair ps
all_from_each i [] v = tt
all_from_each i (p ∷ ps) v = (v.0, all_from_each (i + 1) ps v.1)

each_from_all : (i : ℕ) (ps : List Pair) → AllByRecursion IsPair ps → EachIs (λ _. IsPair) i ps
each_from_all i [] v = tt
each_from_all i (p ∷ ps) v = (v.0, each_from_all (i + 1) ps v.1)

outcome_codec : IsCodec outcome_tail IsOutcome outcome_at
unfolding outcome_at
outcome_codec =
    recast outcome_tail IsOutcome
    (field_codec (byte_codec 1 1 (omega arith)) (λ (o : PlainOutcome). 1) (λ o v. (omega arith, omega arith)) (λ version n.
    field_codec (byte_codec 1 16 (omega arith)) (λ (o : PlainOutcome). length o.pairs) (λ o v. v.0.count) (λ count k.
    field_codec (byte_codec 0 0 (omega arith)) (λ (o : PlainOutcome). 0) (λ o v. (omega arith, omega arith)) (λ filler f.
    field_codec u32_codec (λ (o : PlainOutcome). o.seq) (λ o v. v.0.0.0.seq) (λ seq s.
    field_codec u64_codec (λ (o : PlainOutcome). o.number) (λ o v. v.0.0.0.0.number) (λ number m.
    field_codec (each_codec pair_text (λ _. IsPair) (λ _. pair_at) (λ _. pair_codec) count 0) (λ (o : PlainOutcome). o.pairs) (λ o v. (v.0.0.0.1, each_from_all 0 o.pairs v.0.0.0.0.0.pairs)) (λ pairs q.
    done_codec (record { seq = seq; number = number; pairs = pairs })
    (λ o. (((((IsOutcome o × (1 ≡ version)) × (length o.pairs ≡ count)) × (0 ≡ filler)) × (o.seq ≡ seq)) × (o.number ≡ number)) × (o.pairs ≡ pairs))
    ((((((record { seq = s; number = m; count = subst (λ (c : ℕ). (1 ≤ c) × (c ≤ 16)) (sym q.0) k; pairs = all_from_each 0 pairs q.1 }, omega (arith, n.0, n.1)), q.0), omega (arith, f.1)), refl), refl), refl)
    (λ o v. rw (← v.0.0.1, ← v.0.1, ← v.1) refl))))))))
    (λ o v. v) (λ o v. v) (λ o v. rw append-nil refl)

-- ---- records

abbrev mark_of : Record → ℕ
mark_of (Intended i) = 0x49
mark_of (Answered o) = 0x4f

abbrev tail_of : Record → List ℕ
tail_of (Intended i) = intent_tail i
tail_of (Answered o) = outcome_tail o

abbrev HasMark : ℕ → Record → Type 0
HasMark mark r = IsRecord r × (mark_of r ≡ mark)

intended : (r : Record) → HasMark 0x49 r → (i : PlainIntent) × IsIntent i × (r ≡ Intended i)
intended (Intended i) v = (i, v.0, refl)
intended (Answered o) v = absurd (omega (arith, v.1))

answered : (r : Record) → HasMark 0x4f r → (o : PlainOutcome) × IsOutcome o × (r ≡ Answered o)
answered (Intended i) v = absurd (omega (arith, v.1))
answered (Answered o) v = (o, v.0, refl)

is_intended : (i : PlainIntent) (r : Record) → IsIntent i → r ≡ Intended i → HasMark 0x49 r × (tail_of r ≡ intent_tail i ++ [])
is_intended i r v e = subst (λ (x : Record). HasMark 0x49 x × (tail_of x ≡ intent_tail i ++ [])) (sym e) ((v, refl), sym (append-nil (intent_tail i)))

is_answered : (o : PlainOutcome) (r : Record) → IsOutcome o → r ≡ Answered o → HasMark 0x4f r × (tail_of r ≡ outcome_tail o ++ [])
is_answered o r v e = subst (λ (x : Record). HasMark 0x4f x × (tail_of x ≡ outcome_tail o ++ [])) (sym e) ((v, refl), sym (append-nil (outcome_tail o)))

intended_codec : IsCodec tail_of (HasMark 0x49) (record_behind 0x49)
intended_codec =
    bind_codec intent_tail IsIntent intent_at intent_codec (λ i r. []) (λ i r. r ≡ Intended i) (λ i c. Ok (Intended i, c))
    (λ i v. done_codec (Intended i) (λ r. r ≡ Intended i) refl (λ r e. e))
    tail_of (HasMark 0x49) intended is_intended

answered_codec : IsCodec tail_of (HasMark 0x4f) (record_behind 0x4f)
answered_codec =
    bind_codec outcome_tail IsOutcome outcome_at outcome_codec (λ o r. []) (λ o r. r ≡ Answered o) (λ o c. Ok (Answered o, c))
    (λ o v. done_codec (Answered o) (λ r. r ≡ Answered o) refl (λ r e. e))
    tail_of (HasMark 0x4f) answered is_answered

behind_codec : (mark : ℕ) → (mark ≡ 0x49) ⊎ (mark ≡ 0x4f) → IsCodec tail_of (HasMark mark) (record_behind mark)
behind_codec mark (inl e) = subst (λ (m : ℕ). IsCodec tail_of (HasMark m) (record_behind m)) (sym e) intended_codec
behind_codec mark (inr e) = subst (λ (m : ℕ). IsCodec tail_of (HasMark m) (record_behind m)) (sym e) answered_codec

one_mark : (r : Record) → (mark_of r ≡ 0x49) ⊎ (mark_of r ≡ 0x4f)
one_mark (Intended i) = inl refl
one_mark (Answered o) = inr refl

same_text : (r : Record) → (mark_of r ∷ []) ++ tail_of r ≡ record_text r
unfolding intent_text outcome_text
same_text (Intended i) = refl
same_text (Answered o) = refl

pub record_codec : IsCodec record_text IsRecord record_at
unfolding record_at
record_codec =
    recast record_text IsRecord (field_codec (either_codec 0x49 0x4f) mark_of (λ r v. one_mark r) behind_codec) (λ r v. v) (λ r v. v) (λ r v. same_text r)

-- each record has some bytes
pub text_some : (r : Record) → 0 < length (record_text r)
unfolding intent_text outcome_text
text_some (Intended i) = omega arith
text_some (Answered o) = omega arith
