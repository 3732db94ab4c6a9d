-- Packets are read and spelled alike.
use Rattle.std.proofs.Common.{◌≡◌, ℕ, zero, suc, ℤ, pos, ◌+◌, ◌-◌, ◌<◌, ◌≤◌, ◌^◌, Bool, true, false, cond, ◌==◌, ◌||◌, IsTrue, List, [], ◌∷◌, ◌++◌, length, refl, sym, ap, subst, ◌∙◌, arith, rules}
use Rattle.std.specs.Prelude.{FitsSigned}
use Rattle.std.specs.Int.{w16, w32, w64, to_be_bytes}
use Rattle.std.specs.List.{flat_map, AllByRecursion}
use Rattle.std.proofs.lemmas.Bool.Decides.{nat_tests}
use Rattle.std.proofs.lemmas.List.{append-nil, nil_from_length}
use Rattle.txn_model.specs.Needs.{needs_list, needs_of}
use Rattle.txn_model.specs.ScriptCheck.{is_read}
use Rattle.txn_model.specs.declared.op.Act.{Act}
use Rattle.txn_model.specs.declared.op.Act.TheVariants.{Read, Put, Add, Choose}
use Rattle.txn_model.specs.declared.op.Need.{Need}
use Rattle.txn_model.specs.declared.op.Needs.{Needs}
use Rattle.txn_model.specs.declared.op.Which.{Which}
use Rattle.txn_model.specs.declared.op.Which.TheVariants.{Old, Moved}
use Rattle.txn_model.proofs.NeedsLaws.{needs_of-needs_list, needs_list-needs_of, length-needs_list-le}
use Rattle.switch_packet.specs.declared.decode.OpHead.{OpHead}
use Rattle.switch_packet.specs.declared.decode.PacketHead.{PacketHead}
use Rattle.switch_packet.specs.declared.packet.PacketOp.{PacketOp}
use Rattle.switch_packet.specs.Packets.{PlainPacket}
use Rattle.switch_packet.specs.Ranges.{IsOneTo, OpFits, OpsFit, act_numbers, OpIsTyped, IsPacket}
use Rattle.switch_packet.specs.PacketText.{i64_text, act_byte, which_byte, need_text, op_text, packet_text}
use Rattle.switch_packet.specs.Reading.{each_at}
use Rattle.switch_packet.specs.PacketReading.{most_needs, op_head_at, bias_at, act_at, which_of, need_at, needs_at, op_at, packet_head_at, packet_at}
use Rattle.switch_packet.proofs.Codecs.{IsCodec, EachIs, byte_codec, field_codec, done_codec, recast, each_codec}
use Rattle.switch_packet.proofs.NumberCodecs.{u32_codec, i64_codec, zeros_codec, cell_codec}
use Rattle.switch_packet.proofs.NeedsLaws.{none_below}

-- ---- the acts

abbrev ActIs : ℕ → Act → Type 0
ActIs k act = (act_byte act ≡ k) × AllByRecursion (FitsSigned w64) (act_numbers act)

abbrev act_text : Act → List ℕ
act_text act = flat_map i64_text (act_numbers act)

-- the n-th number of an act, and 0 where there is none
abbrev number_of : ℕ → List ℤ → ℤ
number_of n [] = pos 0
number_of zero (z ∷ zs) = z
number_of (suc n) (z ∷ zs) = number_of n zs

abbrev act_number : ℕ → Act → ℤ
act_number n act = number_of n (act_numbers act)

zero_fits : FitsSigned w64 (pos 0)
zero_fits = search rules

number_fits : (n : ℕ) (zs : List ℤ) → AllByRecursion (FitsSigned w64) zs → FitsSigned w64 (number_of n zs)
number_fits n [] v = zero_fits
number_fits zero (z ∷ zs) v = v.0
number_fits (suc n) (z ∷ zs) v = number_fits n zs v.1

read_only : (act : Act) → ActIs 0 act → act ≡ Read
read_only Read v = refl
read_only (Put base) v = absurd cc
read_only (Add base) v = absurd cc
read_only (Choose limit above below) v = absurd cc

put_only : (act : Act) (base : ℤ) → ActIs 1 act → act_number 0 act ≡ base → act ≡ Put base
put_only Read base v e = absurd cc
put_only (Put b) base v e = ap (λ (z : ℤ). Put z) e
put_only (Add b) base v e = absurd cc
put_only (Choose limit above below) base v e = absurd cc

add_only : (act : Act) (base : ℤ) → ActIs 2 act → act_number 0 act ≡ base → act ≡ Add base
add_only Read base v e = absurd cc
add_only (Put b) base v e = absurd cc
add_only (Add b) base v e = ap (λ (z : ℤ). Add z) e
add_only (Choose limit above below) base v e = absurd cc

choose_only : (act : Act) (l a b : ℤ) → ActIs 3 act → act_number 0 act ≡ l → act_number 1 act ≡ a → act_number 2 act ≡ b → act ≡ Choose l a b
choose_only Read l a b v e f g = absurd cc
choose_only (Put base) l a b v e f g = absurd cc
choose_only (Add base) l a b v e f g = absurd cc
choose_only (Choose limit above below) l a b v e f g = cc

read_text : (act : Act) → ActIs 0 act → [] ≡ act_text act
read_text act v = rw (read_only act v) refl

one_text : (act : Act) → (act_byte act ≡ 1) → i64_text (act_number 0 act) ++ [] ≡ act_text act
one_text Read v = absurd cc
one_text (Put base) v = refl
one_text (Add base) v = absurd cc
one_text (Choose limit above below) v = absurd cc

two_text : (act : Act) → (act_byte act ≡ 2) → i64_text (act_number 0 act) ++ [] ≡ act_text act
two_text Read v = absurd cc
two_text (Put base) v = absurd cc
two_text (Add base) v = refl
two_text (Choose limit above below) v = absurd cc

three_text : (act : Act) → (act_byte act ≡ 3) → i64_text (act_number 0 act) ++ (i64_text (act_number 1 act) ++ (i64_text (act_number 2 act) ++ [])) ≡ act_text act
three_text Read v = absurd cc
three_text (Put base) v = absurd cc
three_text (Add base) v = absurd cc
three_text (Choose limit above below) v = refl

act_codec : (k : ℕ) → k ≤ 3 → IsCodec act_text (ActIs k) (act_at k)
unfolding act_at
act_codec zero few = recast act_text (ActIs 0) (done_codec Read (ActIs 0) (refl, tt) read_only) (λ act v. v) (λ act v. v) read_text
act_codec (suc zero) few =
    recast act_text (ActIs 1)
    (field_codec i64_codec (act_number 0) (λ act v. number_fits 0 (act_numbers act) v.1) (λ base b.
    done_codec (Put base) (λ act. ActIs 1 act × (act_number 0 act ≡ base)) ((refl, (b, tt)), refl) (λ act v. put_only act base v.0 v.1)))
    (λ act v. v) (λ act v. v) (λ act v. one_text act v.0)
act_codec (suc (suc zero)) few =
    recast act_text (ActIs 2)
    (field_codec i64_codec (act_number 0) (λ act v. number_fits 0 (act_numbers act) v.1) (λ base b.
    done_codec (Add base) (λ act. ActIs 2 act × (act_number 0 act ≡ base)) ((refl, (b, tt)), refl) (λ act v. add_only act base v.0 v.1)))
    (λ act v. v) (λ act v. v) (λ act v. two_text act v.0)
act_codec (suc (suc (suc zero))) few =
    recast act_text (ActIs 3)
    (field_codec i64_codec (act_number 0) (λ act v. number_fits 0 (act_numbers act) v.1) (λ limit l.
    field_codec i64_codec (act_number 1) (λ act v. number_fits 1 (act_numbers act) v.0.1) (λ above a.
    field_codec i64_codec (act_number 2) (λ act v. number_fits 2 (act_numbers act) v.0.0.1) (λ below b.
    done_codec (Choose limit above below) (λ act. ((ActIs 3 act × (act_number 0 act ≡ limit)) × (act_number 1 act ≡ above)) × (act_number 2 act ≡ below)) ((((refl, (l, (a, (b, tt)))), refl), refl), refl)
    (λ act v. choose_only act limit above below v.0.0.0 v.0.0.1 v.0.1 v.1)))))
    (λ act v. v) (λ act v. v) (λ act v. three_text act v.0)
act_codec (suc (suc (suc (suc k)))) few = absurd (omega arith)

-- ---- the bias

abbrev IsBias : ℕ → ℤ → Type 0
IsBias act z = FitsSigned w64 z × (act ≡ 0 → z ≡ pos 0)

bias_codec : (act : ℕ) → IsCodec i64_text (IsBias act) (bias_at act)
unfolding bias_at
bias_codec zero =
    recast i64_text (IsBias 0)
    (field_codec (zeros_codec 8) (λ (z : ℤ). tt) (λ z v. tt) (λ u v.
    done_codec (pos 0) (λ z. IsBias 0 z × (tt ≡ u)) ((zero_fits, λ e. refl), refl) (λ z v. v.0.1 refl)))
    (λ z v. v) (λ z v. v) (λ z v. rw (v.1 refl) refl)
bias_codec (suc act) = recast i64_text (IsBias (suc act)) i64_codec (λ z v. v.0) (λ z v. (v, λ e. absurd (omega arith))) (λ z v. refl)

-- ---- the needs

which_is : (w : Which) (b : ℕ) → which_byte w ≡ b → w ≡ which_of b
which_is Old b e = rw (← e) refl
which_is Moved b e = rw (← e) refl

which_small : (w : Which) → which_byte w ≤ 1
which_small Old = omega arith
which_small Moved = omega arith

which_back : (b : ℕ) → b ≤ 1 → which_byte (which_of b) ≡ b
which_back zero le = refl
which_back (suc zero) le = refl
which_back (suc (suc b)) le = absurd (omega arith)

need_codec : (k : ℕ) → 1 ≤ k → IsCodec need_text (λ n. n.from < k) (need_at k)
unfolding need_at
need_codec k some =
    recast need_text (λ n. n.from < k)
    (field_codec (byte_codec 0 (k - 1) (omega arith)) (λ (n : Need). n.from) (λ n v. (omega arith, omega arith)) (λ from f.
    field_codec (byte_codec 0 1 (omega arith)) (λ (n : Need). which_byte n.which) (λ n v. (omega arith, which_small n.which)) (λ b s.
    done_codec (record { from = from; which = which_of b }) (λ n. ((n.from < k) × (n.from ≡ from)) × (which_byte n.which ≡ b))
    ((omega (arith, f.1), refl), which_back b s.1)
    (λ n v. rw (← v.0.1, ← which_is n.which b v.1) refl))))
    (λ n v. v) (λ n v. v) (λ n v. refl)

abbrev NeedsAre : ℕ → ℕ → Needs → Type 0
NeedsAre k count needs = (length (needs_list needs) ≡ count) × AllByRecursion (λ n. n.from < k) (needs_list needs)

abbrev needs_text : Needs → List ℕ
needs_text needs = flat_map need_text (needs_list needs)

all_from_each : (k i : ℕ) (ns : List Need) → EachIs (λ _ (n : Need). n.from < k) i ns → AllByRecursion (λ n. n.from < k) ns
all_from_each k i [] v = tt
all_from_each k i (n ∷ ns) v = (v.0, all_from_each k (i + 1) ns v.1)

each_from_all : (k i : ℕ) (ns : List Need) → AllByRecursion (λ n. n.from < k) ns → EachIs (λ _ (n : Need). n.from < k) i ns
each_from_all k i [] v = tt
each_from_all k i (n ∷ ns) v = (v.0, each_from_all k (i + 1) ns v.1)

no_needs : (needs : Needs) → length (needs_list needs) ≡ 0 → needs ≡ needs_of []
no_needs needs e = sym (needs_of-needs_list needs) ∙ ap needs_of (nil_from_length (needs_list needs) (omega (arith, e)))

needs_codec : (k count : ℕ) → count ≤ 4 → (1 ≤ count → 1 ≤ k) → IsCodec needs_text (NeedsAre k count) (needs_at k count)
unfolding needs_at each_at
needs_codec k zero few later =
    recast needs_text (NeedsAre k 0) (done_codec (needs_of []) (NeedsAre k 0) (refl, tt) (λ needs v. no_needs needs v.0)) (λ needs v. v) (λ needs v. v) (λ needs v. rw (no_needs needs v.0) refl)
needs_codec k (suc count) few later =
    recast needs_text (NeedsAre k (suc count))
    (field_codec (each_codec need_text (λ _ n. n.from < k) (λ _. need_at k) (λ _. need_codec k (later (omega arith))) (suc count) 0) needs_list (λ needs v. (v.0, each_from_all k 0 (needs_list needs) v.1)) (λ ns v.
    let list = needs_list-needs_of ns (omega (arith, v.0)) in
    done_codec (needs_of ns) (λ needs. NeedsAre k (suc count) needs × (needs_list needs ≡ ns))
    (rw list ((v.0, all_from_each k 0 ns v.1), refl))
    (λ needs w. sym (needs_of-needs_list needs) ∙ ap needs_of w.1)))
    (λ needs v. v) (λ needs v. v) (λ needs v. append-nil (needs_text needs))

-- ---- operations

record IsOpHead (passes k : ℕ) (h : OpHead) : Type 0 where
  pass : IsOneTo passes h.pass
  stage : h.place.stage < 12
  array : h.place.array < 4
  act : h.act ≤ 3
  cell : h.place.cell < 4096
  needs : h.needs ≤ most_needs h.act k

abbrev op_head_text : OpHead → List ℕ
op_head_text h = h.pass ∷ h.place.stage ∷ h.place.array ∷ h.act ∷ to_be_bytes w16 h.place.cell ++ h.needs ∷ 0 ∷ []

op_head_codec : (passes k : ℕ) → 1 ≤ passes → IsCodec op_head_text (IsOpHead passes k) (op_head_at passes k)
unfolding op_head_at
op_head_codec passes k some =
    recast op_head_text (IsOpHead passes k)
    (field_codec (byte_codec 1 passes some) (λ (h : OpHead). h.pass) (λ h v. v.pass) (λ pass p.
    field_codec (byte_codec 0 11 (omega arith)) (λ (h : OpHead). h.place.stage) (λ h v. let b = v.0.stage in (omega arith, omega arith)) (λ stage s.
    field_codec (byte_codec 0 3 (omega arith)) (λ (h : OpHead). h.place.array) (λ h v. let b = v.0.0.array in (omega arith, omega arith)) (λ array a.
    field_codec (byte_codec 0 3 (omega arith)) (λ (h : OpHead). h.act) (λ h v. (omega arith, v.0.0.0.act)) (λ act t.
    field_codec cell_codec (λ (h : OpHead). h.place.cell) (λ h v. v.0.0.0.0.cell) (λ cell c.
    field_codec (byte_codec 0 (most_needs act k) (omega arith)) (λ (h : OpHead). h.needs) (λ h v. (omega arith, subst (λ (b : ℕ). h.needs ≤ most_needs b k) v.0.1 v.0.0.0.0.0.needs)) (λ needs n.
    field_codec (byte_codec 0 0 (omega arith)) (λ (h : OpHead). 0) (λ h v. (omega arith, omega arith)) (λ filler f.
    done_codec (record { pass = pass; place = record { stage = stage; array = array; cell = cell }; act = act; needs = needs })
    (λ h. ((((((IsOpHead passes k h × (h.pass ≡ pass)) × (h.place.stage ≡ stage)) × (h.place.array ≡ array)) × (h.act ≡ act)) × (h.place.cell ≡ cell)) × (h.needs ≡ needs)) × (0 ≡ filler))
    (((((((record { pass = p; stage = omega (arith, s.1); array = omega (arith, a.1); act = t.1; cell = c; needs = n.1 }, refl), refl), refl), refl), refl), refl), omega (arith, f.1))
    (λ h v. rw (← v.0.0.0.0.0.0.1, ← v.0.0.0.0.0.1, ← v.0.0.0.0.1, ← v.0.0.0.1, ← v.0.0.1, ← v.0.1) refl)))))))))
    (λ h v. v) (λ h v. v) (λ h v. refl)

abbrev head_of : PacketOp → OpHead
head_of op = record { pass = op.pass; place = op.place; act = act_byte op.act; needs = length (needs_list op.needs) }

record IsOp (passes k : ℕ) (op : PacketOp) : Type 0 where
  fits : OpFits passes k op
  typed : OpIsTyped op

act_small : (act : Act) → act_byte act ≤ 3
act_small Read = omega arith
act_small (Put base) = omega arith
act_small (Add base) = omega arith
act_small (Choose limit above below) = omega arith

above_zero : (k n : ℕ) → n ≤ 4 → n ≤ cond (suc k == 0) 0 4
above_zero k n few = grind (arith, nat_tests)

needs_below : (k : ℕ) (needs : Needs) → AllByRecursion (λ n. n.from < k) (needs_list needs) → length (needs_list needs) ≤ cond (k == 0) 0 4
needs_below zero needs v = none_below (needs_list needs) v
needs_below (suc k) needs v = above_zero k (length (needs_list needs)) (length-needs_list-le needs)

needs_fit : (k : ℕ) (act : Act) (needs : Needs) → AllByRecursion (λ n. n.from < k) (needs_list needs) → (IsTrue (is_read act) → needs_list needs ≡ []) → length (needs_list needs) ≤ most_needs (act_byte act) k
needs_fit k Read needs earlier read = omega (arith, ap length (read refl))
needs_fit k (Put base) needs earlier read = needs_below k needs earlier
needs_fit k (Add base) needs earlier read = needs_below k needs earlier
needs_fit k (Choose limit above below) needs earlier read = needs_below k needs earlier

at_most_four : (b : Bool) → cond b 0 4 ≤ 4
at_most_four true = omega arith
at_most_four false = omega arith

never_first : (b : Bool) → cond {A = ℕ} (b || true) 0 4 ≡ 0
never_first true = refl
never_first false = refl

-- an operation with a need isn't the first
is_later : (act k n : ℕ) → n ≤ most_needs act k → 1 ≤ n → 1 ≤ k
is_later act zero n few some = omega (arith, few, some, never_first (act == 0))
is_later act (suc k) n few some = omega arith

read_byte : (act : Act) → IsTrue (is_read act) → act_byte act ≡ 0
read_byte Read r = refl
read_byte (Put base) r = absurd cc
read_byte (Add base) r = absurd cc
read_byte (Choose limit above below) r = absurd cc

byte_read : (act : Act) → act_byte act ≡ 0 → IsTrue (is_read act)
byte_read Read e = refl
byte_read (Put base) e = absurd cc
byte_read (Add base) e = absurd cc
byte_read (Choose limit above below) e = absurd cc

head_fits : (passes k : ℕ) (op : PacketOp) → IsOp passes k op → IsOpHead passes k (head_of op)
head_fits passes k op v = record {
  pass = v.fits.pass;
  stage = v.fits.stage;
  array = v.fits.array;
  act = act_small op.act;
  cell = v.fits.cell;
  needs = needs_fit k op.act op.needs v.fits.earlier (λ r. (v.fits.read r).1);
}

made_op : (passes k : ℕ) (h : OpHead) (bias : ℤ) (act : Act) (needs : Needs) → IsOpHead passes k h → IsBias h.act bias → ActIs h.act act → NeedsAre k h.needs needs
    → IsOp passes k (record { pass = h.pass; place = h.place; act = act; bias = bias; needs = needs })
made_op passes k h bias act needs v b a n = record {
  fits = record {
    pass = v.pass;
    stage = v.stage;
    array = v.array;
    cell = v.cell;
    earlier = n.1;
    read = λ r.
        let zero_byte : h.act ≡ 0 = sym a.0 ∙ read_byte act r in
        (b.1 zero_byte, nil_from_length (needs_list needs) (omega (arith, n.0, subst (λ (byte : ℕ). h.needs ≤ most_needs byte k) zero_byte v.needs)));
  };
  typed = record { bias = b.0; act = a.1 };
}

op_codec : (passes k : ℕ) → 1 ≤ passes → IsCodec op_text (IsOp passes k) (op_at passes k)
unfolding op_at op_text
op_codec passes k some =
    recast op_text (IsOp passes k)
    (field_codec (op_head_codec passes k some) head_of (head_fits passes k) (λ head h.
    field_codec (bias_codec head.act) (λ (op : PacketOp). op.bias) (λ op v. (v.0.typed.bias, λ e. (v.0.fits.read (byte_read op.act (ap (λ (h : OpHead). h.act) v.1 ∙ e))).0)) (λ bias b.
    field_codec (act_codec head.act h.act) (λ (op : PacketOp). op.act) (λ op v. (ap (λ (h : OpHead). h.act) v.0.1, v.0.0.typed.act)) (λ act a.
    field_codec (needs_codec k head.needs (omega (arith, h.needs, at_most_four (head.act == 0 || k == 0))) (is_later head.act k head.needs h.needs)) (λ (op : PacketOp). op.needs)
    (λ op v. (ap (λ (h : OpHead). h.needs) v.0.0.1, v.0.0.0.fits.earlier)) (λ needs n.
    done_codec (record { pass = head.pass; place = head.place; act = act; bias = bias; needs = needs })
    (λ op. (((IsOp passes k op × (head_of op ≡ head)) × (op.bias ≡ bias)) × (op.act ≡ act)) × (op.needs ≡ needs))
    ((((made_op passes k head bias act needs h b a n, rw (a.0, n.0) refl), refl), refl), refl)
    (λ op v. rw (← v.0.0.0.1, ← v.0.0.1, ← v.0.1, ← v.1) refl))))))
    (λ op v. v) (λ op v. v) (λ op v. rw append-nil refl)

-- ---- packets

record IsPacketHead (h : PacketHead) : Type 0 where
  client : h.client < 8
  seq : h.seq < 2 ^ 32
  passes : IsOneTo 16 h.passes
  halves : IsOneTo 3 h.halves
  ops : IsOneTo 16 h.ops

abbrev packet_head_text : PacketHead → List ℕ
packet_head_text h = 0x50 ∷ 1 ∷ h.client ∷ 0 ∷ to_be_bytes w32 h.seq ++ h.passes ∷ h.halves ∷ h.ops ∷ 0 ∷ []

packet_head_codec : IsCodec packet_head_text IsPacketHead packet_head_at
unfolding packet_head_at
packet_head_codec =
    recast packet_head_text IsPacketHead
    (field_codec (byte_codec 0x50 0x50 (omega arith)) (λ (h : PacketHead). 0x50) (λ h v. (omega arith, omega arith)) (λ mark m.
    field_codec (byte_codec 1 1 (omega arith)) (λ (h : PacketHead). 1) (λ h v. (omega arith, omega arith)) (λ version n.
    field_codec (byte_codec 0 7 (omega arith)) (λ (h : PacketHead). h.client) (λ h v. let b = v.0.0.client in (omega arith, omega arith)) (λ client c.
    field_codec (byte_codec 0 0 (omega arith)) (λ (h : PacketHead). 0) (λ h v. (omega arith, omega arith)) (λ filler f.
    field_codec u32_codec (λ (h : PacketHead). h.seq) (λ h v. v.0.0.0.0.seq) (λ seq s.
    field_codec (byte_codec 1 16 (omega arith)) (λ (h : PacketHead). h.passes) (λ h v. v.0.0.0.0.0.passes) (λ passes p.
    field_codec (byte_codec 1 3 (omega arith)) (λ (h : PacketHead). h.halves) (λ h v. v.0.0.0.0.0.0.halves) (λ halves t.
    field_codec (byte_codec 1 16 (omega arith)) (λ (h : PacketHead). h.ops) (λ h v. v.0.0.0.0.0.0.0.ops) (λ ops o.
    field_codec (byte_codec 0 0 (omega arith)) (λ (h : PacketHead). 0) (λ h v. (omega arith, omega arith)) (λ last l.
    done_codec (record { client = client; seq = seq; passes = passes; halves = halves; ops = ops })
    (λ h. ((((((((IsPacketHead h × (0x50 ≡ mark)) × (1 ≡ version)) × (h.client ≡ client)) × (0 ≡ filler)) × (h.seq ≡ seq)) × (h.passes ≡ passes)) × (h.halves ≡ halves)) × (h.ops ≡ ops)) × (0 ≡ last))
    (((((((((record { client = omega (arith, c.1); seq = s; passes = p; halves = t; ops = o }, omega (arith, m.0, m.1)), omega (arith, n.0, n.1)), refl), omega (arith, f.1)), refl), refl), refl), refl), omega (arith, l.1))
    (λ h v. rw (← v.0.0.0.0.0.0.1, ← v.0.0.0.0.1, ← v.0.0.0.1, ← v.0.0.1, ← v.0.1) refl)))))))))))
    (λ h v. v) (λ h v. v) (λ h v. refl)

abbrev head_of_packet : PlainPacket → PacketHead
head_of_packet p = record { client = p.client; seq = p.seq; passes = p.passes; halves = p.halves; ops = length p.ops }

each_from_packet : (passes k : ℕ) (ops : List PacketOp) → OpsFit passes k ops → AllByRecursion OpIsTyped ops → EachIs (IsOp passes) k ops
each_from_packet passes k [] f t = tt
each_from_packet passes k (op ∷ ops) f t = (record { fits = f.0; typed = t.0 }, each_from_packet passes (k + 1) ops f.1 t.1)

fit_from_each : (passes k : ℕ) (ops : List PacketOp) → EachIs (IsOp passes) k ops → OpsFit passes k ops × AllByRecursion OpIsTyped ops
fit_from_each passes k [] v = (tt, tt)
fit_from_each passes k (op ∷ ops) v = let rest = fit_from_each passes (k + 1) ops v.1 in ((v.0.fits, rest.0), (v.0.typed, rest.1))

made_packet : (h : PacketHead) (ops : List PacketOp) → IsPacketHead h → (length ops ≡ h.ops) × EachIs (IsOp h.passes) 0 ops → IsPacket (record { client = h.client; seq = h.seq; passes = h.passes; halves = h.halves; ops = ops })
made_packet h ops v e =
    let each = fit_from_each h.passes 0 ops e.1 in
    record {
      fits = record { client = v.client; passes = v.passes; halves = v.halves; count = subst (IsOneTo 16) (sym e.0) v.ops; ops = each.0 };
      typed = record { seq = v.seq; ops = each.1 };
    }

pub packet_codec : IsCodec packet_text IsPacket packet_at
unfolding packet_at packet_text
packet_codec =
    recast packet_text IsPacket
    (field_codec packet_head_codec head_of_packet (λ p v. record { client = v.fits.client; seq = v.typed.seq; passes = v.fits.passes; halves = v.fits.halves; ops = v.fits.count }) (λ head h.
    field_codec (each_codec op_text (IsOp head.passes) (op_at head.passes) (λ k. op_codec head.passes k h.passes.0) head.ops 0) (λ (p : PlainPacket). p.ops)
    (λ p v. (ap (λ (h : PacketHead). h.ops) v.1, subst (λ (passes : ℕ). EachIs (IsOp passes) 0 p.ops) (ap (λ (h : PacketHead). h.passes) v.1) (each_from_packet p.passes 0 p.ops v.0.fits.ops v.0.typed.ops))) (λ ops o.
    done_codec (record { client = head.client; seq = head.seq; passes = head.passes; halves = head.halves; ops = ops })
    (λ p. (IsPacket p × (head_of_packet p ≡ head)) × (p.ops ≡ ops))
    ((made_packet head ops h o, rw o.0 refl), refl)
    (λ p v. rw (← v.0.1, ← v.1) refl))))
    (λ p v. v) (λ p v. v) (λ p v. rw append-nil refl)
