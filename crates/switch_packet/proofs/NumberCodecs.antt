-- Numbers are read and spelled alike.
use Rattle.std.proofs.Common.{◌≡◌, ℕ, zero, suc, ◌+◌, ◌-◌, ◌<◌, ◌≤◌, ◌^◌, Bool, true, false, cond, ltb, nat_lt, List, [], ◌∷◌, ◌++◌, length, replicate, take, drop, Ok, Err, refl, sym, ap, subst, ◌∙◌, arith}
use Rattle.std.specs.Int.{Width, w16, w32, w64, byte_len, to_be_bytes, from_be_bytes, cast_unsigned, cast_signed}
use Rattle.std.specs.Int as int
use Rattle.std.specs.Prelude.{FitsSigned}
use Rattle.std.proofs.Math.Facts.{Fits-of_z, Fits-lt-pow, Fits-bits, sfits_to_z}
use Rattle.std.proofs.lemmas.Bool.{ltb-false, ltb-true, le-ltb}
use Rattle.std.proofs.lemmas.Int.{to_z-of_z, of_z-to_z}
use Rattle.std.proofs.lemmas.List.{take_at, drop_at, take-append-drop, length-append, length-take, length-replicate, append-nil}
use Rattle.std.proofs.lemmas.Nat.{be_bytes_2, be_bytes_4, be_bytes_8, from_be_bytes-to_be_bytes_2, from_be_bytes-to_be_bytes_4, from_be_bytes-to_be_bytes_8}
use Rattle.switch_packet.specs.declared.fault.PacketFault.{PacketFault}
use Rattle.switch_packet.specs.declared.fault.PacketFault.TheVariants.{Short, BadByte}
use Rattle.switch_packet.specs.Fronts.{IsFront}
use Rattle.switch_packet.specs.PacketText.{i64_text}
use Rattle.switch_packet.specs.Reading.{Cursor, zeros_at, number_at, u32_at, u64_at, i64_at}
use Rattle.switch_packet.specs.PacketReading.{cell_at}
use Rattle.switch_packet.proofs.Codecs.{IsBytes, IsBytes-left, IsBytes-append, IsBytes-zeros, cursor, Takes, IsCodec, byte_codec, done_codec, field_codec, recast}

-- numbers of this width and their bytes determine each other
record IsWide (w : Width) (limit : ℕ) : Type 0 where
  some : 0 < byte_len w
  len : (n : ℕ) → length (to_be_bytes w n) ≡ byte_len w
  back : (bytes : List ℕ) → length bytes ≡ byte_len w → IsBytes bytes → to_be_bytes w (from_be_bytes w bytes) ≡ bytes
  again : (n : ℕ) → n < limit → from_be_bytes w (to_be_bytes w n) ≡ n
  below : (bytes : List ℕ) → IsBytes bytes → from_be_bytes w bytes < limit

wide32 : IsWide w32 (2 ^ 32)
wide32 = record {
  some = omega arith;
  len = λ n. refl;
  back = λ bytes len fits. be_bytes_4 bytes _ len fits refl;
  again = λ n lt. from_be_bytes-to_be_bytes_4 n lt;
  below = λ bytes fits. omega (arith, fits 0, fits 1, fits 2, fits 3);
}

wide64 : IsWide w64 (2 ^ 64)
wide64 = record {
  some = omega arith;
  len = λ n. refl;
  back = λ bytes len fits. be_bytes_8 bytes _ len fits refl;
  again = λ n lt. from_be_bytes-to_be_bytes_8 n lt;
  below = λ bytes fits. omega (arith, fits 0, fits 1, fits 2, fits 3, fits 4, fits 5, fits 6, fits 7);
}

guard_ok : {A : Type 0} (b : Bool) (d : PacketFault) (x y : A) → cond b (Err d) (Ok x) ≡ Ok y → (b ≡ false) × (x ≡ y)
guard_ok true d x y e = absurd cc
guard_ok false d x y e = (refl, cc)

guard_err : {A : Type 0} (b : Bool) (d e : PacketFault) (x : A) → cond b (Err d) (Ok x) ≡ Err e → (b ≡ true) × (d ≡ e)
guard_err true d e x h = (refl, cc)
guard_err false d e x h = absurd cc

module _ (w : Width) (limit : ℕ) (wide : IsWide w limit) where
  number_takes : (c d : Cursor) (n : ℕ) → IsBytes c.left → number_at w c ≡ Ok (n, d) → Takes c d (to_be_bytes w n) × (n < limit)
  number_takes c d n fits e =
      let k = byte_len w in
      let front = take k c.left in
      let made : ℕ × Cursor = (from_be_bytes w front, cursor (c.at + k) (drop k c.left)) in
      let g = guard_ok (nat_lt (length c.left) k) Short made (n, d) e in
      let long : k ≤ length c.left = ltb-false _ _ g.0 in
      let parts : front ++ drop k c.left ≡ c.left = take-append-drop k c.left in
      let bytes : IsBytes front = IsBytes-left front (drop k c.left) (rw parts fits) in
      let back = wide.back front (omega (arith, length-take k c.left)) bytes in
      subst (λ (p : ℕ × Cursor). Takes c p.1 (to_be_bytes w p.0) × (p.0 < limit)) g.1
      (record { parts = rw back (sym parts); at = omega (arith, wide.len (from_be_bytes w front)) }, wide.below front bytes)

  number_again : (n at : ℕ) (rest : List ℕ) → n < limit → number_at w (cursor at (to_be_bytes w n ++ rest)) ≡ Ok (n, cursor (at + length (to_be_bytes w n)) rest)
  number_again n at rest lt =
      let len = wide.len n in
      let long : ltb (length (to_be_bytes w n ++ rest)) (byte_len w) ≡ false = le-ltb _ _ (omega (arith, length-append (to_be_bytes w n) rest)) in
      rw (long, take_at (to_be_bytes w n) rest (byte_len w) len, drop_at (to_be_bytes w n) rest (byte_len w) len, wide.again n lt, len) refl

  number_short : (c : Cursor) → IsBytes c.left → number_at w c ≡ Err Short → IsFront (to_be_bytes w) (λ n. n < limit) c.left
  number_short c fits e =
      let k = byte_len w in
      let g = guard_err (nat_lt (length c.left) k) Short Short (from_be_bytes w (take k c.left), cursor (c.at + k) (drop k c.left)) e in
      let lacks : length c.left < k = ltb-true _ _ g.0 in
      let zeros = replicate (k - length c.left) 0 in
      let count : length zeros ≡ k - length c.left = length-replicate (k - length c.left) 0 in
      let bytes : IsBytes (c.left ++ zeros) = IsBytes-append c.left zeros fits (IsBytes-zeros (k - length c.left)) in
      let len : length (c.left ++ zeros) ≡ k = omega (arith, length-append c.left zeros) in
      record { whole = from_be_bytes w (c.left ++ zeros); valid = wide.below (c.left ++ zeros) bytes; more = zeros; rest = omega arith; parts = wide.back (c.left ++ zeros) len bytes }

  number_never_bad : (c : Cursor) (place : ℕ) → number_at w c ≡ Err (BadByte place) → ⊥
  number_never_bad c place e =
      let k = byte_len w in
      let g = guard_err (nat_lt (length c.left) k) Short (BadByte place) (from_be_bytes w (take k c.left), cursor (c.at + k) (drop k c.left)) e in
      cc (g.1)

  number_codec : IsCodec (to_be_bytes w) (λ n. n < limit) (number_at w)
  number_codec = record {
    some = 0;
    some_valid = omega (arith, wide.below [] (λ i. omega arith));
    takes = number_takes;
    again = number_again;
    short = number_short;
    bad = λ c place fits e. absurd (number_never_bad c place e);
  }

pub u32_codec : IsCodec (to_be_bytes w32) (λ n. n < 2 ^ 32) u32_at
unfolding u32_at
u32_codec = number_codec w32 (2 ^ 32) wide32

pub u64_codec : IsCodec (to_be_bytes w64) (λ n. n < 2 ^ 64) u64_at
unfolding u64_at
u64_codec = number_codec w64 (2 ^ 64) wide64

pub i64_codec : IsCodec i64_text (FitsSigned w64) i64_at
unfolding i64_at
i64_codec =
    recast i64_text (FitsSigned w64)
    (field_codec u64_codec (λ z. cast_unsigned w64 z) (λ z v. Fits-lt-pow (Fits-of_z {w = w64} {z = z} v)) (λ n v.
    done_codec (cast_signed w64 n) (λ z. FitsSigned w64 z × (cast_unsigned w64 z ≡ n)) (sfits_to_z {w = w64} {n = n} (Fits-bits 64 tt v), of_z-to_z w64 n v) (λ z h. sym (to_z-of_z w64 z h.0) ∙ ap (cast_signed w64) h.1)))
    (λ z v. v) (λ z v. v) (λ z v. append-nil (i64_text z))

-- zeros
pub zeros_codec : (n : ℕ) → IsCodec (λ (x : Unit {0}). replicate n 0) (λ x. Unit {0}) (zeros_at n)
unfolding zeros_at
zeros_codec zero = done_codec tt (λ x. Unit {0}) tt (λ x v. refl)
zeros_codec (suc n) =
    recast (λ x. replicate (suc n) 0) (λ x. Unit {0})
    (field_codec (byte_codec 0 0 (omega arith)) (λ (x : Unit {0}). 0) (λ x v. (omega arith, omega arith)) (λ b v.
    recast (λ (x : Unit {0}). replicate n 0) (λ x. Unit {0} × (0 ≡ b)) (zeros_codec n) (λ x v. tt) (λ x u. (tt, omega (arith, v.0, v.1))) (λ x u. refl)))
    (λ x v. tt) (λ x v. tt) (λ x v. refl)

-- cells
high_and_low : (high low : ℕ) → high ≤ 15 → low ≤ 255 → to_be_bytes w16 (from_be_bytes w16 (high ∷ low ∷ [])) ≡ high ∷ low ∷ []
high_and_low high low h l = be_bytes_2 (high ∷ low ∷ []) _ refl (small high low h l) refl
  where
    small : (high low : ℕ) → high ≤ 15 → low ≤ 255 → IsBytes (high ∷ low ∷ [])
    small high low h l zero = omega arith
    small high low h l (suc zero) = omega arith
    small high low h l (suc (suc i)) = omega arith

pub cell_codec : IsCodec (to_be_bytes w16) (λ c. c < 4096) cell_at
unfolding cell_at
cell_codec =
    recast (to_be_bytes w16) (λ c. c < 4096)
    (field_codec (byte_codec 0 15 (omega arith)) (λ c. int.byte_at 1 c) (λ c v. (omega arith, omega arith)) (λ high h.
    field_codec (byte_codec 0 255 (omega arith)) (λ c. int.byte_at 0 c) (λ c v. (omega arith, omega arith)) (λ low l.
    let e = high_and_low high low h.1 l.1 in
    done_codec (from_be_bytes w16 (high ∷ low ∷ [])) (λ c. ((c < 4096) × (int.byte_at 1 c ≡ high)) × (int.byte_at 0 c ≡ low))
    ((omega (arith, h.1, l.1), cc), cc)
    (λ c v. sym (from_be_bytes-to_be_bytes_2 c (omega arith)) ∙ ap (λ (p : ℕ × ℕ). from_be_bytes w16 (p.0 ∷ p.1 ∷ [])) {x = (int.byte_at 1 c, int.byte_at 0 c)} {y = (high, low)} cc))))
    (λ c v. v) (λ c v. v) (λ c v. refl)
