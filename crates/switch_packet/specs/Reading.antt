-- Reading from left to right, with the first fault that is met.
use Rattle.std.specs.Prelude.{◌≡◌, Bool, ℕ, zero, suc, ℤ, ◌+◌, List, [], ◌∷◌, length, take, drop, Result, Ok, Err, nat_lt, ◌||◌, ◌==◌, if◌then◌else◌}
use Rattle.std.specs.Int.{Width, w32, w64, byte_len, from_be_bytes, cast_signed, is_in_range}
use Rattle.switch_packet.specs.declared.fault.PacketFault.{PacketFault}
use Rattle.switch_packet.specs.declared.fault.PacketFault.TheVariants.{Short, BadByte}

-- how many bytes were read, and the bytes that are left
pub record Cursor : Type 0 where
  pub at : ℕ
  pub left : List ℕ

-- nothing was read yet
abbrev pub start : List ℕ → Cursor
start bytes = record { at = 0; left = bytes }

-- one reading after another; the first fault ends it
infixl 10 ◌>>=◌
abbrev pub ◌>>=◌ : {A B : Type 0} → Result A PacketFault → (A → Result B PacketFault) → Result B PacketFault
(Ok x) >>= f = f x
(Err e) >>= f = Err e

-- what a function returned is what reading gives, and so is where it leaves the reader
abbrev pub Reads : {X : Type 0} → Cursor → Result X PacketFault → Result (X × Cursor) PacketFault → Type 0
Reads new (Ok x) read = read ≡ Ok (x, new)
Reads new (Err e) read = read ≡ Err e

-- the same for a value that was put into what was lent
abbrev pub ReadsAs : {X : Type 0} → X → Cursor → Result (Unit {0}) PacketFault → Result (X × Cursor) PacketFault → Type 0
ReadsAs x new (Ok done) read = read ≡ Ok (x, new)
ReadsAs x new (Err e) read = read ≡ Err e

-- ---- bytes and numbers

-- the first of the bytes left, where it passes the test
abbrev pub byte_in : (ℕ → Bool) → ℕ → List ℕ → Result (ℕ × Cursor) PacketFault
byte_in is_good at [] = Err Short
byte_in is_good at (b ∷ rest) = if is_good b then Ok (b, record { at = at + 1; left = rest }) else Err (BadByte at)

-- one byte that passes the test
abbrev pub byte_by : (ℕ → Bool) → Cursor → Result (ℕ × Cursor) PacketFault
byte_by is_good c = byte_in is_good c.at c.left

-- one byte, from least to most
abbrev pub byte_at : ℕ → ℕ → Cursor → Result (ℕ × Cursor) PacketFault
byte_at least most c = byte_by (is_in_range least most) c

-- one of two bytes
abbrev pub either_at : ℕ → ℕ → Cursor → Result (ℕ × Cursor) PacketFault
either_at one other c = byte_by (λ b. b == one || b == other) c

-- so many bytes, each of them 0
unfoldable pub zeros_at : ℕ → Cursor → Result (Unit {0} × Cursor) PacketFault
zeros_at zero c = Ok (tt, c)
zeros_at (suc n) c = do
  b ← byte_at 0 0 c
  zeros_at n b.1

-- a number of this width, the highest byte first
abbrev pub number_at : Width → Cursor → Result (ℕ × Cursor) PacketFault
number_at w c = if nat_lt (length c.left) (byte_len w) then Err Short else Ok (from_be_bytes w (take (byte_len w) c.left), record { at = c.at + byte_len w; left = drop (byte_len w) c.left })

-- a number of 4 bytes
unfoldable pub u32_at : Cursor → Result (ℕ × Cursor) PacketFault
u32_at c = number_at w32 c

-- a number of 8 bytes
unfoldable pub u64_at : Cursor → Result (ℕ × Cursor) PacketFault
u64_at c = number_at w64 c

-- a number of 8 bytes in two's complement
unfoldable pub i64_at : Cursor → Result (ℤ × Cursor) PacketFault
i64_at c = do
  n ← u64_at c
  Ok (cast_signed w64 n.0, n.1)

-- so many values, one after the other; the first of them is number k
unfoldable pub each_at : {X : Type 0} → (ℕ → Cursor → Result (X × Cursor) PacketFault) → ℕ → ℕ → Cursor → Result (List X × Cursor) PacketFault
each_at read k zero c = Ok ([], c)
each_at read k (suc n) c = do
  first ← read k c
  others ← each_at read (k + 1) n first.1
  Ok (first.0 ∷ others.0, others.1)
