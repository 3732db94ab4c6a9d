-- Bytes of a log that were read ahead.
use Rattle.std.specs.Prelude.{◌≡◌, ℕ, ◌+◌, ◌≤◌, List, Option, IfSome, length, take, drop}

-- bytes from a place on
pub record Piece : Type 0 where
  pub place : ℕ
  pub bytes : List ℕ

-- they are the log's, where it is told
abbrev pub IsPieceOf : Option (List ℕ) → Piece → Type 0
IsPieceOf told p = IfSome told (λ log. p.bytes ≡ take (length p.bytes) (drop p.place log))

-- the bytes hold this place, or end at it, as the log does, where it is told
pub record Reaches (told : Option (List ℕ)) (at : ℕ) (p : Piece) : Type 0 where
  pub begins : p.place ≤ at
  pub within : at ≤ p.place + length p.bytes
  pub ended : at ≡ p.place + length p.bytes → IfSome told (λ log. length log ≤ at)
