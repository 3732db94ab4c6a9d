-- Adding bytes at the end of a buffer, within the room that it has.
use Rattle.std.specs.Prelude.{◌≡◌, ℕ, ◌+◌, ◌≤◌, List, ◌++◌, length, vec_len, vec_capacity}
use Rattle.std.specs.Global.{Vec}

-- so many bytes can be added without memory
abbrev pub HasRoom : Vec ℕ → ℕ → Type 0
HasRoom buffer count = vec_len buffer + count ≤ vec_capacity buffer

-- the bytes were added, and no memory was taken
pub record Adds (old new : Vec ℕ) (bytes : List ℕ) : Type 0 where
  pub items : new.items ≡ old.items ++ bytes
  pub len : vec_len new ≡ vec_len old + length bytes
  pub capacity : vec_capacity new ≡ vec_capacity old
