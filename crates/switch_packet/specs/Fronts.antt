-- Fronts of texts. A text function says how the values that are valid are spelled.
use Rattle.std.specs.Prelude.{◌≡◌, ℕ, ◌+◌, ◌<◌, List, ◌++◌, length, take}

-- the bytes are a text, or begin one
pub record Begins {X : Type 0} (text : X → List ℕ) (IsValid : X → Type 0) (bytes : List ℕ) : Type 0 where
  pub whole : X
  pub valid : IsValid whole
  pub more : List ℕ
  pub parts : text whole ≡ bytes ++ more

-- the bytes begin a text, and are less than the whole of it
pub record IsFront {X : Type 0} (text : X → List ℕ) (IsValid : X → Type 0) (bytes : List ℕ) : Type 0 where
  pub whole : X
  pub valid : IsValid whole
  pub more : List ℕ
  pub rest : 0 < length more
  pub parts : text whole ≡ bytes ++ more

-- the bytes before the place begin a text and are less than the whole, and with the byte there they begin none
pub record IsBadAt {X : Type 0} (text : X → List ℕ) (IsValid : X → Type 0) (bytes : List ℕ) (place : ℕ) : Type 0 where
  pub within : place < length bytes
  pub before : IsFront text IsValid (take place bytes)
  pub none : ¬ Begins text IsValid (take (place + 1) bytes)
