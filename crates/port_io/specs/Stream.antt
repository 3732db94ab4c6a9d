-- What contracts see of an adapter over a stream of the process, or over files.
use Rattle.std.specs.Prelude.{ℕ}

-- the stream, and how many calls have failed
pub record Stream (S : Type 0) : Type 0 where
  pub stream : S
  pub failed : ℕ

-- how many calls have failed
pub record Counted : Type 0 where
  pub failed : ℕ
