-- When a call may answer that it failed: only where the count of failures rose.
use Rattle.std.specs.Prelude.{◌≡◌, ℕ, ◌+◌, ◌-◌, ◌^◌, ◌≤◌, min}

-- a count and one more; one that has reached the most that a `u64` holds stays there
abbrev pub count_on : ℕ → ℕ
count_on count = min (count + 1) (2 ^ 64 - 1)

-- a count of failures rose, or stands at the most
abbrev pub Rose : ℕ → ℕ → Type 0
Rose before now = count_on before ≤ now

-- The count did not fall: it rose where the call failed, and stands still where it did not. So no other answer comes with a
-- failure that was counted.
pub record HasCause (before now : ℕ) (HasFailed : Type 0) : Type 0 where
  pub later : before ≤ now
  pub rose : HasFailed → Rose before now
  pub still : (HasFailed → ⊥) → now ≡ before
