-- How a plan is kept: the passes of its operations, and zeros behind them.
use Rattle.std.specs.Prelude.{◌≡◌, ◌-◌, ◌≤◌, ◌++◌, length, take, replicate, refl}
use Rattle.stage_layout.specs.declared.pass_plan.PassPlan.TheInside.{Inside}

pub record IsPadded (p : Inside) : Type 0 where
  pub bound : p.count ≤ 16
  pub counted : length (take p.count p.passes) ≡ p.count
  pub padded : take p.count p.passes ++ replicate (16 - p.count) 0 ≡ p.passes

-- nothing else is kept
pub inverse-view : (p : Inside) → IsPadded p
    → (record { passes = take p.count p.passes ++ replicate (16 - length (take p.count p.passes)) 0; count = length (take p.count p.passes); halves = p.halves }) ≡ p
inverse-view p h = rw (h.counted, h.padded) refl
