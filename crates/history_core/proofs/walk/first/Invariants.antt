use Rattle.std.proofs.Common.{◌≡◌, ℕ, ◌<◌, None, MatchOption}
use Rattle.history_core.specs.Cursors.{head_of, IsFirstOf}
use Rattle.history_core.specs.Own.{plain_kept}
use Rattle.history_core.proofs.walk.first.Given as goal

-- the least of the lists so far
abbrev pub invariant-loop-i : goal.invariant-loop-i
invariant-loop-i l = MatchOption l.first ((k : ℕ) → k < l.i → head_of l.owns l.given k ≡ None) (λ x. IsFirstOf l.i l.owns l.given x.0 (plain_kept x.1.now))
