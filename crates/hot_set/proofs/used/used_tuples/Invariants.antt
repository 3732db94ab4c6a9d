use Rattle.std.proofs.Common.{◌≡◌, ◌++◌, drop}
use Rattle.std.specs.List.{flat_map}
use Rattle.hot_set.specs.Uses.{tuples_in}
use Rattle.hot_set.proofs.used.used_tuples.Given as goal

-- what is left comes behind what was pushed
abbrev pub invariant-loop-client : goal.invariant-loop-client
invariant-loop-client l = l.used.items ++ flat_map (λ items. flat_map tuples_in items) (drop l.client l.session.clients) ≡ flat_map (λ items. flat_map tuples_in items) l.session.clients
