use Rattle.std.proofs.Common.{◌≡◌, ◌+◌, ◌++◌, drop, length}
use Rattle.std.specs.List.{flat_map}
use Rattle.declust.specs.Uses.{uses_from}
use Rattle.declust.proofs.uses.Uses.in_session.Given as goal

-- the items of the clients so far are counted, and what is left comes behind their uses
abbrev pub invariant-loop-client : goal.invariant-loop-client
invariant-loop-client l = record {
  items : l.items + length (flat_map (λ items. items) (drop l.client l.session.clients)) ≡ length (flat_map (λ items. items) l.session.clients);
  list : l.list.items ++ uses_from l.items (flat_map (λ items. items) (drop l.client l.session.clients)) ≡ uses_from 0 (flat_map (λ items. items) l.session.clients);
}
