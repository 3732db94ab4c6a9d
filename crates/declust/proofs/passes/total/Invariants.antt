use Rattle.std.proofs.Common.{◌≡◌, ◌+◌, ◌*◌, ◌≤◌, drop, length}
use Rattle.std.specs.Prelude.{sum_by}
use Rattle.std.specs.List.{flat_map}
use Rattle.declust.specs.Total.{passes_of}
use Rattle.declust.proofs.passes.total.Given as goal

-- the passes of the clients so far, with those of the clients that are left, are all
abbrev pub invariant-loop-client : goal.invariant-loop-client
invariant-loop-client l = record {
  value : l.passes + sum_by (passes_of l.session.shape l.layout) (flat_map (λ items. items) (drop l.client l.session.clients)) ≡ sum_by (passes_of l.session.shape l.layout) (flat_map (λ items. items) l.session.clients);
  bound : l.passes + length (flat_map (λ items. items) (drop l.client l.session.clients)) * 255 ≤ length (flat_map (λ items. items) l.session.clients) * 255;
}
