use Rattle.std.proofs.Common.{◌++◌, ◌∷◌, [], List, Option, None, replicate, ℕ, ap, ◌∙◌, arith, rules}
use Rattle.std.proofs.lemmas.List.{replicate_more}
use Rattle.gap_placement.specs.declared.spot.Spot.{Spot}
use Rattle.gap_placement.proofs.slots.free_slots.Goals as goal

pub loop-preserved : goal.loop-preserved
loop-preserved c = record {
  many = search rules;
  items = c.push_reserved.ensures.items ∙ ap (λ (l : List (Option Spot)). l ++ None ∷ []) c.loop.invariant.items ∙ replicate_more c.loop.counter None;
  room = search rules;
}

pub returns : goal.returns
returns c = c.loop.invariant.items ∙ ap (λ (n : ℕ). replicate n None) (omega arith)
