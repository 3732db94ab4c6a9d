use Rattle.std.proofs.Common.{List, [], ◌∷◌, ℕ, length, refl, sym, ap, ◌∙◌}
use Rattle.history_model.specs.History.{History}
use Rattle.history_core.specs.Merge.{merged}
use Rattle.history_core.proofs.Walked.{all_left}
use Rattle.history_core.proofs.walk.Walk.over.Goals as goal

abbrev zeros : List ℕ
zeros = 0 ∷ 0 ∷ 0 ∷ 0 ∷ 0 ∷ 0 ∷ 0 ∷ 0 ∷ []

pub invariant_of-result : goal.invariant_of-result
invariant_of-result c = record {
  lists = c.requires.lists;
  many = c.requires.many ∙ ap (λ (l : List History). length (merged l)) (sym (all_left c.args.owns.now zeros (refl, (refl, (refl, (refl, (refl, (refl, (refl, (refl, tt))))))))));
}

pub returns : goal.returns
returns c = ap merged (all_left c.args.owns.now zeros (refl, (refl, (refl, (refl, (refl, (refl, (refl, (refl, tt)))))))))
