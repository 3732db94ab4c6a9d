use Rattle.std.proofs.Common.{◌≡◌, ◌-◌, List, length, sym, ap, ap₂, ◌∙◌, arith, Option, ℕ}
use Rattle.history_model.specs.History.{History}
use Rattle.std.proofs.lemmas.List.{length-map}
use Rattle.history_core.specs.Own.{plain_kept}
use Rattle.history_core.specs.Plain.{Own}
use Rattle.history_core.proofs.Kept.{answered_end}
use Rattle.history_core.proofs.own_entries.OwnEntries.answer.Goals as goal

pub returns : goal.returns
returns c before entry ends =
    let kepts = c.self.inside.entries.items in
    let m = c.len-last.result - 1 in
    ap₂ (λ (ops : List (Option ℕ)) (entries : History). record { ops = ops; entries = entries }) (ap (λ (o : Own). o.ops) c.self.view_is)
    (answered_end kepts m c.index_mut-kept.result.now c.refill.new.to c.args.pairs.now.items before entry
    (omega (arith, c.requires.some, c.len-last.ensures, c.self.inside.entries.ok.0, ap (λ (o : Own). length o.entries) c.self.view_is, length-map kepts plain_kept))
    c.index_mut-kept.ensures.value c.refill.ensures.items (ap (λ (o : Own). o.entries) c.self.view_is ∙ ends))
