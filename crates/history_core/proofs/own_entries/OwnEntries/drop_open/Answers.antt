use Rattle.std.proofs.Common.{◌≡◌, List, map, sym, ap, ap₂, ◌∙◌, Option, ℕ}
use Rattle.history_model.specs.History.{History}
use Rattle.history_core.specs.Own.{plain_kept, without_open}
use Rattle.history_core.specs.Plain.{Own}
use Rattle.history_core.specs.declared.own_entries.Kept.{Kept}
use Rattle.history_core.proofs.Kept.{stays, goes}
use Rattle.history_core.proofs.own_entries.OwnEntries.drop_open.Goals as goal

pub returns-then-kept : goal.returns-then-kept
returns-then-kept c =
    ap₂ (λ (ops : List (Option ℕ)) (entries : History). record { ops = ops; entries = entries }) (ap (λ (o : Own). o.ops) c.self.view_is)
    (ap (map plain_kept) c.push_reserved.ensures.items
    ∙ stays c.in-Some.kept c.pop.new.self.items c.if-kept.true
    ∙ ap (λ (l : List Kept). without_open (map plain_kept l)) (sym c.in-Some.ensures.items)
    ∙ ap (λ (o : Own). without_open o.entries) c.self.view_is)

pub returns-else-kept : goal.returns-else-kept
returns-else-kept c =
    ap₂ (λ (ops : List (Option ℕ)) (entries : History). record { ops = ops; entries = entries }) (ap (λ (o : Own). o.ops) c.self.view_is)
    (goes c.in-Some.kept c.pop.new.self.items c.if-kept.false
    ∙ ap (λ (l : List Kept). without_open (map plain_kept l)) (sym c.in-Some.ensures.items)
    ∙ ap (λ (o : Own). without_open o.entries) c.self.view_is)
