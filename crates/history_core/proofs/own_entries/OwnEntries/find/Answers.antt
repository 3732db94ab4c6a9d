use Rattle.std.proofs.Common.{◌≡◌, ◌==◌, find, map, rules, sym, ap, subst, ◌∙◌, ℕ, length, List}
use Rattle.std.specs.List.Sorted.{IsBinarySearchResult, IsSearchInRange}
use Rattle.std.specs.Ordering.{nat_cmp}
use Rattle.std.proofs.lemmas.List.Sorted.{answers_always}
use Rattle.history_model.specs.History.{History}
use Rattle.history_core.specs.Own.{IsRising, plain_kept}
use Rattle.history_core.specs.Plain.{Own}
use Rattle.history_core.specs.declared.own_entries.Kept.{Kept}
use Rattle.history_core.proofs.Kept.{found, not_found}
use Rattle.history_core.proofs.own_entries.OwnEntries.find.Goals as goal

pub returns-in-Ok : goal.returns-in-Ok
returns-in-Ok c =
    let kepts = c.self.inside.entries.items in
    let view = ap (λ (o : Own). o.entries) c.self.view_is in
    let facts = c.binary_search_by_key.ensures in
    found c.args.seq kepts (subst IsRising (sym view) c.requires) c.binary_search_by_key.result
    (subst (λ (l : List Kept). IsSearchInRange c.binary_search_by_key.result (length l)) c.deref.ensures.value facts.bound)
    (subst (λ (l : List Kept). IsBinarySearchResult (λ (k : Kept). nat_cmp k.entry.seq c.args.seq) l c.binary_search_by_key.result) c.deref.ensures.value (facts.position (λ kept. kept.entry.seq) (answers_always _ _ _ (λ f a r g called. search rules))))
    c.in-Ok.at c.index.result.now c.in-Ok.is c.index.ensures
    ∙ ap (λ (h : History). find (λ e. e.entry.seq == c.args.seq) h) view

pub returns-in-Err : goal.returns-in-Err
returns-in-Err c =
    let kepts = c.self.inside.entries.items in
    let view = ap (λ (o : Own). o.entries) c.self.view_is in
    let facts = c.binary_search_by_key.ensures in
    not_found c.args.seq kepts (subst IsRising (sym view) c.requires) c.binary_search_by_key.result
    (subst (λ (l : List Kept). IsSearchInRange c.binary_search_by_key.result (length l)) c.deref.ensures.value facts.bound)
    (subst (λ (l : List Kept). IsBinarySearchResult (λ (k : Kept). nat_cmp k.entry.seq c.args.seq) l c.binary_search_by_key.result) c.deref.ensures.value (facts.position (λ kept. kept.entry.seq) (answers_always _ _ _ (λ f a r g called. search rules))))
    c.in-Err.field-0 c.in-Err.is
    ∙ ap (λ (h : History). find (λ e. e.entry.seq == c.args.seq) h) view
