use Rattle.std.proofs.Common.{◌≡◌, List, ◌++◌, take, drop, map, length, get_or, set, sym, ap, subst, ◌∙◌, arith}
use Rattle.history_core.specs.Merge.{AreOwn, all_entries, all_runs}
use Rattle.history_core.specs.Own.{dropped}
use Rattle.history_core.specs.Plain.{Own}
use Rattle.history_core.specs.Recorded.{Recorded}
use Rattle.history_core.proofs.Changes.{recorded, drop_next, drop_all, are_dropped}
use Rattle.history_core.proofs.history.History.drop_unanswered.Goals as goal

pub invariant_of-self : goal.invariant_of-self
invariant_of-self c =
    let owns = c.self.inside.owns.items in
    let later = c.loop-own.own-items in
    let all : take c.self.inside.owns.len (later ++ drop (length later) owns) ≡ map dropped owns =
    drop_all owns later c.self.inside.owns.len c.loop-own.own-index (c.loop-own.invariant ∙ ap (λ (l : List Own). map dropped (take c.loop-own.own-index l) ++ drop c.loop-own.own-index l) c.deref_mut-own-items.ensures.value)
    (omega (arith, c.loop-own-test.false, ap length c.deref_mut-own-items.ensures.value, c.loop-own.auto.own-items)) (omega (arith, c.self.inside.owns.ok.0)) (omega (arith, c.loop-own.auto.own-items, ap length c.deref_mut-own-items.ensures.value)) in
    subst AreOwn (sym all) (are_dropped owns c.self.invariant _ c.self.view_is c.requires).are

pub loop-own-preserved : goal.loop-own-preserved
loop-own-preserved c =
    let init = c.deref_mut-own-items.result.now in
    let i = c.loop-own.own-index in
    let x = c.own-item.result in
    ap (λ (l : List Own). set l i c.drop_open.new.self) c.loop-own.invariant
    ∙ drop_next init i x c.drop_open.new.self (omega (arith, c.loop-own-test.true, c.loop-own.auto.own-items)) (c.own-item.is ∙ ap (λ (l : List Own). get_or l i x) c.loop-own.invariant) (c.drop_open.ensures ∙ ap dropped (sym c.own-item.is))

pub returns : goal.returns
returns c =
    let owns = c.self.inside.owns.items in
    let later = c.loop-own.own-items in
    let all : take c.self.inside.owns.len (later ++ drop (length later) owns) ≡ map dropped owns =
    drop_all owns later c.self.inside.owns.len c.loop-own.own-index (c.loop-own.invariant ∙ ap (λ (l : List Own). map dropped (take c.loop-own.own-index l) ++ drop c.loop-own.own-index l) c.deref_mut-own-items.ensures.value)
    (omega (arith, c.loop-own-test.false, ap length c.deref_mut-own-items.ensures.value, c.loop-own.auto.own-items)) (omega (arith, c.self.inside.owns.ok.0)) (omega (arith, c.loop-own.auto.own-items, ap length c.deref_mut-own-items.ensures.value)) in
    ap recorded all ∙ (are_dropped owns c.self.invariant _ c.self.view_is c.requires).view
