use Rattle.std.proofs.Common.{w64, sym, ap, ◌∙◌, true≢false, ℤ}
use Rattle.std.proofs.lemmas.Int.{to_z-of_z}
use Rattle.std.specs.FinMap as fin
use Rattle.txn_model.specs.declared.op.TupleId.{TupleId}
use Rattle.txn_model.proofs.SortedRows.{insert_at, get_absent}
use Rattle.txn_model.proofs.TupleOrder.{tuple_cmp_total, tuple_cmp_exact}
use Rattle.txn_model.proofs.tuple_map.TupleMap.set.Goals as goal

pub invariant_of-self : goal.invariant_of-self
invariant_of-self c =
    let found = rw c.as_slice.ensures.value at c.in-Some.ensures in
    let row : TupleId × ℤ = (c.args.tuple, c.args.value) in
    (insert_at tuple_cmp_total tuple_cmp_exact _ c.self.invariant c.args.tuple _ c.in-Some.at row found.0 (found.1 row)).0

pub returns-in-Some : goal.returns-in-Some
returns-in-Some c =
    let found = rw c.as_slice.ensures.value at c.in-Some.ensures in
    let row : TupleId × ℤ = (c.args.tuple, c.args.value) in
    (insert_at tuple_cmp_total tuple_cmp_exact _ c.self.invariant c.args.tuple _ c.in-Some.at row found.0 (found.1 row)).1
    ∙ ap (λ (v : ℤ). fin.insert (fin.from_sorted c.self.inside.rows.items) c.args.tuple v) (to_z-of_z w64 c.args.value c.ranges.value)
    ∙ ap (λ m. fin.insert m c.args.tuple c.args.value) c.self.view_is

pub returns-in_default : goal.returns-in_default
returns-in_default c =
    let none = rw c.as_slice.ensures.value at c.in_default.ensures in
    let missing = ap (λ m. fin.get m c.args.tuple) (sym c.self.view_is) ∙ get_absent tuple_cmp_total _ c.self.invariant c.args.tuple none in
    absurd (true≢false (sym (rw missing at c.requires.there)))
