use Rattle.std.proofs.Common.{w64, sym, ap, ◌∙◌, true≢false, ℤ}
use Rattle.std.proofs.lemmas.Int.{to_z-of_z}
use Rattle.std.specs.FinMap as fin
use Rattle.txn_model.specs.declared.place.Place.{Place}
use Rattle.txn_model.proofs.SortedRows.{insert_at, get_absent}
use Rattle.txn_model.proofs.PlaceOrder.{place_cmp_total, place_cmp_exact}
use Rattle.txn_model.proofs.place.PlaceMap.set.Goals as goal

pub invariant_of-self : goal.invariant_of-self
invariant_of-self c =
    let found = rw c.as_slice.ensures.value at c.in-Some.ensures in
    let row : Place × ℤ = (c.args.place, c.args.value) in
    (insert_at place_cmp_total place_cmp_exact _ c.self.invariant c.args.place _ c.in-Some.at row found.0 (found.1 row)).0

pub returns-in-Some : goal.returns-in-Some
returns-in-Some c =
    let found = rw c.as_slice.ensures.value at c.in-Some.ensures in
    let row : Place × ℤ = (c.args.place, c.args.value) in
    (insert_at place_cmp_total place_cmp_exact _ c.self.invariant c.args.place _ c.in-Some.at row found.0 (found.1 row)).1
    ∙ ap (λ (v : ℤ). fin.insert (fin.from_sorted c.self.inside.rows.items) c.args.place v) (to_z-of_z w64 c.args.value c.ranges.value)
    ∙ ap (λ m. fin.insert m c.args.place c.args.value) c.self.view_is

pub returns-in_default : goal.returns-in_default
returns-in_default c =
    let none = rw c.as_slice.ensures.value at c.in_default.ensures in
    let missing = ap (λ m. fin.get m c.args.place) (sym c.self.view_is) ∙ get_absent place_cmp_total _ c.self.invariant c.args.place none in
    absurd (true≢false (sym (rw missing at c.requires.there)))
