use Rattle.std.proofs.Common.{◌≡◌, ◌+◌, ◌++◌, List, ℤ, pos, drop, sym, ap, ◌∙◌}
use Rattle.std.specs.BTreeSet as set
use Rattle.std.specs.FinMap as fin
use Rattle.txn_model.specs.Places.{place_cmp}
use Rattle.txn_model.specs.declared.place.Place.{Place}
use Rattle.gap_placement.proofs.Joining.{if_ok, kept, kept_sorted, kept_is, kept_more, kept_less, kept_end}
use Rattle.gap_placement.proofs.near.registers_at.Goals as goal
use Rattle.gap_placement.proofs.near.registers_at.Goals.{then-contains+in_ok-push, else-contains}

abbrev zero_row : Place × ℤ
zero_row = (record { stage = 0; array = 0; cell = 0 }, pos 0)

pub loop-row-init : goal.loop-row-init
loop-row-init c = ap (λ (l : List (Place × ℤ)). l ++ kept c.args.places.now c.rows-all.result.now) c.new-rows.ensures.items

pub loop-row-preserved : goal.loop-row-preserved
loop-row-preserved c =
    let places = c.args.places.now in
    let all = c.rows-all.result.now in
    let i = c.loop-row.row-index in
    let rest = kept places (drop (i + 1) all) in
    elim c.if-contains.branch [
      | then-contains+in_ok-push w ↦
          ap (λ (l : List (Place × ℤ)). l ++ rest) (ap (λ v. v.items) w.rows-is ∙ w.in_ok-push.ensures.items)
          ∙ kept_more places c.loop-row.rows.items all i zero_row c.loop-row-test.true (sym c.contains.ensures ∙ w.if-contains.true) ∙ c.loop-row.invariant
      | else-contains w ↦
          ap (λ (l : List (Place × ℤ)). l ++ rest) (ap (λ v. v.items) w.rows-is)
          ∙ kept_less places c.loop-row.rows.items all i zero_row c.loop-row-test.true (sym c.contains.ensures ∙ w.if-contains.false) ∙ c.loop-row.invariant
    ]

pub of-requires : goal.of-requires
of-requires c =
    record {
      ascending = kept_sorted c.args.places.now c.args.first.now c.as_slice.result.now
          (c.as_slice.ensures.value ∙ kept_end c.args.places.now c.loop-row.rows.items c.rows-all.result.now c.loop-row.row-index c.loop-row-test.false ∙ c.loop-row.invariant ∙ ap (kept c.args.places.now) c.rows-all.ensures);
    }

pub returns : goal.returns
returns c =
    let first = c.args.first.now in
    let has = set.contains place_cmp c.args.places.now in
    if_ok (λ m. m ≡ fin.from_sorted c.as_slice.result.now) (λ m. m ≡ fin.retain_keys first has) c.of.result c.of.ensures
    (λ m is. is
    ∙ kept_is c.args.places.now first c.as_slice.result.now
    (c.as_slice.ensures.value ∙ kept_end c.args.places.now c.loop-row.rows.items c.rows-all.result.now c.loop-row.row-index c.loop-row-test.false ∙ c.loop-row.invariant ∙ ap (kept c.args.places.now) c.rows-all.ensures))
