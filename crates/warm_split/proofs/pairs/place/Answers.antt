use Rattle.std.proofs.Common.{◌≡◌, ◌<◌, ◌≤◌, ◌+◌, ℕ, true, false, SFits, w64, to_z, of_z, pos, List, length, set, get_or, ap, sym, subst, refl, rules, ◌∙◌, arith}
use Rattle.std.proofs.lemmas.Int.{to_z-of_z}
use Rattle.std.proofs.lemmas.Option.{get_or_from_slice_get}
use Rattle.txn_model.specs.Listed.{Listed}
use Rattle.txn_model.specs.Serial.{pair_at}
use Rattle.txn_model.specs.declared.pairs.Pair.{Pair}
use Rattle.warm_split.specs.OpSet.{contains, members}
use Rattle.warm_split.proofs.Placing.{PlacesTo, place_on, place_off, members_below, members_few}
use Rattle.warm_split.proofs.pairs.place.Goals as goal
use Rattle.warm_split.proofs.pairs.place.Goals.{then-has, else-has}

pub get-requires : goal.get-requires
get-requires c =
    let had = c.loop-op.invariant.so_far in
    let lt : c.loop-op.op < length c.args.pairs.now.items = omega (arith, c.loop-op-test.true, c.len-op-end.ensures.value) in
    omega (arith, had.number, c.requires, members_below c.args.set c.loop-op.op (length c.args.pairs.now.items) lt (sym c.has.ensures ∙ c.if-has.true))

pub loop-op-init : goal.loop-op-init
loop-op-init c = record {
  spare = refl;
  so_far = record { size = refl; number = refl; placed = λ k lt on. absurd (omega arith); later = λ k lt. refl; others = λ k off. refl };
}

pub overflow_add-next : goal.overflow_add-next
overflow_add-next c =
    let had = c.loop-op.invariant.so_far in
    omega (arith, had.number, members_few c.args.set c.loop-op.op, c.loop-op-test.true, c.len-op-end.ensures.value, c.len-op-end.ensures.bound)

pub loop-op-preserved : goal.loop-op-preserved
loop-op-preserved c =
    let chosen = c.args.set in
    let hot = c.args.hot.now.items in
    let old = c.args.pairs.now.items in
    let i = c.loop-op.op in
    let next = c.loop-op.next in
    let pairs = c.loop-op.pairs.items in
    let had = c.loop-op.invariant.so_far in
    let lt : i < length old = omega (arith, c.loop-op-test.true, c.len-op-end.ensures.value) in
    elim c.if-has.branch [
      | then-has w ↦
          let items = ap (λ (p : Listed Pair). p.items) w.pairs-is ∙ w.set.ensures.items in
          let got = get_or_from_slice_get hot next w.get.result (record { was = pos 0; now = pos 0 }) w.get.ensures in
          record {
            spare = ap (λ (p : Listed Pair). p.spare) w.pairs-is ∙ w.set.ensures.spare ∙ c.loop-op.invariant.spare;
            so_far = subst (λ (n : ℕ). PlacesTo chosen hot old (i + 1) n c.if-has.pairs.items) (sym w.next-is)
                (subst (λ (l : List Pair). PlacesTo chosen hot old (i + 1) (next + 1) l) (sym items) (place_on chosen hot old i next pairs w.get.result lt (sym c.has.ensures ∙ w.if-has.true) (sym got) had));
          }
      | else-has w ↦ record {
        spare = ap (λ (p : Listed Pair). p.spare) w.pairs-is ∙ c.loop-op.invariant.spare;
        so_far = subst (λ (n : ℕ). PlacesTo chosen hot old (i + 1) n c.if-has.pairs.items) (sym w.next-is)
            (subst (λ (l : List Pair). PlacesTo chosen hot old (i + 1) next l) (sym (ap (λ (p : Listed Pair). p.items) w.pairs-is)) (place_off chosen hot old i next pairs (sym c.has.ensures ∙ w.if-has.false) had));
      }
    ]
