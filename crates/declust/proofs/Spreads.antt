-- The choice between the two layouts.
use Rattle.std.proofs.Common.{◌≡◌, ℕ, ◌*◌, ◌<◌, ◌≤◌, true, false, List, arith, refl, sym, ap, ap₂, ◌∙◌}
use Rattle.std.specs.Prelude.{nat_lt, if◌then◌else◌}
use Rattle.std.proofs.lemmas.Bool.Decides.{nat_tests}
use Rattle.txn_model.specs.declared.op.TupleId.{TupleId}
use Rattle.stage_layout.specs.declared.layout.LayoutRow.{LayoutRow}
use Rattle.catalogue.specs.Plan.{Plan}
use Rattle.declust.specs.Greedy.{IsGreedy}
use Rattle.declust.specs.Plain.{plain_rows}
use Rattle.declust.specs.Spread.{IsSpread}
use Rattle.declust.specs.Total.{total}

less : (a b c d : ℕ) → c ≡ a → d ≡ b → c < d → nat_lt a b ≡ true
less a b c d e f lt = grind (arith, nat_tests, e, f, lt)

not_less : (a b c d : ℕ) → c ≡ a → d ≡ b → d ≤ c → nat_lt a b ≡ false
not_less a b c d e f le = grind (arith, nat_tests, e, f, le)

module _ (plan : Plan) (tuples : List TupleId) (plain greedy : List LayoutRow) (p g : ℕ) (is : plain ≡ plain_rows plan.shape tuples) (filled : IsGreedy plan tuples greedy) (plain_total : p ≡ total plan plain) (greedy_total : g ≡ total plan greedy) where
  known : p ≡ total plan (plain_rows plan.shape tuples)
  known = plain_total ∙ ap (total plan) is

  pub plain_is_chosen : p < g → IsSpread plan tuples (record { layout = plain; passes = p; plain = p })
  plain_is_chosen lt = record {
    greedy = greedy;
    filled = filled;
    layout = rw (less (total plan (plain_rows plan.shape tuples)) (total plan greedy) p g known greedy_total lt) is;
    passes = plain_total;
    plain = known;
  }

  pub greedy_is_chosen : g ≤ p → IsSpread plan tuples (record { layout = greedy; passes = g; plain = p })
  greedy_is_chosen le = record {
    greedy = greedy;
    filled = filled;
    layout = rw (not_less (total plan (plain_rows plan.shape tuples)) (total plan greedy) p g known greedy_total le) refl;
    passes = greedy_total;
    plain = known;
  }
