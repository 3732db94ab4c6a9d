-- The order of places is total, and tells all of them apart.
use Rattle.std.proofs.Common.{ℕ, ap, nat_cmp}
use Rattle.std.specs.Cmp.{IsTotalOrder, nat_cmp_total}
use Rattle.std.specs.FinMap.{IsAntisymmetric}
use Rattle.std.proofs.lemmas.Cmp.{on_total, then_total}
use Rattle.std.proofs.lemmas.Map.Lookups.{exact_pairs, exact_unsigned}
use Rattle.std.specs.Ordering.{ordering_then}
use Rattle.txn_model.specs.declared.place.Place.{Place}
use Rattle.txn_model.specs.Places.{place_cmp}

pub place_cmp_total : IsTotalOrder place_cmp
place_cmp_total = then_total (on_total (λ (p : Place). p.stage) nat_cmp_total) (then_total (on_total (λ (p : Place). p.array) nat_cmp_total) (on_total (λ (p : Place). p.cell) nat_cmp_total))

pub place_cmp_exact : IsAntisymmetric place_cmp
place_cmp_exact a b e =
    ap (λ (n : ℕ × (ℕ × ℕ)). record { stage = n.0; array = n.1.0; cell = n.1.1 })
    (exact_pairs nat_cmp (λ x y. ordering_then (nat_cmp x.0 y.0) (nat_cmp x.1 y.1)) exact_unsigned (exact_pairs nat_cmp nat_cmp exact_unsigned exact_unsigned) (a.stage, (a.array, a.cell)) (b.stage, (b.array, b.cell)) e)
