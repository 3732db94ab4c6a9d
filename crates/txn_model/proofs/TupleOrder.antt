-- The order of tuples is total, and tells all of them apart.
use Rattle.std.proofs.Common.{ap}
use Rattle.std.specs.Cmp.{IsTotalOrder, nat_cmp_total}
use Rattle.std.specs.FinMap.{IsAntisymmetric, nat_cmp-IsAntisymmetric}
use Rattle.std.proofs.lemmas.Cmp.{on_total}
use Rattle.txn_model.specs.declared.op.TupleId.{TupleId}
use Rattle.txn_model.specs.Tuples.{tuple_cmp}

pub tuple_cmp_total : IsTotalOrder tuple_cmp
tuple_cmp_total = on_total (λ (t : TupleId). t.0) nat_cmp_total

pub tuple_cmp_exact : IsAntisymmetric tuple_cmp
tuple_cmp_exact a b e = ap (λ n. record { 0 = n }) (nat_cmp-IsAntisymmetric a.0 b.0 e)
