-- Tuple maps: finite maps from tuples to numbers.
use Rattle.std.specs.Prelude.{ℕ, ℤ, unwrap_or, pos, refl}
use Rattle.std.specs.declared.cmp.Ordering.{Ordering}
use Rattle.std.specs.Coded.{Coded, code_by, coded_ℕ, coded_ℤ}
use Rattle.std.specs.Ordering.{nat_cmp}
use Rattle.std.specs.FinMap as fin
use Rattle.txn_model.specs.declared.op.TupleId.{TupleId}

-- tuples are ordered by their numbers
abbrev pub tuple_cmp : TupleId → TupleId → Ordering
tuple_cmp a b = nat_cmp a.0 b.0

abbrev pub Tuples : Type 0
Tuples = fin.FinMap tuple_cmp ℤ

abbrev pub coded_tuple : Coded TupleId
coded_tuple = code_by ℕ coded_ℕ (λ t. t.0) (λ n. record { 0 = n }) (λ _. refl)

abbrev pub tuples_code : Coded Tuples
tuples_code = fin.code coded_tuple coded_ℤ

-- the tuple's value, and 0 where it isn't there
abbrev pub value_at : Tuples → TupleId → ℤ
value_at m t = unwrap_or (fin.get m t) (pos 0)
