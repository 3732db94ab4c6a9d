-- The store of hosts: finite maps from tuples to their values and stamps.
use Rattle.std.specs.Prelude.{ℕ, ℤ, pos, refl, unwrap_or}
use Rattle.std.specs.Coded.{Coded, code_by, coded×, coded_ℕ, coded_ℤ}
use Rattle.std.specs.FinMap as fin
use Rattle.txn_model.specs.Tuples.{tuple_cmp, coded_tuple}
use Rattle.txn_model.specs.declared.op.TupleId.{TupleId}
use Rattle.txn_model.specs.declared.stamp.Seen.{Seen}
use Rattle.txn_model.specs.declared.stamp.Stamp.{Stamp}
use Rattle.history_model.specs.History.{greater}

abbrev pub Store : Type 0
Store = fin.FinMap tuple_cmp Seen

abbrev pub coded_seen : Coded Seen
coded_seen =
    code_by (ℤ × (ℕ × ℕ)) (coded× coded_ℤ (coded× coded_ℕ coded_ℕ)) (λ s. (s.value, (s.stamp.number, s.stamp.sub))) (λ n. record { value = n.0; stamp = record { number = n.1.0; sub = n.1.1 } }) (λ _. refl)

abbrev pub store_code : Coded Store
store_code = fin.code coded_tuple coded_seen

-- what a tuple has at first: its value, and the stamp 0.0
abbrev pub first_seen : ℤ → Seen
first_seen value = record { value = value; stamp = record { number = 0; sub = 0 } }

-- what the store has at a tuple; 0 with the stamp 0.0 where it isn't there
abbrev pub seen_at : Store → TupleId → Seen
seen_at store t = unwrap_or (fin.get store t) (first_seen (pos 0))

-- the store in which a tuple has this value, and the greater of its stamp and this one
abbrev pub installed : Store → TupleId → ℤ → Stamp → Store
installed store t value stamp = fin.insert store t (record { value = value; stamp = greater (seen_at store t).stamp stamp })
