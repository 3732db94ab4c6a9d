-- The most used tuples of a session.
use Rattle.std.specs.Prelude.{◌≡◌, ℕ, ◌≤◌, List, map, take}
use Rattle.std.specs.declared.cmp.Ordering.{Ordering}
use Rattle.std.specs.FinMap as fin
use Rattle.std.specs.List.{count_by}
use Rattle.std.specs.List.Sorted.{IsPermutation, IsSorted}
use Rattle.std.specs.Ordering.{nat_cmp, ordering_then}
use Rattle.txn_model.specs.Tuples.{tuple_cmp}
use Rattle.txn_model.specs.declared.op.TupleId.{TupleId}
use Rattle.stage_layout.specs.Layout.{same_tuple}
use Rattle.catalogue.specs.Plan.{Plan}
use Rattle.hot_set.specs.Uses.{used_tuples, times}
use Rattle.hot_set.specs.declared.ranking.HotRow.{HotRow}

-- a tuple with its uses, where these are all
abbrev pub use_row : List TupleId → TupleId → HotRow
use_row used t = record { tuple = t; uses = times used t }

-- each tuple of a session with its uses, in the order of the tuples
abbrev pub use_rows : Plan → List HotRow
use_rows plan = map (λ row. use_row (used_tuples plan) row.0) (fin.entries plan.tuples)

-- more uses come first, and then the lower tuple
abbrev pub hot_cmp : HotRow → HotRow → Ordering
hot_cmp a b = ordering_then (nat_cmp b.uses a.uses) (tuple_cmp a.tuple b.tuple)

-- all tuples of a session with their uses, the most used first
pub record IsRanking (plan : Plan) (rows : List HotRow) : Type 0 where
  pub all : IsPermutation (use_rows plan) rows
  pub order : IsSorted hot_cmp rows

-- the k most used tuples of a session; all where it has fewer
pub record IsHotList (plan : Plan) (k : ℕ) (rows : List HotRow) : Type 0 where
  pub ranking : List HotRow
  pub ranked : IsRanking plan ranking
  pub front : rows ≡ take k ranking

-- no tuple is named by two rows
abbrev pub IsOnceEach : List HotRow → Type 0
IsOnceEach rows = (t : TupleId) → count_by (λ row. same_tuple row.tuple t) rows ≤ 1
