-- The summary of a run: how many items ended in which way, how many moves there were, and the sum of all tuples; and its text.
use Rattle.std.specs.Prelude.{ℕ, ℤ, ◌+ℤ◌, pos, Bool, true, false, List, [], ◌∷◌, ◌++◌, codes, map, length}
use Rattle.std.specs.Fmt.{signed_decimal}
use Rattle.std.specs.List.{count_by, flat_map, range_with_len}
use Rattle.txn_model.specs.Number.{wrap}
use Rattle.txn_model.specs.declared.op.TupleId.{TupleId}
use Rattle.catalogue.specs.Plan.{Plan, items_of, kind_of, script_at}
use Rattle.catalogue.specs.declared.actor.Actor.{Actor}
use Rattle.catalogue.specs.declared.kind.Kind.{Kind}
use Rattle.catalogue.specs.declared.kind.Kind.TheVariants.{Hot, Warm, Cold}
use Rattle.core_model.specs.declared.item_end.ItemEnd.{ItemEnd}
use Rattle.core_model.specs.declared.item_end.ItemEnd.TheVariants.{Committed, Aborted, Lost}
use Rattle.core_model.specs.Rota.{numbers_below}
use Rattle.fabric_model.specs.Ends.{item_end}
use Rattle.fabric_model.specs.State.{State}
use Rattle.report_text.specs.Lines.{count_line}
use Rattle.report_text.specs.RunReport.{tuples_told}

pub record Summary : Type 0 where
  -- committed ones
  pub hot : ℕ
  pub warm : ℕ
  pub cold : ℕ
  pub aborted : ℕ
  pub lost : ℕ
  pub moves : ℕ
  pub total : ℤ

-- ---- what is told

-- an item's kind, and how it ended
abbrev pub ended : Plan → State → ℕ → ℕ → Kind × ItemEnd
ended plan s client seq = (kind_of plan.layout (script_at plan client seq), item_end plan s client seq)

-- the items of a client in order
abbrev pub client_ends : Plan → State → ℕ → List (Kind × ItemEnd)
client_ends plan s client = map (ended plan s client) (range_with_len 1 (length (items_of plan client)))

-- all items, by client, then by number
abbrev pub all_ends : Plan → State → List (Kind × ItemEnd)
all_ends plan s = flat_map (client_ends plan s) (numbers_below (length plan.clients))

-- it is a transaction of this kind, and was committed
abbrev pub is_committed : Kind → Kind × ItemEnd → Bool
is_committed Hot (Hot, Committed stamp) = true
is_committed Warm (Warm, Committed stamp) = true
is_committed Cold (Cold, Committed stamp) = true
is_committed kind other = false

abbrev pub is_aborted : Kind × ItemEnd → Bool
is_aborted (kind, Aborted) = true
is_aborted other = false

abbrev pub is_lost : Kind × ItemEnd → Bool
is_lost (kind, Lost) = true
is_lost other = false

abbrev pub sum_of : List (TupleId × ℤ) → ℤ
sum_of [] = pos 0
sum_of (row ∷ rows) = row.1 +ℤ sum_of rows

-- the summary of a state that this trace made
abbrev pub run_summary : Plan → State → List Actor → Summary
run_summary plan s trace = record {
  hot = count_by (is_committed Hot) (all_ends plan s);
  warm = count_by (is_committed Warm) (all_ends plan s);
  cold = count_by (is_committed Cold) (all_ends plan s);
  aborted = count_by is_aborted (all_ends plan s);
  lost = count_by is_lost (all_ends plan s);
  moves = length trace;
  total = wrap (sum_of (tuples_told plan s));
}

-- ---- its text

unfoldable pub total_line : ℤ → List ℕ
total_line total = codes "total " ++ signed_decimal total ++ codes "\n"

unfoldable pub summary_text : Summary → List ℕ
summary_text s =
    count_line (codes "hot") s.hot ++ count_line (codes "warm") s.warm ++ count_line (codes "cold") s.cold
    ++ count_line (codes "aborted") s.aborted ++ count_line (codes "lost") s.lost ++ count_line (codes "moves") s.moves ++ total_line s.total
