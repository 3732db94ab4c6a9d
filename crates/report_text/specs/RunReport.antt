-- The report of a run: what it tells of a state of a session, and of the moves that made it.
use Rattle.std.specs.Prelude.{ℕ, ℤ, ◌==◌, ◌&&◌, List, [], ◌∷◌, map, length, reverse, find, Option, Some, None, unwrap_or, option_and_then}
use Rattle.std.specs.List.{flat_map, range_with_len}
use Rattle.std.specs.Option.{option_map}
use Rattle.std.specs.FinMap as fin
use Rattle.txn_model.specs.declared.op.TupleId.{TupleId}
use Rattle.txn_model.specs.declared.pairs.Pair.{Pair}
use Rattle.catalogue.specs.Plan.{Plan, items_of, kind_of, script_at}
use Rattle.catalogue.specs.declared.actor.Actor.{Actor}
use Rattle.catalogue.specs.declared.kind.Kind.{Kind}
use Rattle.history_model.specs.History.{History}
use Rattle.core_model.specs.declared.item_end.ItemEnd.{ItemEnd}
use Rattle.core_model.specs.declared.item_end.ItemEnd.TheVariants as ends
use Rattle.core_model.specs.declared.refusal.Refusal.{Refusal}
use Rattle.core_model.specs.Ends.{answered_entry}
use Rattle.core_model.specs.Rota.{numbers_below}
use Rattle.fabric_model.specs.Ends.{item_end}
use Rattle.fabric_model.specs.Laws.{tuple_now}
use Rattle.fabric_model.specs.State.{State}
use Rattle.report_text.specs.Report.{PlainEnd, Committed, Aborted, Lost, EndedItem, Report}

-- the last refusal of a client's item; None where it has none
abbrev pub last_refusal : ℕ → ℕ → List Refusal → Option Refusal
last_refusal client seq rs = find (λ r. (r.client == client) && (r.seq == seq)) (reverse rs)

-- given up after this refusal
abbrev pub given_up : Refusal → PlainEnd
given_up r = Aborted r.tuple r.holder r.at

-- what is told of an end: of a transaction, its kind and reply, or its last refusal; None where there is no end yet
abbrev pub told_by : Kind → Option (List Pair) → Option Refusal → ItemEnd → Option PlainEnd
told_by kind reply refusal ends.Pending = None
told_by kind reply refusal (ends.Committed stamp) = Some (Committed kind stamp (unwrap_or reply []))
told_by kind reply refusal ends.Aborted = option_map given_up refusal
told_by kind reply refusal ends.Lost = Some Lost

-- the pairs of an item's reply; None where it isn't answered
abbrev pub reply_to : ℕ → ℕ → History → Option (List Pair)
reply_to client seq h = option_and_then (λ e. e.pairs) (answered_entry client seq h)

-- how this item of a client ended; None where it hasn't
abbrev pub end_told : Plan → State → ℕ → ℕ → Option PlainEnd
end_told plan s client seq = told_by (kind_of plan.layout (script_at plan client seq)) (reply_to client seq s.history) (last_refusal client seq s.refusals) (item_end plan s client seq)

-- the item with this end, where it has one
abbrev pub with_end : ℕ → ℕ → Option PlainEnd → List EndedItem
with_end client seq None = []
with_end client seq (Some end) = record { client = client; seq = seq; end = end } ∷ []

-- the client's item with this number, counted from 1, where it has ended
abbrev pub item_told : Plan → State → ℕ → ℕ → List EndedItem
item_told plan s client seq = with_end client seq (end_told plan s client seq)

-- the items of a client that have ended, in order
abbrev pub client_told : Plan → State → ℕ → List EndedItem
client_told plan s client = flat_map (item_told plan s client) (range_with_len 1 (length (items_of plan client)))

-- the items that have ended, by client, then by number
abbrev pub items_told : Plan → State → List EndedItem
items_told plan s = flat_map (client_told plan s) (numbers_below (length plan.clients))

-- each tuple of the session by id, with its value in the state: that of its register or of its host
abbrev pub tuples_told : Plan → State → List (TupleId × ℤ)
tuples_told plan s = map (λ row. (row.0, tuple_now plan s row.0)) (fin.entries plan.tuples)

-- the report of a state that this trace made
abbrev pub run_report : Plan → State → List Actor → Report
run_report plan s trace = record { items = items_told plan s; history = map (λ e. e.entry) s.history; tuples = tuples_told plan s; trace = trace }
