-- What a report tells of a run, as plain data.
use Rattle.std.specs.Prelude.{ℕ, ℤ, List}
use Rattle.catalogue.specs.declared.actor.Actor.{Actor}
use Rattle.catalogue.specs.declared.kind.Kind.{Kind}
use Rattle.history_model.specs.declared.entry.Entry.{Entry}
use Rattle.txn_model.specs.declared.op.TupleId.{TupleId}
use Rattle.txn_model.specs.declared.pairs.Pair.{Pair}
use Rattle.txn_model.specs.declared.stamp.Stamp.{Stamp}

-- how an item ended: answered, with a pair for each operation; given up, with the tuple, its holder and the place in
-- the trace, counted from 0, of its last refusal; or it was the loss of the switch
pub data PlainEnd : Type 0 where
  Committed : (kind : Kind) (stamp : Stamp) (pairs : List Pair) → PlainEnd
  Aborted : (tuple : TupleId) (holder at : ℕ) → PlainEnd
  Lost : PlainEnd

-- an item: its client, its number there, and how it ended
pub record EndedItem : Type 0 where
  pub client : ℕ
  pub seq : ℕ
  pub end : PlainEnd

-- the items by client and number, the history in its order, the final tuples by id, and the actors that moved
pub record Report : Type 0 where
  pub items : List EndedItem
  pub history : List Entry
  pub tuples : List (TupleId × ℤ)
  pub trace : List Actor
