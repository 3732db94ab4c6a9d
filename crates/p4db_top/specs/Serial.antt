-- What is claimed of a finished run: one serial order, each item once, true aborts, and answers that stand.
use Rattle.std.specs.Prelude.{◌≡◌, ◌≢◌, ℕ, List, ◌∷◌, ◌++◌, map, length, Some, IsSome}
use Rattle.std.specs.List.{flat_map, range_with_len, AllByRecursion}
use Rattle.txn_model.specs.declared.op.Op.{Op}
use Rattle.catalogue.specs.Plan.{Plan, items_of, item_of, script_of, kind_of}
use Rattle.catalogue.specs.declared.actor.Actor.{Actor}
use Rattle.catalogue.specs.declared.kind.Kind.TheVariants.{Hot}
use Rattle.history_model.specs.InOrder.{seqs_of}
use Rattle.core_model.specs.Ends.{refused_times}
use Rattle.core_model.specs.Laws.{IsAscending}
use Rattle.core_model.specs.Rota.{numbers_below}
use Rattle.core_model.specs.declared.item_end.ItemEnd.TheVariants.{Aborted}
use Rattle.fabric_model.specs.Asking.{IsTrue}
use Rattle.fabric_model.specs.Driven.{IsFinished}
use Rattle.fabric_model.specs.Ends.{item_end, IsEnded}
use Rattle.fabric_model.specs.Fixed.{HasStampsAbove}
use Rattle.fabric_model.specs.Laws.{HasLegalHistory, HasSerialValues, HasRisingStamps, AnswersStand}
use Rattle.fabric_model.specs.Run.{state_of}
use Rattle.fabric_model.specs.State.{State}
use Rattle.fabric_model.specs.Step.{step}
use Rattle.report_text.specs.Report.{EndedItem}
use Rattle.report_text.specs.RunReport.{items_told}

-- The history is in stamp order and answered, whether its transactions ran in the switch, on hosts or on both; running its
-- scripts one after another in that order gives exactly its replies, and leaves exactly the final values.
pub record IsSerial (session : Plan) (s : State) : Type 0 where
  pub history : HasLegalHistory session s
  pub values : HasSerialValues session s

-- the items of a session, each as its client and its number, by client, then by number from 1
abbrev pub item_names : Plan → List (ℕ × ℕ)
item_names session = flat_map (λ client. map (λ seq. (client, seq)) (range_with_len 1 (length (items_of session client)))) (numbers_below (length session.clients))

abbrev pub name_of : EndedItem → ℕ × ℕ
name_of item = (item.client, item.seq)

-- Each item of the session has ended, in one way, once.
pub record IsOnceEach (session : Plan) (trace : List Actor) (s : State) : Type 0 where
  -- no client has anything left to do, and the switch is up
  pub finished : IsFinished s
  -- each item has an end, and if it was aborted, each of its tries was refused, and it has no entry
  pub ended : (client seq : ℕ) → IsSome (item_of session client seq) → IsEnded session s client seq
  -- the report has one line for each item, in order
  pub lines : map name_of (items_told session s) ≡ item_names session
  -- each entry is that of a transaction of the session
  pub entries : AllByRecursion (λ e. IsSome (script_of session e.entry.client e.entry.seq)) s.history
  -- each client's entries stand in its own order, each once
  pub in_order : (client : ℕ) → IsAscending (seqs_of client s.history)
  -- of two entries of one client the one with the lower number has the lower stamp
  pub rising : HasRisingStamps s
  -- the stamp of each entry stood, when it was fixed, above all that its client had seen
  pub stamps : HasStampsAbove session trace s

-- Nothing was refused or aborted without cause.
pub record HaveCauses (session : Plan) (trace : List Actor) (s : State) : Type 0 where
  -- each refusal of a lock is true: its client asked for it then, and the holder was the least other client in the way
  pub refusals : AllByRecursion (IsTrue session trace) s.refusals
  -- a transaction is aborted when each of its tries was refused
  pub tries : (client seq : ℕ) (ops : List Op) → script_of session client seq ≡ Some ops → item_end session s client seq ≡ Aborted → refused_times client seq s.refusals ≡ session.tries
  -- no transaction whose tuples are all in the switch is aborted
  pub hot : (client seq : ℕ) (ops : List Op) → script_of session client seq ≡ Some ops → kind_of session.layout ops ≡ Hot → item_end session s client seq ≢ Aborted

-- No move of the trace changes an answered entry, or takes it away: not a loss of the switch either, nor its recovery.
abbrev pub KeepsAnswers : Plan → List Actor → Type 0
KeepsAnswers session trace =
    (made left : List Actor) (actor : Actor) (before after : State) → made ++ actor ∷ left ≡ trace → state_of session made ≡ Some before → step session before actor ≡ Some after
    → AnswersStand before.history after.history
