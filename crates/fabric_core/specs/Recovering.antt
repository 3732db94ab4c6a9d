-- Recovery: comparing the clients' logs with their records, and what a placement of the records gives.
use Rattle.std.specs.Prelude.{◌≡◌, ℕ, ◌+◌, ◌<◌, ◌≤◌, ◌==◌, Bool, true, false, List, [], ◌∷◌, drop, length, map, IsSome, IfSome, Option, Some, None, ⊤, slice_index_or, if◌then◌else◌}
use Rattle.std.specs.List.{list_any}
use Rattle.history_model.specs.History.{History, with_entry}
use Rattle.history_model.specs.declared.entry.Entry.{Entry}
use Rattle.history_core.specs.Answers.{IsAboveOwn}
use Rattle.history_core.specs.Runs.{Runs, ops_at}
use Rattle.placement_model.specs.Placements.{PlainSlotted}
use Rattle.switch_packet.specs.Packets.{PlainLog}
use Rattle.switch_model.specs.Switch.{Answer}
use Rattle.pipeline.specs.ModelLaws.{with_answers}
use Rattle.pipeline.specs.Plain.{PlainPipeline}
use Rattle.pipeline.specs.Rows.{IsVacant, given_answer, restored}
use Rattle.intent_log.specs.LogText.{log_text}
use Rattle.intent_log.specs.Told.{CanBeWritten, DifferAt, IsTold}
use Rattle.log_records.specs.Records.{PlainRecords}
use Rattle.fabric_model.specs.Recovery.{waits_again}
use Rattle.gap_placement.specs.Answers.{plain_rows}
use Rattle.gap_placement.specs.declared.placement.Placed.{Placed}
use Rattle.fabric_core.specs.declared.core_state.CoreState.{CoreState}
use Rattle.fabric_core.specs.declared.runner.Runner.{Runner}
use Rattle.fabric_core.specs.declared.turn.Stop.{Stop}
use Rattle.fabric_core.specs.declared.turn.Stop.TheVariants.{LogFault, LogChanged}
use Rattle.fabric_core.specs.declared.turn.Turn.{Turn}
use Rattle.fabric_core.specs.declared.turn.Turn.TheVariants as turns

-- ---- the records as what a log says

abbrev pub view_of : PlainRecords → PlainLog
view_of log = record { intents = log.intents; outcomes = log.outcomes; torn = false }

abbrev pub no_view : PlainLog
no_view = record { intents = []; outcomes = []; torn = false }

abbrev pub view_at : List PlainLog → ℕ → PlainLog
view_at views c = slice_index_or views c no_view

-- ---- comparing

-- a log can say this, to its end
pub record IsExpected (view : PlainLog) : Type 0 where
  pub written : CanBeWritten view
  pub whole : view.torn ≡ false

-- each log that is told of the clients below this one says what its view does
abbrev pub SayTheirs : (ℕ → Option (List ℕ)) → List PlainLog → ℕ → Type 0
SayTheirs told views c = (d : ℕ) → d < c → IsTold (told d) (log_text (view_at views d))

-- what comparing the logs in order found: none that differs; one that could not be read; or the first one that differs, and where
abbrev pub AreCompared : (ℕ → Option (List ℕ)) → List PlainLog → Option Stop → Type 0
AreCompared told views None = SayTheirs told views (length views)
AreCompared told views (Some (LogFault c)) = (c < length views) × SayTheirs told views c
AreCompared told views (Some (LogChanged c at)) = (c < length views) × SayTheirs told views c × IfSome (told c) (λ log. DifferAt log (log_text (view_at views c)) at)

-- a log could not be read
abbrev pub IsReadFault : Option Stop → Type 0
IsReadFault None = ⊥
IsReadFault (Some (LogFault c)) = ⊤
IsReadFault (Some (LogChanged c at)) = ⊥

-- the answer to the turn that found this
abbrev pub turn_of : Stop → Turn
turn_of (LogFault c) = turns.LogFault c
turn_of (LogChanged c at) = turns.LogChanged c at

-- ---- open packets

abbrev pub no_log : PlainRecords
no_log = record { intents = []; outcomes = []; room = 0 }

-- an intent of this item stands behind those that are answered
abbrev pub awaits : PlainRecords → ℕ → Bool
awaits log seq = list_any (λ i. i.packet.seq == seq) (drop (length log.outcomes) log.intents)

abbrev pub is_open_row : List PlainRecords → PlainSlotted → Bool
is_open_row logs row = awaits (slice_index_or logs row.client no_log) row.seq

abbrev pub answer_in : PlainSlotted → Answer
answer_in row = record { number = row.number; pairs = row.pairs }

abbrev pub entry_in : PlainSlotted → Entry
entry_in row = record { stamp = record { number = row.number; sub = 0 }; client = row.client; seq = row.seq }

-- the answers of the open ones among these packets
abbrev pub answers_in : List PlainRecords → List PlainSlotted → List (ℕ × Answer)
answers_in logs [] = []
answers_in logs (row ∷ rows) = if is_open_row logs row then (row.client, answer_in row) ∷ answers_in logs rows else answers_in logs rows

-- the pipeline behind a packet, whose answer lies in its client's box where it is open
abbrev pub pipeline_behind : List PlainRecords → PlainSlotted → PlainPipeline → PlainPipeline
pipeline_behind logs row p = if is_open_row logs row then given_answer p row.client row.number row.pairs else p

-- the history behind a packet, with an unanswered entry where it is open
abbrev pub history_behind : List PlainRecords → PlainSlotted → History → History
history_behind logs row h = if is_open_row logs row then with_entry (record { entry = entry_in row; pairs = None }) h else h

abbrev pub with_rows : List PlainRecords → List PlainSlotted → History → History
with_rows logs [] h = h
with_rows logs (row ∷ rows) h = with_rows logs rows (history_behind logs row h)

-- an open packet can be answered, and has its entry above those of its client
pub record CanAnswer (p : PlainPipeline) (runs : Runs) (h : History) (row : PlainSlotted) : Type 0 where
  pub there : row.client < length p.waiting
  pub vacant : IsVacant p row.client
  pub few : length row.pairs ≤ 16
  pub transaction : IsSome (ops_at runs row.client row.seq)
  pub above : IsAboveOwn (entry_in row) h

-- each of these packets is that of a client, and the open ones can be answered, one after another
abbrev pub CanPlace : List PlainRecords → Runs → PlainPipeline → History → List PlainSlotted → Type 0
CanPlace logs runs p h [] = ⊤
CanPlace logs runs p h (row ∷ rows) =
    (row.client < length logs) × (let log = slice_index_or logs row.client no_log in length log.outcomes ≤ length log.intents)
    × (is_open_row logs row ≡ true → CanAnswer p runs h row) × CanPlace logs runs (pipeline_behind logs row p) (history_behind logs row h) rows

-- ---- what is rebuilt

abbrev pub resumed_runner : Runner → Runner
resumed_runner runner = record runner { state = record runner.state { phase = waits_again runner.state.phase } }

-- the switch is up again as the placed packets leave it, the open ones have answers and entries, and their clients wait; all else
-- is as it was
pub record IsRebuilt (placed : Placed) (old new : CoreState) : Type 0 where
  pub runners : new.runners.items ≡ map resumed_runner old.runners.items
  pub logs : new.logs ≡ old.logs
  pub is_up : new.is_up ≡ true
  pub pipeline : let rows = plain_rows placed.placement in
      new.pipeline ≡ with_answers (restored old.pipeline placed.registers (length rows + 1)) (answers_in old.logs.items rows)
  pub locks : new.locks ≡ old.locks
  pub store : new.store ≡ old.store
  pub runs : new.history.runs ≡ old.history.runs
  pub history : new.history.items ≡ with_rows old.logs.items (plain_rows placed.placement) old.history.items
  pub refusals : new.refusals ≡ old.refusals
  pub draft : new.draft ≡ old.draft
