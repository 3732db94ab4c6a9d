-- Laws: a pipeline that shows a reached state of the switch's model goes on as the model does.
use Rattle.std.specs.Prelude.{◌≡◌, ◌≢◌, ℕ, ◌+◌, ◌<◌, ◌^◌, List, [], ◌∷◌, length, Option, Some, None, option_map, slice_index_or}
use Rattle.std.specs.List.{AllByRecursion, Contains}
use Rattle.txn_model.specs.Places.{Places}
use Rattle.stage_layout.specs.declared.shape.Shape.{Shape}
use Rattle.switch_packet.specs.Packets.{PlainPacket}
use Rattle.switch_packet.specs.Replay.{replay_all}
use Rattle.switch_model.specs.Event.{post, enter, advance, take_answer}
use Rattle.switch_model.specs.Fitting.{IsPlanned}
use Rattle.switch_model.specs.Reached.{IsReached}
use Rattle.switch_model.specs.Switch as model
use Rattle.switch_model.specs.Switch.{Switch, Desk, Vacant, Posted, Answer, desk_at, answer_of, fresh_switch}
use Rattle.pipeline.specs.Plain.{PlainPipeline}
use Rattle.pipeline.specs.Rows.{IsVacant, box_of, fresh_pipeline, erased, restored, posted, entered, advanced, dropped, given_answer}
use Rattle.pipeline.specs.Seen.{boxed}
use Rattle.pipeline.specs.Shows.{Shows}

-- ---- beginnings

abbrev pub FreshIsShown : Type 0
FreshIsShown = (shape : Shape) (first : Places) (clients : ℕ) → Shows shape (fresh_pipeline shape first clients) (fresh_switch first clients)

-- ---- events

-- where the model goes on, the pipeline does, and shows what the model has become; else neither of them goes on
abbrev pub GoesAlong : Shape → Option PlainPipeline → Option Switch → Type 0
GoesAlong shape seen None = seen ≡ None
GoesAlong shape seen (Some next) = (after : PlainPipeline) × (seen ≡ Some after) × Shows shape after next

-- nothing is seen of the client, and a packet that it posts is seen at the port
pub record IsPost (shape : Shape) (seen : PlainPipeline) (s : Switch) (c : ℕ) (p : PlainPacket) : Type 0 where
  pub vacant : IsVacant seen c
  pub goes : GoesAlong shape (Some (posted seen c p)) (post s c p)

abbrev pub PostsAreEvents : Type 0
PostsAreEvents = (shape : Shape) (first : Places) (s : Switch) (seen : PlainPipeline) (c : ℕ) (p : PlainPacket) → IsReached shape first s → Shows shape seen s
    → c < length s.desks → desk_at s c ≡ Vacant → IsPlanned shape p → IsPost shape seen s c p

abbrev pub EntriesAreEvents : Type 0
EntriesAreEvents = (shape : Shape) (first : Places) (s : Switch) (seen : PlainPipeline) (c : ℕ) → IsReached shape first s → Shows shape seen s
    → seen.next + 1 < 2 ^ 64 → GoesAlong shape (entered seen c) (enter shape s c)

abbrev pub AdvancesAreEvents : Type 0
AdvancesAreEvents = (shape : Shape) (first : Places) (s : Switch) (seen : PlainPipeline) (x : ℕ) → IsReached shape first s → Shows shape seen s
    → GoesAlong shape (advanced seen x) (advance shape s x)

-- an answer in a box can be taken, and then it is seen no more
abbrev pub IsDropped : Shape → PlainPipeline → Switch → ℕ → Option Answer → Type 0
IsDropped shape seen s c None = take_answer s c ≡ None
IsDropped shape seen s c (Some answer) = GoesAlong shape (Some (dropped seen c)) (take_answer s c)

-- the box has the answer
pub record HasAnswer (shape : Shape) (seen : PlainPipeline) (s : Switch) (c : ℕ) : Type 0 where
  pub box : box_of seen c ≡ option_map boxed (answer_of s c)
  pub dropped : IsDropped shape seen s c (answer_of s c)

abbrev pub AnswersAreTaken : Type 0
AnswersAreTaken = (shape : Shape) (s : Switch) (seen : PlainPipeline) (c : ℕ) → Shows shape seen s → HasAnswer shape seen s c

-- ---- restoring

-- answers that are given, the first one first, each to a client
abbrev pub with_answers : PlainPipeline → List (ℕ × Answer) → PlainPipeline
with_answers seen [] = seen
with_answers seen (given ∷ rest) = with_answers (given_answer seen given.0 given.1.number given.1.pairs) rest

-- these are the answers that the clients have in the state
pub record AreAnswers (s : Switch) (answers : List (ℕ × Answer)) : Type 0 where
  pub right : AllByRecursion (λ given. answer_of s given.0 ≡ Some given.1) answers
  pub all : (c : ℕ) (answer : Answer) → answer_of s c ≡ Some answer → Contains answers (c, answer)

-- no packet waits for its first pass
abbrev pub NoneWaits : List Desk → Type 0
NoneWaits desks = (c : ℕ) (p : PlainPacket) → slice_index_or desks c Vacant ≢ Posted p

-- an erased pipeline with so many clients, where the registers, the next number and the answers are those behind the packets
abbrev pub RestoredIsShown : Type 0
RestoredIsShown = (shape : Shape) (first : Places) (packets : List PlainPacket) (desks : List Desk) (seen : PlainPipeline) (answers : List (ℕ × Answer))
    → seen.shape ≡ shape → length seen.waiting ≡ length desks → AllByRecursion (IsPlanned shape) packets → NoneWaits desks
    → let s = model.restored first packets desks in AreAnswers s answers
    → Shows shape (with_answers (restored (erased seen) (replay_all packets first).after (length packets + 1)) answers) s
