-- The session that a text is, or the first fault of the text: each is searched for in the whole text before
-- the next one is.
use Rattle.std.specs.Prelude.{ℕ, ◌==◌, List, [], length, position, is_none, if◌then◌else◌, Result, Ok, ⊤}
use Rattle.std.specs.List.{slice_split, filter_map}
use Rattle.txn_model.specs.ScriptCheck.{first_repeat, first_bad_use}
use Rattle.stage_layout.specs.Late.{first_bad_turn}
use Rattle.stage_layout.specs.Layout.{layout_fault}
use Rattle.catalogue.specs.Plan.{Plan}
use Rattle.catalogue.specs.declared.actor.Actor.{Actor}
use Rattle.schedule.specs.Words.{actor_of}
use Rattle.session_draft.specs.Draft.{◌>>=◌, draft_of_bytes}
use Rattle.session_draft.specs.Written.{Written}
use Rattle.session_reader.specs.Built.{unscheduled}
use Rattle.session_reader.specs.Faults.{draft_fault, place_fault, refuse, faults_as}
use Rattle.session_reader.specs.FirstPlace.{first_place}
use Rattle.session_reader.specs.Limits.{over_limit}
use Rattle.session_reader.specs.Rules.{first_unknown}
use Rattle.session_reader.specs.declared.fault.SessionFault.{SessionFault}
use Rattle.session_reader.specs.declared.fault.SessionFault.TheVariants.{OverLimit, BadTuple, TupleTwice, BadUse, BadTurn, BadActor}

-- the faults of scripts whose tuples are there
unfoldable pub scripts_fit : Plan → Result ⊤ SessionFault
scripts_fit plan = do
  _ ← refuse TupleTwice (first_place first_repeat plan.clients)
  _ ← refuse BadUse (first_place first_bad_use plan.clients)
  refuse BadTurn (first_place (first_bad_turn plan.layout) plan.clients)

-- the faults of the scripts and of the layout, in their order
unfoldable pub parts_fit : Plan → Result ⊤ SessionFault
parts_fit plan = do
  _ ← refuse BadTuple (first_place (first_unknown plan.tuples) plan.clients)
  _ ← refuse place_fault (layout_fault plan.shape plan.tuples plan.layout)
  scripts_fit plan

-- the words of a schedule: what stands between its single spaces
abbrev pub words_of : List ℕ → List (List ℕ)
words_of text = if length text == 0 then [] else slice_split (λ b. b == 32) text

-- the actors that the words name; the first word that names none is refused
unfoldable pub actors_of : Plan → List (List ℕ) → Result (List Actor) SessionFault
actors_of plan words = do
  _ ← refuse BadActor (position (λ word. is_none (actor_of plan word)) words)
  Ok (filter_map (actor_of plan) words)

-- the plan with this schedule
abbrev pub with_schedule : Plan → List Actor → Plan
with_schedule plan actors = record { shape = plan.shape; tuples = plan.tuples; layout = plan.layout; tries = plan.tries; clients = plan.clients; schedule = actors }

-- the session that is written, or its first fault
unfoldable pub checked : Written → Result Plan SessionFault
checked w = do
  _ ← refuse OverLimit (over_limit w)
  _ ← parts_fit (unscheduled w)
  actors ← actors_of (unscheduled w) (words_of w.schedule)
  Ok (with_schedule (unscheduled w) actors)

-- the draft of a text, with its faults as those of a session
abbrev pub written_in : List ℕ → Result Written SessionFault
written_in bytes = faults_as draft_fault (draft_of_bytes bytes)

-- the session that these bytes are
unfoldable pub session_of : List ℕ → Result Plan SessionFault
session_of bytes = do
  w ← written_in bytes
  checked w
