-- While the switch is lost, the clients' logs can be written and placed.
use Rattle.std.proofs.Common.{◌≡◌, ◌≢◌, ℕ, suc, ◌+◌, ◌≤◌, List, [], ◌∷◌, ◌++◌, length, get_or, Option, Some, None, refl, ap, ◌∙◌, arith}
use Rattle.std.specs.List.{AllByRecursion}
use Rattle.txn_model.specs.Places.{Places}
use Rattle.placement_model.specs.FirstOrder.{first_order}
use Rattle.placement_model.specs.Placements.{Task, CanFollow, HasAnswer, IsAnsweredButOne, tasks_from, tasks_behind, tasks_of}
use Rattle.placement_model.proofs.First.{no_order_is_no_placement}
use Rattle.switch_packet.specs.Packets.{PlainIntent, PlainOutcome, PlainLog}
use Rattle.switch_packet.specs.Ranges.{Fits}
use Rattle.switch_packet.specs.Replay.{replay}
use Rattle.switch_packet.proofs.ReplayLaws.{length-replay}
use Rattle.intent_log.specs.Records.{HasPairs}
use Rattle.intent_log.proofs.ViewLaws.{few_bytes}
use Rattle.catalogue.specs.Plan.{Plan, hot_cells}
use Rattle.gap_placement.specs.Logs.{AreReadable, HasItsPlaces, HaveTheirPlaces}
use Rattle.fabric_model.specs.Laws.{IsReached}
use Rattle.fabric_model.specs.Recovery.{plain_logs}
use Rattle.fabric_model.specs.State.{Records, State, no_records}
use Rattle.fabric_model.proofs.Among.{all_in, all_of_in, all_permutation, in_permutation}
use Rattle.fabric_model.proofs.AnsweredButOne.{answered_but_one}
use Rattle.fabric_model.proofs.FewRecords.{few_records}
use Rattle.fabric_model.proofs.Fitting.{packets_have_ranges}
use Rattle.fabric_core.specs.Recovering.{IsExpected}
use Rattle.fabric_core.proofs.CellPlaces.{HasPlaces, packets_have_places}
use Rattle.fabric_core.proofs.OpenRows.{packets_all, while_lost}
use Rattle.fabric_core.proofs.Present.{few_items}

-- ---- from tasks to logs

all_parts : (P : Task → Type 0) (xs ys : List Task) → AllByRecursion P (xs ++ ys) → AllByRecursion P xs × AllByRecursion P ys
all_parts P [] ys all = (tt, all)
all_parts P (x ∷ xs) ys all = let rest = all_parts P xs ys all.1 in ((all.0, rest.0), rest.1)

intents_from : (P : PlainIntent → Type 0) (c j : ℕ) (intents : List PlainIntent) (outcomes : List PlainOutcome) → AllByRecursion (λ t. P t.intent) (tasks_from c j intents outcomes) → AllByRecursion P intents
intents_from P c j [] outcomes all = tt
intents_from P c j (i ∷ intents) [] all = (all.0, intents_from P c (j + 1) intents [] all.1)
intents_from P c j (i ∷ intents) (o ∷ outcomes) all = (all.0, intents_from P c (j + 1) intents outcomes all.1)

-- what holds of the tasks' intents holds of those of the logs
intents_behind : (P : PlainIntent → Type 0) (c : ℕ) (logs : List PlainLog) → AllByRecursion (λ t. P t.intent) (tasks_behind c logs) → AllByRecursion (λ log. AllByRecursion P log.intents) logs
intents_behind P c [] all = tt
intents_behind P c (log ∷ logs) all =
    let parts = all_parts (λ t. P t.intent) (tasks_from c 0 log.intents log.outcomes) (tasks_behind (c + 1) logs) all in
    (intents_from P c 0 log.intents log.outcomes parts.0, intents_behind P (c + 1) logs parts.1)

-- the outcome, where there is one, has 1 to 16 pairs
abbrev OutcomeHasPairs : Option PlainOutcome → Type 0
OutcomeHasPairs None = Unit {0}
OutcomeHasPairs (Some o) = HasPairs o

outcomes_from : (c j : ℕ) (intents : List PlainIntent) (outcomes : List PlainOutcome) → length outcomes ≤ length intents → AllByRecursion (λ t. OutcomeHasPairs t.outcome) (tasks_from c j intents outcomes) → AllByRecursion HasPairs outcomes
outcomes_from c j intents [] most all = tt
outcomes_from c j [] (o ∷ outcomes) most all = absurd (omega (arith, most))
outcomes_from c j (i ∷ intents) (o ∷ outcomes) most all = (all.0, outcomes_from c (j + 1) intents outcomes (omega (arith, most)) all.1)

outcomes_behind : (c : ℕ) (logs : List PlainLog) → AllByRecursion IsAnsweredButOne logs → AllByRecursion (λ t. OutcomeHasPairs t.outcome) (tasks_behind c logs) → AllByRecursion (λ log. AllByRecursion HasPairs log.outcomes) logs
outcomes_behind c [] but_one all = tt
outcomes_behind c (log ∷ logs) but_one all =
    let parts = all_parts (λ t. OutcomeHasPairs t.outcome) (tasks_from c 0 log.intents log.outcomes) (tasks_behind (c + 1) logs) all in
    (outcomes_from c 0 log.intents log.outcomes but_one.0.most parts.0, outcomes_behind (c + 1) logs but_one.1 parts.1)

-- the pairs of an outcome are those of its packet's replay
followed : (number : ℕ) (m : Places) (tasks : List Task) → AllByRecursion (λ t. Fits t.intent.packet) tasks → CanFollow number m tasks → AllByRecursion (λ t. OutcomeHasPairs t.outcome) tasks
followed number m [] fit follow = tt
followed number m (t ∷ tasks) fit follow = (by t.outcome follow.0.answer, followed (number + 1) (replay t.intent.packet m).after tasks fit.1 follow.1)
  where
    by : (o : Option PlainOutcome) → HasAnswer o number (replay t.intent.packet m).pairs → OutcomeHasPairs o
    by None has = tt
    by (Some o) has =
        let many : length o.pairs ≡ length t.intent.packet.ops = ap length has.1 ∙ length-replay t.intent.packet m in
        (omega (arith, many, fit.0.count.0), omega (arith, many, fit.0.count.1))

-- ---- each log

each_log : (P : Records → Type 0) (logs : List Records) → ((c : ℕ) → P (get_or logs c no_records)) → AllByRecursion P logs
each_log P [] each = tt
each_log P (log ∷ logs) each = (each 0, each_log P logs (λ c. each (suc c)))

both_readable : (logs : List PlainLog) → AllByRecursion IsAnsweredButOne logs → AllByRecursion (λ log. AllByRecursion (λ i. Fits i.packet) log.intents) logs → AreReadable logs
both_readable [] but_one fit = tt
both_readable (log ∷ logs) but_one fit = (record { but_one = but_one.0; packets = fit.0 }, both_readable logs but_one.1 fit.1)

all_expected : (logs : List Records) → AreReadable (plain_logs logs) → AllByRecursion (λ log. AllByRecursion HasPairs log.outcomes) (plain_logs logs) → AllByRecursion (λ log. length log.intents ≤ 4096) logs → AllByRecursion IsExpected (plain_logs logs)
all_expected [] read pairs few = tt
all_expected (log ∷ logs) read pairs few = (
  record {
    written = record {
      intents = read.0.packets;
      outcomes = pairs.0;
      most = read.0.but_one.most;
      least = read.0.but_one.least;
      places = omega (arith, few_bytes log.intents log.outcomes read.0.packets pairs.0, few.0);
    };
    whole = refl;
  },
  all_expected logs read.1 pairs.1 few.1,
)

module _ (plan : Plan) (s : State) (reached : IsReached plan s) (lost : s.switch ≡ None) where
  abbrev logs : List PlainLog
  logs = plain_logs s.logs

  tasks_fit : AllByRecursion (λ t. Fits t.intent.packet) (tasks_of logs)
  tasks_fit = packets_all plan s reached lost Fits (packets_have_ranges plan reached.sound)

  but_one : AllByRecursion IsAnsweredButOne logs
  but_one = answered_but_one plan s reached

  pub readable : AreReadable logs
  readable = both_readable logs but_one (intents_behind (λ i. Fits i.packet) 0 logs tasks_fit)

  pub have_places : HaveTheirPlaces (hot_cells plan) logs
  have_places = intents_behind (HasItsPlaces (hot_cells plan)) 0 logs (packets_all plan s reached lost (HasPlaces (hot_cells plan)) (packets_have_places plan))

  pub some_order : first_order logs (hot_cells plan) ≢ None
  some_order none = no_order_is_no_placement logs (hot_cells plan) (while_lost plan s reached lost).order but_one none (while_lost plan s reached lost).placed

  pairs_there : AllByRecursion (λ t. OutcomeHasPairs t.outcome) (tasks_of logs)
  pairs_there =
      let h = while_lost plan s reached lost in
      let fit = all_permutation (λ t. Fits t.intent.packet) (tasks_of logs) h.order h.placed.all tasks_fit in
      all_of_in (λ t. OutcomeHasPairs t.outcome) (tasks_of logs) (λ t i. all_in (λ t. OutcomeHasPairs t.outcome) h.order t (followed 1 (hot_cells plan) h.order fit h.placed.follows) (in_permutation (tasks_of logs) h.order t h.placed.all i))

  few : AllByRecursion (λ log. length log.intents ≤ 4096) s.logs
  few = each_log (λ log. length log.intents ≤ 4096) s.logs (λ c. omega (arith, (few_records plan s c reached).0, few_items plan c reached.sound))

  pub expected : AllByRecursion IsExpected logs
  expected = all_expected s.logs readable (outcomes_behind 0 logs but_one pairs_there) few
