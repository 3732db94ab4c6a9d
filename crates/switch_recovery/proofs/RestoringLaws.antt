-- What is known of logs that were read, and of the switch that is restored from them.
use Rattle.std.proofs.Common.{◌≡◌, ℕ, ◌+◌, ◌||◌, Bool, true, false, cond, List, [], ◌∷◌, length, Some, None, refl, ap, ◌∙◌, arith}
use Rattle.std.specs.Prelude.{Option, IsSome, is_none}
use Rattle.std.specs.FinMap as fin
use Rattle.std.specs.List.{AllByRecursion, list_any}
use Rattle.std.specs.Option.{option_map}
use Rattle.std.proofs.lemmas.List.{length-map}
use Rattle.txn_model.specs.Places.{Places}
use Rattle.catalogue.specs.Plan.{Plan, hot_cells}
use Rattle.switch_packet.specs.declared.packet.PacketOp.{PacketOp}
use Rattle.switch_packet.specs.Packets.{PlainIntent, PlainLog}
use Rattle.switch_packet.specs.Ranges.{Fits}
use Rattle.switch_packet.specs.Replay.{replay, replay_all}
use Rattle.placement_model.specs.FirstOrder.{first_order}
use Rattle.placement_model.specs.Placements.{Task, PlainSlotted, IsAnsweredButOne, packets_of, rows_from, rows_of}
use Rattle.placement_model.proofs.First.{first_order_is_first}
use Rattle.intent_log.specs.Records.{IsIntent}
use Rattle.intent_log.proofs.ViewLaws.{view_is}
use Rattle.gap_placement.specs.declared.placement.Placed.{Placed}
use Rattle.gap_placement.specs.Answers.{plain_slotted, plain_rows, first_rows, first_registers}
use Rattle.gap_placement.specs.Logs.{AreReadable, HasItsPlaces, HaveTheirPlaces}
use Rattle.switch_recovery.specs.declared.restored.Restored.{Restored}
use Rattle.switch_recovery.specs.Restoring.{AreViews, is_bad, bad_item, bad_from, or_of_client, IsRestored}

fit_all : (client : ℕ) (intents : List PlainIntent) → AllByRecursion (λ i. IsIntent i × (i.packet.client ≡ client)) intents → AllByRecursion (λ i. Fits i.packet) intents
fit_all client [] a = tt
fit_all client (i ∷ intents) a = (a.0.0.packet.fits, fit_all client intents a.1)

pub readable : (client : ℕ) (logs : List PlainLog) → AreViews client logs → AreReadable logs
readable client [] v = tt
readable client (log ∷ logs) v =
    let view = view_is client log v.0 in
    (record { but_one = record { most = view.most; least = view.least }; packets = fit_all client log.intents view.intents }, readable (client + 1) logs v.1)

answered : (logs : List PlainLog) → AreReadable logs → AllByRecursion IsAnsweredButOne logs
answered [] a = tt
answered (log ∷ logs) a = (a.0.but_one, answered logs a.1)

-- ---- places

abbrev is_out : Places → PacketOp → Bool
is_out cells op = is_none (fin.get cells op.place)

some_there : {X : Type 0} (o : Option X) → is_none o ≡ false → IsSome o
some_there None e = absurd cc
some_there (Some x) e = refl

none_or : (a b : Bool) → (a || b) ≡ false → (a ≡ false) × (b ≡ false)
none_or true b e = absurd cc
none_or false b e = (refl, e)

places_there : (cells : Places) (ops : List PacketOp) → list_any (is_out cells) ops ≡ false → AllByRecursion (λ op. IsSome (fin.get cells op.place)) ops
places_there cells [] e = tt
places_there cells (op ∷ ops) e =
    let parts = none_or (is_out cells op) (list_any (is_out cells) ops) e in
    (some_there (fin.get cells op.place) parts.0, places_there cells ops parts.1)

no_item : (cells : Places) (i : PlainIntent) (intents : List PlainIntent) (b : Bool) → is_bad cells i ≡ b → cond b (Some i.packet.seq) (bad_item cells intents) ≡ None
    → (is_bad cells i ≡ false) × (bad_item cells intents ≡ None)
no_item cells i intents true is e = absurd cc
no_item cells i intents false is e = (is, e)

intents_there : (cells : Places) (intents : List PlainIntent) → bad_item cells intents ≡ None → AllByRecursion (HasItsPlaces cells) intents
intents_there cells [] e = tt
intents_there cells (i ∷ intents) e =
    let parts = no_item cells i intents (is_bad cells i) refl e in
    (places_there cells i.packet.ops parts.0, intents_there cells intents parts.1)

no_client : (client : ℕ) (o : Option ℕ) (later : Option (ℕ × ℕ)) → or_of_client client o later ≡ None → (o ≡ None) × (later ≡ None)
no_client client None later e = (refl, e)
no_client client (Some seq) later e = absurd cc

pub all_there : (cells : Places) (client : ℕ) (logs : List PlainLog) → bad_from cells client logs ≡ None → HaveTheirPlaces cells logs
all_there cells client [] e = tt
all_there cells client (log ∷ logs) e =
    let parts = no_client client (bad_item cells log.intents) (bad_from cells (client + 1) logs) e in
    (intents_there cells log.intents parts.0, all_there cells (client + 1) logs parts.1)

-- ---- the first placement

rows_length : (n : ℕ) (m : Places) (order : List Task) → length (rows_from n m order) ≡ length order
rows_length n m [] = refl
rows_length n m (task ∷ order) = let rest = rows_length (n + 1) (replay task.intent.packet m).after order in omega (arith, rest)

by_order : (first : Places) (rows : List PlainSlotted) (registers : Places) (o : Option (List Task)) → Some rows ≡ option_map (rows_of first) o
    → Some registers ≡ option_map (λ (order : List Task). (replay_all (packets_of order) first).after) o
    → (order : List Task) × (o ≡ Some order) × (rows ≡ rows_of first order) × (registers ≡ (replay_all (packets_of order) first).after)
by_order first rows registers None e f = absurd cc
by_order first rows registers (Some order) e f = (order, refl, cc, cc)

pub restored_is : (plan : Plan) (logs : List PlainLog) (placed : Placed) (r : Restored) → AreReadable logs → Some (plain_rows placed.placement) ≡ first_rows logs (hot_cells plan)
    → Some placed.registers ≡ first_registers logs (hot_cells plan) → plain_rows r.placement ≡ plain_rows placed.placement → r.registers ≡ placed.registers
    → r.next ≡ length placed.placement.items + 1 → IsRestored plan logs r
restored_is plan logs placed r read rows registers same_rows same_registers next =
    let first = hot_cells plan in
    let found = by_order first (plain_rows placed.placement) placed.registers (first_order logs first) rows registers in
    record {
      order = found.0;
      first = first_order_is_first logs first found.0 (answered logs read) found.1;
      rows = same_rows ∙ found.2;
      registers = same_registers ∙ found.3;
      next = omega (arith, next, length-map placed.placement.items plain_slotted, ap length found.2, rows_length 1 first found.0);
    }
