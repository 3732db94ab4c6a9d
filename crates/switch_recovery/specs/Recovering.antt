-- Recovering from the logs themselves.
use Rattle.std.specs.Prelude.{◌≡◌, ℕ, ◌+◌, ◌*◌, ◌<◌, List, [], ◌∷◌, Option, None, Some, Result, Ok, Err, ⊤, IsSome, length, if◌then◌else◌}
use Rattle.catalogue.specs.Plan.{Plan, hot_cells}
use Rattle.switch_packet.specs.Packets.{PlainLog}
use Rattle.placement_model.specs.Placements.{Task, IsPlacement}
use Rattle.intent_log.specs.Grammar.{IsLog}
use Rattle.intent_log.specs.declared.fault.LogFault.{LogFault}
use Rattle.intent_log.specs.declared.fault.LogFault.TheVariants as log
use Rattle.intent_log.specs.Told.{ReadWithin, HasRead}
use Rattle.switch_recovery.specs.Restoring.{bad_intent, IsRestored}
use Rattle.switch_recovery.specs.declared.recovered.Recovered.{Recovered}
use Rattle.switch_recovery.specs.declared.recovered.RecoveryFault.{RecoveryFault}
use Rattle.switch_recovery.specs.declared.recovered.RecoveryFault.TheVariants.{LogFailed, LogTooLong, LogDamaged, BadIntent, NoOrder, NoMemory}

-- the logs are those that the rack tells of the clients from this one on
abbrev pub AreRead : (ℕ → Option (List ℕ)) → ℕ → List PlainLog → Type 0
AreRead told client [] = ⊤
AreRead told client (view ∷ views) = ReadWithin (told client) (λ bytes. IsLog client bytes view) × AreRead told (client + 1) views

-- bit c is set where client c's log is torn: the binary digits, the lowest first
abbrev pub torn_bits : List PlainLog → ℕ
torn_bits [] = 0
torn_bits (view ∷ views) = (if view.torn then 1 else 0) + 2 * torn_bits views

-- the logs of the clients below this one were read
pub record ReadBefore (plan : Plan) (told : ℕ → Option (List ℕ)) (client : ℕ) : Type 0 where
  pub within : client < length plan.clients
  pub logs : List PlainLog
  pub count : length logs ≡ client
  pub read : AreRead told 0 logs

-- the logs of all clients were read, and of them this holds
pub record ReadAll (plan : Plan) (told : ℕ → Option (List ℕ)) (holds : List PlainLog → Type 0) : Type 0 where
  pub logs : List PlainLog
  pub count : length logs ≡ length plan.clients
  pub read : AreRead told 0 logs
  pub of_them : holds logs

abbrev pub IsRecovered : Plan → Recovered → List PlainLog → Type 0
IsRecovered plan recovered logs = (bad_intent plan logs ≡ None) × IsRestored plan logs recovered.restored × (recovered.torn.0 ≡ torn_bits logs)

-- the logs of the clients below this one were read, and its own has this fault
abbrev pub StopsAt : Plan → (ℕ → Option (List ℕ)) → ℕ → LogFault → Type 0
StopsAt plan told client fault = ReadBefore plan told client × HasRead client (told client) (Err fault)

-- what recovering answers, unless memory ran out
abbrev pub Recovers : Plan → (ℕ → Option (List ℕ)) → Result Recovered RecoveryFault → Type 0
Recovers plan told (Ok recovered) = ReadAll plan told (IsRecovered plan recovered)
Recovers plan told (Err (LogFailed client)) = StopsAt plan told client log.Failed
Recovers plan told (Err (LogTooLong client)) = StopsAt plan told client log.TooLong
Recovers plan told (Err (LogDamaged client at)) = StopsAt plan told client (log.Damaged at)
Recovers plan told (Err (BadIntent client seq)) = ReadAll plan told (λ logs. bad_intent plan logs ≡ Some (client, seq))
Recovers plan told (Err NoOrder) = ReadAll plan told (λ logs. (bad_intent plan logs ≡ None) × ((order : List Task) → IsPlacement logs (hot_cells plan) order → ⊥))
Recovers plan told (Err NoMemory) = ⊤

-- Recovery is owed: the rack tells the log of each client, none is too long or damaged, no intent names a place outside the layout,
-- and some order of the packets fits.
pub record IsRecoverable (plan : Plan) (told : ℕ → Option (List ℕ)) : Type 0 where
  pub tells : (client : ℕ) → client < length plan.clients → IsSome (told client)
  pub logs : List PlainLog
  pub count : length logs ≡ length plan.clients
  pub read : AreRead told 0 logs
  pub inside : bad_intent plan logs ≡ None
  pub order : List Task
  pub fits : IsPlacement logs (hot_cells plan) order

-- a read failed
abbrev pub IsFailure : RecoveryFault → Type 0
IsFailure (LogFailed client) = ⊤
IsFailure (LogTooLong client) = ⊥
IsFailure (LogDamaged client at) = ⊥
IsFailure (BadIntent client seq) = ⊥
IsFailure NoOrder = ⊥
IsFailure NoMemory = ⊥

abbrev pub HasFailed : {X : Type 0} → Result X RecoveryFault → Type 0
HasFailed (Ok x) = ⊥
HasFailed (Err fault) = IsFailure fault

-- the fault of a client's log, as that of recovering
abbrev pub of_client : ℕ → LogFault → RecoveryFault
of_client client log.Failed = LogFailed client
of_client client log.TooLong = LogTooLong client
of_client client (log.Damaged at) = LogDamaged client at
of_client client log.NoMemory = NoMemory
