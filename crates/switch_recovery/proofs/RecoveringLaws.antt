-- Logs that were read one after another, and what they owe.
use Rattle.std.proofs.Common.{◌≡◌, ℕ, zero, suc, ◌+◌, ◌*◌, ◌<◌, ◌≤◌, Bool, true, false, cond, List, [], ◌∷◌, ◌++◌, length, map, Result, Ok, Err, Some, None, refl, sym, ap, subst, ◌∙◌, arith}
use Rattle.std.specs.Prelude.{Option, IsSome, IfSome, IfErr, IsErrAnd}
use Rattle.std.proofs.lemmas.List.{length-map}
use Rattle.catalogue.specs.Plan.{Plan, hot_cells}
use Rattle.placement_model.specs.Placements.{Task, IsPlacement}
use Rattle.switch_packet.specs.Packets.{PlainLog, plain_log}
use Rattle.switch_packet.specs.declared.record.LogView.{LogView}
use Rattle.intent_log.specs.Grammar.{IsLog, IsDamagedAt}
use Rattle.intent_log.specs.Told.{IsTold, ReadWithin}
use Rattle.intent_log.proofs.GrammarLaws.{logs_differ, logs_are_whole}
use Rattle.switch_recovery.specs.declared.restored.Restored.{Restored}
use Rattle.switch_recovery.specs.declared.restored.RestoreFault.{RestoreFault}
use Rattle.switch_recovery.specs.declared.restored.RestoreFault.TheVariants as restore
use Rattle.switch_recovery.specs.declared.recovered.RecoveryFault.{RecoveryFault}
use Rattle.switch_recovery.specs.declared.recovered.RecoveryFault.TheVariants.{LogFailed, LogTooLong, LogDamaged, BadIntent, NoOrder, NoMemory}
use Rattle.switch_recovery.specs.Recovering.{AreRead, torn_bits, ReadAll, Recovers, IsRecoverable, IsFailure}
use Rattle.switch_recovery.specs.Restoring.{AreViews, bad_intent, Restores}

abbrev pub Tells : Type 0
Tells = ℕ → Option (List ℕ)

-- one log more was read
pub read_more : (told : Tells) (client at : ℕ) (logs : List PlainLog) (view : PlainLog) → at ≡ client + length logs → AreRead told client logs → ReadWithin (told at) (λ bytes. IsLog at bytes view)
    → AreRead told client (logs ++ view ∷ [])
read_more told client at [] view is r w =
    let same : at ≡ client = omega (arith, is) in
    (subst (λ (c : ℕ). ReadWithin (told c) (λ bytes. IsLog c bytes view)) same w, tt)
read_more told client at (v ∷ logs) view is r w = (r.0, read_more told (client + 1) at logs view (omega (arith, is)) r.1 w)

pub views_more : (views : List LogView) (view : LogView) → map plain_log (views ++ view ∷ []) ≡ map plain_log views ++ plain_log view ∷ []
views_more [] view = refl
views_more (v ∷ views) view = ap (λ (l : List PlainLog). plain_log v ∷ l) (views_more views view)

-- what was read is what some logs say
pub are_views : (told : Tells) (client : ℕ) (logs : List PlainLog) → AreRead told client logs → AreViews client logs
are_views told client [] r = tt
are_views told client (view ∷ logs) r = ((r.0.bytes, r.0.of_them), are_views told (client + 1) logs r.1)

-- ---- bits

abbrev all_bits : List PlainLog → ℕ
all_bits [] = 0
all_bits (view ∷ views) = 1 + 2 * all_bits views

pub bit_small : (b : Bool) → cond b 1 0 ≤ 1
bit_small true = omega arith
bit_small false = omega arith

torn_all : (views : List PlainLog) → torn_bits views ≤ all_bits views
torn_all [] = omega arith
torn_all (view ∷ views) = omega (arith, torn_all views, bit_small view.torn)

all_small : (views : List PlainLog) → length views ≤ 7 → all_bits views ≤ 127
all_small [] le = omega arith
all_small (a ∷ []) le = omega arith
all_small (a ∷ b ∷ []) le = omega arith
all_small (a ∷ b ∷ c ∷ []) le = omega arith
all_small (a ∷ b ∷ c ∷ d ∷ []) le = omega arith
all_small (a ∷ b ∷ c ∷ d ∷ e ∷ []) le = omega arith
all_small (a ∷ b ∷ c ∷ d ∷ e ∷ f ∷ []) le = omega arith
all_small (a ∷ b ∷ c ∷ d ∷ e ∷ f ∷ g ∷ []) le = omega arith
all_small (a ∷ b ∷ c ∷ d ∷ e ∷ f ∷ g ∷ h ∷ views) le = absurd (omega arith)

pub bits_small : (views : List PlainLog) → length views ≤ 7 → torn_bits views ≤ 127
bits_small views le = omega (arith, torn_all views, all_small views le)

-- ---- what the told logs owe

some_is : {X : Type 0} (o : Option X) → IsSome o → (x : X) × (o ≡ Some x)
some_is None e = absurd cc
some_is (Some x) e = (x, refl)

none_is_not_some : {X : Type 0} (o : Option X) (x : X) → o ≡ None → o ≡ Some x → ⊥
none_is_not_some o x e f = cc

some_same : {X : Type 0} (x y : X) → Some x ≡ Some y → x ≡ y
some_same x y e = cc

told_is : (o : Option (List ℕ)) (log bytes : List ℕ) → o ≡ Some log → IsTold o bytes → log ≡ bytes
told_is None log bytes e t = absurd cc
told_is (Some l) log bytes e t = sym (some_same l log e) ∙ t

-- a rack that tells a log tells one thing of it
log_is : (told : Tells) (client : ℕ) (a b : PlainLog) → IsSome (told client) → ReadWithin (told client) (λ bytes. IsLog client bytes a) → ReadWithin (told client) (λ bytes. IsLog client bytes b) → a ≡ b
log_is told client a b some x y =
    let log = some_is (told client) some in
    let same : x.bytes ≡ y.bytes = sym (told_is (told client) log.0 x.bytes log.1 x.are_told) ∙ told_is (told client) log.0 y.bytes log.1 y.are_told in
    logs_differ client y.bytes a b (subst (λ (bytes : List ℕ). IsLog client bytes a) same x.of_them) y.of_them

logs_are : (told : Tells) (client n : ℕ) (xs ys : List PlainLog) → ((c : ℕ) → c < n → IsSome (told c)) → client + length xs ≡ n → client + length ys ≡ n → AreRead told client xs → AreRead told client ys → xs ≡ ys
logs_are told client n [] [] some p q x y = refl
logs_are told client n [] (b ∷ ys) some p q x y = absurd (omega (arith, p, q))
logs_are told client n (a ∷ xs) [] some p q x y = absurd (omega (arith, p, q))
logs_are told client n (a ∷ xs) (b ∷ ys) some p q x y =
    let here : client < n = omega (arith, p) in
    let first = log_is told client a b (some client here) x.0 y.0 in
    let rest = logs_are told (client + 1) n xs ys some (omega (arith, p)) (omega (arith, q)) x.1 y.1 in
    cc

-- the log of each client, by its number
log_there : (told : Tells) (client k at : ℕ) (logs : List PlainLog) → AreRead told client logs → at ≡ client + k → k < length logs → (view : PlainLog) × ReadWithin (told at) (λ bytes. IsLog at bytes view)
log_there told client k at [] r is lt = absurd (omega (arith, lt))
log_there told client zero at (view ∷ logs) r is lt =
    let same : client ≡ at = omega (arith, is) in
    (view, subst (λ (c : ℕ). ReadWithin (told c) (λ bytes. IsLog c bytes view)) same r.0)
log_there told client (suc k) at (view ∷ logs) r is lt = log_there told (client + 1) k at logs r.1 (omega (arith, is)) (omega (arith, lt))

here : (plan : Plan) (told : Tells) (owed : IsRecoverable plan told) (client : ℕ) → client < length plan.clients → (view : PlainLog) × ReadWithin (told client) (λ bytes. IsLog client bytes view)
here plan told owed client lt = log_there told 0 client client owed.logs owed.read (omega arith) (omega (arith, lt, owed.count))

not_too_long : (plan : Plan) (told : Tells) (owed : IsRecoverable plan told) (client : ℕ) → client < length plan.clients → IfSome (told client) (λ log. 16777216 < length log) → ⊥
not_too_long plan told owed client lt long =
    let log = some_is (told client) (owed.tells client lt) in
    let read = (here plan told owed client lt).1 in
    let beyond = subst (λ (o : Option (List ℕ)). IfSome o (λ log. 16777216 < length log)) log.1 long in
    omega (arith, beyond, read.within, ap length (told_is (told client) log.0 read.bytes log.1 read.are_told))

not_hurt : (plan : Plan) (told : Tells) (owed : IsRecoverable plan told) (client at : ℕ) → client < length plan.clients → ReadWithin (told client) (λ bytes. IsDamagedAt client bytes at) → ⊥
not_hurt plan told owed client at lt hurt =
    let log = some_is (told client) (owed.tells client lt) in
    let view = here plan told owed client lt in
    let same : view.1.bytes ≡ hurt.bytes = sym (told_is (told client) log.0 view.1.bytes log.1 view.1.are_told) ∙ told_is (told client) log.0 hurt.bytes log.1 hurt.are_told in
    logs_are_whole client hurt.bytes view.0 at (subst (λ (bytes : List ℕ). IsLog client bytes view.0) same view.1.of_them) hurt.of_them

same_logs : (plan : Plan) (told : Tells) (owed : IsRecoverable plan told) (P : List PlainLog → Type 0) → ReadAll plan told P → P owed.logs
same_logs plan told owed P all =
    subst P (logs_are told 0 (length plan.clients) all.logs owed.logs owed.tells (omega (arith, all.count)) (omega (arith, owed.count)) all.read owed.read) all.of_them

-- where recovery is owed, only a failed read and want of memory stand against it
pub is_owed : (plan : Plan) (told : Tells) (fault : RecoveryFault) → Recovers plan told (Err fault) → IsRecoverable plan told → (IsFailure fault → ⊥) → fault ≡ NoMemory
is_owed plan told (LogFailed client) is owed whole = absurd (whole tt)
is_owed plan told (LogTooLong client) is owed whole = absurd (not_too_long plan told owed client is.0.within is.1)
is_owed plan told (LogDamaged client at) is owed whole = absurd (not_hurt plan told owed client at is.0.within is.1)
is_owed plan told (BadIntent client seq) is owed whole =
    let bad : bad_intent plan owed.logs ≡ Some (client, seq) = same_logs plan told owed (λ logs. bad_intent plan logs ≡ Some (client, seq)) is in
    absurd (none_is_not_some (bad_intent plan owed.logs) (client, seq) owed.inside bad)
is_owed plan told NoOrder is owed whole =
    let none = same_logs plan told owed (λ logs. (bad_intent plan logs ≡ None) × ((order : List Task) → IsPlacement logs (hot_cells plan) order → ⊥)) is in
    absurd (none.1 owed.order owed.fits)
is_owed plan told NoMemory is owed whole = refl

-- no more so where all logs were read, and the switch is restored from them
pub restore_is_owed : (plan : Plan) (told : Tells) (views : List LogView) (r : Result Restored RestoreFault) → length views ≡ length plan.clients → AreRead told 0 (map plain_log views) → Restores plan (map plain_log views) r → IsRecoverable plan told
    → IfErr r (λ fault. fault ≡ restore.NoMemory)
restore_is_owed plan told views (Ok restored) count read is owed = tt
restore_is_owed plan told views (Err (restore.BadIntent client seq)) count read is owed =
    let all : Recovers plan told (Err (BadIntent client seq)) = record { logs = map plain_log views; count = length-map views plain_log ∙ count; read = read; of_them = is } in
    let none : BadIntent client seq ≡ NoMemory = is_owed plan told (BadIntent client seq) all owed (λ no. no) in absurd (cc none)
restore_is_owed plan told views (Err restore.NoOrder) count read is owed =
    let all : Recovers plan told (Err NoOrder) = record { logs = map plain_log views; count = length-map views plain_log ∙ count; read = read; of_them = is } in
    let none : NoOrder ≡ NoMemory = is_owed plan told NoOrder all owed (λ no. no) in absurd (cc none)
restore_is_owed plan told views (Err restore.NoMemory) count read is owed = refl

-- a fault that is handed on
pub handed_on : {X F : Type 0} (r : Result X F) (a b : F) → IsErrAnd r (λ fault. fault ≡ a) → a ≡ b → IfErr r (λ fault. fault ≡ b)
handed_on (Ok x) a b is same = tt
handed_on (Err fault) a b is same = is ∙ same
