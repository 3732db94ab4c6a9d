-- What a client's next action says of it.
use Rattle.std.proofs.Common.{◌≡◌, ℕ, ◌<◌, nat_lt, Bool, true, false, List, if◌then◌else◌, refl, arith}
use Rattle.std.proofs.lemmas.Bool.Decides.{nat_tests}
use Rattle.txn_model.specs.declared.op.Op.{Op}
use Rattle.warm_split.specs.declared.parts.Parts.{Parts}
use Rattle.core_model.specs.declared.phase.Phase.{Phase}
use Rattle.core_model.specs.declared.phase.Phase.TheVariants.{Ready, Locking, Aborting, Logged, Waiting, Installing, Finished}
use Rattle.client_phase.specs.declared.action.Action.TheVariants.{Lock, Decide, LogIntent}
use Rattle.client_phase.specs.ColdNumbers.{cold_count, cold_number, is_cold}
use Rattle.client_phase.specs.NextAction.{locks_or_goes_on, script_action}
use Rattle.client_phase.specs.Shown.{PlainClient}

below : (a b : ℕ) → nat_lt a b ≡ true → a < b
below a b t = grind (arith, nat_tests)

-- the next lock
abbrev pub IsNext : Parts → List Op → ℕ → ℕ → Type 0
IsNext parts ops locked k = (k ≡ cold_number parts ops locked) × (locked < cold_count parts ops)

asks : (parts : Parts) (ops : List Op) (locked k : ℕ) → locks_or_goes_on parts ops locked ≡ Lock k → IsNext parts ops locked k
asks parts ops locked k e = by (nat_lt locked (cold_count parts ops)) refl e
  where
    neither : (b : Bool) → (if b then Decide else LogIntent) ≡ Lock k → IsNext parts ops locked k
    neither true i = cc
    neither false i = cc

    by : (b : Bool) → nat_lt locked (cold_count parts ops) ≡ b → (if b then Lock (cold_number parts ops locked) else (if is_cold parts ops then Decide else LogIntent)) ≡ Lock k → IsNext parts ops locked k
    by true t i = (cc, below locked (cold_count parts ops) t)
    by false t i = neither (is_cold parts ops) i

-- a client that asks for the lock of this operation asks for the next one
pub lock_is : (parts : Parts) (ops : List Op) (p : PlainClient) (q : Phase) (k : ℕ) → script_action parts ops p q ≡ Lock k → IsNext parts ops p.locked k
lock_is parts ops p Ready k e = asks parts ops p.locked k e
lock_is parts ops p Locking k e = asks parts ops p.locked k e
lock_is parts ops p Aborting k e = cc
lock_is parts ops p Logged k e = cc
lock_is parts ops p Waiting k e = cc
lock_is parts ops p Installing k e = cc
lock_is parts ops p Finished k e = cc
