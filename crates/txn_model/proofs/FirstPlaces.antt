-- The place that a search from the front on finds is the first one.
use Rattle.std.proofs.Common.{◌≡◌, ℕ, Bool, List, Option, sym}
use Rattle.std.specs.List.{position_from, position, enumerate_from}
use Rattle.std.proofs.lemmas.Iterator.Adapters.{position_from-zero}
use Rattle.txn_model.specs.ScriptCheck.{uses_badly, first_bad_use}
use Rattle.txn_model.specs.declared.op.Op.{Op}

pub first_counted : {X : Type 0} (p : X → Bool) (xs : List X) → position_from p 0 xs ≡ position p xs
first_counted p xs = sym (position_from-zero p xs)

-- the first operation with a bad use among the operations from number k on
abbrev pub bad_use_from : ℕ → List Op → Option ℕ
bad_use_from k ops = position_from (λ at. uses_badly at.0 at.1) k (enumerate_from k ops)

pub first_bad_use_counted : (ops : List Op) → bad_use_from 0 ops ≡ first_bad_use ops
first_bad_use_counted ops = first_counted (λ at. uses_badly at.0 at.1) (enumerate_from 0 ops)
