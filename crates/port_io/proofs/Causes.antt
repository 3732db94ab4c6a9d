-- Lemmas on counts of failures, and on results that are no failure.
use Rattle.std.proofs.Common.{◌≡◌, ℕ, Result, Ok, Err, true, false, ◌∙◌, arith}
use Rattle.port_io.specs.declared.whole.ReadAllFault.{ReadAllFault}
use Rattle.port_io.specs.declared.whole.ReadAllFault.TheVariants.{Failed, TooLong, NoMemory}
use Rattle.port_io.specs.Cause.{HasCause}

-- the cause of a run is that of the call that ends it, before which the count stood still
pub HasCause-ends : (before middle now : ℕ) (P Q : Type 0) → middle ≡ before → HasCause middle now P → (Q → P) → (P → Q) → HasCause before now Q
HasCause-ends before middle now P Q stood cause back on = record {
  later = let later = cause.later in omega arith;
  rose = λ q. let rose = cause.rose (back q) in omega arith;
  still = λ no. cause.still (λ p. no (on p)) ∙ stood;
}

-- a run that did not fail, and whose last call did not, has nothing to show
pub HasCause-quiet : (before middle now : ℕ) (P Q : Type 0) → middle ≡ before → HasCause middle now P → (P → ⊥) → (Q → ⊥) → HasCause before now Q
HasCause-quiet before middle now P Q stood cause no_p no_q = record {
  later = let later = cause.later in omega arith;
  rose = λ q. absurd (no_q q);
  still = λ _. cause.still no_p ∙ stood;
}

pub ok_is_no_failure : {T E : Type 0} (x : T) (e : E) → Ok x ≡ Err e → ⊥
ok_is_no_failure x e same = cc

pub too_long_is_no_failure : {T : Type 0} (r : Result T ReadAllFault) → r ≡ Err TooLong → r ≡ Err Failed → ⊥
too_long_is_no_failure r is same = cc

pub no_memory_is_no_failure : {T : Type 0} (r : Result T ReadAllFault) → r ≡ Err NoMemory → r ≡ Err Failed → ⊥
no_memory_is_no_failure r is same = cc

pub false_is_not_true : false ≡ true → ⊥
false_is_not_true same = cc
