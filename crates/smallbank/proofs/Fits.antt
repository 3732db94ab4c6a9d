-- The scripts can be run in a session that has their tuples: no tuple stands twice in them, and what an operation
-- needs was found by one without needs, which is never late.
use Rattle.std.proofs.Common.{◌≡◌, ◌≢◌, ℕ, ℤ, ◌+◌, ◌*◌, ◌<◌, Bool, true, false, ◌&&◌, List, [], ◌∷◌, Result, Ok, Err, IfOk, nat_eq, refl, sym, subst, arith, if◌then◌else◌}
use Rattle.std.specs.List.{All}
use Rattle.std.proofs.lemmas.Bool.Decides.{nat_tests}
use Rattle.std.proofs.lemmas.List.Elements.{All-nil, All-cons}
use Rattle.txn_model.specs.ScriptCheck.{script_fault}
use Rattle.txn_model.specs.declared.op.Op.{Op}
use Rattle.txn_model.specs.declared.op.TupleId.{TupleId}
use Rattle.stage_layout.specs.Late.{is_hot, is_after, Hot, Before}
use Rattle.load_base.specs.Load.{IsFitFor, hot_rows}
use Rattle.load_base.specs.declared.size.Size.{Size}
use Rattle.smallbank.specs.Scripts.{savings, checking, balance, deposit_checking, transact_savings, amalgamate, write_check, send_payment}

and_false : (b : Bool) → (b && false) ≡ false
and_false true = refl
and_false false = refl

-- an operation without needs is in the switch or on a host before it
not_late : (hot : Bool) → is_after (if hot then Hot else Before) ≡ false
not_late true = refl
not_late false = refl

apart : (a b : ℕ) → a ≢ b → nat_eq a b ≡ false
apart a b h = grind (arith, nat_tests)

odd : (a b : ℕ) → nat_eq (2 * a) (2 * b + 1) ≡ false
odd a b = apart (2 * a) (2 * b + 1) (λ e. omega arith)

other : (a b : ℕ) → a ≢ b → nat_eq (2 * a + 1) (2 * b + 1) ≡ false
other a b h = apart (2 * a + 1) (2 * b + 1) (λ e. h (omega arith))

-- what is known of a script where it was made
pub made : {X E : Type 0} (size : Size) (r : Result X E) (items_of : X → List Op) (ops : List Op) → IfOk r (λ x. items_of x ≡ ops) → IsFitFor size ops → IfOk r (λ x. IsFitFor size (items_of x))
made size (Ok x) items_of ops is fit = subst (IsFitFor size) (sym is) fit
made size (Err e) items_of ops is fit = tt

module _ (size : Size) where
  abbrev is_there : Op → Type 0
  is_there op = op.tuple.0 < size.tuples

  one : (a : Op) → is_there a → All is_there (a ∷ [])
  one a h = All-cons is_there a [] h (All-nil is_there)

  two : (a b : Op) → is_there a → is_there b → All is_there (a ∷ b ∷ [])
  two a b h k = All-cons is_there a (b ∷ []) h (one b k)

  three : (a b c : Op) → is_there a → is_there b → is_there c → All is_there (a ∷ b ∷ c ∷ [])
  three a b c h k l = All-cons is_there a (b ∷ c ∷ []) h (two b c k l)

  abbrev hot : TupleId → Bool
  hot t = is_hot (hot_rows size.hot) t

  module _ (c : ℕ) (h : 2 * c + 1 < size.tuples) where
    low : 2 * c < size.tuples
    low = omega arith

    pub balance_fits : IsFitFor size (balance c)
    unfolding script_fault
    balance_fits = record {
      tuples = two _ _ low h;
      script = rw (odd c c) refl;
      turns = rw (and_false (hot (savings c)), and_false (hot (checking c))) refl;
    }

    pub deposit_checking_fits : (v : ℤ) → IsFitFor size (deposit_checking c v)
    unfolding script_fault
    deposit_checking_fits v = record {
      tuples = one _ h;
      script = refl;
      turns = rw (and_false (hot (checking c))) refl;
    }

    pub transact_savings_fits : (v : ℤ) → IsFitFor size (transact_savings c v)
    unfolding script_fault
    transact_savings_fits v = record {
      tuples = one _ low;
      script = refl;
      turns = rw (and_false (hot (savings c))) refl;
    }

    pub write_check_fits : (v : ℤ) → IsFitFor size (write_check c v)
    unfolding script_fault
    write_check_fits v = record {
      tuples = two _ _ low h;
      script = rw (odd c c) refl;
      turns = rw (not_late (hot (savings c)), and_false (hot (savings c)), and_false (hot (checking c))) refl;
    }

    module _ (to : ℕ) (others : 2 * to + 1 < size.tuples) (differ : c ≢ to) where
      pub amalgamate_fits : IsFitFor size (amalgamate c to)
      unfolding script_fault
      amalgamate_fits = record {
        tuples = three _ _ _ low h others;
        script = rw (odd c c, odd c to, other c to differ) refl;
        turns = rw (not_late (hot (savings c)), not_late (hot (checking c)), and_false (hot (savings c)), and_false (hot (checking c)), and_false (hot (checking to))) refl;
      }

      pub send_payment_fits : (v : ℤ) → IsFitFor size (send_payment c to v)
      unfolding script_fault
      send_payment_fits v = record {
        tuples = two _ _ h others;
        script = rw (other c to differ) refl;
        turns = rw (not_late (hot (checking c)), and_false (hot (checking c)), and_false (hot (checking to))) refl;
      }
