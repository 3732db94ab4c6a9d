-- By how much each script changes the total, whatever the tuples are.
use Rattle.std.specs.Prelude.{ℕ, ℤ, ◌+ℤ◌, ◌-ℤ◌, pos, int_le, if◌then◌else◌}
use Rattle.txn_model.specs.Number.{wrap}
use Rattle.txn_model.specs.Tuples.{Tuples, value_at}
use Rattle.smallbank.specs.Scripts.{savings, checking, opposite, balance, deposit_checking, transact_savings, amalgamate, write_check, send_payment}
use Rattle.smallbank.specs.Total.{ChangesTotal}

abbrev pub BalanceKeepsTotal : Type 0
BalanceKeepsTotal = (customer : ℕ) (m : Tuples) → ChangesTotal (balance customer) m (pos 0)

abbrev pub DepositCheckingAddsAmount : Type 0
DepositCheckingAddsAmount = (customer : ℕ) (amount : ℤ) (m : Tuples) → ChangesTotal (deposit_checking customer amount) m amount

-- where the savings are at least the opposite of the amount
abbrev pub TransactSavingsAddsAmount : Type 0
TransactSavingsAddsAmount = (customer : ℕ) (amount : ℤ) (m : Tuples) → ChangesTotal (transact_savings customer amount) m
    (if int_le (opposite amount) (wrap (value_at m (savings customer))) then amount else pos 0)

abbrev pub AmalgamateKeepsTotal : Type 0
AmalgamateKeepsTotal = (from to : ℕ) (m : Tuples) → ChangesTotal (amalgamate from to) m (pos 0)

-- and one more as a penalty, where savings and checking together are less
abbrev pub WriteCheckTakesAmount : Type 0
WriteCheckTakesAmount = (customer : ℕ) (amount : ℤ) (m : Tuples) → ChangesTotal (write_check customer amount) m
    (if int_le amount (wrap (value_at m (savings customer) +ℤ value_at m (checking customer))) then pos 0 -ℤ amount else (pos 0 -ℤ amount) -ℤ pos 1)

abbrev pub SendPaymentKeepsTotal : Type 0
SendPaymentKeepsTotal = (from to : ℕ) (amount : ℤ) (m : Tuples) → ChangesTotal (send_payment from to amount) m (pos 0)
