use Rattle.std.proofs.Common.{ℤ, arith, w64, to_z, of_z}
use Rattle.smallbank.specs.Bank.{bank_size}
use Rattle.smallbank.specs.Scripts.{balance, deposit_checking, transact_savings, amalgamate, write_check, send_payment}
use Rattle.smallbank.proofs.Fits.{made, balance_fits, deposit_checking_fits, transact_savings_fits, amalgamate_fits, write_check_fits, send_payment_fits}
use Rattle.smallbank.proofs.bank.script_of.Goals as goal

-- an amount as a call gets it
abbrev handed : ℤ → ℤ
handed amount = to_z w64 (of_z w64 amount)

pub returns-in-Balance-clause-fit : goal.returns-in-Balance-clause-fit
returns-in-Balance-clause-fit c = made (bank_size c.args.plan.now) c.balance.result (λ script. script.items) (balance c.args.first) c.balance.ensures (balance_fits (bank_size c.args.plan.now) c.args.first (omega arith))

pub returns-in-DepositChecking-clause-fit : goal.returns-in-DepositChecking-clause-fit
returns-in-DepositChecking-clause-fit c = made (bank_size c.args.plan.now) c.deposit_checking.result (λ script. script.items) (deposit_checking c.args.first (handed c.amount.result)) c.deposit_checking.ensures (deposit_checking_fits (bank_size c.args.plan.now) c.args.first (omega arith) (handed c.amount.result))

pub returns-in-TransactSavings-clause-fit : goal.returns-in-TransactSavings-clause-fit
returns-in-TransactSavings-clause-fit c = made (bank_size c.args.plan.now) c.transact_savings.result (λ script. script.items) (transact_savings c.args.first (handed c.amount-in-TransactSavings.result)) c.transact_savings.ensures (transact_savings_fits (bank_size c.args.plan.now) c.args.first (omega arith) (handed c.amount-in-TransactSavings.result))

pub returns-in-Amalgamate-clause-fit : goal.returns-in-Amalgamate-clause-fit
returns-in-Amalgamate-clause-fit c = made (bank_size c.args.plan.now) c.amalgamate.result (λ script. script.items) (amalgamate c.args.first c.other_customer.result) c.amalgamate.ensures (amalgamate_fits (bank_size c.args.plan.now) c.args.first (omega arith) c.other_customer.result (omega arith) c.other_customer.ensures.other)

pub returns-in-WriteCheck-clause-fit : goal.returns-in-WriteCheck-clause-fit
returns-in-WriteCheck-clause-fit c = made (bank_size c.args.plan.now) c.write_check.result (λ script. script.items) (write_check c.args.first (handed c.amount-in-WriteCheck.result)) c.write_check.ensures (write_check_fits (bank_size c.args.plan.now) c.args.first (omega arith) (handed c.amount-in-WriteCheck.result))

pub returns-in-SendPayment-clause-fit : goal.returns-in-SendPayment-clause-fit
returns-in-SendPayment-clause-fit c = made (bank_size c.args.plan.now) c.send_payment.result (λ script. script.items) (send_payment c.args.first c.other_customer-second.result (handed c.amount-in-SendPayment.result)) c.send_payment.ensures (send_payment_fits (bank_size c.args.plan.now) c.args.first (omega arith) c.other_customer-second.result (omega arith) c.other_customer-second.ensures.other (handed c.amount-in-SendPayment.result))
