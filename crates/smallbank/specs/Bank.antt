-- The session of SmallBank transactions that a plan stands for: how large it is, and how its scripts are drawn.
use Rattle.std.specs.Prelude.{ℕ, ℤ, pos, ◌+◌, ◌*◌, ◌%◌, ◌==◌, nat_lt, List, if◌then◌else◌}
use Rattle.txn_model.specs.declared.op.Op.{Op}
use Rattle.catalogue.specs.Plan.{Plan}
use Rattle.catalogue.specs.declared.load.BankPlan.{BankPlan}
use Rattle.schedule.specs.Dice.{Words, draw, key}
use Rattle.load_base.specs.Load.{load_of}
use Rattle.load_base.specs.declared.size.Size.{Size}
use Rattle.smallbank.specs.Scripts.{balance, deposit_checking, transact_savings, amalgamate, write_check, send_payment}
use Rattle.smallbank.specs.declared.bank.Kind.{Kind}
use Rattle.smallbank.specs.declared.bank.Kind.TheVariants.{Balance, DepositChecking, TransactSavings, Amalgamate, WriteCheck, SendPayment}

-- two tuples a customer, each of 1,000 at first
abbrev pub bank_size : BankPlan → Size
bank_size plan = record {
  number = plan.number;
  clients = plan.clients;
  scripts = plan.scripts;
  tuples = 2 * plan.customers;
  hot = 2 * plan.hot;
  value = pos 1000;
}

-- which script a number below 100 stands for
abbrev pub kind_at : ℕ → Kind
kind_at d =
    if nat_lt d 15 then Balance else
    (if nat_lt d 30 then DepositChecking else
    (if nat_lt d 45 then TransactSavings else
    (if nat_lt d 60 then Amalgamate else
    (if nat_lt d 75 then WriteCheck else SendPayment))))

abbrev pub customer : BankPlan → Words → ℕ × Words
customer plan words = key plan.customers plan.hot plan.share words

-- the next one where the customer is the first one again
abbrev pub moved_on : BankPlan → ℕ → ℕ → ℕ
moved_on plan first second = if second == first then (first + 1) % plan.customers else second

abbrev pub other_customer : BankPlan → ℕ → Words → ℕ × Words
other_customer plan first words = let second = customer plan words in (moved_on plan first second.0, second.1)

-- 1 to 100
abbrev pub amount : Words → ℤ × Words
amount words = let d = draw 100 words in (pos (1 + d.0), d.1)

-- the second customer is drawn before the amount
abbrev pub script_of : BankPlan → Kind → ℕ → Words → List Op × Words
script_of plan Balance first words = (balance first, words)
script_of plan DepositChecking first words = let v = amount words in (deposit_checking first v.0, v.1)
script_of plan TransactSavings first words = let v = amount words in (transact_savings first v.0, v.1)
script_of plan Amalgamate first words = let second = other_customer plan first words in (amalgamate first second.0, second.1)
script_of plan WriteCheck first words = let v = amount words in (write_check first v.0, v.1)
script_of plan SendPayment first words =
    let second = other_customer plan first words in
    let v = amount second.1 in
    (send_payment first second.0 v.0, v.1)

abbrev pub bank_script : BankPlan → Words → List Op × Words
bank_script plan words =
    let d = draw 100 words in
    let first = customer plan d.1 in
    script_of plan (kind_at d.0) first.0 first.1

abbrev pub bank_load : BankPlan → Plan
bank_load plan = load_of (bank_size plan) (bank_script plan)
