-- The ranges of what generated sessions are made from.
use Rattle.std.specs.Prelude.{ℕ, ◌*◌, ◌≤◌}
use Rattle.catalogue.specs.declared.load.BankPlan.{BankPlan}
use Rattle.catalogue.specs.declared.load.YcsbPlan.{YcsbPlan}

-- so many clients and scripts of each, and of so many customers or records so many hot ones, taken by this share
pub record IsWithinPlans (clients scripts keys hot share : ℕ) : Type 0 where
  pub some_clients : 1 ≤ clients
  pub most_clients : clients ≤ 8
  pub some_scripts : 1 ≤ scripts
  pub items : clients * scripts ≤ 4096
  pub most_hot : hot ≤ keys
  pub most_share : share ≤ 100

pub record IsBankPlan (plan : BankPlan) : Type 0 where
  pub within : IsWithinPlans plan.clients plan.scripts plan.customers plan.hot plan.share
  pub some : 2 ≤ plan.customers
  pub most : plan.customers ≤ 32768

pub record IsYcsbPlan (plan : YcsbPlan) : Type 0 where
  pub within : IsWithinPlans plan.clients plan.scripts plan.records plan.hot plan.share
  pub some : 16 ≤ plan.records
  pub most : plan.records ≤ 65536
  pub some_ops : 1 ≤ plan.ops
  pub most_ops : plan.ops ≤ 16
