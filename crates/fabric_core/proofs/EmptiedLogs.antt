-- Logs that were emptied, or not, when a run begins.
use Rattle.std.proofs.Common.{◌≡◌, ℕ, length, subst}
use Rattle.catalogue.specs.Plan.{Plan}
use Rattle.fabric_core.specs.Begun.{IsNotReset}
use Rattle.fabric_core.specs.Racks.{Rack}
use Rattle.fabric_core.specs.declared.turn.BeginFault.TheVariants as faults

same_client : (a b : ℕ) → faults.LogFault a ≡ faults.LogFault b → a ≡ b
same_client a b e = cc

-- the fault names the client
pub fault_is : (plan : Plan) (clients : ℕ) (old new : Rack) (c d : ℕ) → clients ≡ length plan.clients → faults.LogFault c ≡ faults.LogFault d → IsNotReset clients old new c → IsNotReset (length plan.clients) old new d
fault_is plan clients old new c d same named is = subst (λ (n : ℕ). IsNotReset n old new d) same (subst (IsNotReset clients old new) (same_client c d named) is)
