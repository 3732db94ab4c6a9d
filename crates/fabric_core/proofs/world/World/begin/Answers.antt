use Rattle.std.proofs.Common.{Bool, sym, subst, ◌∙◌, arith}
use Rattle.std.specs.Prelude.{IsTrue}
use Rattle.catalogue.specs.PlanOf.{plan_of}
use Rattle.fabric_core.specs.Racks.{seen}
use Rattle.fabric_core.proofs.EmptiedLogs.{fault_is}
use Rattle.fabric_core.proofs.Worlds.{kept_first}
use Rattle.fabric_core.proofs.world.World.begin.Goals as goal

pub reset_logs-requires : goal.reset_logs-requires
reset_logs-requires g c = omega (arith, c.clients.ensures.value, c.requires.sound.limits.clients)

pub returns-in-Err-reset_logs-clause-log_fault : goal.returns-in-Err-reset_logs-clause-log_fault
returns-in-Err-reset_logs-clause-log_fault g c = λ d e. fault_is (plan_of c.args.session) c.clients.result _ _ c.in-Err-reset_logs.client d c.clients.ensures.value e c.in-Err-reset_logs.ensures.fault

pub invariant_of-result : goal.invariant_of-result
invariant_of-result g c =
    let kept = λ (k : IsTrue g.N.RunName.kept). subst (λ (b : Bool). IsTrue b) (sym c.requires.kept) k in
    kept_first g.N.RunName.session (plan_of c.args.session) g.N.RunName.faults (IsTrue g.N.RunName.kept) c.in-Ok.room.0 c.in-Ok.room.1
    (seen (g.L.LogRack.told c.reset_logs.new.rack) (g.L.LogRack.keeps c.reset_logs.new.rack) (g.L.LogRack.faults c.reset_logs.new.rack))
    c.requires.named c.requires.sound c.in-Ok.ensures.core c.in-Ok.ensures.trace c.in-Ok.ensures.space
    (λ k. c.in_default.ensures.reset.keeps (kept k)) (λ k d lt. c.in_default.ensures.reset.empty (kept k) d (omega (arith, lt, c.clients.ensures.value))) (c.in_default.ensures.reset.faults ∙ c.requires.faults)

pub returns-clause-beyond : goal.returns-clause-beyond
returns-clause-beyond g c = λ d le. c.in_default.ensures.reset.beyond d (omega (arith, le, c.clients.ensures.value))
