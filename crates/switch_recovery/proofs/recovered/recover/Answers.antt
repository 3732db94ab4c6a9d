use Rattle.std.proofs.Common.{◌≡◌, List, map, subst}
use Rattle.std.specs.Prelude.{IfErr}
use Rattle.catalogue.specs.PlanOf.{plan_of}
use Rattle.switch_packet.specs.Packets.{plain_log}
use Rattle.switch_packet.specs.declared.record.LogView.{LogView}
use Rattle.switch_recovery.specs.Restoring.{Restores}
use Rattle.switch_recovery.specs.declared.restored.RestoreFault.TheVariants as restore
use Rattle.switch_recovery.specs.declared.recovered.RecoveryFault.TheVariants.{NoMemory}
use Rattle.switch_recovery.proofs.RecoveringLaws.{are_views, is_owed, restore_is_owed, handed_on}
use Rattle.switch_recovery.proofs.recovered.recover.Goals as goal

pub restore-requires-clause-read : goal.restore-requires-clause-read
restore-requires-clause-read g c = rw c.as_slice-2.ensures.value (are_views _ 0 _ c.in_ok-views.ensures.read)

pub returns-in_err-views-clause-complete : goal.returns-in_err-views-clause-complete
returns-in_err-views-clause-complete g c = λ owed quiet.
    handed_on c.from_residual.result c.in_err-views.field-0.0 NoMemory c.from_residual.ensures.1
    (is_owed (plan_of c.args.session.now) (g.L.LogRack.told c.args.rack.now) c.in_err-views.field-0.0 c.in_err-views.ensures.stopped owed (λ failed. quiet (c.in_err-views.ensures.cause.rose failed)))

pub returns-in-Err-BadIntent-clause-complete : goal.returns-in-Err-BadIntent-clause-complete
returns-in-Err-BadIntent-clause-complete g c = λ owed quiet.
    let plan = plan_of c.args.session.now in
    let views = c.in_ok-views.views.items in
    let is : Restores plan (map plain_log views) c.restore.result = subst (λ (l : List LogView). Restores plan (map plain_log l) c.restore.result) c.as_slice-2.ensures.value c.restore.ensures in
    let none : IfErr c.restore.result (λ fault. fault ≡ restore.NoMemory) = restore_is_owed plan (g.L.LogRack.told c.args.rack.now) views c.restore.result c.in_ok-views.ensures.count c.in_ok-views.ensures.read is owed in
    let same : c.in-Err-BadIntent.field-0 ≡ restore.NoMemory = subst (λ r. IfErr r (λ fault. fault ≡ restore.NoMemory)) c.in-Err-BadIntent.is none in
    absurd (cc (same, c.in-Err-BadIntent.field-0-is))

pub returns-in-Err-NoOrder-clause-complete : goal.returns-in-Err-NoOrder-clause-complete
returns-in-Err-NoOrder-clause-complete g c = λ owed quiet.
    let plan = plan_of c.args.session.now in
    let views = c.in_ok-views.views.items in
    let is : Restores plan (map plain_log views) c.restore.result = subst (λ (l : List LogView). Restores plan (map plain_log l) c.restore.result) c.as_slice-2.ensures.value c.restore.ensures in
    let none : IfErr c.restore.result (λ fault. fault ≡ restore.NoMemory) = restore_is_owed plan (g.L.LogRack.told c.args.rack.now) views c.restore.result c.in_ok-views.ensures.count c.in_ok-views.ensures.read is owed in
    let same : c.in-Err-NoOrder.field-0 ≡ restore.NoMemory = subst (λ r. IfErr r (λ fault. fault ≡ restore.NoMemory)) c.in-Err-NoOrder.is none in
    absurd (cc (same, c.in-Err-NoOrder.field-0-is))
