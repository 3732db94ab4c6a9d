use Rattle.std.proofs.Common.{List, ℕ, Option, subst}
use Rattle.catalogue.specs.PlanOf.{plan_of}
use Rattle.fabric_core.specs.Racks.{seen}
use Rattle.p4db_top.specs.Recovering.{ExplainsRecovery}
use Rattle.p4db_top.proofs.RecoveringNotes.{recovery_explained, recovery_is_no_read, recovery_owed}
use Rattle.p4db_top.proofs.recovering.recover_session.Goals as goal

pub returns-in-Ok-clause-explained : goal.returns-in-Ok-clause-explained
returns-in-Ok-clause-explained g c = recovery_explained c.recover_logs-note.result _ _ _ _ _ _ (plan_of c.in-Ok.session) c.in-Ok.ensures.ok c.recover_logs-note.ensures.ends

pub returns-in-Ok-clause-complete : goal.returns-in-Ok-clause-complete
returns-in-Ok-clause-complete g c = λ bytes session left few is rack can source sink.
    let note = c.recover_logs-note.result in
    let old = seen (g.L.LogRack.told c.args.rack) (g.L.LogRack.keeps c.args.rack) (g.L.LogRack.faults c.args.rack) in
    let before = g.K.Sink.content c.args.sink.now in
    let after = g.K.Sink.content c.recover_logs-note.new.sink in
    let ends = c.recover_logs-note.ensures.ends in
    let explained = recovery_explained note (g.S.Source.left c.args.source.now) (g.S.Source.left c.session_of.new.source) before after old old (plan_of c.in-Ok.session) c.in-Ok.ensures.ok ends in
    recovery_owed note (g.S.Source.left c.session_of.new.source) before after old old bytes session (subst (λ (l : Option (List ℕ)). ExplainsRecovery note l (g.S.Source.left c.session_of.new.source) before after old old) left explained) few is can
    (recovery_is_no_read note (plan_of c.in-Ok.session) old before after ends) (λ e. sink (c.recover_logs-note.ensures.write_cause.rose e)) (λ f. rack (c.recover_logs-note.ensures.log_cause.rose f))
