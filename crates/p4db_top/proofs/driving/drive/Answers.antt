use Rattle.std.proofs.Common.{◌∙◌, ap}
use Rattle.catalogue.specs.PlanOf.{plan_of}
use Rattle.words_cli.specs.declared.command.Draws.{Draws}
use Rattle.p4db_top.specs.Drawing.{drawn_by}
use Rattle.p4db_top.specs.Loads.{load_draws}
use Rattle.p4db_top.proofs.Explained.{drive_complete, drive_explained}
use Rattle.p4db_top.proofs.driving.drive.Goals as goal

pub returns-clause-explained : goal.returns-clause-explained
returns-clause-explained g c =
    drive_explained c.args.work _ _ _ _ (plan_of c.in-Ok.session) c.in-Ok.ensures.session c.run_named.result.0 c.in-Ok.ensures.sound
    (c.run_named.ensures.ran (drawn_by (load_draws c.args.work))
    (c.as_slice.ensures ∙ c.in-Ok-actors_of.ensures.listed ∙ ap (λ (draws : Draws). drawn_by draws (plan_of c.in-Ok.session)) c.load_draws.ensures))

pub returns-clause-complete : goal.returns-clause-complete
returns-clause-complete g c = λ rack sink.
    drive_complete c.args.work c.run_named.result.0 _ _ _ _ (returns-clause-explained g c) (λ e. sink (c.run_named.ensures.write_cause.rose e)) (λ f. rack (c.run_named.ensures.log_cause.rose f))
