use Rattle.std.proofs.Common.{ap, sym, ◌∙◌}
use Rattle.std.specs.Option.{option_map}
use Rattle.catalogue.proofs.SoundLaws.{sound_script}
use Rattle.catalogue.specs.PlanOf.{plan_of}
use Rattle.fabric_core.proofs.runner.parts_of.Goals as goal

pub parts_in-requires : goal.parts_in-requires
parts_in-requires c =
    let fit = sound_script (plan_of c.args.session.now) c.args.client c.args.seq c.in-Some.script.now.items c.requires (sym c.script.ensures ∙ ap (option_map (λ script. script.now.items)) c.in-Some.is) in
    record { script = fit.script; turns = fit.turns }
