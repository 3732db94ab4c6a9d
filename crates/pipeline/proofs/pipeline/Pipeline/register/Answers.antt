use Rattle.std.proofs.Common.{SFits, w64, rules, ap, ◌∙◌}
use Rattle.std.proofs.lemmas.Int.{to_z-of_z}
use Rattle.stage_layout.specs.Shape.{has_place}
use Rattle.switch_packet.specs.Replay.{register_at}
use Rattle.pipeline.specs.Plain.{PlainPipeline}
use Rattle.pipeline.proofs.Registers.{register_shown}
use Rattle.pipeline.proofs.pipeline.Pipeline.register.Goals as goal

pub returns : goal.returns
returns c =
    let fits : SFits w64 c.cell.result = search rules in
    to_z-of_z w64 c.cell.result fits
    ∙ register_shown c.self.inside.shape c.self.inside.stages.items c.args.place c.index.result.now _ c.cell.result c.self.invariant.stages (ap (λ (p : PlainPipeline). has_place p.shape c.args.place) c.self.view_is ∙ c.requires)
    c.index.ensures c.cell.ensures
    ∙ ap (λ (p : PlainPipeline). register_at p.registers c.args.place) c.self.view_is
