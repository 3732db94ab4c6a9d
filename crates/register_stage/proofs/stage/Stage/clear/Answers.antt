use Rattle.std.proofs.Common.{pos, ap, ◌∙◌}
use Rattle.register_stage.specs.Flat.{number_at}
use Rattle.register_stage.specs.Registers.{Registers, renumbered}
use Rattle.register_stage.proofs.FullMap.{full_map-zeros}
use Rattle.register_stage.proofs.stage.Stage.clear.Goals as goal

pub returns : goal.returns
returns c =
    let s = c.self.inside in
    ap (λ m. let r : Registers = record { stage = s.stage; numbers = m } in r)
    (full_map-zeros s.stage s.arrays s.cells s.numbers.len c.fill.new.self.items (number_at s.cells s.numbers.items) (s.numbers.ok.0 ∙ c.self.invariant) (c.fill.ensures.items (λ y h. h)))
    ∙ ap (λ (r : Registers). let made : Registers = record { stage = r.stage; numbers = renumbered (λ _. pos 0) r.numbers } in made) c.self.view_is
