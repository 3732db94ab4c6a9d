use Rattle.std.proofs.Common.{◌<◌, ◌+◌, ◌*◌, SFits, w64, rules, pos, length, IsSome, Some, sym, ap, subst, ◌∙◌, arith}
use Rattle.std.specs.FinMap as fin
use Rattle.std.proofs.lemmas.Int.{to_z-of_z}
use Rattle.std.proofs.lemmas.List.{get_or_default}
use Rattle.register_stage.specs.Flat.{number_at}
use Rattle.register_stage.specs.Registers.{Registers, place_in}
use Rattle.register_stage.proofs.FullMap.{inside_of_some, index_lt, full_map_at}
use Rattle.register_stage.proofs.stage.Stage.cell.Goals as goal

pub index-requires : goal.index-requires
index-requires c =
    let s = c.self.inside in
    let p = place_in s.stage c.args.array c.args.cell in
    let inside = inside_of_some s.stage (number_at s.cells s.numbers.items) s.arrays s.cells p (subst (λ (r : Registers). IsSome (fin.get r.numbers (place_in r.stage c.args.array c.args.cell))) (sym c.self.view_is) c.requires.there) in
    omega (arith, index_lt s.stage s.arrays s.cells p inside, c.self.invariant, s.numbers.ok.0)

pub returns : goal.returns
returns c =
    let s = c.self.inside in
    let p = place_in s.stage c.args.array c.args.cell in
    let inside = inside_of_some s.stage (number_at s.cells s.numbers.items) s.arrays s.cells p (subst (λ (r : Registers). IsSome (fin.get r.numbers (place_in r.stage c.args.array c.args.cell))) (sym c.self.view_is) c.requires.there) in
    let index = c.args.array * s.cells + c.args.cell in
    let within : index < length s.numbers.items = omega (arith, index_lt s.stage s.arrays s.cells p inside, c.self.invariant) in
    let fits : SFits w64 c.index.result.now = search rules in
    ap (λ (r : Registers). fin.get r.numbers (place_in r.stage c.args.array c.args.cell)) (sym c.self.view_is)
    ∙ full_map_at s.stage (number_at s.cells s.numbers.items) s.arrays s.cells p inside
    ∙ ap Some (get_or_default s.numbers.items index (pos 0) c.index.result.now within ∙ sym c.index.ensures ∙ sym (to_z-of_z w64 c.index.result.now fits))
