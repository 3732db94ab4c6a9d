use Rattle.std.proofs.Common.{ℤ, w64, IsSome, sym, ap, subst, ◌∙◌, arith}
use Rattle.std.specs.FinMap as fin
use Rattle.std.proofs.lemmas.Int.{to_z-of_z}
use Rattle.txn_model.specs.Places.{Places}
use Rattle.register_stage.specs.Flat.{number_at}
use Rattle.register_stage.specs.Registers.{Registers, place_in, full_map}
use Rattle.register_stage.proofs.FullMap.{inside_of_some, index_lt, full_map-set}
use Rattle.register_stage.proofs.stage.Stage.set_cell.Goals as goal

pub index_mut-requires : goal.index_mut-requires
index_mut-requires c =
    let s = c.self.inside in
    let p = place_in s.stage c.args.array c.args.cell in
    let inside = inside_of_some s.stage (number_at s.cells s.numbers.items) s.arrays s.cells p (subst (λ (r : Registers). IsSome (fin.get r.numbers (place_in r.stage c.args.array c.args.cell))) (sym c.self.view_is) c.requires.there) in
    omega (arith, index_lt s.stage s.arrays s.cells p inside, c.self.invariant, s.numbers.ok.0)

pub returns : goal.returns
returns c =
    let s = c.self.inside in
    let p = place_in s.stage c.args.array c.args.cell in
    let inside = inside_of_some s.stage (number_at s.cells s.numbers.items) s.arrays s.cells p (subst (λ (r : Registers). IsSome (fin.get r.numbers (place_in r.stage c.args.array c.args.cell))) (sym c.self.view_is) c.requires.there) in
    let of : Places → Registers = λ m. record { stage = s.stage; numbers = m } in
    ap of (full_map-set s.stage s.arrays s.cells s.numbers.items p _ inside c.self.invariant)
    ∙ ap (λ (v : ℤ). of (fin.insert (full_map s.stage (number_at s.cells s.numbers.items) s.arrays s.cells) p v)) (to_z-of_z w64 c.args.value c.ranges.value)
    ∙ ap (λ (r : Registers). let made : Registers = record { stage = r.stage; numbers = fin.insert r.numbers (place_in r.stage c.args.array c.args.cell) c.args.value } in made) c.self.view_is
