use Rattle.std.proofs.Common.{◌≡◌, pos, List, length, take, ◌++◌, drop, IsTrue, sym, ap, subst, ◌∙◌}
use Rattle.std.specs.FinMap.{find}
use Rattle.std.specs.Option.{unwrap_or}
use Rattle.std.specs.List.{AllByRecursion}
use Rattle.txn_model.specs.Places.{Places, place_cmp}
use Rattle.stage_layout.specs.Shape.{has_place}
use Rattle.stage_layout.specs.declared.shape.Shape.{Shape}
use Rattle.switch_packet.specs.Replay.{register_at}
use Rattle.register_stage.specs.Registers.{Registers}
use Rattle.pipeline.specs.Keeps.{AreStages}
use Rattle.pipeline.specs.Numbers.{numbers_of}
use Rattle.pipeline.specs.Plain.{PlainPipeline}
use Rattle.pipeline.specs.Rows.{restored}
use Rattle.pipeline.specs.Seats.{number_in}
use Rattle.pipeline.proofs.Registers.{handed_back}
use Rattle.pipeline.proofs.Restores.{all_entries, restored_numbers}
use Rattle.pipeline.proofs.Views.{view}
use Rattle.pipeline.proofs.pipeline.Pipeline.restore.Goals as goal

pub write_rows-requires-clause-places : goal.write_rows-requires-clause-places
write_rows-requires-clause-places c =
    subst (AllByRecursion (λ row. IsTrue (has_place c.self.inside.shape row.0))) (sym c.rows.ensures)
    (all_entries (λ q. IsTrue (has_place c.self.inside.shape q)) c.args.registers.now (λ q there. ap (λ (p : PlainPipeline). has_place p.shape q) c.self.view_is ∙ c.requires.places q there))

stages_back : (c : goal.After-self-2-1) → take c.self.inside.stages.len (c.write_rows.new.stages ++ drop (length c.write_rows.new.stages) c.self.inside.stages.items) ≡ c.write_rows.new.stages
stages_back c = handed_back c.self.inside.stages.len c.write_rows.new.stages c.self.inside.stages.items c.self.inside.stages.ok.0 (c.write_rows.auto.stages ∙ ap length c.as_mut_slice.ensures.value)

pub invariant_of-self : goal.invariant_of-self
invariant_of-self c = record { stages = subst (AreStages c.self.inside.shape) (sym (stages_back c)) c.write_rows.ensures.stages; seated = c.self.invariant.seated }

numbers_are : (c : goal.After-self-2-1) → numbers_of c.self.inside.shape (number_in c.write_rows.new.stages) ≡ (restored c.args.self.now c.args.registers.now c.args.next).registers
numbers_are c =
    let same = c.as_mut_slice.ensures.value in
    let shape = ap (λ (p : PlainPipeline). p.shape) c.self.view_is in
    let zeros : numbers_of c.self.inside.shape (number_in c.self.inside.stages.items) ≡ numbers_of c.self.inside.shape (λ _. pos 0) =
    ap (λ (p : PlainPipeline). p.registers) c.self.view_is ∙ ap (λ (p : PlainPipeline). p.registers) c.requires.erased ∙ sym (ap (λ (s : Shape). numbers_of s (λ _. pos 0)) shape) in
    restored_numbers c.self.inside.shape c.self.inside.stages.items c.write_rows.new.stages c.args.registers.now c.rows.result.now c.rows.ensures zeros
    (λ q there. c.write_rows.ensures.numbers q there ∙ ap (λ (l : List Registers). unwrap_or (find place_cmp q c.rows.result.now) (number_in l q)) same)
    ∙ ap (λ (s : Shape). numbers_of s (register_at c.args.registers.now)) shape

pub returns : goal.returns
returns c =
    ap (λ (l : List Registers). view c.self.inside.shape l c.self.inside.slots.items c.self.inside.seats.items c.self.inside.halves c.args.next) (stages_back c)
    ∙ ap (λ (m : Places). record (view c.self.inside.shape c.self.inside.stages.items c.self.inside.slots.items c.self.inside.seats.items c.self.inside.halves c.self.inside.next) { registers = m; next = c.args.next }) (numbers_are c)
    ∙ ap (λ (p : PlainPipeline). record p { registers = (restored c.args.self.now c.args.registers.now c.args.next).registers; next = c.args.next }) c.self.view_is
