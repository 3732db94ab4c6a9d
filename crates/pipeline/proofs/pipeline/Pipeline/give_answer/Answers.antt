use Rattle.std.proofs.Common.{◌<◌, ℕ, length, sym, ap, subst, ◌∙◌}
use Rattle.std.proofs.lemmas.List.{length-map}
use Rattle.pipeline.specs.Plain.{PlainPipeline}
use Rattle.pipeline.specs.Rows.{given_answer, IsVacant}
use Rattle.pipeline.specs.Seats.{waiting_seat}
use Rattle.pipeline.proofs.Posts.{IsGivenSeat, given_keeps, given_shown}
use Rattle.pipeline.proofs.Views.{view}
use Rattle.pipeline.proofs.pipeline.Pipeline.give_answer.Goals as goal

abbrev before : goal.After-self-1 → PlainPipeline
before c = view c.self.inside.shape c.self.inside.stages.items c.self.inside.slots.items c.self.inside.seats.items c.self.inside.halves c.self.inside.next

vacant : (c : goal.After-self-1) → IsVacant (before c) c.args.client
vacant c = subst (λ (p : PlainPipeline). IsVacant p c.args.client) (sym c.self.view_is) c.requires.vacant

there : (c : goal.After-self-1) → c.args.client < length c.self.inside.seats.items
there c =
    subst (λ (n : ℕ). c.args.client < n) (length-map c.self.inside.seats.items waiting_seat) (subst (λ (p : PlainPipeline). c.args.client < length p.waiting) (sym c.self.view_is) c.requires.there)

seat_is : (c : goal.After-self-1) → IsGivenSeat c.args.number c.args.pairs.now.items c.put_answer.new.self
seat_is c = let h = c.put_answer.ensures in record { spot = h.spot; number_is = h.number; pairs_are = h.pairs; room = h.room }

pub invariant_of-self : goal.invariant_of-self
invariant_of-self c = record {
  stages = c.self.invariant.stages;
  seated = given_keeps c.self.inside.shape c.self.inside.stages.items c.self.inside.slots.items c.self.inside.seats.items c.self.inside.halves c.self.inside.next c.args.client c.args.number
      c.args.pairs.now.items c.put_answer.new.self c.self.invariant.seated (there c) (vacant c) (seat_is c);
}

pub returns : goal.returns
returns c =
    given_shown c.self.inside.shape c.self.inside.stages.items c.self.inside.slots.items c.self.inside.seats.items c.self.inside.halves c.self.inside.next c.args.client c.args.number c.args.pairs.now.items
    c.put_answer.new.self c.self.invariant.seated (vacant c) (seat_is c)
    ∙ ap (λ (p : PlainPipeline). given_answer p c.args.client c.args.number c.args.pairs.now.items) c.self.view_is
