-- What is told by a pipeline that shows a state of the switch's model.
use Rattle.std.proofs.Common.{◌≡◌, ℕ, true, length, ap, ◌∙◌}
use Rattle.std.specs.Option.{option_map}
use Rattle.std.proofs.lemmas.List.{length-map}
use Rattle.txn_model.specs.Places.{Places}
use Rattle.txn_model.specs.declared.place.Place.{Place}
use Rattle.stage_layout.specs.Shape.{has_place}
use Rattle.stage_layout.specs.declared.shape.Shape.{Shape}
use Rattle.switch_packet.specs.Replay.{register_at}
use Rattle.switch_model.specs.Flight.{flight_at}
use Rattle.switch_model.specs.Reached.{IsReached}
use Rattle.switch_model.specs.Switch.{Switch, desk_at, next_number, answer_of}
use Rattle.switch_model.proofs.Facts.{Positions}
use Rattle.switch_model.proofs.Kept as kept
use Rattle.pipeline.specs.Plain.{PlainPipeline}
use Rattle.pipeline.specs.Rows.{in_slot, waiting_of, box_of}
use Rattle.pipeline.specs.Seen.{slot_of, waiting_on, boxed, seen_of}
use Rattle.pipeline.specs.Shows.{Shows}
use Rattle.pipeline.proofs.DesksSeen.{waiting_at, box_at}
use Rattle.pipeline.proofs.Numbered.{register-numbers_of}
use Rattle.pipeline.proofs.SlotsSeen.{slot_seen}

pub shape_is : (shape : Shape) (seen : PlainPipeline) (s : Switch) → Shows shape seen s → seen.shape ≡ shape
unfolding seen_of
shape_is shape seen s h = ap (λ (x : PlainPipeline). x.shape) h.is

-- the next number is the model's
pub next_is : (shape : Shape) (seen : PlainPipeline) (s : Switch) → Shows shape seen s → seen.next ≡ next_number s
unfolding seen_of
next_is shape seen s h = ap (λ (x : PlainPipeline). x.next) h.is

-- there are as many clients
pub clients_are : (shape : Shape) (seen : PlainPipeline) (s : Switch) → Shows shape seen s → length seen.waiting ≡ length s.desks
unfolding seen_of
clients_are shape seen s h = ap (λ (x : PlainPipeline). length x.waiting) h.is ∙ length-map s.desks (waiting_on s.flights)

-- what waits at the port is what the client's desk says
pub waiting_is : (shape : Shape) (seen : PlainPipeline) (s : Switch) (c : ℕ) → Shows shape seen s → waiting_of seen c ≡ waiting_on s.flights (desk_at s c)
unfolding seen_of
waiting_is shape seen s c h = ap (λ (x : PlainPipeline). waiting_of x c) h.is ∙ waiting_at s.flights s.desks c

-- the box has the model's answer
pub box_is : (shape : Shape) (seen : PlainPipeline) (s : Switch) (c : ℕ) → Shows shape seen s → box_of seen c ≡ option_map boxed (answer_of s c)
unfolding seen_of
box_is shape seen s c h = ap (λ (x : PlainPipeline). box_of x c) h.is ∙ box_at s.flights s.desks c

pub slot_in : (shape : Shape) (seen : PlainPipeline) (s : Switch) (x : ℕ) → Positions shape (length s.flights) (flight_at s.flights) → Shows shape seen s → in_slot seen x ≡ slot_of s.flights x
unfolding seen_of
slot_in shape seen s x held h = ap (λ (y : PlainPipeline). in_slot y x) h.is ∙ slot_seen shape s.flights x held

-- a slot has the packet that stands there in the model
pub slot_is : (shape : Shape) (first : Places) (seen : PlainPipeline) (s : Switch) (x : ℕ) → IsReached shape first s → Shows shape seen s → in_slot seen x ≡ slot_of s.flights x
slot_is shape first seen s x reached h = slot_in shape seen s x (kept.holds shape first s reached).positions h

-- a register has the model's number
pub register_is : (shape : Shape) (seen : PlainPipeline) (s : Switch) (place : Place) → Shows shape seen s → has_place shape place ≡ true → register_at seen.registers place ≡ register_at s.registers place
unfolding seen_of
register_is shape seen s place h there = ap (λ (x : PlainPipeline). register_at x.registers place) h.is ∙ register-numbers_of shape (register_at s.registers) place there
