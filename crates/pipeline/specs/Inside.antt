-- What is seen of the pipeline's fields.
use Rattle.std.specs.Prelude.{map}
use Rattle.pipeline.specs.Numbers.{numbers_of}
use Rattle.pipeline.specs.Plain.{PlainPipeline}
use Rattle.pipeline.specs.Seats.{waiting_seat, boxed_seat, slotted, number_in}
use Rattle.pipeline.specs.declared.pipeline.Pipeline.TheInside.{Inside}

abbrev pub seen : Inside → PlainPipeline
seen a = record {
  shape = a.shape;
  registers = numbers_of a.shape (number_in a.stages.items);
  slots = map (slotted a.seats.items) a.slots.items;
  waiting = map waiting_seat a.seats.items;
  boxes = map boxed_seat a.seats.items;
  halves = a.halves;
  next = a.next;
}
