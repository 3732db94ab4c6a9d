use Rattle.std.proofs.Common.{◌≡◌, ℕ, ◌<◌, ◌≤◌}
use Rattle.pipeline.specs.Seating.{vacated}
use Rattle.pipeline.specs.Seats.{seat_at}
use Rattle.pipeline.proofs.pipeline.vacate_seats.Given as goal

abbrev pub invariant-loop-seat : goal.invariant-loop-seat
invariant-loop-seat l = record {
  done : (c : ℕ) → c < l.seat-index → seat_at l.seats c ≡ vacated (seat_at l.fn.seats c);
  rest : (c : ℕ) → l.seat-index ≤ c → seat_at l.seats c ≡ seat_at l.fn.seats c;
}
