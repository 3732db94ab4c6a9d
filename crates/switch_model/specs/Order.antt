-- A packet that goes through the pipeline alone: its operations by pass, then by stage, then in script order.
use Rattle.std.specs.Prelude.{◌≡◌, ℕ, zero, suc, [], map}
use Rattle.txn_model.specs.Places.{Places}
use Rattle.stage_layout.specs.declared.shape.Shape.{Shape}
use Rattle.switch_packet.specs.Packets.{PlainPacket}
use Rattle.switch_packet.specs.Replay.{Replayed, execute, replay}
use Rattle.switch_model.specs.Fitting.{FitsSwitch}
use Rattle.switch_model.specs.Flight.{zero_pair, is_due}

-- the operations that are due at this stage in this pass, in script order, each on its place
abbrev pub at_stage : PlainPacket → ℕ → ℕ → Replayed → Replayed
at_stage p pass stage so_far = execute (is_due pass stage) p.ops [] so_far.pairs so_far.after

-- the first stages of this pass, one after another
abbrev pub at_stages : PlainPacket → ℕ → ℕ → Replayed → Replayed
at_stages p pass zero so_far = so_far
at_stages p pass (suc stages) so_far = at_stage p pass stages (at_stages p pass stages so_far)

-- the first passes, one after another, the first of which is pass 1
abbrev pub in_passes : Shape → PlainPacket → ℕ → Replayed → Replayed
in_passes shape p zero so_far = so_far
in_passes shape p (suc passes) so_far = at_stages p (suc passes) shape.stages (in_passes shape p passes so_far)

-- all passes of the packet
abbrev pub pass_by_pass : Shape → PlainPacket → Places → Replayed
pass_by_pass shape p m = in_passes shape p p.passes (record { pairs = map (λ op. zero_pair) p.ops; after = m })

-- this gives the pairs and the map of the packet's replay, which takes the operations in script order alone
abbrev pub OrdersAreReplays : Type 0
OrdersAreReplays = (shape : Shape) (p : PlainPacket) (m : Places) → FitsSwitch shape p → pass_by_pass shape p m ≡ replay p m
