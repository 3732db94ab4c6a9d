-- The packet of a script: its operations in the switch, once the values that those on hosts find are known.
use Rattle.std.specs.Prelude.{ℕ, ℤ, pos, not, List, [], map, filter, take, length}
use Rattle.std.specs.List.{zip}
use Rattle.txn_model.specs.Needs.{needs_list, needs_of}
use Rattle.txn_model.specs.Serial.{operand}
use Rattle.txn_model.specs.declared.op.Need.{Need}
use Rattle.txn_model.specs.declared.op.Op.{Op}
use Rattle.txn_model.specs.declared.pairs.Pair.{Pair}
use Rattle.stage_layout.specs.Late.{Part, is_in_switch, part_at, parts_of}
use Rattle.stage_layout.specs.Passes.{plan_of, greatest}
use Rattle.stage_layout.specs.declared.layout.LayoutRow.{LayoutRow}
use Rattle.stage_layout.specs.declared.pass_plan.HotOp.{HotOp}
use Rattle.stage_layout.specs.declared.shape.Shape.{Shape}
use Rattle.switch_packet.specs.Packets.{PlainPacket}
use Rattle.switch_packet.specs.declared.packet.PacketOp.{PacketOp}
use Rattle.warm_split.specs.Joined.{joined}
use Rattle.warm_split.specs.Sides.{hot_ops, hot_place}

-- the number that operation k has in the packet: how many operations before it are in the switch
abbrev pub packet_number : List Part → ℕ → ℕ
packet_number parts k = length (filter is_in_switch (take k parts))

-- the needs of operations in the switch, by their numbers in the packet
abbrev pub hot_needs : List Part → List Need → List Need
hot_needs parts needs =
    map (λ n. record { from = packet_number parts n.from; which = n.which }) (filter (λ n. is_in_switch (part_at parts n.from)) needs)

-- the needs of operations on hosts
abbrev pub cold_needs : List Part → List Need → List Need
cold_needs parts needs = filter (λ n. not (is_in_switch (part_at parts n.from))) needs

-- an operation in the switch, as a pass plan has it
abbrev pub planned_op : List LayoutRow → List Part → Op → HotOp
planned_op rows parts op = record { place = hot_place rows op.tuple; needs = needs_of (hot_needs parts (needs_list op.needs)) }

-- what the pass plan of the script is made of
abbrev pub planned_ops : List LayoutRow → List Op → List HotOp
planned_ops rows ops = map (planned_op rows (parts_of rows ops)) (hot_ops rows ops)

-- an operation as the packet has it: what it needs of operations on hosts is summed up from their pairs
abbrev pub packet_op : List LayoutRow → List Part → List Pair → ℕ → Op → PacketOp
packet_op rows parts known pass op = record {
  pass = pass;
  place = hot_place rows op.tuple;
  act = op.act;
  bias = operand (cold_needs parts (needs_list op.needs)) (pos 0) known;
  needs = needs_of (hot_needs parts (needs_list op.needs));
}

-- the packet of the script that is this item of the client, where the operations before the switch have these pairs
unfoldable pub packet_from : Shape → List LayoutRow → ℕ → ℕ → List Op → List Pair → PlainPacket
packet_from shape rows client seq ops known =
    let plan = plan_of shape (planned_ops rows ops) in
    record {
      client = client;
      seq = seq;
      passes = greatest plan.passes;
      halves = plan.halves;
      ops = map (λ step. packet_op rows (parts_of rows ops) known step.0 step.1) (zip plan.passes (hot_ops rows ops));
    }

-- the packet of the script where its operations on hosts find these values
abbrev pub packet_of : Shape → List LayoutRow → ℕ → ℕ → List Op → List ℤ → PlainPacket
packet_of shape rows client seq ops values = packet_from shape rows client seq ops (joined rows ops values [])
