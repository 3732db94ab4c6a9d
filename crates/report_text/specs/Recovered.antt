-- What is told of a recovery, and its text.
use Rattle.std.specs.Prelude.{ℕ, ℤ, ◌/◌, ◌%◌, ◌^◌, ◌==◌, Bool, List, ◌++◌, codes, decimal, length, Option, option_and_then}
use Rattle.std.specs.FinMap as fin
use Rattle.std.specs.List.{filter, filter_map, flat_map}
use Rattle.std.specs.Option.{option_map}
use Rattle.txn_model.specs.Places.{Places}
use Rattle.txn_model.specs.declared.op.TupleId.{TupleId}
use Rattle.stage_layout.specs.Layout.{place_of}
use Rattle.catalogue.specs.Plan.{Plan}
use Rattle.core_model.specs.Rota.{numbers_below}
use Rattle.placement_model.specs.Placements.{PlainSlotted}
use Rattle.gap_placement.specs.Answers.{plain_rows}
use Rattle.switch_recovery.specs.declared.recovered.Recovered.{Recovered}
use Rattle.report_text.specs.Lines.{count_line, tuple_line}
use Rattle.report_text.specs.Words.{item_name, pairs_text}

-- the packets by number, the hot tuples by id with the values of their registers, the next packet's number, and the clients whose
-- logs were torn
pub record Recovery : Type 0 where
  pub rows : List PlainSlotted
  pub registers : List (TupleId × ℤ)
  pub next : ℕ
  pub torn : List ℕ

-- ---- what is told

-- the value of a tuple's register; None where it has none
abbrev pub register_value : Plan → Places → TupleId → Option ℤ
register_value plan registers t = option_and_then (fin.get registers) (place_of plan.layout t)

-- the hot tuples by id, each with the value of its register
abbrev pub registers_told : Plan → Places → List (TupleId × ℤ)
registers_told plan registers = filter_map (λ row. option_map (λ value. (row.0, value)) (register_value plan registers row.0)) (fin.entries plan.tuples)

-- the bit of the client's number is set
abbrev pub has_bit : ℕ → ℕ → Bool
has_bit bits client = (bits / 2 ^ client) % 2 == 1

abbrev pub recovery_of : Plan → Recovered → Recovery
recovery_of plan r = record {
  rows = plain_rows r.restored.placement;
  registers = registers_told plan r.restored.registers;
  next = r.restored.next;
  torn = filter (has_bit r.torn.0) (numbers_below (length plan.clients));
}

-- ---- its text

-- a packet: its number, its item, and the pairs of its operations
unfoldable pub slotted_line : PlainSlotted → List ℕ
slotted_line row = decimal row.number ++ codes " " ++ item_name row.client row.seq ++ pairs_text row.pairs ++ codes "\n"

unfoldable pub order_text : List PlainSlotted → List ℕ
order_text rows = count_line (codes "order") (length rows) ++ flat_map slotted_line rows

unfoldable pub registers_text : List (TupleId × ℤ) → List ℕ
registers_text rows = count_line (codes "registers") (length rows) ++ flat_map tuple_line rows

unfoldable pub next_line : ℕ → List ℕ
next_line number = codes "next " ++ decimal number ++ codes "\n"

abbrev pub torn_word : ℕ → List ℕ
torn_word client = codes " c" ++ decimal client

-- a word for each client whose log was torn
unfoldable pub torn_line : List ℕ → List ℕ
torn_line clients = codes "torn" ++ flat_map torn_word clients ++ codes "\n"

-- the whole text
unfoldable pub recovered_text : Recovery → List ℕ
recovered_text r = order_text r.rows ++ registers_text r.registers ++ next_line r.next ++ torn_line r.torn
