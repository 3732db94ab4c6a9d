-- What operations, scripts and lists of scripts do, one after another, to one tuple map.
use Rattle.std.specs.Prelude.{ℕ, ℤ, pos, ◌+ℤ◌, ◌-ℤ◌, List, [], ◌∷◌, ◌++◌, slice_index_or, int_le, if◌then◌else◌}
use Rattle.std.specs.FinMap as fin
use Rattle.txn_model.specs.Number.{wrap}
use Rattle.txn_model.specs.Needs.{needs_list}
use Rattle.txn_model.specs.Tuples.{Tuples, value_at}
use Rattle.txn_model.specs.declared.op.Act.{Act}
use Rattle.txn_model.specs.declared.op.Act.TheVariants.{Read, Put, Add, Choose}
use Rattle.txn_model.specs.declared.op.Need.{Need}
use Rattle.txn_model.specs.declared.op.Op.{Op}
use Rattle.txn_model.specs.declared.op.Which.{Which}
use Rattle.txn_model.specs.declared.op.Which.TheVariants.{Old, Moved}
use Rattle.txn_model.specs.declared.pairs.Pair.{Pair}

-- the pair of an operation, from the pairs of a reply
abbrev pub pair_at : List Pair → ℕ → Pair
pair_at reply i = slice_index_or reply i (record { was = pos 0; now = pos 0 })

-- what an operation found, or by how much it lowered it
abbrev pub part_of : Which → Pair → ℤ
part_of Old p = p.was
part_of Moved p = wrap (p.was -ℤ p.now)

-- what the needs stand for together, from the pairs so far
abbrev pub needed : List Need → List Pair → ℤ
needed [] done = pos 0
needed (n ∷ ns) done = part_of n.which (pair_at done n.from) +ℤ needed ns done

-- the operand: a bias and the needs, wrapped
unfoldable pub operand : List Need → ℤ → List Pair → ℤ
operand needs bias done = wrap (bias +ℤ needed needs done)

-- the new value, from the old one and the operand
unfoldable pub effect : Act → ℤ → ℤ → ℤ
effect Read was s = was
effect (Put base) was s = wrap (base +ℤ s)
effect (Add base) was s = wrap ((was +ℤ base) +ℤ s)
effect (Choose limit above below) was s = if int_le limit (wrap (was +ℤ s)) then wrap (was +ℤ above) else wrap (was +ℤ below)

-- the pair of an operation that finds this value, after these pairs
abbrev pub pair_of : Op → List Pair → ℤ → Pair
pair_of op done was = record { was = was; now = effect op.act was (operand (needs_list op.needs) (pos 0) done) }

-- a reply, and the map after it
pub record Executed : Type 0 where
  pub reply : List Pair
  pub after : Tuples

-- the rest of a script, after the operations with these pairs
unfoldable pub serial_from : List Op → List Pair → Tuples → Executed
serial_from [] done m = record { reply = done; after = m }
serial_from (op ∷ ops) done m = let pair = pair_of op done (value_at m op.tuple) in serial_from ops (done ++ pair ∷ []) (fin.insert m op.tuple pair.now)

-- serial execution of a script
abbrev pub serial : List Op → Tuples → Executed
serial ops m = serial_from ops [] m

-- replies, and the map after the last
pub record SerialRun : Type 0 where
  pub replies : List (List Pair)
  pub after : Tuples

-- the serial run of a list of scripts: each is executed whole on the map that the one before left
unfoldable pub serial_run : List (List Op) → Tuples → SerialRun
serial_run [] m = record { replies = []; after = m }
serial_run (script ∷ scripts) m =
    let first = serial script m in
    let rest = serial_run scripts first.after in
    record { replies = first.reply ∷ rest.replies; after = rest.after }
