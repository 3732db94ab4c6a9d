use Rattle.std.proofs.Common.{◌≡◌, take, drop, length, IsSome}
use Rattle.std.specs.List.{AllByRecursion}
use Rattle.std.specs.FinMap as fin
use Rattle.txn_model.specs.Serial.{serial, serial_from}
use Rattle.txn_model.proofs.serial.run_serial.Given as goal

abbrev pub invariant-loop-i : goal.invariant-loop-i
invariant-loop-i l = record {
  room : length l.out.items ≡ length l.script.items;
  spare : l.out.spare ≡ l.fn.out.spare;
  there : AllByRecursion (λ op. IsSome (fin.get l.map op.tuple)) l.script.items;
  -- the operations that are left make the whole of what is done
  run : serial_from (drop l.i l.script.items) (take l.i l.out.items) l.map ≡ serial l.script.items l.fn.map;
}
