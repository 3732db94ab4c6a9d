use Rattle.std.proofs.Common.{◌≡◌, ◌++◌, string_bytes, map, take}
use Rattle.std.specs.List.{flat_map}
use Rattle.fabric_model.specs.Laws.{tuple_now}
use Rattle.fabric_core.specs.Running.{state_in}
use Rattle.report_text.specs.Lines.{tuple_line}
use Rattle.report_text.proofs.section.push_tuples.Given as goal

abbrev pub invariant-loop-tuple : goal.invariant-loop-tuple
invariant-loop-tuple g l = string_bytes l.text ≡ string_bytes l.initial.text ++ flat_map tuple_line (map (λ row. (row.0, tuple_now l.world.plan (state_in l.world) row.0)) (take l.tuple-index l.rows))
