use Rattle.std.proofs.Common.{◌≡◌, ◌++◌, drop}
use Rattle.std.specs.List.{filter_map}
use Rattle.std.specs.Option.{option_map}
use Rattle.catalogue.specs.PlanOf.{plan_of}
use Rattle.report_text.specs.Recovered.{register_value, registers_told}
use Rattle.report_text.proofs.recovered.register_rows.Given as goal

-- the rows so far and those of the tuples that are left make the whole
abbrev pub invariant-loop-tuple : goal.invariant-loop-tuple
invariant-loop-tuple l = l.rows.items ++ filter_map (λ row. option_map (λ value. (row.0, value)) (register_value (plan_of l.session) l.registers row.0)) (drop l.tuple-index l.tuple-items) ≡ registers_told (plan_of l.session) l.registers
