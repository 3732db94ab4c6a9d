use Rattle.std.proofs.Common.{string_bytes, ◌≤◌}
use Rattle.std.specs.List.{flat_map, range_with_len}
use Rattle.fabric_core.specs.Running.{state_in}
use Rattle.report_text.specs.RunReport.{item_told}
use Rattle.report_text.specs.Told.{Tells}
use Rattle.report_text.proofs.reply.push_client.Given as goal

abbrev pub invariant-loop-i : goal.invariant-loop-i
invariant-loop-i g l = record {
  told : Tells (flat_map (item_told l.world.plan (state_in l.world) l.client) (range_with_len 1 l.i)) (string_bytes l.initial.text) (string_bytes l.text) l.count;
  few : l.count ≤ l.i;
}
