use Rattle.std.proofs.Common.{string_bytes, ◌≤◌, ◌*◌, ◌^◌}
use Rattle.std.specs.List.{flat_map, range_with_len}
use Rattle.fabric_core.specs.Running.{state_in}
use Rattle.report_text.specs.RunReport.{client_told}
use Rattle.report_text.specs.Told.{Tells}
use Rattle.report_text.proofs.reply.push_items.Given as goal

abbrev pub invariant-loop-client : goal.invariant-loop-client
invariant-loop-client g l = record {
  told : Tells (flat_map (client_told l.world.plan (state_in l.world)) (range_with_len 0 l.client)) (string_bytes l.initial.text) (string_bytes l.text) l.count;
  few : l.count ≤ l.client * 2 ^ 32;
}
