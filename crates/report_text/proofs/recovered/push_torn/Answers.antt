use Rattle.std.proofs.Common.{string_bytes}
use Rattle.report_text.specs.Recovered.{has_bit, torn_word}
use Rattle.report_text.proofs.RecoveredLaws.{one_less}
use Rattle.report_text.proofs.recovered.push_torn.Goals as goal

pub loop-client-preserved : goal.loop-client-preserved
loop-client-preserved c =
    one_less torn_word (has_bit c.args.torn.0) c.loop-client.client c.args.clients (string_bytes c.loop-client.text) (string_bytes c.push_if_torn.new.text) _ c.loop-client-test.true c.in_ok-push_if_torn.ensures c.loop-client.invariant
