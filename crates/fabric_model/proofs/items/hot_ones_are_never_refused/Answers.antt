use Rattle.fabric_model.proofs.Refused.{refused_on_hosts, hot_are_not_refused}
use Rattle.fabric_model.proofs.items.hot_ones_are_never_refused.Goals as goal

pub returns : goal.returns
returns c = record { hosts = refused_on_hosts; hot = hot_are_not_refused }
