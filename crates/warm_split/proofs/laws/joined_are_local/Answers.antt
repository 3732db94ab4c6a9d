use Rattle.warm_split.proofs.JoinedLaws.{joined_local}
use Rattle.warm_split.proofs.laws.joined_are_local.Goals as goal

pub returns : goal.returns
returns c = joined_local
