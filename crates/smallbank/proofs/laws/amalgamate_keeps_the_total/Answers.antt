use Rattle.smallbank.proofs.TotalLaws.{amalgamate_keeps}
use Rattle.smallbank.proofs.laws.amalgamate_keeps_the_total.Goals as goal

pub returns : goal.returns
returns c = amalgamate_keeps
