use Rattle.history_model.proofs.Insertion.{insertion}
use Rattle.history_model.proofs.laws.insertion_keeps_replies.Goals as goal

pub returns : goal.returns
returns c = insertion
