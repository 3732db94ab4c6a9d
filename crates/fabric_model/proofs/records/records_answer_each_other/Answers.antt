use Rattle.fabric_model.proofs.Legal.{records_answer}
use Rattle.fabric_model.proofs.records.records_answer_each_other.Goals as goal

pub returns : goal.returns
returns c = records_answer
