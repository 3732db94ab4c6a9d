use Rattle.fabric_model.proofs.RecordsStand.{records_stay}
use Rattle.fabric_model.proofs.records.records_stand.Goals as goal

pub returns : goal.returns
returns c = records_stay
