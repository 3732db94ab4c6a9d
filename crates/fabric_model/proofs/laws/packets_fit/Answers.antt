use Rattle.fabric_model.proofs.Fitting.{packets_fit, packets_are_planned, packets_have_ranges}
use Rattle.fabric_model.proofs.laws.packets_fit.Goals as goal

pub returns : goal.returns
returns c = record { fit = packets_fit; planned = packets_are_planned; ranges = packets_have_ranges }
