use Rattle.client_phase.proofs.Callers.{clients_fit_their_scripts}
use Rattle.client_phase.proofs.laws.clients_fit_their_scripts.Goals as goal

pub returns : goal.returns
returns c = clients_fit_their_scripts
