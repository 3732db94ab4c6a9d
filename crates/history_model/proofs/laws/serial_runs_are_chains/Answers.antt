use Rattle.history_model.proofs.ChainLaws.{run_from_chains, chains_from_run}
use Rattle.history_model.proofs.laws.serial_runs_are_chains.Goals as goal

pub returns-clause-runs : goal.returns-clause-runs
returns-clause-runs c = run_from_chains

pub returns-clause-chains : goal.returns-clause-chains
returns-clause-chains c = chains_from_run
