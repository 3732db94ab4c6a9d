use Rattle.fabric_model.proofs.Driven.{round_of, state_of_parts}
use Rattle.fabric_model.proofs.Either.{fits_now}
use Rattle.fabric_model.proofs.Legal.{holds_now}
use Rattle.fabric_model.proofs.Turns.{takes_in_turn}
use Rattle.fabric_model.proofs.rounds.rounds_make_a_run.Goals as goal

pub returns : goal.returns
returns c = record {
  turns = takes_in_turn;
  rounds = λ plan s reached more. round_of plan (fits_now plan (holds_now plan)) (holds_now plan) s reached more;
  traces = state_of_parts;
}
