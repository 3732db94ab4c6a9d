use Rattle.fabric_model.proofs.Driven.{runs_finish, sessions_finish, finished_by_test}
use Rattle.fabric_model.proofs.Either.{fits_now}
use Rattle.fabric_model.proofs.Legal.{holds_now}
use Rattle.fabric_model.proofs.rounds.driven_runs_finish.Goals as goal

pub returns : goal.returns
returns c = record {
  finishes = λ plan s actors reached. runs_finish plan (fits_now plan (holds_now plan)) (holds_now plan) s actors reached;
  sessions = λ plan actors sound. sessions_finish plan (fits_now plan (holds_now plan)) (holds_now plan) actors sound;
  test = finished_by_test;
}
