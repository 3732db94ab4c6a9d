-- The plan of a session.
use Rattle.catalogue.specs.Plan.{Plan}
use Rattle.catalogue.specs.declared.session.Session.{Session}

abbrev pub plan_of : Session → Plan
plan_of session = record {
  shape = session.shape;
  tuples = session.tuples;
  layout = session.layout;
  tries = session.tries;
  clients = session.clients;
  schedule = session.schedule.items;
}
