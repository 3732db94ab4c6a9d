-- A plan of nothing.
use Rattle.std.specs.Prelude.{[]}
use Rattle.std.specs.FinMap as fin
use Rattle.catalogue.specs.Plan.{Plan}

-- no tuples and no clients
abbrev pub no_plan : Plan
no_plan = record {
  shape = record { stages = 1; arrays = 1; cells = 1; split = 0; hosts = 1 };
  tuples = fin.empty;
  layout = [];
  tries = 1;
  clients = [];
  schedule = [];
}
