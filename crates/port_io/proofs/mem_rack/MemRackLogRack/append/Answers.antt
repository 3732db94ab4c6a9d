use Rattle.std.proofs.Common.{◌/◌, ◌++◌, length, take, arith, refl, ap, ◌∙◌}
use Rattle.port_io.specs.LogRack.{log_of}
use Rattle.port_io.proofs.mem_rack.MemRackLogRack.append.Goals as goal

pub returns-then-begin-clause-front : goal.returns-then-begin-clause-front
returns-then-begin-clause-front c = λ _. (
  length c.args.piece.now / 2,
  omega arith,
  c.in_ok-append.ensures.appended refl ∙ ap (λ memory. log_of memory.logs c.args.client ++ take (length c.args.piece.now / 2) c.args.piece.now) c.self.view_is,
)
