use Rattle.std.proofs.Common.{◌<◌, length, Some, ap, ◌∙◌, arith}
use Rattle.port_io.specs.LogRack.{log_of}
use Rattle.port_io.proofs.Logs.{log_of-set_same, log_of-set_other}
use Rattle.port_io.proofs.clean.CleanRackLogRack.reset.Goals as goal

pub returns-clause-emptied : goal.returns-clause-emptied
returns-clause-emptied c = λ _.
    let within : c.args.client < length c.self.inside.logs = omega (arith, c.self.invariant) in
    ap Some (log_of-set_same _ _ _ within ∙ c.clear.ensures.items)

pub returns-clause-others : goal.returns-clause-others
returns-clause-others c = λ other differs. ap Some (log_of-set_other _ _ _ other differs ∙ ap (λ logs. log_of logs other) c.self.view_is)
