use Rattle.std.proofs.Common.{◌<◌, length, Some, ◌++◌, ap, ◌∙◌, arith}
use Rattle.port_io.specs.LogRack.{log_of}
use Rattle.port_io.proofs.Logs.{log_of-set_same, log_of-set_other, log_of-set_alike, log_of-read}
use Rattle.port_io.proofs.clean.CleanRackLogRack.append.Goals as goal

pub returns-in_err-extend_from_slice-clause-no_memory :
    goal.returns-in_err-extend_from_slice-clause-no_memory
returns-in_err-extend_from_slice-clause-no_memory c = λ _ client.
    ap Some (log_of-set_alike _ _ _ c.index-self-client.result client c.in_err-extend_from_slice.ensures.items ∙ ap (λ logs. log_of logs client) c.self.view_is)

pub returns-in_err-extend_from_slice-clause-others :
    goal.returns-in_err-extend_from_slice-clause-others
returns-in_err-extend_from_slice-clause-others c = λ other differs.
    ap Some (log_of-set_other _ _ _ other differs ∙ ap (λ logs. log_of logs other) c.self.view_is)

pub returns-clause-appended : goal.returns-clause-appended
returns-clause-appended c = λ _.
    let within : c.args.client < length c.self.inside.logs = omega (arith, c.self.invariant) in
    let was = log_of-read _ _ c.index-self-client.result within ∙ ap (λ logs. log_of logs c.args.client) c.self.view_is in
    log_of-set_same _ _ _ within ∙ c.in_ok-extend_from_slice.ensures.items ∙ ap (λ log. log ++ c.args.piece.now) was

pub returns-clause-others : goal.returns-clause-others
returns-clause-others c = λ other differs. ap Some (log_of-set_other _ _ _ other differs ∙ ap (λ logs. log_of logs other) c.self.view_is)
