use Rattle.std.proofs.Common.{subst}
use Rattle.fabric_core.specs.Racks.{Rack, seen}
use Rattle.words_cli.specs.declared.command.Command.{Command}
use Rattle.words_cli.specs.declared.command.Command.TheVariants.{Recover}
use Rattle.p4db_top.specs.Commands.{CanDo}
use Rattle.p4db_top.proofs.obeying.obey.Goals as goal

pub returns-in-Recover-clause-complete : goal.returns-in-Recover-clause-complete
returns-in-Recover-clause-complete g c bytes session left few is can source sink =
    let old : Rack = seen (g.L.LogRack.told c.args.rack) (g.L.LogRack.keeps c.args.rack) (g.L.LogRack.faults c.args.rack) in
    let new : Rack = seen (g.L.LogRack.told c.recover_session.result.1) (g.L.LogRack.keeps c.recover_session.result.1) (g.L.LogRack.faults c.recover_session.result.1) in
    let owes : CanDo Recover session old new = subst (λ (command : Command). CanDo command session old new) c.in-Recover.is can in
    c.recover_session.ensures.complete bytes session left few is owes.0 owes.1 source sink
