use Rattle.std.proofs.Common.{sym, subst}
use Rattle.fabric_core.specs.Racks.{seen}
use Rattle.words_cli.specs.Table.{command_of}
use Rattle.p4db_top.specs.Commands.{ExplainsWords}
use Rattle.p4db_top.specs.declared.calls.Ended.{Ended}
use Rattle.p4db_top.proofs.UnreadWords.{unread_words}
use Rattle.p4db_top.proofs.calls.top.Goals as goal

pub returns-in-Err-clause-explained : goal.returns-in-Err-clause-explained
returns-in-Err-clause-explained g c =
    let left = g.S.Source.left c.args.source.now in
    let content = g.K.Sink.content c.args.sink.now in
    subst (λ (e : Ended g.row.L.Denot). ExplainsWords (command_of c.args.words.now) e.note left left content content (seen (g.L.LogRack.told c.args.logs) (g.L.LogRack.keeps c.args.logs) (g.L.LogRack.faults c.args.logs)) (seen (g.L.LogRack.told e.logs) (g.L.LogRack.keeps e.logs) (g.L.LogRack.faults e.logs)))
    (sym c.end_of-in-Err.ensures)
    (unread_words (command_of c.args.words.now) c.command_of.result c.in-Err.fault c.note_of.result left content _ c.command_of.ensures.value c.in-Err.is c.note_of.ensures.usage c.note_of.ensures.either)
