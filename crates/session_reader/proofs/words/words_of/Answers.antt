use Rattle.std.proofs.Common.{sym, ◌∙◌, lit<}
use Rattle.std.proofs.lemmas.Iterator.Consumers.{map_from_collect}
use Rattle.std.proofs.lemmas.Iterator.Splits.{YieldsList-from_str_split}
use Rattle.session_reader.proofs.ScheduleWords.{words_of-some}
use Rattle.session_reader.proofs.words.words_of.Goals as goal

pub returns : goal.returns
returns c =
    let some = words_of-some c.args.text.now (sym c.is_empty.ensures ∙ c.if-is_empty.false) in
    rw some (map_from_collect _ c.collect.ensures.ran (YieldsList-from_str_split 32 c.args.text.now (lit< tt) c.split.ensures.text c.split.ensures.has_more c.split.ensures.pattern))
