use Rattle.std.proofs.Common.{IsUtf8, take}
use Rattle.std.specs.List.{AllByRecursion}
use Rattle.words_cli.proofs.read.look_at.Given as goal

-- those that were looked at are texts
abbrev pub invariant-loop-word : goal.invariant-loop-word
invariant-loop-word l = AllByRecursion IsUtf8 (take l.word-index l.words)
