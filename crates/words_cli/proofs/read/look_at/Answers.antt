use Rattle.std.proofs.Common.{IsUtf8, subst, List, ℕ, add-one, length, ◌≤◌, arith}
use Rattle.std.proofs.lemmas.List.{take_all}
use Rattle.std.specs.List.{AllByRecursion}
use Rattle.words_cli.proofs.Texts.{texts_more}
use Rattle.words_cli.proofs.read.look_at.Goals as goal

pub loop-word-preserved : goal.loop-word-preserved
loop-word-preserved c =
    rw add-one (texts_more c.args.words.now c.loop-word.word-index c.word-item.result c.loop-word-test.true c.word-item.is c.as_str.ensures.utf8 c.loop-word.invariant)

pub returns : goal.returns
returns c =
    subst (λ (ws : List (List ℕ)). AllByRecursion IsUtf8 ws) (take_all c.loop-word.word-index c.args.words.now (let past : length c.args.words.now ≤ c.loop-word.word-index = omega arith in past)) c.loop-word.invariant
