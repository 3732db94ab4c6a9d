use Rattle.std.proofs.Common.{length, ap, arith}
use Rattle.history_core.specs.Plain.{Own}
use Rattle.history_core.proofs.Changes.{some_entry, short_reply, the_answering, answered_at}
use Rattle.history_core.proofs.history.History.answer.Goals as goal

pub answer-requires-clause-some : goal.answer-requires-clause-some
answer-requires-clause-some c =
    let owns = c.self.inside.owns.items in
    omega (
      arith,
      some_entry owns c.self.invariant _ c.self.view_is c.args.client c.args.seq c.args.pairs.now.items c.requires.last c.requires.pairs,
      ap (λ (o : Own). length o.entries) (the_answering owns c.self.invariant _ c.self.view_is c.args.client c.args.seq c.args.pairs.now.items c.requires.last c.requires.pairs c.from.result c.index_mut-own.result.now c.from.ensures c.index_mut-own.ensures.value),
    )

pub answer-requires-clause-short : goal.answer-requires-clause-short
answer-requires-clause-short c = short_reply c.self.inside.owns.items c.self.invariant _ c.self.view_is c.args.client c.args.seq c.args.pairs.now.items c.requires.last c.requires.pairs

pub invariant_of-self : goal.invariant_of-self
invariant_of-self c =
    (answered_at c.self.inside.owns.items c.self.invariant _ c.self.view_is c.args.client c.args.seq c.args.pairs.now.items c.requires.last c.requires.pairs c.from.result c.index_mut-own.result.now c.answer.new.self c.from.ensures c.index_mut-own.ensures.value c.answer.ensures).are

pub returns : goal.returns
returns c =
    (answered_at c.self.inside.owns.items c.self.invariant _ c.self.view_is c.args.client c.args.seq c.args.pairs.now.items c.requires.last c.requires.pairs c.from.result c.index_mut-own.result.now c.answer.new.self c.from.ensures c.index_mut-own.ensures.value c.answer.ensures).view
