use Rattle.history_core.proofs.Changes.{room_at, put_at}
use Rattle.history_core.proofs.history.History.insert.Goals as goal

pub push-requires : goal.push-requires
push-requires c =
    room_at c.self.inside.owns.items c.self.invariant _ c.self.view_is c.args.entry c.requires.transaction c.requires.above c.from.result c.index_mut-own.result.now c.from.ensures c.index_mut-own.ensures.value

pub invariant_of-self : goal.invariant_of-self
invariant_of-self c =
    (put_at c.self.inside.owns.items c.self.invariant _ c.self.view_is c.args.entry c.requires.transaction c.requires.above c.from.result c.index_mut-own.result.now c.push.new.self c.from.ensures c.index_mut-own.ensures.value c.push.ensures).are

pub returns : goal.returns
returns c =
    (put_at c.self.inside.owns.items c.self.invariant _ c.self.view_is c.args.entry c.requires.transaction c.requires.above c.from.result c.index_mut-own.result.now c.push.new.self c.from.ensures c.index_mut-own.ensures.value c.push.ensures).view
