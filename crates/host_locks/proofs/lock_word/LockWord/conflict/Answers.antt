use Rattle.std.proofs.Common.{rules}
use Rattle.host_locks.proofs.WordLaws.{sharer_in_the_way}
use Rattle.host_locks.proofs.lock_word.LockWord.conflict.Goals as goal

pub returns-in-Exclusive : goal.returns-in-Exclusive
returns-in-Exclusive c =
    rw c.in-Exclusive.is (sharer_in_the_way c.self.inside.sharers c.self.inside.owner c.args.self c.self.view_is c.self.invariant c.args.client c.requires (search rules) c.lowest.result c.lowest.ensures)
