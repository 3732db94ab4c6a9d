use Rattle.host_locks.proofs.WordLaws.{holder_below, lock_given_back}
use Rattle.host_locks.proofs.lock_word.LockWord.unlocked.Goals as goal

pub overflow_shl-result : goal.overflow_shl-result
overflow_shl-result c = holder_below c.self.inside.sharers c.self.inside.owner c.args.self c.self.view_is c.self.invariant c.args.client c.requires

pub returns : goal.returns
returns c = lock_given_back c.self.inside.sharers c.self.inside.owner c.args.self c.self.view_is c.self.invariant c.args.client c.requires
