use Rattle.host_locks.proofs.WordLaws.{none_held_beyond}
use Rattle.host_locks.proofs.lock_word.LockWord.mode_of.Goals as goal

pub returns-then-client-ge8 : goal.returns-then-client-ge8
returns-then-client-ge8 c = none_held_beyond c.self.inside.sharers c.self.inside.owner c.args.self c.self.view_is c.self.invariant c.args.client c.if-client-ge8.true
