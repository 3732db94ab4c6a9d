use Rattle.host_locks.proofs.WordLaws.{lock_taken}
use Rattle.host_locks.proofs.lock_word.LockWord.locked.Goals as goal

pub returns-in-Shared : goal.returns-in-Shared
returns-in-Shared c =
    rw c.in-Shared.is (lock_taken c.self.inside.sharers c.self.inside.owner c.args.self c.self.view_is c.self.invariant c.args.client c.requires.client c.requires.free (rw c.in-Shared.is at c.requires.others))
