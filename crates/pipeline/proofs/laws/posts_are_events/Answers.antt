use Rattle.pipeline.proofs.Answered.{post_shown}
use Rattle.pipeline.proofs.laws.posts_are_events.Goals as goal

pub returns : goal.returns
returns c = post_shown
