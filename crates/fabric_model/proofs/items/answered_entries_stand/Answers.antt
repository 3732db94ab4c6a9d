use Rattle.fabric_model.proofs.Either.{up_of}
use Rattle.fabric_model.proofs.Legal.{holds_now}
use Rattle.fabric_model.proofs.Stand.{answers_stand}
use Rattle.fabric_model.proofs.items.answered_entries_stand.Goals as goal

pub returns : goal.returns
returns c plan s next actor reached is = answers_stand plan s next actor (up_of plan s (holds_now plan s reached)) is
