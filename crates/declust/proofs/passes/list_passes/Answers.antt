use Rattle.std.proofs.Common.{arith, rules}
use Rattle.declust.proofs.Totals.{fit_at}
use Rattle.declust.proofs.passes.list_passes.Goals as goal

pub item_passes-requires-clause-sound : goal.item_passes-requires-clause-sound
item_passes-requires-clause-sound c = fit_at c.args.items.now c.loop-item.item-index c.item-item.result (omega arith) c.item-item.is c.requires.sound
