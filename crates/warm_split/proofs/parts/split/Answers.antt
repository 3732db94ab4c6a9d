use Rattle.txn_model.proofs.SerialLaws.{sound_length}
use Rattle.warm_split.proofs.parts.split.Goals as goal

pub split_ops-requires : goal.split_ops-requires
split_ops-requires c = rw c.as_slice.ensures (sound_length c.args.script.now.items c.requires.fit)
