-- Stamps as they stand to each other.
use Rattle.std.specs.Prelude.{◌≡◌, ◌≢◌}
use Rattle.std.specs.declared.cmp.Ordering.TheVariants.{Less}
use Rattle.txn_model.specs.declared.stamp.Stamp.{Stamp}
use Rattle.history_model.specs.History.{stamp_cmp}

-- a stands before b
abbrev pub Below : Stamp → Stamp → Type 0
Below a b = stamp_cmp a b ≡ Less

-- a doesn't stand behind b
abbrev pub AtMost : Stamp → Stamp → Type 0
AtMost a b = stamp_cmp b a ≢ Less
