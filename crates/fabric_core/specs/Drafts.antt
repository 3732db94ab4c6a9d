-- Room to make records in.
use Rattle.std.specs.Prelude.{◌≤◌, vec_capacity}
use Rattle.switch_packet.specs.Packets.{room_of}
use Rattle.fabric_core.specs.declared.draft.Draft.{Draft}

-- There is room for a packet of 16 operations, for 16 pairs twice, and for the text of the longest record: an intent has 12 bytes
-- before the text of its packet, which has 772 at most, and an outcome has 16, and 16 for each of its pairs.
pub record HasDraftRoom (draft : Draft) : Type 0 where
  pub packet : 16 ≤ room_of draft.intent.packet.ops
  pub outcome : 16 ≤ room_of draft.outcome.pairs
  pub zeros : 16 ≤ room_of draft.zeros
  pub text : 784 ≤ vec_capacity draft.text
