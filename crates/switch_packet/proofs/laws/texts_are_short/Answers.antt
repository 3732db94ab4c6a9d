use Rattle.std.proofs.Common.{refl}
use Rattle.switch_packet.proofs.LongestText.{longest_text}
use Rattle.switch_packet.proofs.laws.texts_are_short.Goals as goal

pub returns : goal.returns
returns c = (refl, longest_text)
