use Rattle.warm_split.proofs.WarmSerial.{warm_serial}
use Rattle.warm_split.proofs.laws.warm_replies_are_serial.Goals as goal

pub returns : goal.returns
returns c = warm_serial
