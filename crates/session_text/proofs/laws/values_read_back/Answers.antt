use Rattle.session_text.proofs.WholeReadsBack.{session_read}
use Rattle.session_text.proofs.laws.values_read_back.Goals as goal

pub returns : goal.returns
returns c = session_read
