use Rattle.session_text.proofs.SessionLine.{line_back}
use Rattle.session_text.proofs.laws.lines_read_back.Goals as goal

pub returns : goal.returns
returns c = line_back
