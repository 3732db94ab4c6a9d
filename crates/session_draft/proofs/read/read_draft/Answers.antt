use Rattle.std.proofs.Common.{rules}
use Rattle.session_draft.proofs.BytesAsJson.{json_of-some, json_of-none}
use Rattle.session_draft.proofs.read.read_draft.Goals as goal

pub returns-in-Ok : goal.returns-in-Ok
returns-in-Ok c =
    let json = json_of-some c.args.bytes.now _ c.in-Ok.ensures.ok.0 c.in-Ok.ensures.ok.1 in
    rw json c.draft.ensures

pub returns-in-Err-2 : goal.returns-in-Err-2
returns-in-Err-2 c =
    let json = json_of-none c.args.bytes.now (c.in-Err.ensures.err (search rules)) in
    λ _. rw json
