use Rattle.std.proofs.Common.{rules}
use Rattle.session_draft.proofs.JsonLists.{items_list-items_of}
use Rattle.session_draft.proofs.data.as_list.Goals as goal

pub returns : goal.returns
returns c = search (rules, items_list-items_of)
