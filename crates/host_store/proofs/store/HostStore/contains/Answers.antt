use Rattle.std.proofs.Common.{◌∙◌}
use Rattle.host_store.proofs.StoreRows.{tested}
use Rattle.host_store.proofs.store.HostStore.contains.Goals as goal

pub returns : goal.returns
returns c = c.is_some.ensures ∙ tested _ c.self.invariant _ c.self.view_is c.args.tuple _ c.as_slice.ensures.value c.row_of.result c.row_of.ensures
