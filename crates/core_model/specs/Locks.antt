-- Which locks stand, and what stands in the way of another one.
use Rattle.std.specs.Prelude.{ℕ, ◌+◌, ◌==◌, ◌&&◌, Bool, not, List, [], ◌∷◌, length, take, drop, filter, Option, Some, None, if◌then◌else◌}
use Rattle.std.specs.List.{list_any}
use Rattle.txn_model.specs.ScriptCheck.{is_read}
use Rattle.txn_model.specs.declared.op.Op.{Op}
use Rattle.stage_layout.specs.Late.{is_hot}
use Rattle.stage_layout.specs.declared.layout.LayoutRow.{LayoutRow}
use Rattle.catalogue.specs.Plan.{Plan}
use Rattle.core_model.specs.State.{ClientState, script_now}

-- the operations of a script on tuples of hosts
abbrev pub cold_ops : List LayoutRow → List Op → List Op
cold_ops rows ops = filter (λ op. not (is_hot rows op.tuple)) ops

-- the operations for whose tuples a client holds locks: those that were granted and are not yet installed
abbrev pub held : Plan → ℕ → ClientState → List Op
held plan c client = drop client.installed (take (length client.noted) (cold_ops plan.layout (script_now plan c client)))

-- the locks for two operations of two clients can't stand together: they are on one tuple, and one of them is exclusive
abbrev pub clashes : Op → Op → Bool
clashes op other = (op.tuple.0 == other.tuple.0) && not (is_read op.act && is_read other.act)

-- the least client but this one whose lock stands in the way of the operation; the list begins with client k
abbrev pub holder_from : Plan → ℕ → Op → ℕ → List ClientState → Option ℕ
holder_from plan me op k [] = None
holder_from plan me op k (client ∷ clients) =
    if not (k == me) && list_any (clashes op) (held plan k client) then Some k else holder_from plan me op (k + 1) clients
