-- The limits of a session, as tests of what is written.
use Rattle.std.specs.Prelude.{ℕ, ◌&&◌, Bool, true, false, List, length, nat_le, sum_by, Option, Some, None, is_none}
use Rattle.std.specs.List.{list_all}
use Rattle.session_draft.specs.declared.draft.ShapeDraft.{ShapeDraft}
use Rattle.session_draft.specs.Written.{WrittenOp, WrittenItem, run, lose, Written}
use Rattle.session_reader.specs.declared.fault.Limit.{Limit}
use Rattle.session_reader.specs.declared.fault.Limit.TheVariants.{Stages, Arrays, Cells, Split, Hosts, Tuples, Layout, Tries, Clients, Items, Ops, Needs}

abbrev pub is_between : ℕ → ℕ → ℕ → Bool
is_between least most n = nat_le least n && nat_le n most

-- the limits of the shape, in their order
abbrev pub stages_fit : ShapeDraft → Bool
stages_fit shape = is_between 1 12 shape.stages

abbrev pub arrays_fit : ShapeDraft → Bool
arrays_fit shape = is_between 1 4 shape.arrays

abbrev pub cells_fit : ShapeDraft → Bool
cells_fit shape = is_between 1 4096 shape.cells

-- the left half has at most all stages
abbrev pub split_fits : ShapeDraft → Bool
split_fits shape = nat_le shape.split shape.stages

abbrev pub hosts_fit : ShapeDraft → Bool
hosts_fit shape = is_between 1 8 shape.hosts

-- the other limits, in their order
abbrev pub tuples_fit : Written → Bool
tuples_fit w = nat_le (length w.tuples) 65536

abbrev pub layout_fits : Written → Bool
layout_fits w = nat_le (length w.layout) 65536

abbrev pub tries_fit : Written → Bool
tries_fit w = is_between 1 16 w.tries

abbrev pub clients_fit : Written → Bool
clients_fit w = nat_le (length w.clients) 8

-- the items of all clients together
abbrev pub items_fit : Written → Bool
items_fit w = nat_le (sum_by length w.clients) 4096

-- a test of a script; losing the switch passes it
abbrev pub of_script : (List WrittenOp → Bool) → WrittenItem → Bool
of_script test (run ops) = test ops
of_script test lose = true

abbrev pub has_ops_that_fit : List WrittenOp → Bool
has_ops_that_fit ops = is_between 1 16 (length ops)

abbrev pub ops_fit : Written → Bool
ops_fit w = list_all (list_all (of_script has_ops_that_fit)) w.clients

abbrev pub has_few_needs : WrittenOp → Bool
has_few_needs op = nat_le (length op.needs) 4

abbrev pub has_needs_that_fit : List WrittenOp → Bool
has_needs_that_fit ops = list_all has_few_needs ops

abbrev pub needs_fit : Written → Bool
needs_fit w = list_all (list_all (of_script has_needs_that_fit)) w.clients

-- the limit, where its test isn't passed, or else what is found behind it
abbrev pub broken : Limit → Bool → Option Limit → Option Limit
broken limit true behind = behind
broken limit false behind = Some limit

-- the first limit of the shape that isn't kept, or else what is found behind them
abbrev pub over_size : ShapeDraft → Option Limit → Option Limit
over_size shape behind =
    broken Stages (stages_fit shape) (broken Arrays (arrays_fit shape) (broken Cells (cells_fit shape) (broken Split (split_fits shape) (broken Hosts (hosts_fit shape) behind))))

-- the first of the other limits that isn't kept
abbrev pub over_count : Written → Option Limit
over_count w =
    broken Tuples (tuples_fit w) (broken Layout (layout_fits w) (broken Tries (tries_fit w) (broken Clients (clients_fit w) (broken Items (items_fit w) (broken Ops (ops_fit w) (broken Needs (needs_fit w) None))))))

-- the first limit that isn't kept
unfoldable pub over_limit : Written → Option Limit
over_limit w = over_size w.shape (over_count w)
