use Rattle.std.proofs.Common.{map, length, ap, ◌∙◌, arith}
use Rattle.std.proofs.lemmas.List.{length-map}
use Rattle.session_draft.specs.Written.{written, written_items}
use Rattle.session_reader.specs.Built.{item_of, row_of}
use Rattle.session_reader.proofs.WithinLimits.{within, clients_built, short_lists}
use Rattle.session_reader.proofs.build.unscheduled.Goals as goal

pub of-requires-2 : goal.of-requires-2
of-requires-2 c =
    let draft = c.args.draft.now in
    let rows = c.in_ok-rows_of.ensures ∙ ap (map row_of) c.as_slice-2.ensures.value in
    let limits = within (written draft) c.requires in
    record { few = omega (arith, ap length rows, length-map draft.layout.items row_of, limits.layout) }

pub of-requires-3-clause-few : goal.of-requires-3-clause-few
of-requires-3-clause-few c =
    let draft = c.args.draft.now in
    let lists = c.in_ok-lists_of.ensures ∙ ap (λ clients. map (map item_of) (map written_items clients)) c.as_slice-3.ensures.value in
    let limits = within (written draft) c.requires in
    omega (arith, clients_built _ (map written_items draft.clients.items) lists, limits.clients)

pub of-requires-3-clause-short : goal.of-requires-3-clause-short
of-requires-3-clause-short c =
    let draft = c.args.draft.now in
    let lists = c.in_ok-lists_of.ensures ∙ ap (λ clients. map (map item_of) (map written_items clients)) c.as_slice-3.ensures.value in
    let limits = within (written draft) c.requires in
    short_lists _ (map written_items draft.clients.items) lists limits.items
