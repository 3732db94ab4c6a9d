use Rattle.std.proofs.Common.{List, map, sym, ap, ◌∙◌}
use Rattle.std.proofs.lemmas.Simd.{map-map}
use Rattle.catalogue.specs.Plan.{Run}
use Rattle.session_draft.specs.Written.{written_op}
use Rattle.session_draft.specs.declared.draft.OpDraft.{OpDraft}
use Rattle.session_reader.specs.Built.{op_of}
use Rattle.session_reader.proofs.build.item_of.Goals as goal

pub returns-in_ok-ops_of-in-Run : goal.returns-in_ok-ops_of-in-Run
returns-in_ok-ops_of-in-Run c =
    let ops = c.in_ok-ops_of-in-Run.ensures ∙ ap (λ (l : List OpDraft). map (λ op. op_of (written_op op)) l) c.as_slice.ensures.value in
    rw c.in-Run.is (ap Run (c.of.ensures.items ∙ ops ∙ sym (map-map op_of written_op c.in-Run.ops.items)))
