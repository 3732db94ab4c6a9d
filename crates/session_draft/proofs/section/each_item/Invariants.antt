use Rattle.std.proofs.Common.{◌≡◌, map, drop}
use Rattle.serde_json.specs.View.{view}
use Rattle.session_draft.specs.Json.{each}
use Rattle.session_draft.specs.Sections.{item_of}
use Rattle.session_draft.specs.Written.{written_item}
use Rattle.session_draft.proofs.JsonLists.{with_front}
use Rattle.session_draft.proofs.section.each_item.Given as goal

-- what is left makes the whole
abbrev pub invariant-loop-value : goal.invariant-loop-value
invariant-loop-value l = with_front (map written_item l.items.items) (each item_of (map view (drop l.value-index l.list))) ≡ each item_of (map view l.list)
