use Rattle.std.proofs.Common.{◌≡◌, ◌+◌, map, drop, slice_get}
use Rattle.catalogue.specs.Items.{plain_item}
use Rattle.catalogue.specs.PlanOf.{plan_of}
use Rattle.session_reader.proofs.Searches.{first_in_items}
use Rattle.session_reader.specs.FirstPlace.{found_of}
use Rattle.session_reader.specs.Rules.{breaks}
use Rattle.session_reader.proofs.rule.first_in_items.Given as goal

-- no item so far breaks the rule
abbrev pub invariant-loop-i : goal.invariant-loop-i
invariant-loop-i l =
    first_in_items (breaks l.rule (plan_of l.session)) l.client (l.i + 1) (map plain_item (drop l.i l.items))
    ≡ slice_get (found_of (breaks l.rule (plan_of l.session)) l.client (map plain_item l.items)) 0
