use Rattle.std.proofs.Common.{◌≡◌, ◌++◌, List, Option, Some, None, map, if◌then◌else◌, subst, sym, ap}
use Rattle.std.specs.Option.{option_map}
use Rattle.std.specs.Result.{IfOk}
use Rattle.switch_packet.specs.Packets.{PlainIntent, plain_log, plain_intent, plain_outcome}
use Rattle.gap_placement.proofs.Steps.{changes_is, changes_none}
use Rattle.gap_placement.proofs.Whole.{earlier_of}
use Rattle.gap_placement.specs.Replays.{NeedsEarlier}
use Rattle.gap_placement.specs.Spots.{task_of}
use Rattle.gap_placement.specs.declared.change.Change.{Change}
use Rattle.gap_placement.proofs.legs.add_answered.Goals as goal

pub returns-then-number-intent : goal.returns-then-number-intent
returns-then-number-intent c =
    ap (option_map (λ (more : List Change). c.args.to.now.items ++ more)) (changes_none (task_of (map plain_log c.args.views.now) c.args.spot) c.args.number (plain_intent c.intent_at-intent.result.now) c.intent_at-intent.ensures c.requires.spot.answered c.if-number-intent.true)

pub returns : goal.returns
returns c =
    let is = changes_is (task_of (map plain_log c.args.views.now) c.args.spot) c.args.number (plain_intent c.intent_at-intent.result.now) (plain_outcome c.outcome_at.result.now) c.intent_at-intent.ensures c.outcome_at.ensures c.if-number-intent.false in
    subst (λ (o : Option (List Change)). IfOk c.add_changes.result (λ can. (if can then Some c.add_changes.new.to.items else None) ≡ option_map (λ more. c.args.to.now.items ++ more) o)) is c.add_changes.ensures

pub add_changes-requires : goal.add_changes-requires
add_changes-requires c =
    let logs = map plain_log c.args.views.now in
    subst (λ (x : PlainIntent). NeedsEarlier x.packet.ops) (sym c.intent_at-intent.ensures) (earlier_of logs c.args.spot c.requires.read c.requires.spot.stands)
