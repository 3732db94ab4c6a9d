use Rattle.std.proofs.Common.{◌≡◌, ◌<◌, List, ℕ, length, get_or, sym, ap, ◌∙◌, arith}
use Rattle.std.proofs.lemmas.Option.{slice_get_within}
use Rattle.history_model.specs.History.{History}
use Rattle.history_core.specs.Own.{plain_kept}
use Rattle.history_core.proofs.Changes.{few_one}
use Rattle.history_core.proofs.Walked.{left_first, entries_at}
use Rattle.history_core.proofs.walk.Walk.next_kept.Goals as goal

pub overflow_add-self : goal.overflow_add-self
overflow_add-self c =
    let owns = c.self.inside.owns.now in
    let at = c.in_ok-client.client in
    let first = c.in_ok-client.ensures in
    omega (arith, slice_get_within (entries_at owns at) (get_or c.self.inside.given at 0) _ first.head, few_one owns c.self.invariant.lists at first.within)

pub overflow_sub-self : goal.overflow_sub-self
overflow_sub-self c =
    let owns = c.self.inside.owns.now in
    let at = c.in_ok-client.client in
    let first = c.in_ok-client.ensures in
    let in_given : at < length c.self.inside.given = omega (arith, first.within, c.self.invariant.lists.few, c.self.told) in
    omega (arith, c.self.invariant.many, ap length (left_first owns c.self.inside.given at (plain_kept c.in_ok-client.kept.now) c.self.invariant.lists.own in_given first))

pub invariant_of-self : goal.invariant_of-self
invariant_of-self c =
    let owns = c.self.inside.owns.now in
    let at = c.in_ok-client.client in
    let first = c.in_ok-client.ensures in
    let in_given : at < length c.self.inside.given = omega (arith, first.within, c.self.invariant.lists.few, c.self.told) in
    record {
      lists = c.self.invariant.lists;
      many = omega (arith, c.self.invariant.many, ap length (left_first owns c.self.inside.given at (plain_kept c.in_ok-client.kept.now) c.self.invariant.lists.own in_given first));
    }

pub returns : goal.returns
returns c =
    let owns = c.self.inside.owns.now in
    let at = c.in_ok-client.client in
    let first = c.in_ok-client.ensures in
    let in_given : at < length c.self.inside.given = omega (arith, first.within, c.self.invariant.lists.few, c.self.told) in
    sym c.self.view_is ∙ left_first owns c.self.inside.given at (plain_kept c.in_ok-client.kept.now) c.self.invariant.lists.own in_given first
