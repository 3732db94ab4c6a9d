use Rattle.std.proofs.Common.{◌≡◌, ℕ, ◌+◌, ◌-◌, ◌<◌, ◌≤◌, List, length, take, drop, ap, sym, subst, ◌∙◌, refl, arith}
use Rattle.std.proofs.lemmas.List.{length-take, length-drop}
use Rattle.std.proofs.Math.Seq.{take-length}
use Rattle.port_io.proofs.Causes.{false_is_not_true}
use Rattle.std.specs.Prelude.{Option}
use Rattle.intent_log.specs.Ahead.{IsPieceOf}
use Rattle.intent_log.specs.Told.{GivesSome, DifferAt}
use Rattle.intent_log.proofs.AheadLaws.{gives, no_bytes}
use Rattle.intent_log.proofs.CheckLaws.{goes_on, changed, missing}
use Rattle.intent_log.proofs.check.check_text.Goals as goal

pub returns-then-is_empty-clause-goes_on : goal.returns-then-is_empty-clause-goes_on
returns-then-is_empty-clause-goes_on g c =
    let found = c.from-found.result.now in
    let place = c.args.at + c.loop-done.done in
    let left : 0 < length c.args.text.now - c.loop-done.done = omega (arith, c.loop-done-test.true) in
    let gave = gives _ place _ _ found c.in_ok-reach.ensures.piece c.in_ok-reach.ensures.reaches c.from-found.ensures left in
    let none = no_bytes found (sym c.is_empty.ensures ∙ c.if-is_empty.true) in
    let nothing = subst (λ (n : ℕ). GivesSome (g.L.LogRack.told c.loop-done.rack c.args.client) place n found) none gave in
    λ front rest is b. missing _ _ c.args.text.now c.args.at c.loop-done.done found (c.loop-done.invariant.stay c.args.client) c.loop-done-test.true nothing front rest is (c.loop-done.invariant.begins front is b)

pub returns-in-Some-clause-goes_on : goal.returns-in-Some-clause-goes_on
returns-in-Some-clause-goes_on g c =
    let found = c.from-found.result.now in
    let n = length found in
    let place = c.args.at + c.loop-done.done in
    let left : 0 < length c.args.text.now - c.loop-done.done = omega (arith, c.loop-done-test.true) in
    let gave = gives _ place _ _ found c.in_ok-reach.ensures.piece c.in_ok-reach.ensures.reaches c.from-found.ensures left in
    let few : n ≤ length c.args.text.now - c.loop-done.done = omega (arith, ap length c.from-found.ensures, length-take (length c.args.text.now - c.loop-done.done) (drop (place - c.reach.new.self.place) c.reach.new.self.bytes)) in
    let differ = c.in-Some.ensures.some in
    let at = subst (λ (l : List ℕ). DifferAt l (drop c.loop-done.done c.args.text.now) c.in-Some.i) (sym (take-length found)) differ.1 in
    λ front rest is b. changed _ _ c.args.text.now c.args.at c.loop-done.done n found (c.loop-done.invariant.stay c.args.client) c.loop-done-test.true (omega arith) gave
    c.in-Some.i differ.0 (omega (arith, differ.0, few, length-drop c.loop-done.done c.args.text.now)) at front rest is (c.loop-done.invariant.begins front is b)

pub loop-done-preserved : goal.loop-done-preserved
loop-done-preserved g c =
    let found = c.from-found.result.now in
    let n = length found in
    let place = c.args.at + c.loop-done.done in
    let left : 0 < length c.args.text.now - c.loop-done.done = omega (arith, c.loop-done-test.true) in
    let gave = gives _ place _ _ found c.in_ok-reach.ensures.piece c.in_ok-reach.ensures.reaches c.from-found.ensures left in
    let few : n ≤ length c.args.text.now - c.loop-done.done = omega (arith, ap length c.from-found.ensures, length-take (length c.args.text.now - c.loop-done.done) (drop (place - c.reach.new.self.place) c.reach.new.self.bytes)) in
    let within : c.loop-done.done + n ≤ length c.args.text.now = omega (arith, few, c.loop-done.invariant.within) in
    let whole = c.in_default.ensures.none refl in
    let alike : take n (drop c.loop-done.done c.args.text.now) ≡ take n found = whole ∙ sym (take-length found) in
    record {
      within = within;
      begins = λ front is b. goes_on _ _ c.args.text.now c.args.at c.loop-done.done n found (c.loop-done.invariant.stay c.args.client) c.loop-done-test.true (omega arith) gave within alike front is (c.loop-done.invariant.begins front is b);
      ahead = subst (λ (t : Option (List ℕ)). IsPieceOf t c.reach.new.self) (c.loop-done.invariant.stay c.args.client) c.in_ok-reach.ensures.piece;
      stay = λ client. c.in_ok-reach.ensures.unchanged client ∙ c.loop-done.invariant.stay client;
      keeps_on = λ k. c.in_ok-reach.ensures.keeps_on (c.loop-done.invariant.keeps_on k);
      still = c.in_ok-reach.ensures.cause.still false_is_not_true ∙ c.loop-done.invariant.still;
    }
