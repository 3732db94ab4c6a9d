use Rattle.std.proofs.Common.{◌≡◌, ℕ, ◌+◌, ◌<◌, ◌++◌, ◌∷◌, [], ℤ, pos, List, Option, drop, length, is_some, unwrap_or, w64, SFits, to_z, of_z, rules, arith, refl, sym, ap, ap₂, subst, ◌∙◌}
use Rattle.std.specs.FinMap as fin
use Rattle.std.specs.List.{AllByRecursion}
use Rattle.std.proofs.lemmas.Int.{to_z-of_z}
use Rattle.std.proofs.lemmas.List.{length_push}
use Rattle.std.proofs.lemmas.List.Elements.{All-from_recursion}
use Rattle.txn_model.specs.Needs.{needs_list}
use Rattle.txn_model.specs.Places.{Places}
use Rattle.txn_model.specs.Serial.{operand, effect}
use Rattle.txn_model.specs.declared.op.Need.{Need}
use Rattle.txn_model.specs.declared.pairs.Pair.{Pair}
use Rattle.switch_packet.specs.Replay.{Replayed, register_at, packet_pair, always, execute}
use Rattle.gap_placement.proofs.Steps.{replay_step, replay_end}
use Rattle.gap_placement.proofs.Walking.{there-insert}
use Rattle.gap_placement.proofs.replay.replay_packet.Goals as goal

pub loop-i-init : goal.loop-i-init
loop-i-init c =
    let items = c.of-pairs.ensures.items ∙ c.in_ok-with_capacity.ensures.items in
    record {
      count = ap length items;
      room = omega (arith, c.of-pairs.ensures.spare, c.in_ok-with_capacity.ensures.capacity, c.in_ok-with_capacity.ensures.len, c.len.ensures);
      same = λ place. refl;
      run = ap (λ (l : List Pair). execute always c.args.packet.now.ops.items l [] c.args.map.now) items;
    }

pub operand-requires : goal.operand-requires
operand-requires c =
    let op = c.get-op.result.now in
    All-from_recursion (λ (n : Need). n.from < length c.loop-i.pairs.items) (needs_list op.needs)
    (subst (λ (k : ℕ). AllByRecursion (λ (n : Need). n.from < k) (needs_list op.needs)) (sym c.loop-i.invariant.count) (c.requires.earlier c.loop-i.i op c.get-op.ensures))

pub set-requires : goal.set-requires
set-requires c = record { there = c.loop-i.invariant.same c.get-op.result.now.place ∙ c.requires.there c.loop-i.i c.get-op.result.now c.get-op.ensures }

pub push-requires : goal.push-requires
push-requires c = record {
  room = omega (arith, c.loop-i.invariant.room, c.len-i-end.ensures, c.loop-i-test.true);
  few = omega (arith, c.loop-i.invariant.count, c.requires.few, c.len-i-end.ensures, c.loop-i-test.true);
}

pub loop-i-preserved : goal.loop-i-preserved
loop-i-preserved c =
    let ops = c.args.packet.now.ops.items in
    let op = c.get-op.result.now in
    let pairs = c.loop-i.pairs.items in
    let m = c.loop-i.map in
    let needs = needs_list op.needs in
    let was_fits : SFits w64 c.unwrap_or-was.result = search rules in
    let operand_fits : SFits w64 c.operand.result = search rules in
    let now_fits : SFits w64 c.effect-now.result = search rules in
    let bias_fits : SFits w64 op.bias = search rules in
    let was_is = to_z-of_z w64 c.unwrap_or-was.result was_fits ∙ c.unwrap_or-was.ensures ∙ ap (λ (o : Option ℤ). unwrap_or o (pos 0)) c.get.ensures in
    let operand_is = to_z-of_z w64 c.operand.result operand_fits ∙ c.operand.ensures ∙ ap (λ (b : ℤ). operand needs b pairs) (to_z-of_z w64 op.bias bias_fits) in
    let now_is = to_z-of_z w64 c.effect-now.result now_fits ∙ c.effect-now.ensures ∙ ap₂ (effect op.act) was_is operand_is in
    let pair : Pair = record { was = to_z w64 (of_z w64 c.unwrap_or-was.result); now = to_z w64 (of_z w64 c.effect-now.result) } in
    let pair_is : pair ≡ packet_pair op pairs (register_at m op.place) = λ j. record { was = was_is j; now = now_is j } in
    let items = c.push.ensures.items ∙ ap (λ (p : Pair). pairs ++ p ∷ []) pair_is in
    let set_is = c.set.ensures ∙ ap (λ (v : ℤ). fin.insert m op.place v) now_is in
    let there = c.loop-i.invariant.same op.place ∙ c.requires.there c.loop-i.i op c.get-op.ensures in
    record {
      count = ap length c.push.ensures.items ∙ length_push pairs pair ∙ ap (λ (n : ℕ). n + 1) c.loop-i.invariant.count;
      room = omega (arith, c.loop-i.invariant.room, c.push.ensures.spare);
      same = λ place. ap (λ (x : Places). is_some (fin.get x place)) set_is ∙ there-insert m op.place (packet_pair op pairs (register_at m op.place)).now there place ∙ c.loop-i.invariant.same place;
      run = ap₂ (λ (l : List Pair) (x : Places). execute always (drop (c.loop-i.i + 1) ops) l [] x) items set_is ∙ replay_step ops c.loop-i.i op pairs m c.get-op.ensures ∙ c.loop-i.invariant.run;
    }

pub returns-clause-pairs : goal.returns-clause-pairs
returns-clause-pairs c = ap (λ (r : Replayed). r.pairs) (replay_end c.args.packet.now.ops.items c.loop-i.i c.loop-i.pairs.items c.loop-i.map (omega (arith, c.len-i-end.ensures, c.loop-i-test.false)) ∙ c.loop-i.invariant.run)

pub returns-clause-after : goal.returns-clause-after
returns-clause-after c = ap (λ (r : Replayed). r.after) (replay_end c.args.packet.now.ops.items c.loop-i.i c.loop-i.pairs.items c.loop-i.map (omega (arith, c.len-i-end.ensures, c.loop-i-test.false)) ∙ c.loop-i.invariant.run)
