use Rattle.std.proofs.Common.{◌≡◌, ◌+◌, ◌<◌, ℕ, [], length, sym, ap, subst, ◌∙◌, arith}
use Rattle.txn_model.specs.Listed.{Listed}
use Rattle.txn_model.specs.declared.pairs.Pair.{Pair}
use Rattle.switch_packet.specs.Replay.{Replayed, execute}
use Rattle.register_stage.specs.Registers.{Registers, is_due}
use Rattle.register_stage.proofs.Steps.{IsWalked, walked_due, walked_other, walked_all}
use Rattle.register_stage.proofs.stage.Stage.visit.Goals as goal
use Rattle.register_stage.proofs.stage.Stage.visit.Goals.{then-is_due, else-is_due}

pub execute-requires-clause-can : goal.execute-requires-clause-can
execute-requires-clause-can c =
    let op = c.get-op.result.now in
    let w = c.loop-i.invariant.walked in
    let old = c.requires.due c.loop-i.i op c.get-op.ensures (ap (λ (s : ℕ). is_due s c.args.flight.now.pass op) (sym w.stage) ∙ sym c.is_due.ensures ∙ c.if-is_due.true) in
    record { place = w.there op.place ∙ old.place; earlier = old.earlier }

pub loop-i-preserved : goal.loop-i-preserved
loop-i-preserved c =
    let op = c.get-op.result.now in
    let flight = c.args.flight.now in
    let ops = flight.packet.ops.items in
    let first = c.args.self.now in
    let now = c.loop-i.self in
    let pairs = c.loop-i.pairs.items in
    let walked = c.loop-i.invariant.walked in
    let within : c.loop-i.i < length pairs = omega (arith, walked.paired, c.requires.paired, c.len-i-end.ensures.value, c.loop-i-test.true) in
    elim c.if-is_due.branch [
      | then-is_due w ↦
          let due = sym c.is_due.ensures ∙ w.if-is_due.true in
          let old = c.requires.due c.loop-i.i op c.get-op.ensures (ap (λ (s : ℕ). is_due s flight.pass op) (sym walked.stage) ∙ due) in
          record {
            walked = walked_due ops flight.pass first flight.pairs.items c.loop-i.i now pairs op c.if-is_due.self c.if-is_due.pairs.items walked c.get-op.ensures due within (walked.there op.place ∙ old.place)
                (w.self-is ∙ w.execute.ensures.numbers)
                (ap (λ (l : Listed Pair). l.items) w.pairs-is ∙ w.execute.ensures.pairs);
            spare = ap (λ (l : Listed Pair). l.spare) w.pairs-is ∙ w.execute.ensures.spare ∙ c.loop-i.invariant.spare;
          }
      | else-is_due w ↦
          let other = sym c.is_due.ensures ∙ w.if-is_due.false in
          record {
            walked = subst (λ (r : Registers). IsWalked ops flight.pass first flight.pairs.items (c.loop-i.i + 1) r c.if-is_due.pairs.items) (sym w.self-is)
                (subst (λ (l : Listed Pair). IsWalked ops flight.pass first flight.pairs.items (c.loop-i.i + 1) now l.items) (sym w.pairs-is) (walked_other ops flight.pass first flight.pairs.items c.loop-i.i now pairs op walked c.get-op.ensures other within));
            spare = ap (λ (l : Listed Pair). l.spare) w.pairs-is ∙ c.loop-i.invariant.spare;
          }
    ]

-- what all operations together did
all : (c : goal.After-loop-i) → (execute (is_due c.args.self.now.stage c.args.flight.now.pass) c.args.flight.now.packet.ops.items [] c.args.flight.now.pairs.items c.args.self.now.numbers ≡ record { pairs = c.loop-i.pairs.items; after = c.loop-i.self.numbers })
all c =
    let w = c.loop-i.invariant.walked in
    walked_all c.args.flight.now.packet.ops.items c.args.flight.now.pass c.args.self.now c.args.flight.now.pairs.items c.loop-i.i c.loop-i.self c.loop-i.pairs.items w
    (omega (arith, w.paired, c.requires.paired, c.len-i-end.ensures.value, c.loop-i-test.false))

pub returns-clause-numbers : goal.returns-clause-numbers
returns-clause-numbers c =
    let w = c.loop-i.invariant.walked in
    let numbers = ap (λ (r : Replayed). r.after) (all c) in
    λ i. record { stage = w.stage i; numbers = sym numbers i }

pub returns-clause-pairs : goal.returns-clause-pairs
returns-clause-pairs c = sym (ap (λ (r : Replayed). r.pairs) (all c))
