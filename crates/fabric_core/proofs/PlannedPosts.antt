-- Packets that were resolved have the passes and halves of their pass plans.
use Rattle.std.proofs.Common.{◌≡◌, ℕ, ℤ, suc, true, List, [], ◌∷◌, map, length, slice_get, Some, refl, sym, ap, ◌∙◌, arith}
use Rattle.std.specs.Prelude.{IsTrue}
use Rattle.std.specs.List.{AllByRecursion, zip}
use Rattle.std.proofs.lemmas.List.{length-map}
use Rattle.txn_model.specs.declared.op.Op.{Op}
use Rattle.txn_model.specs.declared.pairs.Pair.{Pair}
use Rattle.stage_layout.specs.Late.{Part, parts_of}
use Rattle.stage_layout.specs.Passes.{Plan, plan_of, greatest}
use Rattle.stage_layout.specs.Shape.{has_place}
use Rattle.stage_layout.specs.declared.layout.LayoutRow.{LayoutRow}
use Rattle.stage_layout.specs.declared.pass_plan.HotOp.{HotOp}
use Rattle.stage_layout.specs.declared.shape.Shape.{Shape}
use Rattle.stage_layout.proofs.LeastPasses.{has_passes}
use Rattle.switch_packet.specs.declared.packet.PacketOp.{PacketOp}
use Rattle.switch_model.specs.Fitting.{IsPlanned}
use Rattle.warm_split.specs.Joined.{joined}
use Rattle.warm_split.specs.Resolved.{planned_op, planned_ops, packet_op, packet_from, packet_of}
use Rattle.warm_split.specs.Sides as sides
use Rattle.pipeline.specs.Planned.{hot_ops, HasPlan}

-- an operation as a pass plan has it
abbrev as_planned : PacketOp → HotOp
as_planned op = record { place = op.place; needs = op.needs }

made_again : (rows : List LayoutRow) (parts : List Part) (known : List Pair) (passes : List ℕ) (hot : List Op) → length passes ≡ length hot
    → map as_planned (map (λ (step : ℕ × Op). packet_op rows parts known step.0 step.1) (zip passes hot)) ≡ map (planned_op rows parts) hot
made_again rows parts known [] [] same = refl
made_again rows parts known [] (op ∷ hot) same = absurd (omega (arith, same))
made_again rows parts known (pass ∷ passes) [] same = absurd (omega (arith, same))
made_again rows parts known (pass ∷ passes) (op ∷ hot) same = ap (λ (l : List HotOp). planned_op rows parts op ∷ l) (made_again rows parts known passes hot (omega (arith, same)))

passes_again : (rows : List LayoutRow) (parts : List Part) (known : List Pair) (passes : List ℕ) (hot : List Op) → length passes ≡ length hot
    → map (λ (op : PacketOp). op.pass) (map (λ (step : ℕ × Op). packet_op rows parts known step.0 step.1) (zip passes hot)) ≡ passes
passes_again rows parts known [] [] same = refl
passes_again rows parts known [] (op ∷ hot) same = refl
passes_again rows parts known (pass ∷ passes) [] same = absurd (omega (arith, same))
passes_again rows parts known (pass ∷ passes) (op ∷ hot) same = ap (λ (l : List ℕ). pass ∷ l) (passes_again rows parts known passes hot (omega (arith, same)))

all_true : (shape : Shape) (ops : List PacketOp) → ((i : ℕ) (op : PacketOp) → slice_get ops i ≡ Some op → has_place shape op.place ≡ true) → AllByRecursion (λ op. IsTrue (has_place shape op.place)) ops
all_true shape [] h = tt
all_true shape (op ∷ ops) h = (h 0 op refl, all_true shape ops (λ i o e. h (suc i) o e))

-- a packet of a script that was planned has the plan of its own operations
pub has_plan : (shape : Shape) (rows : List LayoutRow) (client seq : ℕ) (ops : List Op) (values : List ℤ) → IsPlanned shape (packet_of shape rows client seq ops values) → HasPlan shape (packet_of shape rows client seq ops values)
unfolding packet_from
has_plan shape rows client seq ops values planned =
    let plan = plan_of shape (planned_ops rows ops) in
    let parts = parts_of rows ops in
    let known = joined rows ops values [] in
    let hot = sides.hot_ops rows ops in
    let same : length plan.passes ≡ length hot = (has_passes shape (planned_ops rows ops)).each ∙ length-map hot (planned_op rows parts) in
    let again : hot_ops (packet_of shape rows client seq ops values) ≡ planned_ops rows ops = made_again rows parts known plan.passes hot same in
    let plans : plan ≡ plan_of shape (hot_ops (packet_of shape rows client seq ops values)) = ap (plan_of shape) (sym again) in
    record {
      places = all_true shape (packet_of shape rows client seq ops values).ops planned.places;
      each = passes_again rows parts known plan.passes hot same ∙ ap (λ (p : Plan). p.passes) plans;
      passes = ap (λ (p : Plan). greatest p.passes) plans;
      halves = ap (λ (p : Plan). p.halves) plans;
    }
