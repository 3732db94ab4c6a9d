-- The clients as they are kept, and what there is behind a move of one of them.
use Rattle.std.proofs.Common.{◌≡◌, ℕ, ◌<◌, ◌≤◌, List, length, length-set, get_or, set, inl, inr, sym, ap, subst, ◌∙◌, arith}
use Rattle.std.proofs.lemmas.List.{get_or-set_same, get_or-set_other}
use Rattle.catalogue.specs.Plan.{Plan}
use Rattle.warm_split.specs.Parts.{IsParts}
use Rattle.catalogue.specs.Plan.{PlainItem, items_of, script_at}
use Rattle.core_model.specs.State.{ClientState}
use Rattle.core_model.proofs.Fewer.{same_or_not}
use Rattle.core_model.proofs.Moves.{moved_client, others_stay}
use Rattle.client_phase.specs.Fits.{ops_of}
use Rattle.client_phase.specs.Shown.{PlainClient, plain_client, room_of, shown_now}
use Rattle.client_phase.specs.Stepped.{stepped}
use Rattle.client_phase.specs.declared.action.Action.{Action}
use Rattle.client_phase.specs.declared.action.Met.{Met}
use Rattle.fabric_core.specs.Steps.{HasStepped}
use Rattle.fabric_core.specs.Standing.{AreRunners, IsRunner, client_in}
use Rattle.fabric_core.specs.declared.runner.Runner.{Runner}

-- another client at a place
pub runners_set : (plan : Plan) (clients : List ClientState) (runners : List Runner) (c : ℕ) (y : ClientState) (new : Runner) → c < length clients → AreRunners plan clients runners → IsRunner plan c y new
    → AreRunners plan (set clients c y) (set runners c new)
runners_set plan clients runners c y new within are is = record {
  count = length-set runners c new ∙ are.count ∙ sym (length-set clients c y);
  each = λ d other lt. elim (same_or_not d c) [
    | inl e ↦ subst (λ (n : ℕ). IsRunner plan n (client_in (set clients c y) n) (get_or (set runners c new) n other)) (sym e)
        (subst (λ (r : Runner). IsRunner plan c (client_in (set clients c y) c) r) (sym (get_or-set_same runners c new other (omega (arith, within, are.count))))
        (subst (λ (z : ClientState). IsRunner plan c z new) (sym (moved_client clients c y within)) is))
    | inr n ↦ subst (λ (r : Runner). IsRunner plan d (client_in (set clients c y) d) r) (sym (get_or-set_other runners c d new other n))
        (subst (λ (z : ClientState). IsRunner plan d z (get_or runners d other)) (sym (others_stay clients c y d n)) (are.each d other (omega (arith, lt, length-set clients c y))))
  ];
}

-- a client that made its part of a move stands for the model's client behind it
pub runner_stepped : (plan : Plan) (c : ℕ) (item : PlainItem) (before now : Runner) (action : Action) (met : Met) (y : ClientState) (seq : ℕ) → HasStepped plan c item before now action met → before.state.seq ≡ seq
    → IsParts plan.layout (script_at plan c seq) before.parts → 16 ≤ room_of before.state
    → shown_now plan c y ≡ stepped before.parts (ops_of item) (length (items_of plan c)) plan.tries action met (plain_client before.state) → IsRunner plan c y now
runner_stepped plan c item before now action met y seq has same sets room makes =
    let kept : plain_client now.state ≡ shown_now plan c y = has.state ∙ sym makes in
    record {
      kept = kept;
      space = omega (arith, room, has.space);
      parts = subst (λ (n : ℕ). IsParts plan.layout (script_at plan c n) now.parts) (ap (λ (p : PlainClient). p.seq) kept) (has.parts (subst (λ (n : ℕ). IsParts plan.layout (script_at plan c n) before.parts) (sym same) sets));
    }
