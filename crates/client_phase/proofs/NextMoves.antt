-- A client's next action is its move.
use Rattle.std.proofs.Common.{◌≡◌, ℕ, zero, suc, ◌<◌, ◌≤◌, ◌==◌, nat_lt, Bool, true, false, not, List, [], ◌∷◌, length, slice_get, Option, None, Some, option_map, refl, sym, ap, subst, ◌∙◌, arith, if◌then◌else◌}
use Rattle.std.proofs.lemmas.Bool.Decides.{nat_tests}
use Rattle.std.specs.Option.{option_and_then, unwrap_or}
use Rattle.std.proofs.lemmas.Option.{slice_get_past}
use Rattle.txn_model.specs.ScriptCheck.{script_fault}
use Rattle.txn_model.specs.declared.op.Op.{Op}
use Rattle.warm_split.specs.declared.parts.Parts.{Parts}
use Rattle.catalogue.specs.Plan as catalogue
use Rattle.catalogue.specs.Plan.{Plan, PlainItem, item_of, script_in}
use Rattle.core_model.specs.Locks.{cold_ops}
use Rattle.core_model.specs.State.{ClientState, script_now}
use Rattle.core_model.specs.declared.phase.Phase.{Phase}
use Rattle.core_model.specs.declared.phase.Phase.TheVariants.{Ready, Locking, Aborting, Logged, Waiting, Installing, Finished}
use Rattle.fabric_model.specs.ColdFacts.{FitsPhase}
use Rattle.fabric_model.specs.State.{State}
use Rattle.fabric_model.specs.Step.{has_hot, asked, holder, decided, logged, installed, asks_or_goes_on, next_op, begins, client_step}
use Rattle.client_phase.specs.declared.action.Action.TheVariants.{Lock, Decide, LogIntent, Install}
use Rattle.client_phase.specs.ColdNumbers.{cold_count, cold_number, is_cold}
use Rattle.client_phase.specs.Laws.{IsAtScript, IsAt, ActionsAreMoves}
use Rattle.client_phase.specs.Moves.{move_of}
use Rattle.client_phase.specs.NextAction.{locks_or_goes_on, script_action, next_action}
use Rattle.client_phase.specs.Shown.{shown_now}
use Rattle.client_phase.proofs.Models.{number_is, step_is, commits_are_the_models}
use Rattle.client_phase.proofs.Rows.{count_is}

below : (a b : ℕ) → nat_lt a b ≡ true → a < b
below a b t = grind (arith, nat_tests)

not_below : (a b : ℕ) → nat_lt a b ≡ false → b ≤ a
not_below a b t = grind (arith, nat_tests)

is_below : (a b : ℕ) → a < b → nat_lt a b ≡ true
is_below a b t = grind (arith, nat_tests)

as_many : (a b : ℕ) → (a == b) ≡ true → a ≡ b
as_many a b t = grind (arith, nat_tests)

item_at : {X : Type 0} (xs : List X) (k : ℕ) → k < length xs → (x : X) × (slice_get xs k ≡ Some x)
item_at [] k lt = absurd (omega arith)
item_at (x ∷ xs) zero lt = (x, refl)
item_at (x ∷ xs) (suc k) lt = item_at xs k (omega arith)

some_ops : (ops : List Op) → script_fault ops ≡ None → 0 < length ops
unfolding script_fault
some_ops [] e = cc
some_ops (op ∷ ops) e = omega arith

module _ (plan : Plan) (s : State) (c : ℕ) (x : ClientState) (parts : Parts) (here : IsAtScript plan c x parts) where
  abbrev ops : List Op
  ops = script_now plan c x

  abbrev cold : List Op
  cold = cold_ops plan.layout ops

  found : (o : Option Op) (d : Op) → o ≡ Some d → asks_or_goes_on plan s c x o ≡ option_map (λ op. asked plan s c x op (holder plan s c op)) o
  found o d e = ap (asks_or_goes_on plan s c x) e ∙ sym (ap (option_map (λ op. asked plan s c x op (holder plan s c op))) e)

  asks : asks_or_goes_on plan s c x (next_op plan c x) ≡ move_of plan s c x (locks_or_goes_on parts ops (length x.noted))
  asks = by (nat_lt k count) refl
    where
      k : ℕ
      k = length x.noted

      count : ℕ
      count = cold_count parts ops

      commits : (hot : Bool) → has_hot plan ops ≡ hot → count ≤ k
          → (if hot then Some (logged plan s c x) else (if nat_lt 0 k then Some (decided plan s c x) else None)) ≡ move_of plan s c x (if not hot then Decide else LogIntent)
      commits true e le = refl
      commits false e le =
          let all : count ≡ length ops = as_many count (length ops) (commits_are_the_models plan ops parts here.sets ∙ ap not e) in
          ap (λ (b : Bool). if b then Some (decided plan s c x) else None) (is_below 0 k (omega (arith, le, all, some_ops ops here.visit.script)))

      by : (b : Bool) → nat_lt k count ≡ b → asks_or_goes_on plan s c x (slice_get cold k) ≡ move_of plan s c x (if b then Lock (cold_number parts ops k) else (if is_cold parts ops then Decide else LogIntent))
      by true t =
          let lt = below k count t in
          let at = item_at cold k (omega (arith, lt, count_is plan.layout ops parts here.sets)) in
          found (slice_get cold k) at.0 at.1 ∙ ap (option_map (λ op. asked plan s c x op (holder plan s c op))) (sym (number_is plan.layout ops parts k here.sets lt))
      by false t =
          let le = not_below k count t in
          ap (asks_or_goes_on plan s c x) (slice_get_past cold k (omega (arith, le, count_is plan.layout ops parts here.sets)))
          ∙ commits (has_hot plan ops) refl le
          ∙ ap (λ (b : Bool). move_of plan s c x (if b then Decide else LogIntent)) (sym (commits_are_the_models plan ops parts here.sets))

  installs : x.phase ≡ Installing → client_step plan s c x Installing ≡ move_of plan s c x (Install (cold_number parts ops x.installed))
  installs e =
      let fits = subst (FitsPhase plan c x) e here.fits in
      let lt : x.installed < cold_count parts ops = omega (arith, here.installs e, fits.0, count_is plan.layout ops parts here.sets) in
      ap (option_map (installed plan s c x)) (sym (step_is plan.layout ops parts x.reply x.installed here.sets (here.reply e) lt))

  pub script_moves : (run : List Op) → item_of plan c x.seq ≡ Some (catalogue.Run run) → (q : Phase) → x.phase ≡ q → client_step plan s c x q ≡ move_of plan s c x (script_action parts ops (shown_now plan c x) q)
  script_moves run is Ready e = ap (begins plan s c x) is ∙ asks
  script_moves run is Locking e = asks
  script_moves run is Aborting e = refl
  script_moves run is Logged e = refl
  script_moves run is Waiting e = refl
  script_moves run is Installing e = installs e
  script_moves run is Finished e = refl

-- the operations of an item, where it is a script
abbrev script_in_item : Option PlainItem → List Op
script_in_item o = unwrap_or (option_and_then script_in o) []

pub actions_are_moves : ActionsAreMoves
actions_are_moves plan s c x parts at = by (item_of plan c x.seq) refl at
  where
    by : (o : Option PlainItem) → item_of plan c x.seq ≡ o → IsAt plan c x parts o → client_step plan s c x x.phase ≡ move_of plan s c x (next_action parts (shown_now plan c x) o)
    by (Some (catalogue.Run ops)) is here =
        let same : script_now plan c x ≡ ops = ap script_in_item is in
        script_moves plan s c x parts here ops is x.phase refl ∙ ap (λ (l : List Op). move_of plan s c x (script_action parts l (shown_now plan c x) x.phase)) same
    by (Some catalogue.Lose) is here =
        ap (client_step plan s c x) here.0 ∙ ap (begins plan s c x) is
    by None is here = ap (client_step plan s c x) here
