-- Unless it has finished, a client is at one of its items, and has a try left.
use Rattle.std.proofs.Common.{◌≡◌, ◌≢◌, ℕ, ◌-◌, ◌<◌, ◌≤◌, ◌==◌, Bool, true, false, List, [], ◌∷◌, length, slice_get, unwrap_or, Option, Some, None, IsSome, inl, inr, refl, sym, ap, subst, ◌∙◌, arith, if◌then◌else◌}
use Rattle.std.specs.Option.{option_and_then}
use Rattle.std.proofs.lemmas.Bool.Decides.{nat_tests}
use Rattle.txn_model.specs.ScriptCheck.{script_fault}
use Rattle.txn_model.specs.declared.op.Op.{Op}
use Rattle.catalogue.specs.Plan.{Plan, PlainItem, items_of, item_of, script_in, script_of}
use Rattle.catalogue.specs.Sound.{IsSound}
use Rattle.catalogue.proofs.SoundLaws.{sound_script}
use Rattle.core_model.specs.declared.phase.Phase.TheVariants.{Ready, Locking, Finished}
use Rattle.core_model.specs.Asking.{IsAsking}
use Rattle.core_model.proofs.Cold.{HasNoLoss}
use Rattle.core_model.specs.State.{ClientState, script_now}
use Rattle.core_model.proofs.Decide.{item_at_place}

-- unless it has finished, a client is at one of its items, and has a try left
abbrev pub IsPresent : Plan → ℕ → ClientState → Type 0
IsPresent plan c x = x.phase ≢ Finished → (1 ≤ x.seq) × (x.seq ≤ length (items_of plan c)) × (x.refused < plan.tries)

pub asking_open : (x : ClientState) → IsAsking x → x.phase ≢ Finished
asking_open x (inl e) i = let clash : Ready ≡ Finished = sym e ∙ i in cc
asking_open x (inr e) i = let clash : Locking ≡ Finished = sym e ∙ i in cc

-- a script without a fault has an operation
not_empty : (ops : List Op) → script_fault ops ≡ None → 1 ≤ length ops
unfolding script_fault
not_empty [] e = cc
not_empty (op ∷ ops) e = omega arith

-- the script of a present item has an operation
pub some_op : (plan : Plan) (c : ℕ) (x : ClientState) → IsSound plan → HasNoLoss plan → 1 ≤ x.seq → x.seq ≤ length (items_of plan c) → 1 ≤ length (script_now plan c x)
some_op plan c x sound none one in_items = by (script_of plan c x.seq) refl (scripted (x.seq == 0) refl)
  where
    positive : (n : ℕ) → 1 ≤ n → (n == 0) ≡ true → ⊥
    positive n one e = grind (arith, nat_tests)

    in_item : (o : Option PlainItem) → item_of plan c x.seq ≡ o → IsSome o → IsSome (option_and_then script_in o)
    in_item (Some item) is h = none c x.seq item is
    in_item None is h = cc

    scripted : (b : Bool) → (x.seq == 0) ≡ b → IsSome (script_of plan c x.seq)
    scripted true e = absurd (positive x.seq one e)
    scripted false e =
        let found = item_at_place (items_of plan c) (x.seq - 1) (omega (arith, one, in_items)) in
        let here : item_of plan c x.seq ≡ Some found.0 = ap (λ (b : Bool). if b then None else slice_get (items_of plan c) (x.seq - 1)) e ∙ found.1 in
        in_item (item_of plan c x.seq) refl (subst IsSome (sym here) refl)

    by : (o : Option (List Op)) → script_of plan c x.seq ≡ o → IsSome o → 1 ≤ length (unwrap_or o [])
    by (Some ops) is h = not_empty ops (sound_script plan c x.seq ops sound is).script
    by None is h = cc
