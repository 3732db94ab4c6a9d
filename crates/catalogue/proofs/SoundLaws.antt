-- What soundness of a session says of each of its items and scripts.
use Rattle.std.proofs.Common.{◌≡◌, ℕ, ◌-◌, ◌<◌, true, false, cond, eqb, List, [], length, get_or, All, Option, Some, None, inl, inr, refl, sym, subst, arith, slice_get, option_and_then}
use Rattle.std.proofs.lemmas.Option.{slice_get_cases, get_or_from_slice_get}
use Rattle.std.proofs.lemmas.List.{get_or_past}
use Rattle.std.proofs.lemmas.Bool.{cases_lt}
use Rattle.txn_model.specs.declared.op.Op.{Op}
use Rattle.catalogue.specs.Plan.{Plan, PlainItem, Run, Lose, items_of, item_of, script_in, script_of}
use Rattle.catalogue.specs.Sound.{IsFit, IsFitItem, IsSound}

within : {X : Type 0} (xs : List X) (i : ℕ) (x : X) → slice_get xs i ≡ Some x → i < length xs
within xs i x e = elim (slice_get_cases xs i).1 [ inl h ↦ h.1 | inr h ↦ cc h.1 ]

item_of_all : {X : Type 0} (P : X → Type 0) (xs : List X) (i : ℕ) (x : X) → All P xs → slice_get xs i ≡ Some x → P x
item_of_all P xs i x all e = subst P (get_or_from_slice_get xs i x x e) (all i x (within xs i x e))

items_of_all : {X : Type 0} (P : X → Type 0) (lists : List (List X)) (c : ℕ) → All (All P) lists → All P (get_or lists c [])
items_of_all P lists c all = elim (cases_lt c (length lists)) [ inl lt ↦ all c [] lt | inr le ↦ subst (All P) (sym (get_or_past lists c [] le)) (λ k d lt. absurd (omega arith)) ]

-- each item of a sound session is fit
pub sound_item : (plan : Plan) (client seq : ℕ) (item : PlainItem) → IsSound plan → item_of plan client seq ≡ Some item → IsFitItem plan item
sound_item plan client seq item sound e =
    elim (eqb seq 0) as (λ b. cond b None (slice_get (items_of plan client) (seq - 1)) ≡ Some item → IsFitItem plan item) [
      | true ↦ λ none. cc none
      | false ↦ λ some. item_of_all (IsFitItem plan) (items_of plan client) (seq - 1) item (items_of_all (IsFitItem plan) plan.clients client sound.items) some
    ] e

-- each script of a sound session is fit
pub sound_script : (plan : Plan) (client seq : ℕ) (ops : List Op) → IsSound plan → script_of plan client seq ≡ Some ops → IsFit plan ops
sound_script plan client seq ops sound e = go (item_of plan client seq) refl e
  where
    go : (found : Option PlainItem) → item_of plan client seq ≡ found → option_and_then script_in found ≡ Some ops → IsFit plan ops
    go None h e = cc e
    go (Some (Run found)) h e = let same : found ≡ ops = cc e in subst (IsFit plan) same (sound_item plan client seq (Run found) sound h)
    go (Some Lose) h e = cc e
