-- What is seen of the registers where operations are executed.
use Rattle.std.proofs.Common.{◌≡◌, ℕ, suc, ℤ, pos, Bool, true, false, cond, List, [], ◌∷◌, slice_get, Option, Some, None, is_some, unwrap_or, refl, ap, ◌∙◌}
use Rattle.std.specs.FinMap as fin
use Rattle.std.specs.List.{AllByRecursion}
use Rattle.txn_model.specs.Places.{Places}
use Rattle.txn_model.specs.declared.pairs.Pair.{Pair}
use Rattle.stage_layout.specs.Shape.{has_place}
use Rattle.stage_layout.specs.declared.shape.Shape.{Shape}
use Rattle.switch_packet.specs.Replay.{Replayed, execute, register_at}
use Rattle.switch_packet.specs.declared.packet.PacketOp.{PacketOp}
use Rattle.pipeline.specs.Numbers.{numbers_of}
use Rattle.pipeline.proofs.Executed.{execute_alike, execute_there}
use Rattle.pipeline.proofs.Numbered.{get-numbers_of, register-numbers_of, is-numbers_of}

all_from_each : {X : Type 0} (P : X → Type 0) (xs : List X) → ((i : ℕ) (x : X) → slice_get xs i ≡ Some x → P x) → AllByRecursion P xs
all_from_each P [] h = tt
all_from_each P (x ∷ xs) h = (h 0 x refl, all_from_each P xs (λ i y e. h (suc i) y e))

-- what is seen of an execution
pub record IsSeen (shape : Shape) (seen made : Replayed) : Type 0 where
  pub pairs : seen.pairs ≡ made.pairs
  pub after : seen.after ≡ numbers_of shape (register_at made.after)

pub executed_seen : (shape : Shape) (due : PacketOp → Bool) (ops : List PacketOp) (pairs : List Pair) (m : Places) → ((i : ℕ) (op : PacketOp) → slice_get ops i ≡ Some op → has_place shape op.place ≡ true)
    → IsSeen shape (execute due ops [] pairs (numbers_of shape (register_at m))) (execute due ops [] pairs m)
executed_seen shape due ops pairs m places =
    let full = numbers_of shape (register_at m) in
    let alike = execute_alike (λ q. has_place shape q ≡ true) due ops [] pairs full m (λ q there. register-numbers_of shape (register_at m) q there) (all_from_each (λ op. due op ≡ true → has_place shape op.place ≡ true) ops (λ i op e _. places i op e)) in
    let there = execute_there (has_place shape) due ops [] pairs full (λ q. ap is_some (get-numbers_of shape (register_at m) q) ∙ some_cond (has_place shape q) (register_at m q))
    (all_from_each (λ op. due op ≡ true → has_place shape op.place ≡ true) ops (λ i op e _. places i op e)) in
    record {
      pairs = alike.pairs;
      after = is-numbers_of shape (register_at (execute due ops [] pairs m).after) (execute due ops [] pairs full).after
          (λ q. number (fin.get (execute due ops [] pairs full).after q) (has_place shape q) (register_at (execute due ops [] pairs m).after q) (there q) (alike.after q));
    }
  where
    some_cond : (b : Bool) (v : ℤ) → is_some (cond b (Some v) None) ≡ b
    some_cond true v = refl
    some_cond false v = refl

    number : (o : Option ℤ) (b : Bool) (v : ℤ) → is_some o ≡ b → (b ≡ true → unwrap_or o (pos 0) ≡ v) → o ≡ cond b (Some v) None
    number None true v some is = cc
    number None false v some is = refl
    number (Some w) true v some is = ap Some (is refl)
    number (Some w) false v some is = cc
