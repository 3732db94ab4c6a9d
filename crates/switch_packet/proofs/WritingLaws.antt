-- Adding texts one after the other.
use Rattle.std.proofs.Common.{◌≡◌, ℕ, ◌+◌, List, ◌++◌, drop, length, slice_get, Some, vec_len, vec_capacity, sym, ap, ◌∙◌, subst, append_assoc, arith}
use Rattle.std.specs.Global.{Vec}
use Rattle.std.specs.List.{flat_map}
use Rattle.std.proofs.lemmas.List.{length-append}
use Rattle.txn_model.proofs.OperandLaws.{drop_at_item}
use Rattle.switch_packet.specs.Writing.{Adds}

pub Adds-then : {a b c : Vec ℕ} {x y : List ℕ} → Adds a b x → Adds b c y → Adds a c (x ++ y)
Adds-then {a} {b} {c} {x} {y} p q = record {
  items = q.items ∙ ap (λ (bytes : List ℕ). bytes ++ y) p.items ∙ append_assoc a.items x y;
  len = omega (arith, p.len, q.len, length-append x y);
  capacity = q.capacity ∙ p.capacity;
}

pub Adds-as : {a b : Vec ℕ} {x y : List ℕ} → x ≡ y → Adds a b x → Adds a b y
Adds-as {a} {b} e p = subst (Adds a b) e p

-- so far the buffer has grown by all that isn't left
pub record IsAdding (old now : Vec ℕ) (left all : List ℕ) : Type 0 where
  pub items : now.items ++ left ≡ old.items ++ all
  pub len : vec_len now + length left ≡ vec_len old + length all
  pub capacity : vec_capacity now ≡ vec_capacity old

-- one more text of a list is added
pub IsAdding-more : {X : Type 0} (text : X → List ℕ) (xs : List X) (i : ℕ) (x : X) (old mid now : Vec ℕ) (all : List ℕ) → slice_get xs i ≡ Some x
    → IsAdding old mid (flat_map text (drop i xs)) all → Adds mid now (text x) → IsAdding old now (flat_map text (drop (i + 1) xs)) all
IsAdding-more text xs i x old mid now all at p q =
    let left : flat_map text (drop i xs) ≡ text x ++ flat_map text (drop (i + 1) xs) = ap (flat_map text) (drop_at_item xs i x at) in
    record {
      items = ap (λ (bytes : List ℕ). bytes ++ flat_map text (drop (i + 1) xs)) q.items ∙ append_assoc mid.items (text x) (flat_map text (drop (i + 1) xs)) ∙ ap (λ (bytes : List ℕ). mid.items ++ bytes) (sym left) ∙ p.items;
      len = omega (arith, p.len, q.len, ap length left, length-append (text x) (flat_map text (drop (i + 1) xs)));
      capacity = q.capacity ∙ p.capacity;
    }
