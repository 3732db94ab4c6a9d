-- What a loop keeps that writes each item of a list.
use Rattle.std.proofs.Common.{◌≡◌, ℕ, ◌+◌, List, ◌∷◌, ◌++◌, map, drop, slice_get, nat_lt, Some, Bool, true, false, sym, ap, ◌∙◌, subst, append_assoc, lt-ltb, arith}
use Rattle.std.specs.List.{AllByRecursion}
use Rattle.txn_model.proofs.OperandLaws.{drop_at_item}
use Rattle.serde_json.specs.Data.{Data}
use Rattle.serde_json.specs.View.{items_of}
use Rattle.serde_json.specs.Written.{comma_if, compact_text, items_text}

-- the text of items, with the closing bracket
abbrev pub rest_text : {A : Type 0} → (A → Data) → Bool → List A → List ℕ
rest_text write later xs = items_text later (items_of (map write xs))

-- the text and that of the items that are left make the whole; so do the numbers in the ranges of their types
abbrev pub IsWriting : {A : Type 0} → (A → Data) → (A → Type 0) → List ℕ → List ℕ → Bool → List A → List A → Type 0
IsWriting write IsTyped start text later left xs = (text ++ rest_text write later left ≡ start ++ rest_text write false xs) × (AllByRecursion IsTyped left → AllByRecursion IsTyped xs)

-- one more item is written
pub IsWriting-more : {A : Type 0} (write : A → Data) (IsTyped : A → Type 0) (start text comma more : List ℕ) (later : Bool) (x : A) (left others xs : List A) → left ≡ x ∷ others
    → comma ≡ text ++ comma_if later → more ≡ comma ++ compact_text (write x) → IsTyped x → IsWriting write IsTyped start text later left xs → IsWriting write IsTyped start more true others xs
IsWriting-more write IsTyped start text comma more later x left others xs at commas pushed typed kept =
    let rest : List ℕ = rest_text write true others in
    let whole : more ++ rest ≡ start ++ rest_text write false xs =
    ap (λ (l : List ℕ). l ++ rest) pushed
    ∙ append_assoc comma (compact_text (write x)) rest
    ∙ ap (λ (l : List ℕ). l ++ (compact_text (write x) ++ rest)) commas
    ∙ append_assoc text (comma_if later) (compact_text (write x) ++ rest)
    ∙ ap (λ (l : List _). text ++ rest_text write later l) (sym at)
    ∙ kept.0 in
    (whole, λ (all : AllByRecursion IsTyped others). kept.1 (subst (AllByRecursion IsTyped) (sym at) (typed, all)))

-- the same of a loop over the places of a list
pub IsWriting-next : {A : Type 0} (write : A → Data) (IsTyped : A → Type 0) (start text comma more : List ℕ) (n : ℕ) (x : A) (xs : List A) → slice_get xs n ≡ Some x → comma ≡ text ++ comma_if (nat_lt 0 n)
    → more ≡ comma ++ compact_text (write x) → IsTyped x → IsWriting write IsTyped start text (nat_lt 0 n) (drop n xs) xs → IsWriting write IsTyped start more (nat_lt 0 (n + 1)) (drop (n + 1) xs) xs
IsWriting-next write IsTyped start text comma more n x xs at commas pushed typed kept =
    subst (λ (later : Bool). IsWriting write IsTyped start more later (drop (n + 1) xs) xs) (sym (lt-ltb 0 (n + 1) (omega arith)))
    (IsWriting-more write IsTyped start text comma more (nat_lt 0 n) x (drop n xs) (drop (n + 1) xs) xs (drop_at_item xs n x at) commas pushed typed kept)
