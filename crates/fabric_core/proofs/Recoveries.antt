-- Lists that recovery goes through.
use Rattle.std.proofs.Common.{◌≡◌, ℕ, zero, suc, ◌+◌, ◌<◌, ◌==◌, Bool, ◌||◌, List, [], ◌∷◌, ◌++◌, length, map, take, drop, get_or, set, refl, sym, ap, subst, ◌∙◌, arith}
use Rattle.std.specs.List.{AllByRecursion, list_any}
use Rattle.switch_packet.specs.Packets.{plain_intent, plain_log}
use Rattle.switch_packet.specs.declared.record.Intent.{Intent}
use Rattle.switch_packet.specs.declared.record.LogView.{LogView}
use Rattle.fabric_core.specs.Recovering.{IsExpected}

-- one more item of a list was changed
pub next_mapped : {X : Type 0} (f : X → X) (init : List X) (i : ℕ) (x new : X) → i < length init → x ≡ get_or (map f (take i init) ++ drop i init) i x → new ≡ f x
    → set (map f (take i init) ++ drop i init) i new ≡ map f (take (i + 1) init) ++ drop (i + 1) init
next_mapped f [] i x new lt is made = absurd (omega arith)
next_mapped {X} f (y ∷ init) zero x new lt is made = ap (λ (z : X). z ∷ init) (made ∙ ap f is)
next_mapped {X} f (y ∷ init) (suc i) x new lt is made =
    let n : suc i + 1 ≡ suc (i + 1) = omega arith in
    rw n (ap (λ (l : List X). f y ∷ l) (next_mapped f init i x new (omega arith) is made))

-- an intent of this item is among them
pub seen_among : (seq n : ℕ) (xs : List Intent) → list_any (λ i. i.packet.seq == seq) (drop n (map plain_intent xs)) ≡ list_any (λ i. i.packet.seq == seq) (drop n xs)
seen_among seq zero [] = refl
seen_among seq (suc n) [] = refl
seen_among seq zero (x ∷ xs) = ap (λ (b : Bool). (x.packet.seq == seq) || b) (seen_among seq zero xs)
seen_among seq (suc n) (x ∷ xs) = seen_among seq n xs

pub expected_at : (views : List LogView) (k : ℕ) (v : LogView) → k < length views → v ≡ get_or views k v → AllByRecursion IsExpected (map plain_log views) → IsExpected (plain_log v)
expected_at [] k v lt is all = absurd (omega arith)
expected_at (w ∷ views) zero v lt is all = subst (λ (x : LogView). IsExpected (plain_log x)) (sym is) all.0
expected_at (w ∷ views) (suc k) v lt is all = expected_at views k v (omega arith) is all.1
