-- Lemmas on what is known of the bytes of sources and sinks.
use Rattle.std.proofs.Common.{◌≡◌, ℕ, ◌+◌, ◌-◌, ◌≤◌, List, [], ◌++◌, length, take, drop, sym, ap, ◌∙◌, subst}
use Rattle.std.proofs.lemmas.List.{append-nil, take_rest, take-take, take-append-le, take-append-drop, drop-drop}
use Rattle.std.proofs.Math.Seq.{take-add}
use Rattle.std.specs.Prelude.{Option}
use Rattle.std.specs.Io.KnownBytes.{Appends, Consumes}
use Rattle.std.proofs.KnownBytes.{Appends-trans, Consumes-trans}

-- a read that gave nothing took nothing
pub Consumes-none : (a b c : Option (List ℕ)) (bs cs : List ℕ) → Consumes a b bs → Consumes b c cs → cs ≡ [] → Consumes a c bs
Consumes-none a b c bs cs p q none = subst (Consumes a c) (ap (λ l. bs ++ l) none ∙ append-nil bs) (Consumes-trans a b c bs cs p q)

take_0 : (xs : List ℕ) (n : ℕ) → n ≡ 0 → take n xs ≡ []
take_0 xs n is = ap (λ k. take k xs) is

pub Consumes-take_0 : (a b c : Option (List ℕ)) (bs buf : List ℕ) (n : ℕ) → Consumes a b bs → Consumes b c (take n buf) → n ≡ 0 → Consumes a c bs
Consumes-take_0 a b c bs buf n p q is = Consumes-none a b c bs (take n buf) p q (take_0 buf n is)

-- a front of a text, and then a front of the rest
pub Appends-front : (a b c : Option (List ℕ)) (text : List ℕ) (i n : ℕ) → Appends a b (take i text) → Appends b c (take n (take (length text - i) (drop i text)))
    → Appends a c (take (i + n) text)
Appends-front a b c text i n p q =
    subst (Appends a c) (ap (λ rest. take i text ++ take n rest) (take_rest text i) ∙ sym (take-add i n text)) (Appends-trans a b c (take i text) _ p q)

-- the front of a buffer whose first bytes were written
pub take-written : (now written old : List ℕ) (len n : ℕ) → now ≡ take len (written ++ drop (length written) old) → n ≤ len → n ≤ length written → take n now ≡ take n written
take-written now written old len n is in_buf in_written =
    ap (take n) is ∙ take-take n len _ in_buf ∙ take-append-le n written _ in_written

-- what is left from a place on, after its first bytes were copied
pub drop-copied : (all to : List ℕ) (at count : ℕ) → take count to ≡ take count (drop at all) → drop at all ≡ take count to ++ drop (at + count) all
drop-copied all to at count front =
    let rest = drop at all in
    sym (take-append-drop count rest) ∙ ap (λ l. l ++ drop count rest) (sym front) ∙ ap (λ l. take count to ++ l) (drop-drop count at all)
