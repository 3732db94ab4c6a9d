-- What reading a log in pieces has found of what its rack tells.
use Rattle.std.proofs.Common.{◌≡◌, ℕ, ◌+◌, ◌≤◌, List, ◌++◌, length, take, drop, Some, None, sym, ap, ◌∙◌, subst, append_assoc, arith}
use Rattle.std.proofs.lemmas.List.{length-append, length-take}
use Rattle.std.specs.Prelude.{Option}
use Rattle.port_io.proofs.Known.{drop-copied}
use Rattle.intent_log.specs.Told.{GivesSome}
use Rattle.intent_log.specs.Checking.{Begins}

-- so many bytes more were read
pub begins_more : (told now : Option (List ℕ)) (found buf : List ℕ) (at n : ℕ) → now ≡ told → at ≡ length found → n ≤ length buf → Begins told found → GivesSome now at n buf
    → Begins told (found ++ take n buf)
begins_more None now found buf at n same is fits b g = tt
begins_more (Some log) None found buf at n same is fits b g = absurd cc
begins_more (Some log) (Some other) found buf at n same is fits b g =
    let alike : other ≡ log = cc in
    let gave : take n buf ≡ take n (drop (length found) log) = subst (λ (k : ℕ). take n buf ≡ take n (drop k log)) is (subst (λ (l : List ℕ). take n buf ≡ take n (drop at l)) alike g.0) in
    let more : drop (length found) log ≡ take n buf ++ drop (length found + n) log = drop-copied log buf (length found) n gave in
    let len : length (found ++ take n buf) ≡ length found + n = omega (arith, length-append found (take n buf), length-take n buf) in
    b ∙ ap (λ (l : List ℕ). found ++ l) more ∙ sym (append_assoc found (take n buf) (drop (length found + n) log)) ∙ ap (λ (k : ℕ). (found ++ take n buf) ++ drop k log) (sym len)
