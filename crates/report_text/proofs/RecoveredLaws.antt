-- The clients whose logs are torn, told one by one.
use Rattle.std.proofs.Common.{◌≡◌, ℕ, suc, ◌+◌, ◌-◌, ◌<◌, Bool, true, false, cond, List, [], ◌∷◌, ◌++◌, append-nil, append_assoc, refl, sym, ap, ◌∙◌, arith}
use Rattle.std.specs.List.{filter, flat_map, range_with_len}

-- one number less is left
range_less : (client clients : ℕ) → client < clients → range_with_len client (clients - client) ≡ client ∷ range_with_len (client + 1) (clients - (client + 1))
range_less client clients lt = ap (range_with_len client) {x = clients - client} {y = suc (clients - (client + 1))} (omega (arith, lt))

-- the first one, and those behind it
told_first : (f : ℕ → List ℕ) (p : ℕ → Bool) (client : ℕ) (left : List ℕ) → flat_map f (filter p (client ∷ left)) ≡ flat_map f (filter p (client ∷ [])) ++ flat_map f (filter p left)
told_first f p client left =
    elim (p client) as (λ b. flat_map f (cond b (client ∷ filter p left) (filter p left)) ≡ flat_map f (cond b (client ∷ []) []) ++ flat_map f (filter p left)) [
      | true ↦ ap (λ (t : List ℕ). t ++ flat_map f (filter p left)) (sym (append-nil (f client)))
      | false ↦ refl
    ]

-- one client more is told
pub one_less : (f : ℕ → List ℕ) (p : ℕ → Bool) (client clients : ℕ) (before now whole : List ℕ) → client < clients → now ≡ before ++ flat_map f (filter p (client ∷ []))
    → before ++ flat_map f (filter p (range_with_len client (clients - client))) ≡ whole → now ++ flat_map f (filter p (range_with_len (client + 1) (clients - (client + 1)))) ≡ whole
one_less f p client clients before now whole lt one all =
    let left = range_with_len (client + 1) (clients - (client + 1)) in
    ap (λ (t : List ℕ). t ++ flat_map f (filter p left)) one
    ∙ append_assoc before (flat_map f (filter p (client ∷ []))) (flat_map f (filter p left))
    ∙ ap (λ (t : List ℕ). before ++ t) (sym (told_first f p client left))
    ∙ ap (λ (l : List ℕ). before ++ flat_map f (filter p l)) (sym (range_less client clients lt))
    ∙ all
