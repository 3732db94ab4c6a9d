use Rattle.std.proofs.Common.{◌≡◌, ℕ, List, [], ◌∷◌, ◌++◌, string_bytes, decimal, sym, ap, ◌∙◌, arith, append_assoc}
use Rattle.std.proofs.lemmas.Fmt.{decimal_digit}
use Rattle.report_text.proofs.line.push_numbered.Goals as goal

-- what three pushes of one byte each append
pushed_three : (old one two new : List ℕ) (a b c : ℕ) → one ≡ old ++ a ∷ [] → two ≡ one ++ b ∷ [] → new ≡ two ++ c ∷ [] → new ≡ old ++ a ∷ b ∷ c ∷ []
pushed_three old one two new a b c first second third =
    third ∙ ap (λ (t : List ℕ). t ++ c ∷ []) (second ∙ ap (λ (t : List ℕ). t ++ b ∷ []) first ∙ append_assoc old (a ∷ []) (b ∷ [])) ∙ append_assoc old (a ∷ b ∷ []) (c ∷ [])

pub returns-in_ok-push-3 : goal.returns-in_ok-push-3
returns-in_ok-push-3 c =
    let old = c.args.text.now in
    let digit = c.from.result in
    let space = c.in_ok-push.ensures.bytes ∙ ap (λ (t : List ℕ). string_bytes old ++ t) (c.push.ensures.ascii (omega arith)) in
    let letter = c.in_ok-push-2.ensures.bytes ∙ ap (λ (t : List ℕ). string_bytes c.push.new.self ++ t) (c.push-2.ensures.ascii c.requires.ascii) in
    let last = c.in_ok-push-3.ensures.bytes ∙ ap (λ (t : List ℕ). string_bytes c.push-2.new.self ++ t) (c.push-then-number-lt10.ensures.ascii (omega (arith, c.from.ensures, c.if-number-lt10.true))) in
    let all = pushed_three (string_bytes old) (string_bytes c.push.new.self) (string_bytes c.push-2.new.self) (string_bytes c.push-then-number-lt10.new.self) 32 c.args.letter digit space letter last in
    let text : digit ∷ [] ≡ decimal c.args.number = ap (λ (n : ℕ). n ∷ []) c.from.ensures ∙ sym (decimal_digit c.args.number c.if-number-lt10.true) in
    all ∙ ap (λ (t : List ℕ). string_bytes old ++ 32 ∷ c.args.letter ∷ t) text
