-- What is appended in steps.
use Rattle.std.proofs.Common.{◌≡◌, ℕ, List, ◌++◌, ap, ◌∙◌, append_assoc}

-- two texts, one behind the other, are appended as one
pub joined : (start middle end front back : List ℕ) → middle ≡ start ++ front → end ≡ middle ++ back → end ≡ start ++ (front ++ back)
joined start middle end front back first second = second ∙ ap (λ (l : List ℕ). l ++ back) first ∙ append_assoc start front back
