-- What reading to the end says of a source that tells what is left.
use Rattle.std.proofs.Common.{◌≡◌, ℕ, ◌<◌, List, ◌++◌, length, Some, None, IfSome, sym, ap, ◌∙◌, arith}
use Rattle.std.proofs.lemmas.List.{append-nil, length-append}
use Rattle.std.specs.Prelude.{Option}
use Rattle.port_io.specs.ReadAll.{TakesAll, TakesBeyond}

-- what was taken is all that was left
pub TakesAll-left : (most : ℕ) (old new : Option (List ℕ)) (bytes : List ℕ) → TakesAll most old new bytes → IfSome old (λ left. bytes ≡ left)
TakesAll-left most None new bytes all = tt
TakesAll-left most (Some left) None bytes all = absurd all.taken
TakesAll-left most (Some left) (Some rest) bytes all = sym (all.taken ∙ ap (λ l. bytes ++ l) all.ended ∙ append-nil bytes)

-- more was left than the limit
pub TakesBeyond-left : (most : ℕ) (old new : Option (List ℕ)) → TakesBeyond most old new → IfSome old (λ left. most < length left)
TakesBeyond-left most None new beyond = tt
TakesBeyond-left most (Some left) None beyond = absurd beyond.2
TakesBeyond-left most (Some left) (Some rest) beyond = omega (arith, beyond.1, ap length beyond.2, length-append beyond.0 rest)
