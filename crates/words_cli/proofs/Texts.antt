-- Words that were looked at one by one are texts.
use Rattle.std.proofs.Common.{◌≡◌, subst, ℕ, zero, suc, ◌<◌, List, [], ◌∷◌, length, take, get_or, IsUtf8, arith}
use Rattle.std.specs.List.{AllByRecursion}

-- one more
pub texts_more : (ws : List (List ℕ)) (i : ℕ) (w : List ℕ) → i < length ws → w ≡ get_or ws i w → IsUtf8 w → AllByRecursion IsUtf8 (take i ws) → AllByRecursion IsUtf8 (take (suc i) ws)
texts_more [] i w lt is text all = absurd (omega arith)
texts_more (x ∷ ws) zero w lt is text all = (subst IsUtf8 is text, tt)
texts_more (x ∷ ws) (suc i) w lt is text all = (all.0, texts_more ws i w (omega arith) is text all.1)
