-- Operations in their ranges: after a push, and at a place.
use Rattle.std.proofs.Common.{◌≡◌, ℕ, zero, suc, ◌+◌, List, [], ◌∷◌, ◌++◌, length, slice_get, Some, subst, arith}
use Rattle.switch_packet.specs.declared.packet.PacketOp.{PacketOp}
use Rattle.switch_packet.specs.Ranges.{OpFits, OpsFit}

pub OpsFit-push : (passes k : ℕ) (ops : List PacketOp) (op : PacketOp) → OpsFit passes k ops → OpFits passes (k + length ops) op → OpsFit passes k (ops ++ op ∷ [])
OpsFit-push passes k [] op f g = let at : k + 0 ≡ k = omega arith in (subst (λ (n : ℕ). OpFits passes n op) at g, tt)
OpsFit-push passes k (x ∷ xs) op f g =
    let at : k + suc (length xs) ≡ (k + 1) + length xs = omega arith in
    (f.0, OpsFit-push passes (k + 1) xs op f.1 (subst (λ (n : ℕ). OpFits passes n op) at g))

pub OpsFit-at : (passes k : ℕ) (ops : List PacketOp) (i : ℕ) (op : PacketOp) → OpsFit passes k ops → slice_get ops i ≡ Some op → OpFits passes (k + i) op
OpsFit-at passes k [] i op f e = absurd cc
OpsFit-at passes k (x ∷ xs) zero op f e =
    let same : x ≡ op = cc in
    let at : k ≡ k + 0 = omega arith in
    subst (λ (n : ℕ). OpFits passes n op) at (subst (OpFits passes k) same f.0)
OpsFit-at passes k (x ∷ xs) (suc i) op f e =
    let at : (k + 1) + i ≡ k + suc i = omega arith in
    subst (λ (n : ℕ). OpFits passes n op) at (OpsFit-at passes (k + 1) xs i op f.1 e)
