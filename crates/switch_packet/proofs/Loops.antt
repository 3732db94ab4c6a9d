-- Reading values one after the other, as a loop does.
use Rattle.std.proofs.Common.{◌≡◌, ℕ, suc, ◌-◌, ◌+◌, ◌≤◌, ◌<◌, List, [], ◌∷◌, ◌++◌, Result, Ok, Err, refl, sym, ap, ◌∙◌, append_assoc, arith}
use Rattle.std.proofs.lemmas.List.{append-nil}
use Rattle.switch_packet.specs.declared.fault.PacketFault.{PacketFault}
use Rattle.switch_packet.specs.Reading.{Cursor, ◌>>=◌, byte_at, zeros_at, each_at}

-- what was read before, and what is still read
abbrev pub with_front : {X : Type 0} → List X → Result (List X × Cursor) PacketFault → Result (List X × Cursor) PacketFault
with_front front read = read >>= λ x. Ok (front ++ x.0, x.1)

module _ {X : Type 0} (read : ℕ → Cursor → Result (X × Cursor) PacketFault) where
  regroup : (front : List X) (x : X) (rest : Result (List X × Cursor) PacketFault) → with_front front (rest >>= λ xs. Ok (x ∷ xs.0, xs.1)) ≡ with_front (front ++ x ∷ []) rest
  regroup front x (Ok xs) = ap (λ (ys : List X). Ok (ys, xs.1)) (simp append_assoc)
  regroup front x (Err e) = refl

  pub each_more : (front : List X) (k n : ℕ) (c d : Cursor) (x : X) (total : Result (List X × Cursor) PacketFault) → k < n → read k c ≡ Ok (x, d)
      → with_front front (each_at read k (n - k) c) ≡ total → with_front (front ++ x ∷ []) (each_at read (k + 1) (n - (k + 1)) d) ≡ total
  unfolding each_at
  each_more front k n c d x total lt h so_far =
      let left : n - k ≡ suc (n - (k + 1)) = omega arith in
      let one : with_front front (each_at read k (n - k) c) ≡ with_front (front ++ x ∷ []) (each_at read (k + 1) (n - (k + 1)) d) = rw (left, h) (regroup front x (each_at read (k + 1) (n - (k + 1)) d)) in
      sym one ∙ so_far

  pub each_fails : (front : List X) (k n : ℕ) (c : Cursor) (e : PacketFault) (total : Result (List X × Cursor) PacketFault) → k < n → read k c ≡ Err e
      → with_front front (each_at read k (n - k) c) ≡ total → total ≡ Err e
  unfolding each_at
  each_fails front k n c e total lt h so_far =
      let left : n - k ≡ suc (n - (k + 1)) = omega arith in
      let one : with_front front (each_at read k (n - k) c) ≡ Err e = rw (left, h) refl in
      sym so_far ∙ one

  pub each_done : (front : List X) (k n : ℕ) (c : Cursor) (total : Result (List X × Cursor) PacketFault) → n ≤ k
      → with_front front (each_at read k (n - k) c) ≡ total → total ≡ Ok (front, c)
  unfolding each_at
  each_done front k n c total le so_far =
      let left : n - k ≡ 0 = omega arith in
      let one : with_front front (each_at read k (n - k) c) ≡ Ok (front, c) = rw left (ap (λ (xs : List X). Ok (xs, c)) (append-nil front)) in
      sym so_far ∙ one

pub zeros_more : (k n b : ℕ) (c d : Cursor) → k < n → byte_at 0 0 c ≡ Ok (b, d) → zeros_at (n - k) c ≡ zeros_at (n - (k + 1)) d
unfolding zeros_at
zeros_more k n b c d lt h =
    let left : n - k ≡ suc (n - (k + 1)) = omega arith in
    rw (left, h) refl

pub zeros_fail : (k n : ℕ) (c : Cursor) (e : PacketFault) → k < n → byte_at 0 0 c ≡ Err e → zeros_at (n - k) c ≡ Err e
unfolding zeros_at
zeros_fail k n c e lt h =
    let left : n - k ≡ suc (n - (k + 1)) = omega arith in
    rw (left, h) refl

pub zeros_done : (k n : ℕ) (c : Cursor) → n ≤ k → zeros_at (n - k) c ≡ Ok (tt, c)
unfolding zeros_at
zeros_done k n c le =
    let left : n - k ≡ 0 = omega arith in
    rw left refl
