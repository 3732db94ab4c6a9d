-- Where a log and a text first differ.
use Rattle.std.proofs.Common.{◌≡◌, ◌≢◌, ℕ, zero, suc, ◌+◌, ◌<◌, ◌≤◌, List, [], ◌∷◌, ◌++◌, length, take, drop, get_or, Some, None, IfSome, refl, sym, ap, subst, ◌∙◌, append_assoc, arith}
use Rattle.std.specs.Prelude.{Option, slice_get}
use Rattle.std.proofs.lemmas.List.{append-nil, length-append, length-take, length-drop, take-append-drop, take-append-le}
use Rattle.std.proofs.lemmas.Option.{slice_get-get_or}
use Rattle.std.proofs.Math.Seq.{take-add, take-append-add}
use Rattle.intent_log.specs.Checking.{Begins}
use Rattle.intent_log.specs.Told.{GivesSome, DifferAt}
use Rattle.intent_log.proofs.TakenLaws.{begins_more}

get_behind : (front xs : List ℕ) (i : ℕ) → slice_get (front ++ xs) (length front + i) ≡ slice_get xs i
get_behind [] xs i = ap (slice_get xs) {x = 0 + i} (omega arith)
get_behind (b ∷ front) xs i =
    let at : suc (length front) + i ≡ suc (length front + i) = omega arith in
    ap (slice_get (b ∷ (front ++ xs))) at ∙ get_behind front xs i

get_before : (xs a : List ℕ) (i : ℕ) → i < length xs → slice_get (xs ++ a) i ≡ slice_get xs i
get_before [] a i lt = absurd (omega arith)
get_before (x ∷ xs) a zero lt = refl
get_before (x ∷ xs) a (suc i) lt = get_before xs a i (omega arith)

-- behind a common front
pub differ_behind : (front xs ys : List ℕ) (i : ℕ) → DifferAt xs ys i → DifferAt (front ++ xs) (front ++ ys) (length front + i)
differ_behind front xs ys i d = record {
  same = take-append-add front xs i ∙ ap (λ (l : List ℕ). front ++ l) d.same ∙ sym (take-append-add front ys i);
  differ = λ e. d.differ (sym (get_behind front xs i) ∙ e ∙ get_behind front ys i);
}

-- whatever follows
differ_before : (xs ys a b : List ℕ) (i : ℕ) → DifferAt xs ys i → i < length xs → i < length ys → DifferAt (xs ++ a) (ys ++ b) i
differ_before xs ys a b i d x y =
    let p : i ≤ length xs = omega arith in
    let q : i ≤ length ys = omega arith in
    record {
      same = take-append-le i xs a p ∙ d.same ∙ sym (take-append-le i ys b q);
      differ = λ e. d.differ (sym (get_before xs a i x) ∙ e ∙ get_before ys b i y);
    }

-- one more byte is the same
pub take_more : (xs ys : List ℕ) (i : ℕ) → take i xs ≡ take i ys → i < length xs → i < length ys → get_or xs i 0 ≡ get_or ys i 0 → take (i + 1) xs ≡ take (i + 1) ys
take_more [] ys i e x y g = absurd (omega arith)
take_more (a ∷ xs) [] i e x y g = absurd (omega arith)
take_more (a ∷ xs) (b ∷ ys) zero e x y g = ap (λ (c : ℕ). c ∷ []) g
take_more (a ∷ xs) (b ∷ ys) (suc i) e x y g =
    let n : suc i + 1 ≡ suc (i + 1) = omega arith in
    let heads : a ≡ b = cc in
    let tails : take i xs ≡ take i ys = cc in
    let rest = take_more xs ys i tails (omega arith) (omega arith) g in
    rw n (ap (λ (c : ℕ). c ∷ take (i + 1) xs) heads ∙ ap (λ (l : List ℕ). b ∷ l) rest)

pub differ_here : (xs ys : List ℕ) (i : ℕ) → take i xs ≡ take i ys → i < length xs → i < length ys → get_or xs i 0 ≢ get_or ys i 0 → DifferAt xs ys i
differ_here xs ys i e x y g = record {
  same = e;
  differ = λ h.
      let both : Some (get_or xs i 0) ≡ Some (get_or ys i 0) = sym (slice_get-get_or xs i 0 x) ∙ h ∙ slice_get-get_or ys i 0 y in
      g cc;
}

parts_of : (text : List ℕ) (done : ℕ) (front rest : List ℕ) → front ++ (text ++ rest) ≡ (front ++ take done text) ++ (drop done text ++ rest)
parts_of text done front rest =
    ap (λ (t : List ℕ). front ++ (t ++ rest)) (sym (take-append-drop done text)) ∙ ap (λ (t : List ℕ). front ++ t) (append_assoc (take done text) (drop done text) rest)
    ∙ sym (append_assoc front (take done text) (drop done text ++ rest))

module _ (told now : Option (List ℕ)) (text : List ℕ) (at done count : ℕ) (piece : List ℕ) (same : now ≡ told) (some : done < length text) (fits : count ≤ length piece)
    (gave : GivesSome now (at + done) count piece) where
  len : (front : List ℕ) → at ≡ length front → at + done ≡ length (front ++ take done text)
  len front is = omega (arith, length-append front (take done text), length-take done text, is)

  -- the next bytes are the text's
  pub goes_on : done + count ≤ length text → take count (drop done text) ≡ take count piece → (front : List ℕ) → at ≡ length front → Begins told (front ++ take done text)
      → Begins told (front ++ take (done + count) text)
  goes_on within alike front is b =
      let more = begins_more told now (front ++ take done text) piece (at + done) count same (len front is) fits b gave in
      let piece_is : (front ++ take done text) ++ take count piece ≡ front ++ take (done + count) text
      = append_assoc front (take done text) (take count piece) ∙ ap (λ (t : List ℕ). front ++ (take done text ++ t)) (sym alike) ∙ ap (λ (t : List ℕ). front ++ t) (sym (take-add done count text)) in
      subst (Begins told) piece_is more

  -- a byte differs
  pub changed : (i : ℕ) → i < count → i < length (drop done text) → DifferAt (take count piece) (drop done text) i → (front rest : List ℕ) → at ≡ length front → Begins told (front ++ take done text)
      → IfSome told (λ log. DifferAt log (front ++ (text ++ rest)) (at + done + i))
  changed i lt within d front rest is b =
      let more = begins_more told now (front ++ take done text) piece (at + done) count same (len front is) fits b gave in
      at_log told more
    where
      at_log : (t : Option (List ℕ)) → Begins t ((front ++ take done text) ++ take count piece) → IfSome t (λ log. DifferAt log (front ++ (text ++ rest)) (at + done + i))
      at_log None m = tt
      at_log (Some log) m =
          let before = front ++ take done text in
          let behind = drop (length (before ++ take count piece)) log in
          let here = differ_behind before (take count piece ++ behind) (drop done text ++ rest) i (differ_before (take count piece) (drop done text) behind rest i d (omega (arith, length-take count piece)) within) in
          let log_is : before ++ (take count piece ++ behind) ≡ log = sym (append_assoc before (take count piece) behind) ∙ sym m in
          let place : length before + i ≡ at + done + i = omega (arith, len front is) in
          subst (λ (l : List ℕ). DifferAt l (front ++ (text ++ rest)) (at + done + i)) log_is
          (subst (λ (t : List ℕ). DifferAt (before ++ (take count piece ++ behind)) t (at + done + i)) (sym (parts_of text done front rest))
          (subst (DifferAt (before ++ (take count piece ++ behind)) (before ++ (drop done text ++ rest))) place here))

no_bytes : (ys rest : List ℕ) → 0 < length ys → DifferAt [] (ys ++ rest) 0
no_bytes [] rest some = absurd (omega arith)
no_bytes (y ∷ ys) rest some = record { same = refl; differ = λ e. cc }

drop_none : (n : ℕ) → drop {A = ℕ} n [] ≡ []
drop_none zero = refl
drop_none (suc n) = refl

drop_all : (n : ℕ) (xs : List ℕ) → length xs ≤ n → drop n xs ≡ []
drop_all n [] le = drop_none n
drop_all zero (x ∷ xs) le = absurd (omega arith)
drop_all (suc n) (x ∷ xs) le = drop_all n xs (omega arith)

-- the log ends where the text goes on
pub missing : (told now : Option (List ℕ)) (text : List ℕ) (at done : ℕ) (piece : List ℕ) → now ≡ told → done < length text → GivesSome now (at + done) 0 piece → (front rest : List ℕ)
    → at ≡ length front → Begins told (front ++ take done text) → IfSome told (λ log. DifferAt log (front ++ (text ++ rest)) (at + done))
missing None now text at done piece same some gave front rest is b = tt
missing (Some log) None text at done piece same some gave front rest is b = absurd cc
missing (Some log) (Some other) text at done piece same some gave front rest is b =
    let alike : other ≡ log = cc in
    let before = front ++ take done text in
    let len : at + done ≡ length before = omega (arith, length-append front (take done text), length-take done text, is) in
    let short : length log ≤ at + done = subst (λ (l : List ℕ). length l ≤ at + done) alike (gave.1 refl) in
    let ended : log ≡ before ++ [] = b ∙ ap (λ (l : List ℕ). before ++ l) (drop_all (length before) log (omega (arith, len, short))) in
    let here = differ_behind before [] (drop done text ++ rest) 0 (no_bytes (drop done text) rest (omega (arith, length-drop done text))) in
    let place : length before + 0 ≡ at + done = omega (arith, len) in
    subst (λ (l : List ℕ). DifferAt l (front ++ (text ++ rest)) (at + done)) (sym ended)
    (subst (λ (t : List ℕ). DifferAt (before ++ []) t (at + done)) (sym (parts_of text done front rest))
    (subst (DifferAt (before ++ []) (before ++ (drop done text ++ rest))) place here))

-- nothing follows the text
pub ended : (told : Option (List ℕ)) (at : ℕ) (piece front : List ℕ) → GivesSome told at 0 piece → at ≡ length front → Begins told front → IfSome told (λ log. log ≡ front)
ended None at piece front gave is b = tt
ended (Some log) at piece front gave is b =
    b ∙ ap (λ (l : List ℕ). front ++ l) (drop_all (length front) log (let short = gave.1 refl in omega (arith, is, short))) ∙ append-nil front

one_byte : (xs : List ℕ) → 0 < length xs → DifferAt xs [] 0
one_byte [] some = absurd (omega arith)
one_byte (x ∷ xs) some = record { same = refl; differ = λ e. cc }

-- a byte follows the text
pub further : (told : Option (List ℕ)) (at count : ℕ) (piece front : List ℕ) → 0 < count → count ≤ length piece → GivesSome told at count piece → at ≡ length front → Begins told front
    → IfSome told (λ log. DifferAt log front at)
further None at count piece front some fits gave is b = tt
further (Some log) at count piece front some fits gave is b =
    let rest = drop (length front) log in
    let many : count ≤ length (drop at log) = omega (arith, ap length gave.0, length-take count piece, length-take count (drop at log)) in
    let there : 0 < length rest = subst (λ (n : ℕ). 0 < length (drop n log)) is (omega (arith, many)) in
    let here = differ_behind front rest [] 0 (one_byte rest there) in
    let place : length front + 0 ≡ at = omega (arith, is) in
    subst (λ (l : List ℕ). DifferAt l front at) (sym b)
    (subst (λ (t : List ℕ). DifferAt (front ++ rest) t at) (append-nil front)
    (subst (DifferAt (front ++ rest) (front ++ [])) place here))
