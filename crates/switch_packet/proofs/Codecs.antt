-- What a reading function does, told by the texts of the values that it reads, and how one is made of others.
use Rattle.std.proofs.Common.{◌≡◌, ℕ, zero, suc, ◌+◌, ◌<◌, ◌≤◌, Bool, true, false, cond, ◌||◌, ◌==◌, IsTrue, List, [], ◌∷◌, ◌++◌, length, get_or, replicate, Result, Ok, Err, ◌⊎◌, inl, inr, refl, sym, ap, subst, ◌∙◌, append_assoc, add-zero, arith}
use Rattle.std.specs.Int.{is_in_range}
use Rattle.std.proofs.lemmas.Bool.Decides.{nat_tests}
use Rattle.std.specs.List.{flat_map}
use Rattle.std.proofs.lemmas.List.{append-nil, length-append, nil_from_length}
use Rattle.switch_packet.specs.declared.fault.PacketFault.{PacketFault}
use Rattle.switch_packet.specs.declared.fault.PacketFault.TheVariants.{Short, BadByte}
use Rattle.switch_packet.specs.Fronts.{IsFront}
use Rattle.switch_packet.specs.Reading.{Cursor, ◌>>=◌, byte_in, byte_by, byte_at, either_at, each_at}

-- ---- bytes

abbrev pub IsBytes : List ℕ → Type 0
IsBytes bytes = (i : ℕ) → get_or bytes i 0 < 256

pub IsBytes-right : (a b : List ℕ) → IsBytes (a ++ b) → IsBytes b
IsBytes-right [] b h i = h i
IsBytes-right (x ∷ a) b h i = IsBytes-right a b (λ k. h (suc k)) i

pub IsBytes-left : (a b : List ℕ) → IsBytes (a ++ b) → IsBytes a
IsBytes-left [] b h i = omega arith
IsBytes-left (x ∷ a) b h zero = h 0
IsBytes-left (x ∷ a) b h (suc i) = IsBytes-left a b (λ k. h (suc k)) i

pub IsBytes-append : (a b : List ℕ) → IsBytes a → IsBytes b → IsBytes (a ++ b)
IsBytes-append [] b p q i = q i
IsBytes-append (x ∷ a) b p q zero = p 0
IsBytes-append (x ∷ a) b p q (suc i) = IsBytes-append a b (λ k. p (suc k)) q i

pub IsBytes-zeros : (n : ℕ) → IsBytes (replicate n 0)
IsBytes-zeros zero i = omega arith
IsBytes-zeros (suc n) zero = omega arith
IsBytes-zeros (suc n) (suc i) = IsBytes-zeros n i

-- ---- what a reading function does

abbrev pub cursor : ℕ → List ℕ → Cursor
cursor at left = record { at = at; left = left }

-- reading took this text
pub record Takes (c d : Cursor) (text : List ℕ) : Type 0 where
  pub parts : c.left ≡ text ++ d.left
  pub at : d.at ≡ c.at + length text

-- reading stops at a bad byte, whatever stands behind it
pub record StopsAt {X : Type 0} (text : X → List ℕ) (IsValid : X → Type 0) (read : Cursor → Result (X × Cursor) PacketFault) (c : Cursor) (place : ℕ) : Type 0 where
  pub before : List ℕ
  pub byte : ℕ
  pub after : List ℕ
  pub parts : c.left ≡ before ++ byte ∷ after
  pub at : place ≡ c.at + length before
  pub front : IsFront text IsValid before
  pub always : (at : ℕ) (other : List ℕ) → read (cursor at (before ++ byte ∷ other)) ≡ Err (BadByte (at + length before))

-- what is read is spelled so, what is spelled so is read, and each fault has its cause
pub record IsCodec {X : Type 0} (text : X → List ℕ) (IsValid : X → Type 0) (read : Cursor → Result (X × Cursor) PacketFault) : Type 0 where
  pub some : X
  pub some_valid : IsValid some
  pub takes : (c d : Cursor) (x : X) → IsBytes c.left → read c ≡ Ok (x, d) → Takes c d (text x) × IsValid x
  pub again : (x : X) (at : ℕ) (rest : List ℕ) → IsValid x → read (cursor at (text x ++ rest)) ≡ Ok (x, cursor (at + length (text x)) rest)
  pub short : (c : Cursor) → IsBytes c.left → read c ≡ Err Short → IsFront text IsValid c.left
  pub bad : (c : Cursor) (place : ℕ) → IsBytes c.left → read c ≡ Err (BadByte place) → StopsAt text IsValid read c place

-- ---- a byte that passes a test

guard_ok : {A : Type 0} (b : Bool) (d : PacketFault) (x y : A) → cond b (Ok x) (Err d) ≡ Ok y → (b ≡ true) × (x ≡ y)
guard_ok true d x y e = (refl, cc)
guard_ok false d x y e = absurd cc

guard_short : {A : Type 0} (b : Bool) (at : ℕ) (x : A) → cond b (Ok x) (Err (BadByte at)) ≡ Err Short → ⊥
guard_short true at x e = cc
guard_short false at x e = cc

guard_bad : {A : Type 0} (b : Bool) (at place : ℕ) (x : A) → cond b (Ok x) (Err (BadByte at)) ≡ Err (BadByte place) → (b ≡ false) × (at ≡ place)
guard_bad true at place x e = absurd cc
guard_bad false at place x e = (refl, cc)

module _ (is_good : ℕ → Bool) (some : ℕ) (some_good : IsTrue (is_good some)) where
  abbrev IsGood : ℕ → Type 0
  IsGood b = IsTrue (is_good b)

  byte_takes : (at : ℕ) (left : List ℕ) (d : Cursor) (x : ℕ) → byte_in is_good at left ≡ Ok (x, d) → Takes (cursor at left) d (x ∷ []) × IsGood x
  byte_takes at [] d x e = absurd cc
  byte_takes at (b ∷ rest) d x e =
      let made : ℕ × Cursor = (b, cursor (at + 1) rest) in
      let g = guard_ok (is_good b) (BadByte at) made (x, d) e in
      subst (λ (p : ℕ × Cursor). Takes (cursor at (b ∷ rest)) p.1 (p.0 ∷ []) × IsGood p.0) g.1 (record { parts = refl; at = refl }, g.0)

  byte_short : (at : ℕ) (left : List ℕ) → byte_in is_good at left ≡ Err Short → left ≡ []
  byte_short at [] e = refl
  byte_short at (b ∷ rest) e = absurd (guard_short (is_good b) at (b, cursor (at + 1) rest) e)

  -- no byte yet
  byte_front : IsFront (λ (b : ℕ). b ∷ []) IsGood []
  byte_front = record { whole = some; valid = some_good; more = some ∷ []; rest = omega arith; parts = refl }

  byte_bad : (at : ℕ) (left : List ℕ) (place : ℕ) → byte_in is_good at left ≡ Err (BadByte place) → StopsAt (λ (b : ℕ). b ∷ []) IsGood (byte_by is_good) (cursor at left) place
  byte_bad at [] place e = absurd cc
  byte_bad at (b ∷ rest) place e =
      let g = guard_bad (is_good b) at place (b, cursor (at + 1) rest) e in
      record { before = []; byte = b; after = rest; parts = refl; at = omega (arith, g.1); front = byte_front; always = λ start other. rw (g.0, add-zero) refl }

  pub test_codec : IsCodec (λ b. b ∷ []) (λ b. IsTrue (is_good b)) (byte_by is_good)
  test_codec = record {
    some = some;
    some_valid = some_good;
    takes = λ c d x fits e. byte_takes c.at c.left d x e;
    again = λ x at rest v. rw v refl;
    short = λ c fits e. rw (byte_short c.at c.left e) byte_front;
    bad = λ c place fits e. byte_bad c.at c.left place e;
  }

-- ---- one value made of others

-- the value of a step that did not fail
pub bind_ok : {A B : Type 0} (r : Result A PacketFault) (f : A → Result B PacketFault) (y : B) → (r >>= f) ≡ Ok y → (x : A) × (r ≡ Ok x) × (f x ≡ Ok y)
bind_ok (Ok x) f y e = (x, refl, e)
bind_ok (Err d) f y e = absurd cc

-- the step that failed
pub bind_err : {A B : Type 0} (r : Result A PacketFault) (f : A → Result B PacketFault) (d : PacketFault) → (r >>= f) ≡ Err d → (r ≡ Err d) ⊎ ((x : A) × (r ≡ Ok x) × (f x ≡ Err d))
bind_err (Ok x) f d e = inr (x, refl, e)
bind_err (Err g) f d e = let same : g ≡ d = cc in rw same (inl refl)

pub ok_is : {A : Type 0} (x y : A) → ◌≡◌ {A = Result A PacketFault} (Ok x) (Ok y) → x ≡ y
ok_is x y e = cc

-- nothing is left to read, and the value is known
pub done_codec : {X : Type 0} (made : X) (IsValid : X → Type 0) → IsValid made → ((x : X) → IsValid x → x ≡ made) → IsCodec (λ (x : X). []) IsValid (λ c. Ok (made, c))
done_codec {X} made IsValid valid only = record {
  some = made;
  some_valid = valid;
  takes = λ c d x fits e.
      let made_pair : X × Cursor = (made, c) in
      subst (λ (p : X × Cursor). Takes c p.1 [] × IsValid p.0) (ok_is made_pair (x, d) e) (record { parts = refl; at = omega arith }, valid);
  again = λ x at rest v. rw (only x v, add-zero) refl;
  short = λ c fits e. absurd cc;
  bad = λ c place fits e. absurd cc;
}

-- a first part, and then the rest of a value that begins with it
module _ {A Y : Type 0} (textA : A → List ℕ) (ValidA : A → Type 0) (readA : Cursor → Result (A × Cursor) PacketFault) (first : IsCodec textA ValidA readA)
    (textR : A → Y → List ℕ) (ValidR : A → Y → Type 0) (readR : A → Cursor → Result (Y × Cursor) PacketFault) (rest : (a : A) → ValidA a → IsCodec (textR a) (ValidR a) (readR a))
    (text : Y → List ℕ) (IsValid : Y → Type 0) (splits : (y : Y) → IsValid y → (a : A) × ValidA a × ValidR a y)
    (joins : (a : A) (y : Y) → ValidA a → ValidR a y → IsValid y × (text y ≡ textA a ++ textR a y)) where
  abbrev both : Cursor → Result (Y × Cursor) PacketFault
  both c = readA c >>= λ a. readR a.0 a.1

  both_takes : (c d : Cursor) (y : Y) → IsBytes c.left → both c ≡ Ok (y, d) → Takes c d (text y) × IsValid y
  both_takes c d y fits e =
      let step = bind_ok (readA c) (λ a. readR a.0 a.1) (y, d) e in
      let a = step.0.0 in
      let mid = step.0.1 in
      let t = first.takes c mid a fits step.1 in
      let u = (rest a t.1).takes mid d y (IsBytes-right (textA a) mid.left (subst IsBytes t.0.parts fits)) step.2 in
      let j = joins a y t.1 u.1 in (
        record {
          parts = t.0.parts ∙ ap (λ (l : List ℕ). textA a ++ l) u.0.parts ∙ sym (append_assoc (textA a) (textR a y) d.left) ∙ ap (λ (l : List ℕ). l ++ d.left) (sym j.1);
          at = omega (arith, u.0.at, t.0.at, ap length j.1, length-append (textA a) (textR a y));
        },
        j.0,
      )

  both_again : (y : Y) (at : ℕ) (more : List ℕ) → IsValid y → both (cursor at (text y ++ more)) ≡ Ok (y, cursor (at + length (text y)) more)
  both_again y at more v =
      let s = splits y v in
      let a = s.0 in
      let j = joins a y s.1 s.2 in
      let regrouped : text y ++ more ≡ textA a ++ (textR a y ++ more) = ap (λ (l : List ℕ). l ++ more) j.1 ∙ append_assoc (textA a) (textR a y) more in
      let len : at + length (textA a) + length (textR a y) ≡ at + length (text y) = omega (arith, ap length j.1, length-append (textA a) (textR a y)) in
      ap (λ (l : List ℕ). both (cursor at l)) regrouped
      ∙ ap (λ (r : Result (A × Cursor) PacketFault). r >>= λ a. readR a.0 a.1) (first.again a at (textR a y ++ more) s.1)
      ∙ (rest a s.1).again y (at + length (textA a)) more s.2
      ∙ ap (λ (n : ℕ). Ok (y, cursor n more)) len

  -- the front of a first part is the front of a whole
  first_front : (bytes : List ℕ) → IsFront textA ValidA bytes → IsFront text IsValid bytes
  first_front bytes f =
      let r = rest f.whole f.valid in
      let j = joins f.whole r.some f.valid r.some_valid in
      record {
        whole = r.some;
        valid = j.0;
        more = f.more ++ textR f.whole r.some;
        rest = omega (arith, f.rest, length-append f.more (textR f.whole r.some));
        parts = j.1 ∙ ap (λ (l : List ℕ). l ++ textR f.whole r.some) f.parts ∙ append_assoc bytes f.more (textR f.whole r.some);
      }

  -- so is a first part and the front of the rest
  rest_front : (a : A) (bytes : List ℕ) → ValidA a → IsFront (textR a) (ValidR a) bytes → IsFront text IsValid (textA a ++ bytes)
  rest_front a bytes v f =
      let j = joins a f.whole v f.valid in
      record { whole = f.whole; valid = j.0; more = f.more; rest = f.rest; parts = j.1 ∙ ap (λ (l : List ℕ). textA a ++ l) f.parts ∙ sym (append_assoc (textA a) bytes f.more) }

  both_short : (c : Cursor) → IsBytes c.left → both c ≡ Err Short → IsFront text IsValid c.left
  both_short c fits e =
      elim (bind_err (readA c) (λ a. readR a.0 a.1) Short e) [
        | inl failed ↦ first_front c.left (first.short c fits failed)
        | inr step ↦
            let a = step.0.0 in
            let mid = step.0.1 in
            let t = first.takes c mid a fits step.1 in
            let f = (rest a t.1).short mid (IsBytes-right (textA a) mid.left (subst IsBytes t.0.parts fits)) step.2 in
            rw t.0.parts (rest_front a mid.left t.1 f)
      ]

  both_bad : (c : Cursor) (place : ℕ) → IsBytes c.left → both c ≡ Err (BadByte place) → StopsAt text IsValid both c place
  both_bad c place fits e =
      elim (bind_err (readA c) (λ a. readR a.0 a.1) (BadByte place) e) [
        | inl failed ↦
            let s = first.bad c place fits failed in
            record {
              before = s.before;
              byte = s.byte;
              after = s.after;
              parts = s.parts;
              at = s.at;
              front = first_front s.before s.front;
              always = λ at other. ap (λ (r : Result (A × Cursor) PacketFault). r >>= λ a. readR a.0 a.1) (s.always at other);
            }
        | inr step ↦
            let a = step.0.0 in
            let mid = step.0.1 in
            let t = first.takes c mid a fits step.1 in
            let s = (rest a t.1).bad mid place (IsBytes-right (textA a) mid.left (subst IsBytes t.0.parts fits)) step.2 in
            let len = length-append (textA a) s.before in
            record {
              before = textA a ++ s.before;
              byte = s.byte;
              after = s.after;
              parts = t.0.parts ∙ ap (λ (l : List ℕ). textA a ++ l) s.parts ∙ sym (append_assoc (textA a) s.before (s.byte ∷ s.after));
              at = omega (arith, s.at, t.0.at, len);
              front = rest_front a s.before t.1 s.front;
              always = λ at other.
                  let behind : at + length (textA a) + length s.before ≡ at + length (textA a ++ s.before) = omega (arith, len) in
                  ap (λ (l : List ℕ). both (cursor at l)) (append_assoc (textA a) s.before (s.byte ∷ other))
                  ∙ ap (λ (r : Result (A × Cursor) PacketFault). r >>= λ a. readR a.0 a.1) (first.again a at (s.before ++ s.byte ∷ other) t.1)
                  ∙ s.always (at + length (textA a)) other
                  ∙ ap (λ (n : ℕ). Err (BadByte n)) behind;
            }
      ]

  pub bind_codec : IsCodec text IsValid both
  bind_codec =
      let some_rest = rest first.some first.some_valid in
      record {
        some = some_rest.some;
        some_valid = (joins first.some some_rest.some first.some_valid some_rest.some_valid).0;
        takes = both_takes;
        again = both_again;
        short = both_short;
        bad = both_bad;
      }

-- the same, where the first part is a function of the whole, and the rest has one spelling
pub field_codec : {A Y : Type 0} {textA : A → List ℕ} {ValidA : A → Type 0} {readA : Cursor → Result (A × Cursor) PacketFault} {textR : Y → List ℕ} {IsValid : Y → Type 0}
    {readR : A → Cursor → Result (Y × Cursor) PacketFault} → IsCodec textA ValidA readA → (part : Y → A) → ((y : Y) → IsValid y → ValidA (part y))
    → ((a : A) → ValidA a → IsCodec textR (λ y. IsValid y × (part y ≡ a)) (readR a)) → IsCodec (λ y. textA (part y) ++ textR y) IsValid (λ c. readA c >>= λ a. readR a.0 a.1)
field_codec {A} {Y} {textA} {ValidA} {readA} {textR} {IsValid} {readR} first part fits rest =
    bind_codec textA ValidA readA first (λ a. textR) (λ a y. IsValid y × (part y ≡ a)) readR rest (λ y. textA (part y) ++ textR y) IsValid
    (λ y v. (part y, fits y v, (v, refl)))
    (λ a y v r. (r.0, ap (λ (x : A). textA x ++ textR y) r.1))

-- the same reading under another spelling of its texts, or another name of what is valid
pub recast : {X : Type 0} {text : X → List ℕ} {IsValid : X → Type 0} {read : Cursor → Result (X × Cursor) PacketFault} (text' : X → List ℕ) (IsValid' : X → Type 0) → IsCodec text IsValid read
    → ((x : X) → IsValid' x → IsValid x) → ((x : X) → IsValid x → IsValid' x) → ((x : X) → IsValid x → text x ≡ text' x) → IsCodec text' IsValid' read
recast {X} {text} {IsValid} {read} text' IsValid' codec to from same =
    let front : (bytes : List ℕ) → IsFront text IsValid bytes → IsFront text' IsValid' bytes
    = λ bytes f. record { whole = f.whole; valid = from f.whole f.valid; more = f.more; rest = f.rest; parts = sym (same f.whole f.valid) ∙ f.parts } in
    record {
      some = codec.some;
      some_valid = from codec.some codec.some_valid;
      takes = λ c d x fits e. let t = codec.takes c d x fits e in (subst (Takes c d) (same x t.1) t.0, from x t.1);
      again = λ x at rest v. subst (λ (t : List ℕ). read (cursor at (t ++ rest)) ≡ Ok (x, cursor (at + length t) rest)) (same x (to x v)) (codec.again x at rest (to x v));
      short = λ c fits e. front c.left (codec.short c fits e);
      bad = λ c place fits e. let s = codec.bad c place fits e in record { before = s.before; byte = s.byte; after = s.after; parts = s.parts; at = s.at; front = front s.before s.front; always = s.always };
    }

-- ---- a byte in a range, and one of two bytes

in_range : (least most b : ℕ) → IsTrue (is_in_range least most b) → (least ≤ b) × (b ≤ most)
in_range least most b h = (grind (arith, nat_tests), grind (arith, nat_tests))

is_inside : (least most b : ℕ) → (least ≤ b) × (b ≤ most) → IsTrue (is_in_range least most b)
is_inside least most b v = let low = v.0 in let high = v.1 in grind (arith, nat_tests)

pub byte_codec : (least most : ℕ) → least ≤ most → IsCodec (λ b. b ∷ []) (λ b. (least ≤ b) × (b ≤ most)) (byte_at least most)
byte_codec least most some =
    recast (λ b. b ∷ []) (λ b. (least ≤ b) × (b ≤ most)) (test_codec (is_in_range least most) least (is_inside least most least (omega arith, some)))
    (is_inside least most) (in_range least most) (λ b v. refl)

one_or_other : (one other b : ℕ) → IsTrue (b == one || b == other) → (b ≡ one) ⊎ (b ≡ other)
one_or_other one other b h = grind (arith, nat_tests)

is_either : (one other b : ℕ) → (b ≡ one) ⊎ (b ≡ other) → IsTrue (b == one || b == other)
is_either one other b h = grind (arith, nat_tests)

pub either_codec : (one other : ℕ) → IsCodec (λ b. b ∷ []) (λ b. (b ≡ one) ⊎ (b ≡ other)) (either_at one other)
either_codec one other =
    recast (λ b. b ∷ []) (λ b. (b ≡ one) ⊎ (b ≡ other)) (test_codec (λ b. b == one || b == other) one (is_either one other one (inl refl)))
    (is_either one other) (one_or_other one other) (λ b v. refl)

-- ---- values one after the other

-- the values are valid at their numbers, the first of them being number k
abbrev pub EachIs : {X : Type 0} → (ℕ → X → Type 0) → ℕ → List X → Type 0
EachIs IsValid k [] = Unit {0}
EachIs IsValid k (x ∷ xs) = IsValid k x × EachIs IsValid (k + 1) xs

abbrev tail : {X : Type 0} → List X → List X
tail [] = []
tail (x ∷ xs) = xs

module _ {X : Type 0} (text : X → List ℕ) (IsValid : ℕ → X → Type 0) (read : ℕ → Cursor → Result (X × Cursor) PacketFault) (item : (k : ℕ) → IsCodec text (IsValid k) (read k)) where
  abbrev pub AreValid : ℕ → ℕ → List X → Type 0
  AreValid n k xs = (length xs ≡ n) × EachIs IsValid k xs

  -- the list begins with x, and n more follow
  abbrev BeginsWith : ℕ → ℕ → X → List X → Type 0
  BeginsWith n k x ys = (ys ≡ x ∷ tail ys) × AreValid n (k + 1) (tail ys)

  splits_first : (n k : ℕ) (xs : List X) → AreValid (suc n) k xs → (x : X) × IsValid k x × BeginsWith n k x xs
  splits_first n k [] v = absurd (omega (arith, v.0))
  splits_first n k (x ∷ xs) v = (x, v.1.0, (refl, (omega (arith, v.0), v.1.1)))

  joins_first : (n k : ℕ) (x : X) (ys : List X) → IsValid k x → BeginsWith n k x ys → AreValid (suc n) k ys × (flat_map text ys ≡ text x ++ flat_map text (tail ys))
  joins_first n k x [] v b = absurd cc
  joins_first n k x (y ∷ ys) v b =
      let same : y ≡ x = cc in
      ((omega (arith, b.1.0), (subst (IsValid k) (sym same) v, b.1.1)), ap (λ (z : X). text z ++ flat_map text ys) same)

  pub each_codec : (n k : ℕ) → IsCodec (flat_map text) (AreValid n k) (each_at read k n)
  unfolding each_at
  each_codec zero k =
      recast (flat_map text) (AreValid zero k) (done_codec [] (AreValid zero k) (refl, tt) (λ xs v. nil_from_length xs v.0)) (λ xs v. v) (λ xs v. v)
      (λ xs v. ap (flat_map text) (sym (nil_from_length xs v.0)))
  each_codec (suc n) k =
      bind_codec text (IsValid k) (read k) (item k) (λ x ys. flat_map text (tail ys)) (λ x ys. BeginsWith n k x ys) (λ x c. each_at read (k + 1) n c >>= λ xs. Ok (x ∷ xs.0, xs.1))
      (λ x v.
      recast (λ ys. flat_map text (tail ys)) (BeginsWith n k x)
      (field_codec (each_codec n (k + 1)) tail (λ ys b. b.1) (λ xs w. done_codec (x ∷ xs) (λ ys. BeginsWith n k x ys × (tail ys ≡ xs)) ((refl, w), refl) (λ ys b. b.0.0 ∙ ap (λ (zs : List X). x ∷ zs) b.1)))
      (λ ys b. b) (λ ys b. b) (λ ys b. append-nil (flat_map text (tail ys))))
      (flat_map text) (AreValid (suc n) k) (splits_first n k) (joins_first n k)
