-- What a reading function answers for bytes that begin a text, for bytes that are less than one, and for others.
use Rattle.std.proofs.Common.{◌≡◌, ℕ, ◌+◌, ◌<◌, ◌≤◌, List, [], ◌∷◌, ◌++◌, length, take, drop, Result, Ok, Err, inl, inr, refl, sym, ap, subst, ◌∙◌, append_assoc, zero-add, arith}
use Rattle.std.proofs.lemmas.Bool.{cases_lt}
use Rattle.std.proofs.lemmas.List.{append-nil, length-append, take_at, drop_at, take-append-drop, take-append-le, take-take}
use Rattle.switch_packet.specs.declared.fault.PacketFault.{PacketFault}
use Rattle.switch_packet.specs.declared.fault.PacketFault.TheVariants.{Short, BadByte}
use Rattle.switch_packet.specs.Fronts.{Begins, IsFront, IsBadAt}
use Rattle.switch_packet.specs.Reading.{Cursor, start}
use Rattle.switch_packet.proofs.Codecs.{IsBytes, cursor, StopsAt, IsCodec, ok_is}

module _ {X : Type 0} (text : X → List ℕ) (IsValid : X → Type 0) (read : Cursor → Result (X × Cursor) PacketFault) (codec : IsCodec text IsValid read) where
  -- no text begins another, and each is the text of one value
  pub texts_differ : (x y : X) (a b : List ℕ) → IsValid x → IsValid y → text x ++ a ≡ text y ++ b → (x ≡ y) × (a ≡ b)
  texts_differ x y a b v w e =
      let left : X × Cursor = (x, cursor (0 + length (text x)) a) in
      let right : X × Cursor = (y, cursor (0 + length (text y)) b) in
      let same = ok_is left right (sym (codec.again x 0 a v) ∙ ap (λ (bytes : List ℕ). read (cursor 0 bytes)) e ∙ codec.again y 0 b w) in
      (ap (λ (p : X × Cursor). p.0) same, ap (λ (p : X × Cursor). p.1.left) same)

  -- bytes that begin with a text
  pub found : (bytes : List ℕ) (x : X) (d : Cursor) → IsBytes bytes → read (start bytes) ≡ Ok (x, d) → IsValid x × (d.at ≤ length bytes) × (take d.at bytes ≡ text x) × (d.left ≡ drop d.at bytes)
  found bytes x d fits e =
      let t = codec.takes (start bytes) d x fits e in
      let at : length (text x) ≡ d.at = omega (arith, t.0.at) in
      (t.1, omega (arith, at, ap length t.0.parts, length-append (text x) d.left), ap (take d.at) t.0.parts ∙ take_at (text x) d.left d.at at, sym (ap (drop d.at) t.0.parts ∙ drop_at (text x) d.left d.at at))

  pub only : (bytes : List ℕ) (x : X) (rest : List ℕ) → IsValid x → bytes ≡ text x ++ rest → read (start bytes) ≡ Ok (x, cursor (length (text x)) rest)
  only bytes x rest v e =
      ap (λ (b : List ℕ). read (cursor 0 b)) e ∙ codec.again x 0 rest v ∙ ap (λ (n : ℕ). Ok (x, cursor n rest)) (zero-add (length (text x)))

  -- no text begins so that reading stops
  not_stopped : (place : ℕ) (c : Cursor) (s : StopsAt text IsValid read c place) (x : X) (other : List ℕ) → IsValid x → text x ≡ s.before ++ s.byte ∷ other → ⊥
  not_stopped place c s x other v e =
      let goes = codec.again x 0 [] v in
      let stops = s.always 0 other in
      let same : text x ++ [] ≡ s.before ++ s.byte ∷ other = append-nil (text x) ∙ e in
      let clash = sym (ap (λ (b : List ℕ). read (cursor 0 b)) same) ∙ goes in
      cc (sym stops ∙ clash)

  -- nor as another text and more
  not_longer : (x y : X) (a b : List ℕ) → IsValid x → IsValid y → text y ≡ text x ++ (a ++ b) → 0 < length b → ⊥
  not_longer x y a b v w e some =
      let same = texts_differ y x [] (a ++ b) w v (append-nil (text y) ∙ e) in
      omega (arith, ap length same.1, length-append a b)

  pub short : (bytes : List ℕ) → IsBytes bytes → read (start bytes) ≡ Err Short → IsFront text IsValid bytes
  short bytes fits e = codec.short (start bytes) fits e

  short_by : (bytes : List ℕ) (r : Result (X × Cursor) PacketFault) → IsBytes bytes → IsFront text IsValid bytes → read (start bytes) ≡ r → r ≡ Err Short
  short_by bytes (Ok p) fits f e =
      let t = codec.takes (start bytes) p.1 p.0 fits e in
      absurd (not_longer p.0 f.whole p.1.left f.more t.1 f.valid (f.parts ∙ ap (λ (b : List ℕ). b ++ f.more) t.0.parts ∙ append_assoc (text p.0) p.1.left f.more) f.rest)
  short_by bytes (Err Short) fits f e = refl
  short_by bytes (Err (BadByte place)) fits f e =
      let s = codec.bad (start bytes) place fits e in
      absurd (not_stopped place (start bytes) s f.whole (s.after ++ f.more) f.valid (f.parts ∙ ap (λ (b : List ℕ). b ++ f.more) s.parts ∙ append_assoc s.before (s.byte ∷ s.after) f.more))

  pub short_only : (bytes : List ℕ) → IsBytes bytes → IsFront text IsValid bytes → read (start bytes) ≡ Err Short
  short_only bytes fits f = short_by bytes (read (start bytes)) fits f refl

  take_past : (before : List ℕ) (byte : ℕ) (after : List ℕ) → take (length before + 1) (before ++ byte ∷ after) ≡ before ++ byte ∷ []
  take_past before byte after =
      let len : length (before ++ byte ∷ []) ≡ length before + 1 = length-append before (byte ∷ []) in
      ap (take (length before + 1)) (sym (append_assoc before (byte ∷ []) after)) ∙ take_at (before ++ byte ∷ []) after (length before + 1) len

  pub bad : (bytes : List ℕ) (place : ℕ) → IsBytes bytes → read (start bytes) ≡ Err (BadByte place) → IsBadAt text IsValid bytes place
  bad bytes place fits e =
      let s = codec.bad (start bytes) place fits e in
      let at : length s.before ≡ place = omega (arith, s.at) in
      let front : take place bytes ≡ s.before = ap (take place) s.parts ∙ take_at s.before (s.byte ∷ s.after) place at in
      let past : take (place + 1) bytes ≡ s.before ++ s.byte ∷ [] = ap (take (place + 1)) s.parts ∙ subst (λ (n : ℕ). take (n + 1) (s.before ++ s.byte ∷ s.after) ≡ s.before ++ s.byte ∷ []) at (take_past s.before s.byte s.after) in
      record {
        within = omega (arith, at, ap length s.parts, length-append s.before (s.byte ∷ s.after));
        before = rw front s.front;
        none = λ b. not_stopped place (start bytes) s b.whole b.more b.valid (b.parts ∙ ap (λ (t : List ℕ). t ++ b.more) past ∙ append_assoc s.before (s.byte ∷ []) b.more);
      }

  -- the front of a text, cut shorter, begins that text
  cut_begins : (bytes : List ℕ) (n : ℕ) (x : X) (more : List ℕ) → IsValid x → text x ≡ bytes ++ more → Begins text IsValid (take n bytes)
  cut_begins bytes n x more v e = record {
    whole = x;
    valid = v;
    more = drop n bytes ++ more;
    parts = e ∙ ap (λ (b : List ℕ). b ++ more) (sym (take-append-drop n bytes)) ∙ append_assoc (take n bytes) (drop n bytes) more;
  }

  -- what a longer front begins with, it begins with
  front_splits : (bytes front : List ℕ) (n m : ℕ) → n ≤ m → take n bytes ≡ front → take m bytes ≡ front ++ drop n (take m bytes)
  front_splits bytes front n m le e = sym (take-append-drop n (take m bytes)) ∙ ap (λ (b : List ℕ). b ++ drop n (take m bytes)) (take-take n m bytes le ∙ e)

  bad_by : (bytes : List ℕ) (place : ℕ) (r : Result (X × Cursor) PacketFault) → IsBytes bytes → IsBadAt text IsValid bytes place → read (start bytes) ≡ r → r ≡ Err (BadByte place)
  bad_by bytes place (Ok p) fits b e =
      let t = codec.takes (start bytes) p.1 p.0 fits e in
      let whole = text p.0 in
      elim (cases_lt place (length whole)) [
        | inl within ↦
            let cut : take (place + 1) bytes ≡ take (place + 1) whole = ap (take (place + 1)) t.0.parts ∙ take-append-le (place + 1) whole p.1.left (omega arith) in
            absurd (b.none (rw cut (cut_begins whole (place + 1) p.0 [] t.1 (sym (append-nil whole)))))
        | inr past ↦
            let f = b.before in
            let first : take (length whole) bytes ≡ whole = ap (take (length whole)) t.0.parts ∙ take_at whole p.1.left (length whole) refl in
            let parts = front_splits bytes whole (length whole) place past first in
            absurd (not_longer p.0 f.whole (drop (length whole) (take place bytes)) f.more t.1 f.valid (f.parts ∙ ap (λ (l : List ℕ). l ++ f.more) parts ∙ append_assoc whole (drop (length whole) (take place bytes)) f.more) f.rest)
      ]
  bad_by bytes place (Err Short) fits b e =
      let f = codec.short (start bytes) fits e in
      absurd (b.none (cut_begins bytes (place + 1) f.whole f.more f.valid f.parts))
  bad_by bytes place (Err (BadByte other)) fits b e =
      let s = codec.bad (start bytes) other fits e in
      let at : length s.before ≡ other = omega (arith, s.at) in
      let past : take (other + 1) bytes ≡ s.before ++ s.byte ∷ [] = ap (take (other + 1)) s.parts ∙ subst (λ (n : ℕ). take (n + 1) (s.before ++ s.byte ∷ s.after) ≡ s.before ++ s.byte ∷ []) at (take_past s.before s.byte s.after) in
      elim (cases_lt other place) [
        | inl below ↦
            let f = b.before in
            let rest = drop (other + 1) (take place bytes) in
            let parts = front_splits bytes (s.before ++ s.byte ∷ []) (other + 1) place (omega arith) past in
            absurd (not_stopped other (start bytes) s f.whole (rest ++ f.more) f.valid
            (f.parts ∙ ap (λ (l : List ℕ). l ++ f.more) parts ∙ append_assoc (s.before ++ s.byte ∷ []) rest f.more ∙ append_assoc s.before (s.byte ∷ []) (rest ++ f.more)))
        | inr above ↦
            elim (cases_lt place other) [
              | inl before ↦
                  let cut : take (place + 1) bytes ≡ take (place + 1) s.before = ap (take (place + 1)) s.parts ∙ take-append-le (place + 1) s.before (s.byte ∷ s.after) (omega arith) in
                  absurd (b.none (rw cut (cut_begins s.before (place + 1) s.front.whole s.front.more s.front.valid s.front.parts)))
              | inr after ↦ let same : other ≡ place = omega arith in ap (λ (n : ℕ). Err (BadByte n)) same
            ]
      ]

  pub bad_only : (bytes : List ℕ) (place : ℕ) → IsBytes bytes → IsBadAt text IsValid bytes place → read (start bytes) ≡ Err (BadByte place)
  bad_only bytes place fits b = bad_by bytes place (read (start bytes)) fits b refl
