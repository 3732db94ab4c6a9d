-- What a word looks like, as `clap` tests it.
use Rattle.std.proofs.Common.{◌≡◌, ◌∙◌, sym, ap, refl, ℕ, suc, Bool, true, false, List, [], ◌∷◌, length, chars, Some, None, IsUtf8, bytes_eq, ◌==◌, arith, encode_utf8_all}
use Rattle.std.proofs.lemmas.Bool.{eqb-true}
use Rattle.std.proofs.lemmas.Str.{encode_ascii, encodes-chars, chars_past_char}
use Rattle.clap.specs.Lexer.{long_of, short_of}
use Rattle.words_cli.specs.Words.{Text, Look, ends, option, dashed, plain, look, behind_a_dash}

abbrev pub two_dashes : Text
two_dashes = 45 ∷ 45 ∷ []

-- the word has this look
pub record IsDashed (word : Text) : Type 0 where
  pub not_two : bytes_eq word two_dashes ≡ false
  pub long : long_of word ≡ None
  pub first : ℕ
  pub rest : Text
  pub short : short_of word ≡ Some (first ∷ rest)
  pub is : word ≡ 45 ∷ first ∷ rest

abbrev pub LooksLike : Text → Look → Type 0
LooksLike word ends = bytes_eq word two_dashes ≡ true
LooksLike word (option name value) = (bytes_eq word two_dashes ≡ false) × (long_of word ≡ Some (name, value))
LooksLike word dashed = IsDashed word
LooksLike word plain = (bytes_eq word two_dashes ≡ false) × (long_of word ≡ None) × (short_of word ≡ None)

behind_is : (b : ℕ) (bs : Text) → b ≡ 45 → LooksLike (b ∷ bs) (behind_a_dash bs)
behind_is b [] e = rw e (refl, refl, refl)
behind_is b (c ∷ cs) e = rw e (go (c == 45) refl cs)
  where
    go : (t : Bool) → (c == 45) ≡ t → (ds : Text) → LooksLike (45 ∷ c ∷ ds) (behind_a_dash (c ∷ ds))
    go false n ds = rw n (record { not_two = rw n refl; long = rw n refl; first = c; rest = ds; short = rw n refl; is = refl })
    go true n [] = rw n (rw n refl)
    go true n (d ∷ ds) = rw n (rw n refl, rw n refl)

pub look_is : (word : Text) → LooksLike word (look word)
look_is [] = (refl, refl, refl)
look_is (b ∷ bs) = go (b == 45) refl
  where
    go : (t : Bool) → (b == 45) ≡ t → LooksLike (b ∷ bs) (look (b ∷ bs))
    go false n = rw n (rw n refl, rw n refl, rw n refl)
    go true n = rw n (behind_is b bs (eqb-true b 45 n))

encode_alone : encode_utf8_all (45 ∷ []) ≡ 45 ∷ []
encode_alone = rw (encode_ascii 45 (omega arith)) refl

length_more : (b : ℕ) (bs : Text) → length (45 ∷ b ∷ bs) ≡ suc (suc (length bs))
length_more b bs = refl

-- a text that goes on behind its first hyphen has a next character
pub next_char : (b : ℕ) (bs : Text) → IsUtf8 (45 ∷ b ∷ bs) → (x : ℕ) × (rest : List ℕ) × (chars (b ∷ bs) ≡ x ∷ rest)
next_char b bs text = go (chars (b ∷ bs)) refl
  where
    all : chars (45 ∷ b ∷ bs) ≡ 45 ∷ chars (b ∷ bs)
    all = chars_past_char (45 ∷ b ∷ bs) (b ∷ bs) 45 text (rw (encode_ascii 45 (omega arith)) refl)

    go : (cs : List ℕ) → chars (b ∷ bs) ≡ cs → (x : ℕ) × (rest : List ℕ) × (chars (b ∷ bs) ≡ x ∷ rest)
    go (x ∷ rest) e = (x, rest, e)
    go [] e = absurd (omega (arith, ap length (sym (encodes-chars (45 ∷ b ∷ bs) text) ∙ (ap encode_utf8_all (all ∙ ap (λ cs. 45 ∷ cs) e) ∙ encode_alone)), length_more b bs))
