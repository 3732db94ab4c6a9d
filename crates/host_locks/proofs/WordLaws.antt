-- Lock words: what a client's bit says, and what becomes of it.
use Rattle.std.proofs.Common.{◌≡◌, ◌≢◌, ℕ, ◌-◌, ◌*◌, ◌%◌, ◌^◌, ◌<◌, ◌≤◌, Bool, true, false, cond, eqb, ◌&&◌, ◌==◌, nat_lt, IsTrue, IsSome, is_some, Option, Some, None, MatchOption, inl, inr, refl, sym, ap, subst, ◌∙◌, arith, w8, bit_and, bit_or}
use Rattle.std.specs.Int.{bit_at}
use Rattle.std.proofs.lemmas.Bool.{cases_eq, cases_lt, cases_Bool, or_cases, and_parts, eqb-true, ltb-true, false≢true, true≢false}
use Rattle.std.proofs.lemmas.Bool.Decides.{nat_tests}
use Rattle.std.proofs.lemmas.Nat.{and_le_l}
use Rattle.std.proofs.lemmas.Nat.Bits.{bit_at-zero, bit_at_above, bit_at_set_same, bit_at_set_other, bit_at_clear_same, bit_at_clear_other}
use Rattle.host_locks.specs.Conflict.{stops, IsFree, IsInTheWay}
use Rattle.host_locks.specs.Words.{PlainWord, free_word, is_word, is_owner, is_sharer, mode_in, stands_in}
use Rattle.host_locks.specs.declared.mode.Mode.{Mode}
use Rattle.host_locks.specs.declared.mode.Mode.TheVariants.{Shared, Exclusive}

-- the mode of a client by its two tests
abbrev by_tests : Bool → Bool → Option Mode
by_tests owner sharer = cond owner (Some Exclusive) (cond sharer (Some Shared) None)

owns : (word : PlainWord) (c : ℕ) → c < 8 → c ≡ word.owner → is_owner word c ≡ true
owns word c low same = grind (arith, nat_tests)

owns_not : (word : PlainWord) (c : ℕ) → c ≢ word.owner → is_owner word c ≡ false
owns_not word c other =
    let apart : eqb c word.owner ≡ false = grind (arith, nat_tests) in
    rw apart (elim (nat_lt c 8) as (λ b. (b && false) ≡ false) [ true ↦ refl | false ↦ refl ])

owns_not_beyond : (word : PlainWord) (c : ℕ) → 8 ≤ c → is_owner word c ≡ false
owns_not_beyond word c high =
    let low : nat_lt c 8 ≡ false = grind (arith, nat_tests) in
    ap (λ b. b && eqb c word.owner) low

-- no client owns a word whose owner is 255
no_owner : (word : PlainWord) → word.owner ≡ 255 → (c : ℕ) → is_owner word c ≡ false
no_owner word none c =
    elim (cases_lt c 8) [
      | inl low ↦ owns_not word c (λ e. absurd (omega (arith, e, none, low)))
      | inr high ↦ owns_not_beyond word c high
    ]

shares : (word : PlainWord) (c : ℕ) → bit_at word.sharers c ≡ 1 → is_sharer word c ≡ true
shares word c set = grind (arith, nat_tests)

shares_not : (word : PlainWord) (c : ℕ) → bit_at word.sharers c ≡ 0 → is_sharer word c ≡ false
shares_not word c clear = ap (λ n. eqb n 1) clear

-- a word with an owner has no sharers, and its owner is a client
beside_owner : (word : PlainWord) → IsTrue (is_word word) → word.owner ≢ 255 → (word.owner < 8) × (word.sharers ≡ 0)
beside_owner word ok owned =
    elim (or_cases _ _ (and_parts _ _ ok).1) [
      | inl none ↦ absurd (owned (eqb-true _ _ none))
      | inr both ↦
          let parts = and_parts _ _ both in
          (ltb-true _ _ parts.0, eqb-true _ _ parts.1)
    ]

pub byte_of : (word : PlainWord) → IsTrue (is_word word) → word.sharers < 256
byte_of word ok = ltb-true _ _ (and_parts _ _ ok).0

pub none_free : (c : ℕ) → mode_in free_word c ≡ None
none_free c = λ i. by_tests (no_owner free_word refl c i) (shares_not free_word c (bit_at-zero c) i)

-- beside an owner no other client has a lock
none_beside : (word : PlainWord) → IsTrue (is_word word) → word.owner ≢ 255 → (c : ℕ) → c ≢ word.owner → mode_in word c ≡ None
none_beside word ok owned c other =
    let clear : bit_at word.sharers c ≡ 0 = ap (λ n. bit_at n c) (beside_owner word ok owned).1 ∙ bit_at-zero c in
    (λ i. by_tests (owns_not word c other i) (shares_not word c clear i))

-- a word without an owner
module _ (word : PlainWord) (none : word.owner ≡ 255) (client : ℕ) where
  mode_of_sharer : (c : ℕ) → mode_in word c ≡ by_tests false (is_sharer word c)
  mode_of_sharer c = ap (λ b. by_tests b (is_sharer word c)) (no_owner word none c)

  sharer_stops : (d : ℕ) → bit_at word.sharers d ≡ 1 → stands_in word Exclusive d ≡ true
  sharer_stops d set = ap (stops Exclusive) (mode_of_sharer d ∙ ap (by_tests false) (shares word d set))

  other_stops_not : (d : ℕ) → bit_at word.sharers d ≡ 0 → stands_in word Exclusive d ≡ false
  other_stops_not d clear = ap (stops Exclusive) (mode_of_sharer d ∙ ap (by_tests false) (shares_not word d clear))

  module _ (fits : word.sharers < 256) (within : client < 8) (others : ℕ) (cleared : others ≡ bit_and word.sharers (255 - 1 * 2 ^ client % 256)) where
    elsewhere : (d : ℕ) → d < 8 → d ≢ client → bit_at others d ≡ bit_at word.sharers d
    elsewhere d low other = ap (λ n. bit_at n d) cleared ∙ bit_at_clear_other w8 word.sharers client within d low other

    here : bit_at others client ≡ 0
    here = ap (λ n. bit_at n client) cleared ∙ bit_at_clear_same w8 word.sharers client within

    pub lowest_in_the_way : (r : Option ℕ) → MatchOption r (others ≡ 0) (λ k. (k < 8) × (bit_at others k ≡ 1) × ((i : ℕ) → i < k → bit_at others i ≡ 0)) → IsInTheWay (stands_in word Exclusive) client r
    lowest_in_the_way None empty = λ d other.
        elim (cases_lt d 8) [
          | inl low ↦ other_stops_not d (sym (elsewhere d low other) ∙ ap (λ n. bit_at n d) empty ∙ bit_at-zero d)
          | inr high ↦ other_stops_not d (bit_at_above word.sharers 8 d fits high)
        ]
    lowest_in_the_way (Some k) found =
        let another : k ≢ client = λ e. absurd (omega (arith, sym (ap (bit_at others) e) ∙ found.1, here)) in
        record {
          another = another;
          conflict = sharer_stops k (sym (elsewhere k found.0 another) ∙ found.1);
          least = λ d lt other. other_stops_not d (sym (elsewhere d (omega (arith, lt, found.0)) other) ∙ found.2 d lt);
        }

-- a shared lock more
module _ (word : PlainWord) (client : ℕ) (within : client < 8) (free : mode_in word client ≡ None) (others : IsFree (stands_in word Shared) client) where
  owned_by_none : (c : ℕ) → is_owner word c ≡ false
  owned_by_none c =
      elim (cases_Bool (is_owner word c)) [
        | inr other ↦ other
        | inl owner ↦
            let held : mode_in word c ≡ Some Exclusive = ap (λ b. by_tests b (is_sharer word c)) owner in
            elim (cases_eq c client) [
              | inl e ↦ absurd (true≢false (sym (ap is_some held) ∙ ap is_some (ap (mode_in word) e ∙ free)))
              | inr other ↦ absurd (true≢false (sym (ap (stops Shared) held) ∙ others c other))
            ]
      ]

  pub one_more : (c : ℕ) → mode_in (record { sharers = bit_or word.sharers (1 * 2 ^ client % 256); owner = word.owner }) c ≡ cond (eqb c client) (Some Shared) (mode_in word c)
  one_more c =
      let after : PlainWord = record { sharers = bit_or word.sharers (1 * 2 ^ client % 256); owner = word.owner } in
      let first : mode_in after c ≡ by_tests false (is_sharer after c) = ap (λ b. by_tests b (is_sharer after c)) (owned_by_none c) in
      elim (cases_eq c client) [
        | inl e ↦
            let same : eqb c client ≡ true = grind (arith, nat_tests) in
            let set : bit_at after.sharers c ≡ 1 = ap (bit_at after.sharers) e ∙ bit_at_set_same w8 word.sharers client within in
            rw same (first ∙ ap (by_tests false) (shares after c set))
        | inr other ↦
            let apart : eqb c client ≡ false = grind (arith, nat_tests) in
            let kept : is_sharer after c ≡ is_sharer word c = ap (λ n. eqb n 1) (bit_at_set_other w8 word.sharers client within c other) in
            rw apart (first ∙ ap (by_tests false) kept ∙ sym (ap (λ b. by_tests b (is_sharer word c)) (owned_by_none c)))
      ]

-- the word without a client's lock
module _ (word : PlainWord) (ok : IsTrue (is_word word)) (client : ℕ) (within : client < 8) (held : IsSome (mode_in word client)) where
  after : PlainWord
  after = record { sharers = bit_and word.sharers (255 - 1 * 2 ^ client % 256); owner = 255 }

  of_sharer : (c : ℕ) → mode_in after c ≡ by_tests false (is_sharer after c)
  unfolding after
  of_sharer c = ap (λ b. by_tests b (is_sharer after c)) (no_owner after refl c)

  -- no other client owns the word
  others_own_not : (c : ℕ) → c ≢ client → is_owner word c ≡ false
  others_own_not c other =
      elim (cases_Bool (is_owner word c)) [
        | inr apart ↦ apart
        | inl owned ↦
            let parts = and_parts (nat_lt c 8) (c == word.owner) owned in
            let low : c < 8 = ltb-true c 8 parts.0 in
            let owner : c ≡ word.owner = eqb-true c word.owner parts.1 in
            let some : word.owner ≢ 255 = λ e. absurd (omega (arith, low, owner, e)) in
            let none : mode_in word client ≡ None = none_beside word ok some client (λ e. other (owner ∙ sym e)) in
            absurd (true≢false (sym held ∙ ap (λ (o : Option Mode). is_some o) none))
      ]

  kept_bit : (c : ℕ) → c ≢ client → bit_at after.sharers c ≡ bit_at word.sharers c
  unfolding after
  kept_bit c other =
      elim (cases_lt c 8) [
        | inl low ↦ bit_at_clear_other w8 word.sharers client within c low other
        | inr high ↦ bit_at_above after.sharers 8 c (omega (arith, and_le_l word.sharers (255 - 1 * 2 ^ client % 256), byte_of word ok)) high ∙ sym (bit_at_above word.sharers 8 c (byte_of word ok) high)
      ]

  pub one_less : (c : ℕ) → mode_in (record { sharers = bit_and word.sharers (255 - 1 * 2 ^ client % 256); owner = 255 }) c ≡ cond (eqb c client) None (mode_in word c)
  unfolding after
  one_less c =
      elim (cases_eq c client) [
        | inl e ↦
            let same : eqb c client ≡ true = grind (arith, nat_tests) in
            let clear : bit_at after.sharers c ≡ 0 = ap (bit_at after.sharers) e ∙ bit_at_clear_same w8 word.sharers client within in
            rw same (of_sharer c ∙ ap (by_tests false) (shares_not after c clear))
        | inr other ↦
            let apart : eqb c client ≡ false = grind (arith, nat_tests) in
            rw apart (of_sharer c ∙ ap (λ n. by_tests false (eqb n 1)) (kept_bit c other) ∙ sym (ap (λ b. by_tests b (is_sharer word c)) (others_own_not c other)))
      ]

-- a client beyond the eighth has no lock
pub none_beyond : (word : PlainWord) → IsTrue (is_word word) → (c : ℕ) → 8 ≤ c → mode_in word c ≡ None
none_beyond word ok c high = λ i. by_tests (owns_not_beyond word c high i) (shares_not word c (bit_at_above word.sharers 8 c (byte_of word ok) high) i)

pub client_below : (word : PlainWord) → IsTrue (is_word word) → (c : ℕ) → IsSome (mode_in word c) → c < 8
client_below word ok c held =
    elim (cases_lt c 8) [
      | inl low ↦ low
      | inr high ↦ absurd (false≢true (sym (ap is_some (none_beyond word ok c high)) ∙ held))
    ]

-- the same of a word as its fields have it
abbrev of_fields : ℕ → ℕ → PlainWord
of_fields sharers owner = record { sharers = sharers; owner = owner }

module _ (sharers owner : ℕ) (word : PlainWord) (view : of_fields sharers owner ≡ word) (ok : IsTrue (is_word (of_fields sharers owner))) (client : ℕ) where
  word_ok : IsTrue (is_word word)
  word_ok = subst (λ w. IsTrue (is_word w)) view ok

  pub holder_below : IsSome (mode_in word client) → client < 8
  holder_below held = client_below word word_ok client held

  pub none_held_beyond : 8 ≤ client → None ≡ mode_in word client
  none_held_beyond high = sym (none_beyond word word_ok client high)

  pub lock_taken : client < 8 → mode_in word client ≡ None → IsFree (stands_in word Shared) client
      → (c : ℕ) → mode_in (of_fields (bit_or sharers (1 * 2 ^ client % 256)) owner) c ≡ cond (eqb c client) (Some Shared) (mode_in word c)
  lock_taken within free others =
      subst (λ (w : PlainWord). (c : ℕ) → mode_in (of_fields (bit_or w.sharers (1 * 2 ^ client % 256)) w.owner) c ≡ cond (eqb c client) (Some Shared) (mode_in word c)) (sym view) (one_more word client within free others)

  pub lock_given_back : IsSome (mode_in word client) → (c : ℕ) → mode_in (of_fields (bit_and sharers (255 - 1 * 2 ^ client % 256)) 255) c ≡ cond (eqb c client) None (mode_in word c)
  lock_given_back held =
      subst (λ (w : PlainWord). (c : ℕ) → mode_in (of_fields (bit_and w.sharers (255 - 1 * 2 ^ client % 256)) 255) c ≡ cond (eqb c client) None (mode_in word c)) (sym view) (one_less word word_ok client (holder_below held) held)

  pub sharer_in_the_way : client < 8 → owner ≡ 255 → (r : Option ℕ)
      → MatchOption r (bit_and sharers (255 - 1 * 2 ^ client % 256) ≡ 0) (λ k. (k < 8) × (bit_at (bit_and sharers (255 - 1 * 2 ^ client % 256)) k ≡ 1) × ((i : ℕ) → i < k → bit_at (bit_and sharers (255 - 1 * 2 ^ client % 256)) i ≡ 0))
      → IsInTheWay (stands_in word Exclusive) client r
  sharer_in_the_way within none r found =
      subst (λ (w : PlainWord). IsInTheWay (stands_in w Exclusive) client r) view (lowest_in_the_way (of_fields sharers owner) none client (byte_of (of_fields sharers owner) ok) within _ refl r found)
