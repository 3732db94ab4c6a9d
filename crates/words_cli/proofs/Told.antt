-- What `clap` was told of a command so far.
use Rattle.std.proofs.Common.{◌≡◌, ◌∙◌, sym, ap, refl, ℕ, zero, suc, ◌<◌, ◌≤◌, ◌+◌, Bool, true, false, cond, List, [], ◌∷◌, ◌++◌, map, length, take, append-nil, slice_index_or, add-one, arith}
use Rattle.std.specs.Borrow.{Bor}
use Rattle.std.proofs.lemmas.List.{take_all}
use Rattle.clap.specs.Words.{App, Rule, with_rule}
use Rattle.clap.specs.Simple.{new_shape}
use Rattle.words_cli.specs.Words.{Text}
use Rattle.words_cli.specs.ClapLine.{form_app, option_rule, word_rule}

abbrev pub with_rules : Text → List Rule → App
with_rules name rules = record { top = record (new_shape name) { rules = rules }; subs = [] }

abbrev pub told : Text → List Text → App
told name options = with_rules name (map option_rule options)

abbrev pub texts_of : List (Bor Text) → List Text
texts_of = map (λ o. o.now)

rules_more : (os : List (Bor Text)) (i : ℕ) (o : Bor Text) → i < length os → map option_rule (texts_of (take i os)) ++ option_rule (slice_index_or os i o).now ∷ [] ≡ map option_rule (texts_of (take (suc i) os))
rules_more [] i o lt = absurd (omega arith)
rules_more (x ∷ os) zero o lt = refl
rules_more (x ∷ os) (suc i) o lt = ap (λ rs. option_rule x.now ∷ rs) (rules_more os i o (omega arith))

-- one more option
pub told_more : (name : Text) (os : List (Bor Text)) (i : ℕ) (o : Bor Text) → i < length os → with_rule (told name (texts_of (take i os))) (option_rule (slice_index_or os i o).now) ≡ told name (texts_of (take (i + 1) os))
told_more name os i o lt = rw add-one (ap (with_rules name) (rules_more os i o lt))

-- the word that stands by itself comes last
pub told_word : (name : Text) (os : List (Bor Text)) (i : ℕ) (takes_word : Bool) → length os ≤ i → takes_word ≡ true
    → with_rule (told name (texts_of (take i os))) word_rule ≡ form_app (record { name = name; options = texts_of os; takes_word = takes_word })
told_word name os i takes_word past e =
    ap (λ (xs : List (Bor Text)). with_rules name (map option_rule (texts_of xs) ++ word_rule ∷ [])) (take_all i os past)
    ∙ sym (ap (λ (b : Bool). with_rules name (map option_rule (texts_of os) ++ cond b (word_rule ∷ []) [])) e)

pub told_bare : (name : Text) (os : List (Bor Text)) (i : ℕ) (takes_word : Bool) → length os ≤ i → takes_word ≡ false
    → told name (texts_of (take i os)) ≡ form_app (record { name = name; options = texts_of os; takes_word = takes_word })
told_bare name os i takes_word past e =
    ap (λ (xs : List (Bor Text)). with_rules name (map option_rule (texts_of xs))) (take_all i os past)
    ∙ (sym (ap (with_rules name) (append-nil (map option_rule (texts_of os))))
    ∙ sym (ap (λ (b : Bool). with_rules name (map option_rule (texts_of os) ++ cond b (word_rule ∷ []) [])) e))
