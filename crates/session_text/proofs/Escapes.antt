-- The words and names of a session need no escapes.
use Rattle.std.proofs.Common.{◌≡◌, ℕ, ◌+◌, ◌%◌, ◌<◌, ◌≤◌, ◌^◌, List, [], ◌∷◌, ◌++◌, refl, sym, ap, ap₂, ◌∙◌, append_assoc, arith}
use Rattle.std.specs.Fmt.{decimal}
use Rattle.std.specs.List.{AllByRecursion}
use Rattle.std.proofs.lemmas.Fmt.{decimal_by_steps}
use Rattle.json.specs.Print.{escape_byte, escape}
use Rattle.json.proofs.Printed.Strings.{escape_byte_plain}
use Rattle.catalogue.specs.ActorWord.{actor_word}
use Rattle.catalogue.specs.declared.actor.Actor.{Actor}
use Rattle.catalogue.specs.declared.actor.Actor.TheVariants.{Client, Port, Stage, Recover}
use Rattle.session_text.specs.SessionData.{more_words, schedule_text}
use Rattle.session_text.specs.Typed.{IsTypedActor}

escape-append : (xs ys : List ℕ) → escape (xs ++ ys) ≡ escape xs ++ escape ys
escape-append [] ys = refl
escape-append (x ∷ xs) ys = ap (λ l. escape_byte x ++ l) (escape-append xs ys) ∙ sym (append_assoc (escape_byte x) (escape xs) (escape ys))

-- two texts that need none make one that needs none
both_plain : (xs ys : List ℕ) → escape xs ≡ xs → escape ys ≡ ys → escape (xs ++ ys) ≡ xs ++ ys
both_plain xs ys p q = escape-append xs ys ∙ ap₂ (λ (a b : List ℕ). a ++ b) p q

digit_plain : (d : ℕ) → d < 10 → escape ((48 + d) ∷ []) ≡ (48 + d) ∷ []
digit_plain d small = ap (λ (l : List ℕ). l ++ []) (escape_byte_plain (48 + d) (λ e. omega arith) (λ e. omega arith) (omega arith))

number_plain : (n : ℕ) → n < 2 ^ 8 → escape (decimal n) ≡ decimal n
number_plain n small =
    decimal_by_steps (λ m ds. escape ds ≡ ds) (λ m few. digit_plain m few) (λ m ds long plain. both_plain ds ((48 + m % 10) ∷ []) plain (digit_plain (m % 10) (omega arith))) n (omega arith)

letter_plain : (x : ℕ) → 97 ≤ x → escape (x ∷ []) ≡ x ∷ []
letter_plain x letter = ap (λ (l : List ℕ). l ++ []) (escape_byte_plain x (λ e. omega arith) (λ e. omega arith) (omega arith))

word_plain : (actor : Actor) → IsTypedActor actor → escape (actor_word actor) ≡ actor_word actor
word_plain (Client client) typed = both_plain (99 ∷ []) (decimal client) (letter_plain 99 (omega arith)) (number_plain client typed)
word_plain (Port client) typed = both_plain (112 ∷ []) (decimal client) (letter_plain 112 (omega arith)) (number_plain client typed)
word_plain (Stage stage) typed = both_plain (115 ∷ []) (decimal stage) (letter_plain 115 (omega arith)) (number_plain stage typed)
word_plain Recover typed = letter_plain 114 (omega arith)

space_plain : escape (32 ∷ []) ≡ 32 ∷ []
unfolding escape_byte
space_plain = refl

more_plain : (actors : List Actor) → AllByRecursion IsTypedActor actors → escape (more_words actors) ≡ more_words actors
more_plain [] typed = refl
more_plain (actor ∷ actors) typed =
    both_plain (32 ∷ []) (actor_word actor ++ more_words actors) space_plain
    (both_plain (actor_word actor) (more_words actors) (word_plain actor typed.0) (more_plain actors typed.1))

-- so the text of a schedule stands in its string as it is
pub schedule_plain : (actors : List Actor) → AllByRecursion IsTypedActor actors → escape (schedule_text actors) ≡ schedule_text actors
schedule_plain [] typed = refl
schedule_plain (actor ∷ actors) typed = both_plain (actor_word actor) (more_words actors) (word_plain actor typed.0) (more_plain actors typed.1)
