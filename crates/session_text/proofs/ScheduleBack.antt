-- The text of a schedule is read as its actors.
use Rattle.std.proofs.Common.{◌≡◌, ℕ, zero, suc, ◌+◌, ◌<◌, ◌^◌, ◌==◌, false, List, [], ◌∷◌, ◌++◌, map, length, All, Ok, refl, sym, ap, ◌∙◌, arith, rules}
use Rattle.std.specs.Fmt.{decimal}
use Rattle.std.specs.Int.Digits.{digits_of}
use Rattle.std.specs.List.{AllByRecursion, slice_split}
use Rattle.std.proofs.lemmas.Bool.Decides.{nat_tests}
use Rattle.std.proofs.lemmas.Fmt.{decimal-digits_of, decimal_digit}
use Rattle.std.proofs.lemmas.List.Elements.{All-cons, All-map, recursion_from_All}
use Rattle.std.proofs.lemmas.List.Splits.{slice_split_none, slice_split_at}
use Rattle.catalogue.specs.Plan.{Plan}
use Rattle.catalogue.specs.Sound.{IsWithinLimits, IsActor, IsSound}
use Rattle.catalogue.specs.declared.actor.Actor.{Actor}
use Rattle.catalogue.specs.declared.actor.Actor.TheVariants.{Client, Port, Stage, Recover}
use Rattle.catalogue.specs.ActorWord.{actor_word}
use Rattle.schedule.proofs.WordLaws.{actor_of-actor_word}
use Rattle.session_reader.specs.SessionOf.{words_of, actors_of, with_schedule}
use Rattle.session_reader.proofs.Searches.{actors_from, actors_counted}
use Rattle.session_text.specs.SessionData.{more_words, schedule_text}

-- the text has no space
abbrev HasNoSpace : List ℕ → Type 0
HasNoSpace text = All (λ b. (b == 32) ≡ false) text

no_space_digit : (d : ℕ) → (48 + d == 32) ≡ false
no_space_digit d = grind (arith, nat_tests)

no_space_number : (n : ℕ) → n < 2 ^ 64 → HasNoSpace (decimal n)
no_space_number zero h = rw (decimal_digit 0 (omega arith)) (All-cons (λ (b : ℕ). (b == 32) ≡ false) 48 [] refl (search (rules, arith)))
no_space_number (suc n) h =
    rw (decimal-digits_of (suc n) (omega arith) h) (All-map (λ (b : ℕ). (b == 32) ≡ false) (λ d. 48 + d) (digits_of 10 (suc n)) (λ k d lt. no_space_digit _))

no_space_word : (plan : Plan) (actor : Actor) → IsWithinLimits plan → IsActor plan actor → HasNoSpace (actor_word actor)
no_space_word plan (Client c) limits is = All-cons (λ (b : ℕ). (b == 32) ≡ false) 99 (decimal c) refl (no_space_number c (omega (arith, limits.clients, is)))
no_space_word plan (Port c) limits is = All-cons (λ (b : ℕ). (b == 32) ≡ false) 112 (decimal c) refl (no_space_number c (omega (arith, limits.clients, is)))
no_space_word plan (Stage s) limits is = All-cons (λ (b : ℕ). (b == 32) ≡ false) 115 (decimal s) refl (no_space_number s (omega (arith, limits.shape.stages, is)))
no_space_word plan Recover limits is = All-cons (λ (b : ℕ). (b == 32) ≡ false) 114 [] refl (search (rules, arith))

append-nil : (xs : List ℕ) → xs ++ [] ≡ xs
append-nil [] = refl
append-nil (x ∷ xs) = ap (λ ys. x ∷ ys) (append-nil xs)

split_words : (plan : Plan) (actor : Actor) (actors : List Actor) → IsWithinLimits plan → AllByRecursion (IsActor plan) (actor ∷ actors)
    → slice_split (λ b. b == 32) (actor_word actor ++ more_words actors) ≡ map actor_word (actor ∷ actors)
split_words plan actor [] limits are = ap (slice_split (λ b. b == 32)) (append-nil (actor_word actor)) ∙ slice_split_none (λ b. b == 32) (actor_word actor) (no_space_word plan actor limits are.0)
split_words plan actor (next ∷ actors) limits are =
    slice_split_at (λ b. b == 32) (actor_word actor) 32 (actor_word next ++ more_words actors) (no_space_word plan actor limits are.0) refl
    ∙ ap (λ words. actor_word actor ∷ words) (split_words plan next actors limits are.1)

long : (b : ℕ) (bs : List ℕ) → (length (b ∷ bs) == 0) ≡ false
long b bs = grind (arith, nat_tests)

has_bytes : (actor : Actor) (behind : List ℕ) → (length (actor_word actor ++ behind) == 0) ≡ false
has_bytes (Client c) behind = long 99 (decimal c ++ behind)
has_bytes (Port c) behind = long 112 (decimal c ++ behind)
has_bytes (Stage s) behind = long 115 (decimal s ++ behind)
has_bytes Recover behind = long 114 behind

words_back : (plan : Plan) (actors : List Actor) → IsWithinLimits plan → AllByRecursion (IsActor plan) actors → words_of (schedule_text actors) ≡ map actor_word actors
words_back plan [] limits are = refl
words_back plan (actor ∷ actors) limits are = rw (has_bytes actor (more_words actors)) (split_words plan actor actors limits are)

named_back : (plan : Plan) (k : ℕ) (actors : List Actor) → IsWithinLimits plan → AllByRecursion (IsActor plan) actors → actors_from plan k (map actor_word actors) ≡ Ok actors
named_back plan k [] limits are = refl
named_back plan k (actor ∷ actors) limits are = rw (actor_of-actor_word plan actor limits are.0, named_back plan (k + 1) actors limits are.1) refl

actor_there : (plan : Plan) (actor : Actor) → IsActor plan actor → IsActor (with_schedule plan []) actor
actor_there plan (Client c) is = is
actor_there plan (Port c) is = is
actor_there plan (Stage s) is = is
actor_there plan Recover is = tt

actors_there : (plan : Plan) (actors : List Actor) → AllByRecursion (IsActor plan) actors → AllByRecursion (IsActor (with_schedule plan [])) actors
actors_there plan [] are = tt
actors_there plan (actor ∷ actors) are = (actor_there plan actor are.0, actors_there plan actors are.1)

limits_there : (plan : Plan) → IsWithinLimits plan → IsWithinLimits (with_schedule plan [])
limits_there plan h = record { shape = h.shape; tuples = h.tuples; rows = h.rows; tries = h.tries; clients = h.clients; items = h.items }

-- the actors are named before the schedule is there
pub schedule_back : (plan : Plan) → IsSound plan → actors_of (with_schedule plan []) (words_of (schedule_text plan.schedule)) ≡ Ok plan.schedule
schedule_back plan sound =
    let are = recursion_from_All (IsActor plan) plan.schedule sound.schedule in
    ap (actors_of (with_schedule plan [])) (words_back plan plan.schedule sound.limits are)
    ∙ sym (actors_counted (with_schedule plan []) (map actor_word plan.schedule))
    ∙ named_back (with_schedule plan []) 0 plan.schedule (limits_there plan sound.limits) (actors_there plan plan.schedule are)
