-- Words and actors name each other.
use Rattle.std.proofs.Common.{◌≡◌, ℕ, ◌^◌, ◌<◌, true, false, cond, eqb, ◌&&◌, List, [], ◌∷◌, length, Option, Some, None, nat_lt, refl, ap, subst, ◌∙◌, arith}
use Rattle.std.specs.Fmt.{decimal}
use Rattle.std.specs.Option.{option_map}
use Rattle.std.proofs.lemmas.Bool.{eqb-true}
use Rattle.std.proofs.lemmas.Bool.Decides.{nat_tests}
use Rattle.catalogue.specs.ActorWord.{actor_word}
use Rattle.catalogue.specs.Plan.{Plan}
use Rattle.catalogue.specs.Sound.{IsWithinLimits, IsActor}
use Rattle.catalogue.specs.declared.actor.Actor.{Actor}
use Rattle.catalogue.specs.declared.actor.Actor.TheVariants.{Client, Port, Stage, Recover}
use Rattle.schedule.proofs.Decimals.{number_of-decimal, decimal-number_of}
use Rattle.schedule.specs.Words.{number_of, below, actor_of}

-- a number below the limit is read from its decimal
numbered : (limit n : ℕ) → limit < 2 ^ 64 → n < limit → below limit (number_of (decimal n)) ≡ Some n
numbered limit n fits less = let small : nat_lt n limit ≡ true = grind (arith, nat_tests) in rw (number_of-decimal n (omega arith)) (rw small refl)

-- the actor of a word
pub actor_of-actor_word : (plan : Plan) (actor : Actor) → IsWithinLimits plan → IsActor plan actor → actor_of plan (actor_word actor) ≡ Some actor
actor_of-actor_word plan (Client c) limits is = ap (option_map Client) (numbered (length plan.clients) c (omega (arith, limits.clients)) is)
actor_of-actor_word plan (Port c) limits is = ap (option_map Port) (numbered (length plan.clients) c (omega (arith, limits.clients)) is)
actor_of-actor_word plan (Stage s) limits is = ap (option_map Stage) (numbered plan.shape.stages s (omega (arith, limits.shape.stages)) is)
actor_of-actor_word plan Recover limits is = refl

-- what a text that is read as a number below the limit is
record IsNumber (limit : ℕ) (text : List ℕ) (n : ℕ) : Type 0 where
  written : text ≡ decimal n
  less : n < limit

number_is : (limit n : ℕ) (text : List ℕ) → limit < 2 ^ 64 → below limit (number_of text) ≡ Some n → IsNumber limit text n
number_is limit n text fits e = go (number_of text) refl e
  where
    go : (found : Option ℕ) → number_of text ≡ found → below limit found ≡ Some n → IsNumber limit text n
    go None is h = cc h
    go (Some m) is h =
        elim (nat_lt m limit) as (λ b. nat_lt m limit ≡ b → cond b (Some m) None ≡ Some n → IsNumber limit text n) [
          | true ↦ λ lt k.
              let same : m ≡ n = cc k in
              let less : m < limit = grind (arith, nat_tests) in
              record { written = decimal-number_of text n (is ∙ k) (omega arith); less = omega arith }
          | false ↦ λ lt k. cc k
        ] refl h

abbrev IsWord : Plan → List ℕ → Actor → Type 0
IsWord plan word actor = (word ≡ actor_word actor) × IsActor plan actor

named : (make : ℕ → Actor) (found : Option ℕ) (actor : Actor) → option_map make found ≡ Some actor → (n : ℕ) × (found ≡ Some n) × (make n ≡ actor)
named make None actor e = cc e
named make (Some n) actor e = (n, refl, cc e)

by_client : (plan : Plan) (letter : ℕ) (text : List ℕ) (actor : Actor) → IsWithinLimits plan → eqb letter 99 ≡ true → option_map Client (below (length plan.clients) (number_of text)) ≡ Some actor → IsWord plan (letter ∷ text) actor
by_client plan letter text actor limits is e =
    let n = named Client _ actor e in
    let number = number_is (length plan.clients) n.0 text (omega (arith, limits.clients)) n.1 in
    subst (IsWord plan (letter ∷ text)) n.2 (cc (eqb-true letter 99 is, number.written), number.less)

by_port : (plan : Plan) (letter : ℕ) (text : List ℕ) (actor : Actor) → IsWithinLimits plan → eqb letter 112 ≡ true → option_map Port (below (length plan.clients) (number_of text)) ≡ Some actor → IsWord plan (letter ∷ text) actor
by_port plan letter text actor limits is e =
    let n = named Port _ actor e in
    let number = number_is (length plan.clients) n.0 text (omega (arith, limits.clients)) n.1 in
    subst (IsWord plan (letter ∷ text)) n.2 (cc (eqb-true letter 112 is, number.written), number.less)

by_stage : (plan : Plan) (letter : ℕ) (text : List ℕ) (actor : Actor) → IsWithinLimits plan → eqb letter 115 ≡ true → option_map Stage (below plan.shape.stages (number_of text)) ≡ Some actor → IsWord plan (letter ∷ text) actor
by_stage plan letter text actor limits is e =
    let n = named Stage _ actor e in
    let number = number_is plan.shape.stages n.0 text (omega (arith, limits.shape.stages)) n.1 in
    subst (IsWord plan (letter ∷ text)) n.2 (cc (eqb-true letter 115 is, number.written), number.less)

by_recover : (plan : Plan) (letter : ℕ) (text : List ℕ) (actor : Actor) → cond (eqb letter 114 && eqb (length text) 0) (Some Recover) None ≡ Some actor → IsWord plan (letter ∷ text) actor
by_recover plan letter [] actor e =
    elim (eqb letter 114) as (λ b. eqb letter 114 ≡ b → cond (b && true) (Some Recover) None ≡ Some actor → IsWord plan (letter ∷ []) actor) [
      | true ↦ λ is h. let same : Recover ≡ actor = cc h in subst (IsWord plan (letter ∷ [])) same (cc (eqb-true letter 114 is), tt)
      | false ↦ λ is h. cc h
    ] refl e
by_recover plan letter (c ∷ text) actor e =
    let long : eqb (length (c ∷ text)) 0 ≡ false = grind (arith, nat_tests) in
    elim (eqb letter 114) as (λ b. cond (b && eqb (length (c ∷ text)) 0) (Some Recover) None ≡ Some actor → IsWord plan (letter ∷ c ∷ text) actor) [
      | true ↦ λ h. cc (rw long at h)
      | false ↦ λ h. cc h
    ] e

abbrev rest : ℕ → List ℕ → Plan → Option Actor
rest letter text plan = cond (eqb letter 115) (option_map Stage (below plan.shape.stages (number_of text))) (cond (eqb letter 114 && eqb (length text) 0) (Some Recover) None)

abbrev others : ℕ → List ℕ → Plan → Option Actor
others letter text plan = cond (eqb letter 112) (option_map Port (below (length plan.clients) (number_of text))) (rest letter text plan)

-- the word of an actor that a word names
pub actor_word-actor_of : (plan : Plan) (word : List ℕ) (actor : Actor) → IsWithinLimits plan → actor_of plan word ≡ Some actor → (word ≡ actor_word actor) × IsActor plan actor
actor_word-actor_of plan [] actor limits e = cc e
actor_word-actor_of plan (letter ∷ text) actor limits e =
    elim (eqb letter 99) as (λ b. eqb letter 99 ≡ b → cond b (option_map Client (below (length plan.clients) (number_of text))) (others letter text plan) ≡ Some actor → IsWord plan (letter ∷ text) actor) [
      | true ↦ λ is h. by_client plan letter text actor limits is h
      | false ↦ λ _ h.
          elim (eqb letter 112) as (λ b. eqb letter 112 ≡ b → cond b (option_map Port (below (length plan.clients) (number_of text))) (rest letter text plan) ≡ Some actor → IsWord plan (letter ∷ text) actor) [
            | true ↦ λ is k. by_port plan letter text actor limits is k
            | false ↦ λ _ k.
                elim (eqb letter 115) as (λ b. eqb letter 115 ≡ b → cond b (option_map Stage (below plan.shape.stages (number_of text))) (cond (eqb letter 114 && eqb (length text) 0) (Some Recover) None) ≡ Some actor → IsWord plan (letter ∷ text) actor) [
                  | true ↦ λ is j. by_stage plan letter text actor limits is j
                  | false ↦ λ _ j. by_recover plan letter text actor j
                ] refl k
          ] refl h
    ] refl e
