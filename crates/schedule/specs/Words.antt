-- The words that name actors: a letter, and the decimal number of a client or of a stage.
use Rattle.std.specs.Prelude.{◌≡◌, ◌↔◌, ℕ, ◌+◌, ◌-◌, ◌*◌, ◌==◌, ◌&&◌, Bool, List, [], ◌∷◌, length, nat_lt, nat_le, Option, Some, None, option_map, if◌then◌else◌}
use Rattle.catalogue.specs.ActorWord.{actor_word}
use Rattle.catalogue.specs.Plan.{Plan}
use Rattle.catalogue.specs.Sound.{IsWithinLimits, IsActor}
use Rattle.catalogue.specs.declared.actor.Actor.{Actor}
use Rattle.catalogue.specs.declared.actor.Actor.TheVariants.{Client, Port, Stage, Recover}

-- the byte is one of `0` to `9`
abbrev pub is_digit : ℕ → Bool
is_digit b = nat_le 48 b && nat_le b 57

-- the number that digits write behind those that write n; None where one of them is no digit
abbrev pub read_digits : ℕ → List ℕ → Option ℕ
read_digits n [] = Some n
read_digits n (b ∷ bs) = if is_digit b then read_digits (10 * n + (b - 48)) bs else None

-- the number that a text writes: at least one digit, and `0` in front of no other
abbrev pub number_of : List ℕ → Option ℕ
number_of [] = None
number_of (b ∷ []) = read_digits 0 (b ∷ [])
number_of (b ∷ c ∷ bs) = if b == 48 then None else read_digits 0 (b ∷ c ∷ bs)

-- the number, where it is below the limit
abbrev pub below : ℕ → Option ℕ → Option ℕ
below limit None = None
below limit (Some n) = if nat_lt n limit then Some n else None

-- the letters `c`, `p`, `s` and `r`
abbrev pub client_letter : ℕ
client_letter = 99

abbrev pub port_letter : ℕ
port_letter = 112

abbrev pub stage_letter : ℕ
stage_letter = 115

abbrev pub recover_letter : ℕ
recover_letter = 114

-- what a letter and the text behind it name
abbrev pub actor_by : Plan → ℕ → List ℕ → Option Actor
actor_by plan letter text =
    if letter == client_letter then option_map Client (below (length plan.clients) (number_of text)) else
    (if letter == port_letter then option_map Port (below (length plan.clients) (number_of text)) else
    (if letter == stage_letter then option_map Stage (below plan.shape.stages (number_of text)) else
    (if letter == recover_letter && length text == 0 then Some Recover else None)))

-- the actor of the session that a word names
abbrev pub actor_of : Plan → List ℕ → Option Actor
actor_of plan [] = None
actor_of plan (letter ∷ text) = actor_by plan letter text

-- a word names exactly the actor of the session whose word it is
abbrev pub NamesByWord : Type 0
NamesByWord =
    (plan : Plan) (word : List ℕ) (actor : Actor) → IsWithinLimits plan → (actor_of plan word ≡ Some actor) ↔ ((word ≡ actor_word actor) × IsActor plan actor)
