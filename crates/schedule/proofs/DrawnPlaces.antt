-- Actors at drawn places are actors of the session.
use Rattle.std.proofs.Common.{◌≡◌, ℕ, zero, suc, ◌+◌, ◌*◌, ◌-◌, ◌≤◌, ◌<◌, List, [], ◌∷◌, ◌++◌, map, length, get_or, inl, inr, refl, ap, sym, subst, ◌∙◌, arith, append-nil, append_assoc}
use Rattle.std.specs.List.{All, range_with_len}
use Rattle.std.proofs.lemmas.Bool.{cases_lt}
use Rattle.std.proofs.lemmas.List.{get_or_append_left, get_or-append_right}
use Rattle.std.proofs.lemmas.List.Elements.{All-nil, All-cons}
use Rattle.std.proofs.lemmas.List.FromFn.{length-map-range_with_len, get_or-map-range_with_len}
use Rattle.rand_core.specs.Stream.{Stream}
use Rattle.catalogue.specs.Plan.{Plan}
use Rattle.catalogue.specs.Sound.{IsActor}
use Rattle.catalogue.specs.declared.actor.Actor.{Actor}
use Rattle.catalogue.specs.declared.actor.Actor.TheVariants.{Client, Port, Stage, Recover}
use Rattle.schedule.specs.Dice.{draw}
use Rattle.schedule.specs.Drawn.{actor_at, drawn}

-- a place in the first of two lists, and one behind it
in_part : (f : ℕ → Actor) (n i : ℕ) (others : List Actor) → i < n → get_or (map f (range_with_len 0 n) ++ others) i Recover ≡ f i
in_part f n i others h =
    get_or_append_left (map f (range_with_len 0 n)) others Recover i (subst (λ k. i < k) (sym (length-map-range_with_len f 0 n)) h)
    ∙ get_or-map-range_with_len f 0 n i i Recover h (omega arith)

behind : (f : ℕ → Actor) (n i j : ℕ) (others : List Actor) → n + j ≡ i → get_or (map f (range_with_len 0 n) ++ others) i Recover ≡ get_or others j Recover
behind f n i j others h =
    get_or-append_right (map f (range_with_len 0 n)) others n i Recover (length-map-range_with_len f 0 n) (omega arith)
    ∙ ap (λ k. get_or others k Recover) (omega arith)

pub client_at : (plan : Plan) (place : ℕ) → place < length plan.clients → actor_at plan place ≡ Client place
client_at plan place h = in_part Client (length plan.clients) place _ h

pub port_at : (plan : Plan) (place client : ℕ) → length plan.clients + client ≡ place → client < length plan.clients → actor_at plan place ≡ Port client
port_at plan place client is h = behind Client (length plan.clients) place client _ is ∙ in_part Port (length plan.clients) client _ h

pub stage_at : (plan : Plan) (place stage : ℕ) → 2 * length plan.clients + stage ≡ place → stage < plan.shape.stages → actor_at plan place ≡ Stage stage
stage_at plan place stage is h =
    behind Client (length plan.clients) place (length plan.clients + stage) _ (omega arith)
    ∙ behind Port (length plan.clients) (length plan.clients + stage) stage _ refl
    ∙ in_part Stage plan.shape.stages stage _ h

nothing_at : (place : ℕ) → get_or (Recover ∷ []) place Recover ≡ Recover
nothing_at zero = refl
nothing_at (suc place) = refl

pub recover_at : (plan : Plan) (place : ℕ) → 2 * length plan.clients + plan.shape.stages ≤ place → actor_at plan place ≡ Recover
recover_at plan place h =
    let clients = length plan.clients in
    let stages = plan.shape.stages in
    behind Client clients place (place - clients) _ (omega arith)
    ∙ behind Port clients (place - clients) (place - 2 * clients) _ (omega arith)
    ∙ behind Stage stages (place - 2 * clients) (place - (2 * clients + stages)) _ (omega arith)
    ∙ nothing_at (place - (2 * clients + stages))

-- whoever stands at a place is an actor of the session
actors_are_its_own : (plan : Plan) (place : ℕ) → IsActor plan (actor_at plan place)
actors_are_its_own plan place =
    elim (cases_lt place (length plan.clients)) [
      | inl h ↦ subst (IsActor plan) (sym (client_at plan place h)) h
      | inr h ↦ elim (cases_lt place (2 * length plan.clients)) [
        | inl g ↦ subst (IsActor plan) (sym (port_at plan place (place - length plan.clients) (omega arith) (omega arith))) (omega arith)
        | inr g ↦ elim (cases_lt place (2 * length plan.clients + plan.shape.stages)) [
          | inl k ↦ subst (IsActor plan) (sym (stage_at plan place (place - 2 * length plan.clients) (omega arith) (omega arith))) (omega arith)
          | inr k ↦ subst (IsActor plan) (sym (recover_at plan place k)) _
        ]
      ]
    ]

pub drawn_are_its_own : (plan : Plan) (count : ℕ) (words : Stream) → All (IsActor plan) (drawn plan count words)
drawn_are_its_own plan zero words = All-nil (IsActor plan)
drawn_are_its_own plan (suc count) words =
    let place = draw (2 * length plan.clients + plan.shape.stages + 1) words in
    All-cons (IsActor plan) (actor_at plan place.0) (drawn plan count place.1) (actors_are_its_own plan place.0) (drawn_are_its_own plan count place.1)

-- one more actor, and the rest of the draws
pub one_more : (plan : Plan) (items : List Actor) (actor : Actor) (n place left whole : ℕ) (words next : Stream) → 2 * length plan.clients + plan.shape.stages + 1 ≡ n → (place, next) ≡ draw n words → actor ≡ actor_at plan place → left + 1 ≡ whole → (items ++ actor ∷ []) ++ drawn plan left next ≡ items ++ drawn plan whole words
one_more plan items actor n place left whole words next is drew stands more =
    let steps : suc left ≡ whole = omega arith in
    append_assoc items (actor ∷ []) (drawn plan left next)
    ∙ ap (λ a. items ++ a ∷ drawn plan left next) stands
    ∙ ap (λ p. items ++ actor_at plan p.0 ∷ drawn plan left p.1) (drew ∙ ap (λ m. draw m words) (sym is))
    ∙ ap (λ k. items ++ drawn plan k words) steps

-- nothing is left to draw
pub all_drawn : (plan : Plan) (items whole : List Actor) (left : ℕ) (words : Stream) → left ≡ 0 → items ++ drawn plan left words ≡ whole → items ≡ whole
all_drawn plan items whole left words none is = sym (append-nil items) ∙ ap (λ k. items ++ drawn plan k words) (sym none) ∙ is
