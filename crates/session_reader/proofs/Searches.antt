-- Searches from the front on, as the loops make them.
use Rattle.std.proofs.Common.{◌≡◌, ℕ, ◌+◌, Bool, true, false, cond, List, [], ◌∷◌, ◌++◌, Option, Some, None, is_none, option_map, slice_get, Result, Ok, Err, refl, sym, ap, ◌∙◌}
use Rattle.std.specs.Bool.{⊤}
use Rattle.std.specs.List.{position_from, enumerate_from, filter_map, flat_map, cons_option}
use Rattle.std.specs.Option.{option_or, ok_or}
use Rattle.std.specs.Prelude.{position}
use Rattle.txn_model.specs.declared.op.Op.{Op}
use Rattle.txn_model.proofs.FirstPlaces.{first_counted}
use Rattle.catalogue.specs.Plan.{Plan, PlainItem}
use Rattle.catalogue.specs.declared.actor.Actor.{Actor}
use Rattle.schedule.specs.Words.{actor_of}
use Rattle.session_draft.specs.Draft.{◌>>=◌}
use Rattle.session_reader.specs.Faults.{refuse}
use Rattle.session_reader.specs.FirstPlace.{found_in, found_of, first_place}
use Rattle.session_reader.specs.SessionOf.{actors_of}
use Rattle.session_reader.specs.declared.fault.OpAt.{OpAt}
use Rattle.session_reader.specs.declared.fault.SessionFault.{SessionFault}
use Rattle.session_reader.specs.declared.fault.SessionFault.TheVariants.{BadActor}

-- ---- operations

-- in the items of a client, which begin with this number
abbrev pub first_in_items : (List Op → Option ℕ) → ℕ → ℕ → List PlainItem → Option OpAt
first_in_items find client seq [] = None
first_in_items find client seq (item ∷ items) = option_or (found_in find client (seq, item)) (first_in_items find client (seq + 1) items)

-- in the clients, which begin with this one
abbrev pub first_in_clients : (List Op → Option ℕ) → ℕ → List (List PlainItem) → Option OpAt
first_in_clients find client [] = None
first_in_clients find client (items ∷ clients) = option_or (slice_get (found_of find client items) 0) (first_in_clients find (client + 1) clients)

first_of_items : (find : List Op → Option ℕ) (client seq : ℕ) (items : List PlainItem) → first_in_items find client seq items ≡ slice_get (filter_map (found_in find client) (enumerate_from seq items)) 0
first_of_items find client seq [] = refl
first_of_items find client seq (item ∷ items) = one (found_in find client (seq, item)) _ _ (first_of_items find client (seq + 1) items)
  where
    one : (o rest : Option OpAt) (behind : List OpAt) → rest ≡ slice_get behind 0 → option_or o rest ≡ slice_get (cons_option o behind) 0
    one (Some at) rest behind e = refl
    one None rest behind e = e

pub first_of_client : (find : List Op → Option ℕ) (client : ℕ) (items : List PlainItem) → first_in_items find client 1 items ≡ slice_get (found_of find client items) 0
first_of_client find client items = first_of_items find client 1 items

first_of_both : (xs ys : List OpAt) → option_or (slice_get xs 0) (slice_get ys 0) ≡ slice_get (xs ++ ys) 0
first_of_both [] ys = refl
first_of_both (x ∷ xs) ys = refl

first_of_clients : (find : List Op → Option ℕ) (client : ℕ) (clients : List (List PlainItem))
    → first_in_clients find client clients ≡ slice_get (flat_map (λ c. found_of find c.0 c.1) (enumerate_from client clients)) 0
first_of_clients find client [] = refl
first_of_clients find client (items ∷ clients) =
    ap (option_or (slice_get (found_of find client items) 0)) (first_of_clients find (client + 1) clients) ∙ first_of_both (found_of find client items) _

pub first_place_counted : (find : List Op → Option ℕ) (clients : List (List PlainItem)) → first_in_clients find 0 clients ≡ first_place find clients
first_place_counted find clients = first_of_clients find 0 clients

-- ---- the words of a schedule

-- the actors that the words name, which begin with word k
abbrev pub actors_from : Plan → ℕ → List (List ℕ) → Result (List Actor) SessionFault
actors_from plan k [] = Ok []
actors_from plan k (word ∷ words) = do
  actor ← ok_or (actor_of plan word) (BadActor k)
  actors ← actors_from plan (k + 1) words
  Ok (actor ∷ actors)

put_before : (actor : Actor) (actors : List Actor) (bad : Option ℕ) (rest : Result (List Actor) SessionFault) → rest ≡ (refuse BadActor bad >>= (λ _. Ok actors))
    → (rest >>= (λ list. Ok (actor ∷ list))) ≡ (refuse BadActor bad >>= (λ _. Ok (actor ∷ actors)))
put_before actor actors None rest e = ap (λ (r : Result (List Actor) SessionFault). r >>= (λ list. Ok (actor ∷ list))) e
put_before actor actors (Some k) rest e = ap (λ (r : Result (List Actor) SessionFault). r >>= (λ list. Ok (actor ∷ list))) e

counted : (plan : Plan) (k : ℕ) (words : List (List ℕ))
    → actors_from plan k words ≡ (refuse BadActor (position_from (λ word. is_none (actor_of plan word)) k words) >>= (λ _. Ok (filter_map (actor_of plan) words)))
counted plan k [] = refl
counted plan k (word ∷ words) =
    elim (actor_of plan word) as (λ o. (ok_or o (BadActor k) >>= (λ actor. actors_from plan (k + 1) words >>= (λ actors. Ok (actor ∷ actors))))
    ≡ (refuse BadActor (cond (is_none o) (Some k) (position_from (λ word. is_none (actor_of plan word)) (k + 1) words)) >>= (λ _. Ok (cons_option o (filter_map (actor_of plan) words))))) [
      | Some actor ↦ put_before actor _ _ _ (counted plan (k + 1) words)
      | None ↦ refl
    ]

pub actors_counted : (plan : Plan) (words : List (List ℕ)) → actors_from plan 0 words ≡ actors_of plan words
unfolding actors_of
actors_counted plan words = counted plan 0 words ∙ ap (λ (bad : Option ℕ). refuse BadActor bad >>= (λ _. Ok (filter_map (actor_of plan) words))) (first_counted (λ word. is_none (actor_of plan word)) words)
