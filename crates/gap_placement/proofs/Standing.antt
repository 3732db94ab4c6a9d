-- The tasks of logs, by where they stand.
use Rattle.std.proofs.Common.{◌≡◌, ℕ, zero, suc, ◌+◌, ◌<◌, ◌≤◌, List, [], ◌∷◌, ◌++◌, map, length, slice_get, get_or, None, Some, refl, sym, ap, ap₂, ◌∙◌, arith}
use Rattle.std.proofs.lemmas.List.{map-append, length-append, get_or-append-add, length_push, append_assoc}
use Rattle.switch_packet.specs.Packets.{PlainIntent, PlainOutcome, PlainLog}
use Rattle.placement_model.specs.Placements.{Task, tasks_from, tasks_behind, tasks_of}
use Rattle.gap_placement.specs.Facts.{Each}
use Rattle.gap_placement.specs.Spots.{blank_log, blank_intent, log_at, task_of, IsSpot, spots_from, spots_behind}
use Rattle.gap_placement.specs.declared.spot.Spot.{Spot}

shift : (k i : ℕ) → k + suc i ≡ (k + 1) + i
shift k i = omega arith

module _ (logs : List PlainLog) (client : ℕ) where
  abbrev log : PlainLog
  log = log_at logs client

  pub client_tasks : (k : ℕ) (ins : List PlainIntent) (outs : List PlainOutcome)
      → ((i : ℕ) → get_or log.intents (k + i) blank_intent ≡ get_or ins i blank_intent)
      → ((i : ℕ) → slice_get log.outcomes (k + i) ≡ slice_get outs i)
      → map (task_of logs) (spots_from client k (length ins)) ≡ tasks_from client k ins outs
  client_tasks k [] outs same_ins same_outs = refl
  client_tasks k (intent ∷ ins) [] same_ins same_outs =
      let here : get_or log.intents k blank_intent ≡ intent = ap (λ (n : ℕ). get_or log.intents n blank_intent) {x = k} (omega arith) ∙ same_ins 0 in
      let none : slice_get log.outcomes k ≡ None = ap (slice_get log.outcomes) {x = k} (omega arith) ∙ same_outs 0 in
      let head : task_of logs (record { client = client; index = k }) ≡ record { client = client; index = k; intent = intent; outcome = None } = λ j. record { client = client; index = k; intent = here j; outcome = none j } in
      ap₂ (λ (t : Task) (l : List Task). t ∷ l) head
      (client_tasks (k + 1) ins [] (λ i. ap (λ (n : ℕ). get_or log.intents n blank_intent) (sym (shift k i)) ∙ same_ins (suc i)) (λ i. ap (slice_get log.outcomes) (sym (shift k i)) ∙ same_outs (suc i)))
  client_tasks k (intent ∷ ins) (o ∷ outs) same_ins same_outs =
      let here : get_or log.intents k blank_intent ≡ intent = ap (λ (n : ℕ). get_or log.intents n blank_intent) {x = k} (omega arith) ∙ same_ins 0 in
      let some : slice_get log.outcomes k ≡ Some o = ap (slice_get log.outcomes) {x = k} (omega arith) ∙ same_outs 0 in
      let head : task_of logs (record { client = client; index = k }) ≡ record { client = client; index = k; intent = intent; outcome = Some o } = λ j. record { client = client; index = k; intent = here j; outcome = some j } in
      ap₂ (λ (t : Task) (l : List Task). t ∷ l) head
      (client_tasks (k + 1) ins outs (λ i. ap (λ (n : ℕ). get_or log.intents n blank_intent) (sym (shift k i)) ∙ same_ins (suc i)) (λ i. ap (slice_get log.outcomes) (sym (shift k i)) ∙ same_outs (suc i)))

at_zero : (i : ℕ) → 0 + i ≡ i
at_zero i = omega arith

next_log : (logs front : List PlainLog) (client : ℕ) (this : PlainLog) (rest : List PlainLog) → logs ≡ front ++ this ∷ rest → length front ≡ client → log_at logs client ≡ this
next_log logs front client this rest e at =
    ap (λ (l : List PlainLog). get_or l client blank_log) e
    ∙ ap (λ (n : ℕ). get_or (front ++ this ∷ rest) n blank_log) {x = client} {y = length front + 0} (omega (arith, at))
    ∙ get_or-append-add front (this ∷ rest) 0 blank_log

pub tasks_are_behind : (logs front : List PlainLog) (client : ℕ) (rest : List PlainLog) → logs ≡ front ++ rest → length front ≡ client → map (task_of logs) (spots_behind client rest) ≡ tasks_behind client rest
tasks_are_behind logs front client [] e at = refl
tasks_are_behind logs front client (this ∷ rest) e at =
    let here = next_log logs front client this rest e at in
    let ins = ap (λ (l : PlainLog). l.intents) here in
    let outs = ap (λ (l : PlainLog). l.outcomes) here in
    map-append (task_of logs) (spots_from client 0 (length this.intents)) (spots_behind (client + 1) rest)
    ∙ ap₂ (λ (a b : List Task). a ++ b)
    (client_tasks logs client 0 this.intents this.outcomes
    (λ i. ap₂ (λ (l : List PlainIntent) (n : ℕ). get_or l n blank_intent) ins (at_zero i))
    (λ i. ap₂ (λ (l : List PlainOutcome) (n : ℕ). slice_get l n) outs (at_zero i)))
    (tasks_are_behind logs (front ++ this ∷ []) (client + 1) rest (e ∙ sym (append_assoc front (this ∷ []) rest)) (length_push front this ∙ ap (λ (n : ℕ). n + 1) at))

pub tasks_are : (logs : List PlainLog) → map (task_of logs) (spots_behind 0 logs) ≡ tasks_of logs
tasks_are logs = tasks_are_behind logs [] 0 logs refl refl

-- an intent stands at each
client_spots : (logs : List PlainLog) (client k n : ℕ) → client < length logs → k + n ≤ length (log_at logs client).intents → Each (IsSpot logs) (spots_from client k n)
client_spots logs client k zero lt le i s e = cc
client_spots logs client k (suc n) lt le zero s e =
    let is : IsSpot logs (record { client = client; index = k }) = record { client = lt; index = omega (arith, le) } in
    let same : record { client = client; index = k } ≡ s = cc in
    let P : Spot → Type 0 = IsSpot logs in
    rw same at is
client_spots logs client k (suc n) lt le (suc i) s e = client_spots logs client (k + 1) n lt (omega (arith, le)) i s e

pub each_append : {X : Type 0} (P : X → Type 0) (xs ys : List X) → Each P xs → Each P ys → Each P (xs ++ ys)
each_append P [] ys a b i x e = b i x e
each_append P (y ∷ xs) ys a b zero x e = a 0 x e
each_append P (y ∷ xs) ys a b (suc i) x e = each_append P xs ys (λ j z f. a (suc j) z f) b i x e

pub spots_stand_behind : (logs front : List PlainLog) (client : ℕ) (rest : List PlainLog) → logs ≡ front ++ rest → length front ≡ client → Each (IsSpot logs) (spots_behind client rest)
spots_stand_behind logs front client [] e at = λ i s f. cc
spots_stand_behind logs front client (this ∷ rest) e at =
    let here = next_log logs front client this rest e at in
    let n = ap length e ∙ length-append front (this ∷ rest) in
    let m = ap (λ (l : PlainLog). length l.intents) here in
    each_append (IsSpot logs) (spots_from client 0 (length this.intents)) (spots_behind (client + 1) rest)
    (client_spots logs client 0 (length this.intents) (omega (arith, n, at)) (omega (arith, m)))
    (spots_stand_behind logs (front ++ this ∷ []) (client + 1) rest (e ∙ sym (append_assoc front (this ∷ []) rest)) (length_push front this ∙ ap (λ (k : ℕ). k + 1) at))

pub spots_stand : (logs : List PlainLog) → Each (IsSpot logs) (spots_behind 0 logs)
spots_stand logs = spots_stand_behind logs [] 0 logs refl refl
