-- The test of what a packet can have had decides it.
use Rattle.std.proofs.Common.{◌≡◌, ℕ, ◌<◌, ◌==◌, ◌&&◌, nat_lt, Bool, true, false, List, [], ◌∷◌, Option, None, Some, if◌then◌else◌, option_map, refl, sym, ap, ap₂, ◌∙◌, arith}
use Rattle.std.specs.Ordering.{int_eq}
use Rattle.std.proofs.lemmas.Bool.Decides.{nat_tests, Decides-int_eq, Decides-eqb}
use Rattle.txn_model.specs.Places.{Places}
use Rattle.txn_model.specs.declared.pairs.Pair.{Pair}
use Rattle.switch_packet.specs.Packets.{PlainOutcome}
use Rattle.switch_packet.specs.Replay.{Replayed}
use Rattle.placement_model.specs.FirstOrder.{same_pairs, has_answer, can_have, follow}
use Rattle.placement_model.specs.Placements.{Task, HasAnswer, CanHave}

pub both : (a b : Bool) → (a && b) ≡ true → (a ≡ true) × (b ≡ true)
both true b e = (refl, e)
both false b e = cc

pub pairs_same : (ps qs : List Pair) → same_pairs ps qs ≡ true → ps ≡ qs
pairs_same [] [] e = refl
pairs_same [] (q ∷ qs) e = cc
pairs_same (p ∷ ps) [] e = cc
pairs_same (p ∷ ps) (q ∷ qs) e =
    let two = both (int_eq p.was q.was && int_eq p.now q.now) (same_pairs ps qs) e in
    let parts = both (int_eq p.was q.was) (int_eq p.now q.now) two.0 in
    let was = (Decides-int_eq p.was q.was).0 parts.0 in
    let now = (Decides-int_eq p.now q.now).0 parts.1 in
    let pair : p ≡ q = λ i. record { was = was i; now = now i } in
    ap₂ (λ (x : Pair) (l : List Pair). x ∷ l) pair (pairs_same ps qs two.1)

pub same_itself : (ps : List Pair) → same_pairs ps ps ≡ true
same_itself [] = refl
same_itself (p ∷ ps) = ap₂ (λ (a b : Bool). a && b) (ap₂ (λ (a b : Bool). a && b) ((Decides-int_eq p.was p.was).1 refl) ((Decides-int_eq p.now p.now).1 refl)) (same_itself ps)

answer_is : (outcome : Option PlainOutcome) (number : ℕ) (pairs : List Pair) → has_answer outcome number pairs ≡ true → HasAnswer outcome number pairs
answer_is None number pairs e = tt
answer_is (Some o) number pairs e = let two = both (o.number == number) (same_pairs o.pairs pairs) e in ((Decides-eqb o.number number).0 two.0, pairs_same o.pairs pairs two.1)

is_answer : (outcome : Option PlainOutcome) (number : ℕ) (pairs : List Pair) → HasAnswer outcome number pairs → has_answer outcome number pairs ≡ true
is_answer None number pairs h = refl
is_answer (Some o) number pairs h =
    ap₂ (λ (a b : Bool). a && b) ((Decides-eqb o.number number).1 h.0) (ap (same_pairs o.pairs) (sym h.1) ∙ same_itself o.pairs)

below : (a b : ℕ) → nat_lt a b ≡ true → a < b
below a b t = grind (arith, nat_tests)

is_below : (a b : ℕ) → a < b → nat_lt a b ≡ true
is_below a b t = grind (arith, nat_tests)

pub having : (task : Task) (number : ℕ) (pairs : List Pair) → can_have task number pairs ≡ true → CanHave task number pairs
having task number pairs e =
    let two = both (nat_lt task.intent.floor number) (has_answer task.outcome number pairs) e in
    record { above = below task.intent.floor number two.0; answer = answer_is task.outcome number pairs two.1 }

pub has : (task : Task) (number : ℕ) (pairs : List Pair) → CanHave task number pairs → can_have task number pairs ≡ true
has task number pairs h = ap₂ (λ (a b : Bool). a && b) (is_below task.intent.floor number h.above) (is_answer task.outcome number pairs h.answer)

-- a task and what follows it
pub record Followed (task : Task) (number : ℕ) (made : Replayed) (rest : Places → Option (List Task)) (order : List Task) : Type 0 where
  pub tasks : List Task
  pub whole : order ≡ task ∷ tasks
  pub can : CanHave task number made.pairs
  pub follows : rest made.after ≡ Some tasks

pub followed : (task : Task) (number : ℕ) (made : Replayed) (rest : Places → Option (List Task)) (order : List Task) → follow task number made rest ≡ Some order → Followed task number made rest order
followed task number made rest order e = by (can_have task number made.pairs) refl (rest made.after) refl e
  where
    by : (b : Bool) → can_have task number made.pairs ≡ b → (o : Option (List Task)) → rest made.after ≡ o → (if b then option_map (λ tasks. task ∷ tasks) o else None) ≡ Some order → Followed task number made rest order
    by true can (Some tasks) is h = record { tasks = tasks; whole = cc; can = having task number made.pairs can; follows = is }
    by true can None is h = cc
    by false can o is h = cc

pub follows : (task : Task) (number : ℕ) (made : Replayed) (rest : Places → Option (List Task)) (tasks : List Task) → CanHave task number made.pairs → rest made.after ≡ Some tasks → follow task number made rest ≡ Some (task ∷ tasks)
follows task number made rest tasks can is =
    ap (λ (b : Bool). if b then option_map (λ l. task ∷ l) (rest made.after) else None) (has task number made.pairs can) ∙ ap (option_map (λ (l : List Task). task ∷ l)) is
