-- The client that is found in the way is the least one.
use Rattle.std.proofs.Common.{◌≡◌, ◌≢◌, ℕ, zero, suc, ◌+◌, ◌<◌, ◌==◌, ◌&&◌, Bool, true, false, not, List, [], ◌∷◌, get_or, Option, Some, None, refl, sym, ap, subst, ◌∙◌, arith, if◌then◌else◌}
use Rattle.std.specs.List.{list_any}
use Rattle.txn_model.specs.declared.op.Op.{Op}
use Rattle.catalogue.specs.Plan.{Plan}
use Rattle.host_locks.specs.Conflict.{IsLeastInTheWay, IsFree}
use Rattle.core_model.specs.Locks.{held, clashes, holder_from}
use Rattle.core_model.specs.State.{ClientState, at_item, zero_stamp}
use Rattle.core_model.proofs.Granted.{differ}

-- whether the client at a place of a list that begins with client k stands in the way
abbrev stands : Plan → Op → ℕ → List ClientState → ℕ → Bool
stands plan op k clients j = list_any (clashes op) (held plan (k + j) (get_or clients j (at_item 0 1 zero_stamp)))

-- what is found among those from client k on
record IsFound (plan : Plan) (me : ℕ) (op : Op) (k : ℕ) (clients : List ClientState) (by : ℕ) : Type 0 where
  pub j : ℕ
  pub is : by ≡ k + j
  pub another : k + j ≢ me
  pub conflict : stands plan op k clients j ≡ true
  pub least : (i : ℕ) → i < j → k + i ≢ me → stands plan op k clients i ≡ false

abbrev Finds : Plan → ℕ → Op → ℕ → List ClientState → Option ℕ → Type 0
Finds plan me op k clients None = (j : ℕ) → k + j ≢ me → stands plan op k clients j ≡ false
Finds plan me op k clients (Some by) = IsFound plan me op k clients by

apart : (a b : ℕ) → not (a == b) ≡ true → a ≢ b
apart a b t e = grind arith

own : (a b : ℕ) → not (a == b) ≡ false → a ≡ b
own a b t = grind arith

nothing_held : (plan : Plan) (op : Op) (c : ℕ) → list_any (clashes op) (held plan c (at_item 0 1 zero_stamp)) ≡ false
nothing_held plan op c = refl

shift : (k j : ℕ) → k + suc j ≡ (k + 1) + j
shift k j = omega arith

found_behind : (plan : Plan) (me : ℕ) (op : Op) (k : ℕ) (x : ClientState) (clients : List ClientState) (o : Option ℕ) → (k ≢ me → list_any (clashes op) (held plan k x) ≡ false)
    → Finds plan me op (k + 1) clients o → Finds plan me op k (x ∷ clients) o
found_behind plan me op k x clients o first rest = by o rest
  where
    here : (i : ℕ) → i ≡ 0 → k + i ≢ me → list_any (clashes op) (held plan (k + i) x) ≡ false
    here i e n = let same : k ≡ k + i = omega arith in subst (λ (m : ℕ). m ≢ me → list_any (clashes op) (held plan m x) ≡ false) same first n

    behind : (j : ℕ) → stands plan op (k + 1) clients j ≡ stands plan op k (x ∷ clients) (suc j)
    behind j = ap (λ (m : ℕ). list_any (clashes op) (held plan m (get_or clients j (at_item 0 1 zero_stamp)))) (sym (shift k j))

    by : (r : Option ℕ) → Finds plan me op (k + 1) clients r → Finds plan me op k (x ∷ clients) r
    by None free = none
      where
        none : (j : ℕ) → k + j ≢ me → stands plan op k (x ∷ clients) j ≡ false
        none zero n = here 0 refl n
        none (suc j) n = sym (behind j) ∙ free j (subst (λ (m : ℕ). m ≢ me) (shift k j) n)
    by (Some b) found = record {
      j = suc found.j;
      is = found.is ∙ sym (shift k found.j);
      another = subst (λ (m : ℕ). m ≢ me) (sym (shift k found.j)) found.another;
      conflict = sym (behind found.j) ∙ found.conflict;
      least = least;
    }
      where
        least : (i : ℕ) → i < suc found.j → k + i ≢ me → stands plan op k (x ∷ clients) i ≡ false
        least zero lt n = here 0 refl n
        least (suc i) lt n = sym (behind i) ∙ found.least i (omega arith) (subst (λ (m : ℕ). m ≢ me) (shift k i) n)

finds : (plan : Plan) (me : ℕ) (op : Op) (k : ℕ) (clients : List ClientState) → Finds plan me op k clients (holder_from plan me op k clients)
finds plan me op k [] = λ j n. nothing_held plan op (k + j)
finds plan me op k (x ∷ clients) = by (not (k == me)) (list_any (clashes op) (held plan k x)) refl refl (λ first. found_behind plan me op k x clients (holder_from plan me op (k + 1) clients) first (finds plan me op (k + 1) clients))
  where
    by : (a b : Bool) → not (k == me) ≡ a → list_any (clashes op) (held plan k x) ≡ b → ((k ≢ me → list_any (clashes op) (held plan k x) ≡ false) → Finds plan me op k (x ∷ clients) (holder_from plan me op (k + 1) clients))
        → Finds plan me op k (x ∷ clients) (if a && b then Some k else holder_from plan me op (k + 1) clients)
    by true true ea eb rest =
        let here : k + 0 ≡ k = omega arith in
        record {
          j = 0;
          is = sym here;
          another = subst (λ (m : ℕ). m ≢ me) (sym here) (apart k me ea);
          conflict = subst (λ (m : ℕ). list_any (clashes op) (held plan m x) ≡ true) (sym here) eb;
          least = λ i lt n. absurd (omega arith);
        }
    by true false ea eb rest = rest (λ n. eb)
    by false b ea eb rest = rest (λ n. absurd (n (own k me ea)))

-- the locks of a client, by its number, stand in the way
abbrev pub blocks : Plan → List ClientState → Op → ℕ → Bool
blocks plan clients op c = list_any (clashes op) (held plan c (get_or clients c (at_item 0 1 zero_stamp)))

-- what the search among all clients answers, by their numbers
module _ (plan : Plan) (clients : List ClientState) (me : ℕ) (op : Op) where
  none_before : (j : ℕ) → 0 + j ≡ j
  none_before j = omega arith

  as_numbered : (j : ℕ) → stands plan op 0 clients j ≡ blocks plan clients op j
  as_numbered j = ap (λ (m : ℕ). list_any (clashes op) (held plan m (get_or clients j (at_item 0 1 zero_stamp)))) (none_before j)

  by_number : (o : Option ℕ) → Finds plan me op 0 clients o → (b : ℕ) → o ≡ Some b → IsLeastInTheWay (blocks plan clients op) me b
  by_number None found b e = cc
  by_number (Some by) found b e =
      let is : by ≡ b = cc in
      let same : found.j ≡ b = sym (none_before found.j) ∙ sym found.is ∙ is in
      record {
        another = λ own. found.another (none_before found.j ∙ same ∙ own);
        conflict = subst (λ (m : ℕ). blocks plan clients op m ≡ true) same (sym (as_numbered found.j) ∙ found.conflict);
        least = λ d lt n. sym (as_numbered d) ∙ found.least d (omega (arith, lt, same)) (λ own. n (sym (none_before d) ∙ own));
      }

  free_by_number : (o : Option ℕ) → Finds plan me op 0 clients o → o ≡ None → IsFree (blocks plan clients op) me
  free_by_number None free e = λ d n. sym (as_numbered d) ∙ free d (λ own. n (sym (none_before d) ∙ own))
  free_by_number (Some by) free e = cc

  pub least_of_holder : (by : ℕ) → holder_from plan me op 0 clients ≡ Some by → IsLeastInTheWay (blocks plan clients op) me by
  least_of_holder by is = by_number (holder_from plan me op 0 clients) (finds plan me op 0 clients) by is

  pub free_of_holder : holder_from plan me op 0 clients ≡ None → IsFree (blocks plan clients op) me
  free_of_holder is = free_by_number (holder_from plan me op 0 clients) (finds plan me op 0 clients) is

  -- there is only one such client
  only_one : (a b : ℕ) → IsLeastInTheWay (blocks plan clients op) me a → IsLeastInTheWay (blocks plan clients op) me b → a < b → ⊥
  only_one a b first second lt = differ first.conflict (second.least a lt first.another)

  pub holder_of_least : (by : ℕ) → IsLeastInTheWay (blocks plan clients op) me by → holder_from plan me op 0 clients ≡ Some by
  holder_of_least by least = by_case (holder_from plan me op 0 clients) refl
    where
      equal : (a b : ℕ) → (a < b → ⊥) → (b < a → ⊥) → a ≡ b
      equal a b f g = grind arith

      by_case : (o : Option ℕ) → holder_from plan me op 0 clients ≡ o → o ≡ Some by
      by_case None is = absurd (differ least.conflict (free_of_holder is by least.another))
      by_case (Some b) is = let found = least_of_holder b is in ap Some (equal b by (only_one b by found least) (only_one by b least found))

  pub holder_of_free : IsFree (blocks plan clients op) me → holder_from plan me op 0 clients ≡ None
  holder_of_free free = by_case (holder_from plan me op 0 clients) refl
    where
      by_case : (o : Option ℕ) → holder_from plan me op 0 clients ≡ o → o ≡ None
      by_case None is = refl
      by_case (Some b) is = let found = least_of_holder b is in absurd (differ found.conflict (free b found.another))
