-- How far the text of a log's records was compared.
use Rattle.std.proofs.Common.{◌≡◌, ℕ, zero, suc, ◌+◌, ◌<◌, ◌≤◌, ◌^◌, List, [], ◌∷◌, ◌++◌, length, drop, Some, None, IfSome, refl, sym, ap, subst, ◌∙◌, append_assoc, arith}
use Rattle.std.specs.Prelude.{Option, slice_get, Result, Ok, Err}
use Rattle.std.specs.List.{AllByRecursion}
use Rattle.std.proofs.lemmas.List.{append-nil, length-append}
use Rattle.switch_packet.specs.Packets.{PlainIntent, PlainOutcome}
use Rattle.txn_model.proofs.OperandLaws.{drop_at_item}
use Rattle.intent_log.specs.declared.fault.CheckFault.{CheckFault}
use Rattle.intent_log.specs.declared.fault.CheckFault.TheVariants.{Failed, Changed}
use Rattle.intent_log.specs.Checking.{Begins, GoesOn, EndsAt, text_if}
use Rattle.intent_log.specs.LogText.{intent_text, outcome_text, records_text}
use Rattle.intent_log.specs.Told.{DifferAt, HasChecked}

-- the log begins with the records before this place
pub record HasCompared (told : Option (List ℕ)) (is : List PlainIntent) (os : List PlainOutcome) (k at : ℕ) : Type 0 where
  pub front : List ℕ
  pub len : at ≡ length front
  pub begins : Begins told front
  pub parts : records_text is os ≡ front ++ records_text (drop k is) (drop k os)

pub none_compared : (told : Option (List ℕ)) (is : List PlainIntent) (os : List PlainOutcome) → HasCompared told is os 0 0
none_compared None is os = record { front = []; len = refl; begins = tt; parts = refl }
none_compared (Some log) is os = record { front = []; len = refl; begins = refl; parts = refl }

next_one : (i : PlainIntent) (is : List PlainIntent) (os : List PlainOutcome) (k : ℕ) (o : Option PlainOutcome) → slice_get os k ≡ o
    → records_text (i ∷ is) (drop k os) ≡ intent_text i ++ (text_if o ++ records_text is (drop (k + 1) os))
next_one i is [] zero o e = rw (← e) refl
next_one i is [] (suc k) o e =
    let n : suc k + 1 ≡ suc (k + 1) = omega arith in
    rw (← e, n) refl
next_one i is (p ∷ os) zero o e = rw (← e) refl
next_one i is (p ∷ os) (suc k) o e =
    let n : suc k + 1 ≡ suc (k + 1) = omega arith in
    rw n (next_one i is os k o e)

-- one intent more, and its outcome where there is one
pub compared_more : (told : Option (List ℕ)) (is : List PlainIntent) (os : List PlainOutcome) (k at : ℕ) (i : PlainIntent) (o : Option PlainOutcome) (mid next : ℕ) (c : HasCompared told is os k at)
    → slice_get is k ≡ Some i → slice_get os k ≡ o → mid ≡ at + length (intent_text i) → next ≡ mid + length (text_if o)
    → ((front : List ℕ) → at ≡ length front → Begins told front → Begins told (front ++ intent_text i))
    → ((front : List ℕ) → mid ≡ length front → Begins told front → Begins told (front ++ text_if o))
    → HasCompared told is os (k + 1) next
compared_more told is os k at i o mid next c here there m n first second =
    let one = c.front ++ intent_text i in
    let one_len : mid ≡ length one = omega (arith, c.len, m, length-append c.front (intent_text i)) in
    let rest = records_text (drop (k + 1) is) (drop (k + 1) os) in
    record {
      front = one ++ text_if o;
      len = omega (arith, n, one_len, length-append one (text_if o));
      begins = second one one_len (first c.front c.len c.begins);
      parts = c.parts ∙ ap (λ (l : List PlainIntent). c.front ++ records_text l (drop k os)) (drop_at_item is k i here)
          ∙ ap (λ (t : List ℕ). c.front ++ t) (next_one i (drop (k + 1) is) os k o there)
          ∙ sym (append_assoc c.front (intent_text i) (text_if o ++ rest)) ∙ sym (append_assoc one (text_if o) rest);
    }

-- what is still to come behind a front
pub rest_of : (told : Option (List ℕ)) (is : List PlainIntent) (os : List PlainOutcome) (k at : ℕ) (i : PlainIntent) (o : Option PlainOutcome) (c : HasCompared told is os k at) → slice_get is k ≡ Some i
    → slice_get os k ≡ o → records_text is os ≡ c.front ++ (intent_text i ++ (text_if o ++ records_text (drop (k + 1) is) (drop (k + 1) os)))
rest_of told is os k at i o c here there =
    c.parts ∙ ap (λ (l : List PlainIntent). c.front ++ records_text l (drop k os)) (drop_at_item is k i here)
    ∙ ap (λ (t : List ℕ). c.front ++ t) (next_one i (drop (k + 1) is) os k o there)

no_more : (k : ℕ) (is : List PlainIntent) → length is ≤ k → drop k is ≡ []
no_more zero [] le = refl
no_more (suc k) [] le = refl
no_more zero (i ∷ is) le = absurd (omega arith)
no_more (suc k) (i ∷ is) le = no_more k is (omega arith)

-- all was compared
pub all_compared : (told : Option (List ℕ)) (is : List PlainIntent) (os : List PlainOutcome) (k at : ℕ) (c : HasCompared told is os k at) → length is ≤ k → records_text is os ≡ c.front
all_compared told is os k at c le =
    c.parts ∙ ap (λ (l : List PlainIntent). c.front ++ records_text l (drop k os)) (no_more k is le) ∙ append-nil c.front

-- ---- what a fault says of the whole text

changed_so : (told now : Option (List ℕ)) (text front piece rest : List ℕ) (at place : ℕ) → now ≡ told → at ≡ length front → Begins told front → text ≡ front ++ (piece ++ rest)
    → GoesOn now at piece (Err (Changed place)) → IfSome told (λ log. DifferAt log text place)
changed_so told now text front piece rest at place same is b parts goes =
    let there = subst (λ (t : Option (List ℕ)). GoesOn t at piece (Err (Changed place))) same goes in
    subst (λ (x : List ℕ). IfSome told (λ log. DifferAt log x place)) (sym parts) (there front rest is b)

-- an intent's text was found to differ
pub intent_changed : (told now : Option (List ℕ)) (is : List PlainIntent) (os : List PlainOutcome) (k at : ℕ) (i : PlainIntent) (f : CheckFault) → HasCompared told is os k at → now ≡ told
    → slice_get is k ≡ Some i → GoesOn now at (intent_text i) (Err f) → HasChecked told (records_text is os) (Err f)
intent_changed told now is os k at i Failed c same here goes = tt
intent_changed told now is os k at i (Changed place) c same here goes =
    changed_so told now (records_text is os) c.front (intent_text i) _ at place same c.len c.begins (rest_of told is os k at i (slice_get os k) c here refl) goes

-- an outcome's text was found to differ
pub outcome_changed : (told now : Option (List ℕ)) (is : List PlainIntent) (os : List PlainOutcome) (k at mid : ℕ) (i : PlainIntent) (o : Option PlainOutcome) (f : CheckFault) → HasCompared told is os k at
    → now ≡ told → slice_get is k ≡ Some i → slice_get os k ≡ o → GoesOn told at (intent_text i) (Ok mid) → GoesOn now mid (text_if o) (Err f) → HasChecked told (records_text is os) (Err f)
outcome_changed told now is os k at mid i o Failed c same here there first goes = tt
outcome_changed told now is os k at mid i o (Changed place) c same here there first goes =
    let one = c.front ++ intent_text i in
    let rest = records_text (drop (k + 1) is) (drop (k + 1) os) in
    let parts = rest_of told is os k at i o c here there ∙ sym (append_assoc c.front (intent_text i) (text_if o ++ rest)) in
    changed_so told now (records_text is os) one (text_if o) rest mid place same (omega (arith, c.len, first.0, length-append c.front (intent_text i))) (first.1 c.front c.len c.begins) parts goes

-- the end of the log was looked at
pub end_checked : (told now : Option (List ℕ)) (is : List PlainIntent) (os : List PlainOutcome) (k at : ℕ) (r : Result (Unit {0}) CheckFault) → HasCompared told is os k at → now ≡ told → length is ≤ k
    → EndsAt now at r → HasChecked told (records_text is os) r
end_checked told now is os k at (Ok done) c same le ends =
    let there = subst (λ (t : Option (List ℕ)). EndsAt t at (Ok done)) same ends in
    subst (λ (x : List ℕ). IfSome told (λ log. log ≡ x)) (sym (all_compared told is os k at c le)) (there c.front c.len c.begins)
end_checked told now is os k at (Err Failed) c same le ends = tt
end_checked told now is os k at (Err (Changed place)) c same le ends =
    let there = subst (λ (t : Option (List ℕ)). EndsAt t at (Err (Changed place))) same ends in
    subst (λ (x : List ℕ). IfSome told (λ log. DifferAt log x place)) (sym (all_compared told is os k at c le)) (there c.front c.len c.begins)

-- ---- records by their places

pub all_get : {X : Type 0} (P : X → Type 0) (xs : List X) (k : ℕ) (x : X) → AllByRecursion P xs → slice_get xs k ≡ Some x → P x
all_get P [] k x a e = absurd cc
all_get P (y ∷ xs) zero x a e = let same : y ≡ x = cc in subst P same a.0
all_get P (y ∷ xs) (suc k) x a e = all_get P xs k x a.1 e

pub all_if : {X : Type 0} (P : X → Type 0) (xs : List X) (k : ℕ) → AllByRecursion P xs → IfSome (slice_get xs k) P
all_if P [] k a = tt
all_if P (y ∷ xs) zero a = a.0
all_if P (y ∷ xs) (suc k) a = all_if P xs k a.1

pub if_fits : (o : Option PlainOutcome) (at : ℕ) → at + length (text_if o) < 2 ^ 64 → IfSome o (λ o. at + length (outcome_text o) < 2 ^ 64)
if_fits None at lt = tt
if_fits (Some o) at lt = lt

-- ---- the places of the text

-- the intent's text ends within the text, and so does its outcome's
pub place_behind : (told : Option (List ℕ)) (is : List PlainIntent) (os : List PlainOutcome) (k at : ℕ) (i : PlainIntent) (o : Option PlainOutcome) → HasCompared told is os k at
    → slice_get is k ≡ Some i → slice_get os k ≡ o → (at + length (intent_text i)) + length (text_if o) ≤ length (records_text is os)
place_behind told is os k at i o c here there =
    let rest = records_text (drop (k + 1) is) (drop (k + 1) os) in
    omega (
      arith,
      c.len,
      ap length (rest_of told is os k at i o c here there),
      length-append c.front (intent_text i ++ (text_if o ++ rest)),
      length-append (intent_text i) (text_if o ++ rest),
      length-append (text_if o) rest,
    )
