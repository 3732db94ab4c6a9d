-- An entry that is put in and answered.
use Rattle.std.proofs.Common.{◌≡◌, ℕ, true, false, cond, ◌&&◌, eqb, List, [], ◌∷◌, Some, None, ap, ◌∙◌, arith}
use Rattle.std.specs.Ordering.{is_lt}
use Rattle.std.proofs.lemmas.Bool.Decides.{nat_tests}
use Rattle.txn_model.specs.declared.pairs.Pair.{Pair}
use Rattle.history_model.specs.declared.entry.Entry.{Entry}
use Rattle.history_model.specs.History.{HistoryEntry, History, entry_cmp, with_entry}
use Rattle.history_core.specs.Answers.{is_of_item, HasNone, with_reply}

same : (n : ℕ) → eqb n n ≡ true
same n = grind (arith, nat_tests)

module _ (entry : Entry) (pairs : List Pair) where
  abbrev pub open_one : HistoryEntry
  open_one = record { entry = entry; pairs = None }

  abbrev pub answered_one : HistoryEntry
  answered_one = record { entry = entry; pairs = Some pairs }

  own : is_of_item entry.client entry.seq open_one ≡ true
  own = ap (λ b. b && eqb entry.seq entry.seq) (same entry.client) ∙ same entry.seq

  at_front : (h : History) → with_reply entry.client entry.seq pairs (open_one ∷ h) ≡ answered_one ∷ h
  at_front h = ap (λ b. cond b (answered_one ∷ h) (open_one ∷ with_reply entry.client entry.seq pairs h)) own

  pub inserted : (h : History) → HasNone entry.client entry.seq h → with_reply entry.client entry.seq pairs (with_entry open_one h) ≡ with_entry answered_one h
  inserted [] none = at_front []
  inserted (f ∷ h) none =
      elim (is_lt (entry_cmp entry f.entry)) as (λ b. with_reply entry.client entry.seq pairs (cond b (open_one ∷ f ∷ h) (f ∷ with_entry open_one h)) ≡ cond b (answered_one ∷ f ∷ h) (f ∷ with_entry answered_one h)) [
        | true ↦ at_front (f ∷ h)
        | false ↦ ap (λ b. cond b (record { entry = f.entry; pairs = Some pairs } ∷ with_entry open_one h) (f ∷ with_reply entry.client entry.seq pairs (with_entry open_one h))) none.0 ∙ ap (λ g. f ∷ g) (inserted h none.1)
      ]
