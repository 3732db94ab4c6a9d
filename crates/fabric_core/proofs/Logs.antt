-- The clients' logs as they are kept, and what there is behind a move of one of them.
use Rattle.std.proofs.Common.{◌≡◌, true, false, ℕ, ◌-◌, ◌<◌, List, [], ◌∷◌, ◌++◌, length, length-set, get_or, set, slice_get, Some, inl, inr, refl, sym, ap, subst, ◌∙◌, arith}
use Rattle.std.specs.List.{list_any}
use Rattle.std.proofs.lemmas.List.{get_or-set_same, get_or-set_other, length_push}
use Rattle.txn_model.specs.declared.op.Op.{Op}
use Rattle.stage_layout.specs.Late.{is_hot}
use Rattle.stage_layout.specs.declared.layout.LayoutRow.{LayoutRow}
use Rattle.log_records.specs.Records.{PlainRecords}
use Rattle.catalogue.specs.Plan.{Plan}
use Rattle.core_model.proofs.Fewer.{same_or_not}
use Rattle.fabric_model.specs.State.{Records, no_records}
use Rattle.fabric_core.specs.Standing.{AreLogs, IsLog, log_room}

-- nothing is in a switch without tuples
pub none_hot : (ops : List Op) → list_any (λ op. is_hot [] op.tuple) ops ≡ false
none_hot [] = refl
none_hot (op ∷ ops) = none_hot ops

-- where an operation is in the switch, there is room for a record of each item
pub room_for_all : (rows : List LayoutRow) (ops : List Op) (items : ℕ) → list_any (λ op. is_hot rows op.tuple) ops ≡ true → log_room rows items ≡ items
room_for_all [] ops items hot = let clash : false ≡ true = sym (none_hot ops) ∙ hot in cc
room_for_all (row ∷ rows) ops items hot = refl

-- another log at a place
pub logs_set : (plan : Plan) (logs : List Records) (kept : List PlainRecords) (c : ℕ) (y : Records) (new : PlainRecords) → c < length logs → AreLogs plan logs kept → IsLog plan c y new → AreLogs plan (set logs c y) (set kept c new)
logs_set plan logs kept c y new within are is = record {
  count = length-set kept c new ∙ are.count ∙ sym (length-set logs c y);
  each = λ d other lt. elim (same_or_not d c) [
    | inl e ↦ subst (λ (n : ℕ). IsLog plan n (get_or (set logs c y) n no_records) (get_or (set kept c new) n other)) (sym e)
        (subst (λ (r : PlainRecords). IsLog plan c (get_or (set logs c y) c no_records) r) (sym (get_or-set_same kept c new other (omega (arith, within, are.count))))
        (subst (λ (z : Records). IsLog plan c z new) (sym (get_or-set_same logs c y no_records within)) is))
    | inr n ↦ subst (λ (r : PlainRecords). IsLog plan d (get_or (set logs c y) d no_records) r) (sym (get_or-set_other kept c d new other n))
        (subst (λ (z : Records). IsLog plan d z (get_or kept d other)) (sym (get_or-set_other logs c d y no_records n)) (are.each d other (omega (arith, lt, length-set logs c y))))
  ];
}

-- the last of a list
pub last_is : {X : Type 0} (xs : List X) (x y : X) → slice_get (xs ++ x ∷ []) (length (xs ++ x ∷ []) - 1) ≡ Some y → y ≡ x
last_is {X} xs x y is = same y x (sym is ∙ ap (slice_get (xs ++ x ∷ [])) place ∙ at_end xs)
  where
    same : (a b : X) → Some a ≡ Some b → a ≡ b
    same a b e = cc

    place : length (xs ++ x ∷ []) - 1 ≡ length xs
    place = omega (arith, length_push xs x)

    at_end : (l : List X) → slice_get (l ++ x ∷ []) (length l) ≡ Some x
    at_end [] = refl
    at_end (z ∷ l) = at_end l
