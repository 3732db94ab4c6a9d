-- Needs and their lists: equal lists are equal needs, and no list is longer than four.
use Rattle.std.proofs.Common.{◌≡◌, ◌≤◌, List, [], ◌∷◌, length, refl, ap, arith}
use Rattle.txn_model.specs.Needs.{form_list, form_of, needs_list, needs_of}
use Rattle.txn_model.specs.declared.op.Form.{Form}
use Rattle.txn_model.specs.declared.op.Form.TheVariants.{Zero, One, Two, Three, Four}
use Rattle.txn_model.specs.declared.op.Need.{Need}
use Rattle.txn_model.specs.declared.op.Needs.{Needs}

form_of-form_list : (form : Form) → form_of (form_list form) ≡ form
form_of-form_list Zero = refl
form_of-form_list (One a) = refl
form_of-form_list (Two a b) = refl
form_of-form_list (Three a b c) = refl
form_of-form_list (Four a b c d) = refl

length-form_list-le : (form : Form) → length (form_list form) ≤ 4
length-form_list-le Zero = omega arith
length-form_list-le (One a) = omega arith
length-form_list-le (Two a b) = omega arith
length-form_list-le (Three a b c) = omega arith
length-form_list-le (Four a b c d) = omega arith

pub needs_of-needs_list : (needs : Needs) → needs_of (needs_list needs) ≡ needs
needs_of-needs_list needs = ap (λ form. record { 0 = form }) (form_of-form_list needs.0)

pub needs_list-needs_of : (list : List Need) → length list ≤ 4 → needs_list (needs_of list) ≡ list
needs_list-needs_of [] few = refl
needs_list-needs_of (a ∷ []) few = refl
needs_list-needs_of (a ∷ b ∷ []) few = refl
needs_list-needs_of (a ∷ b ∷ c ∷ []) few = refl
needs_list-needs_of (a ∷ b ∷ c ∷ d ∷ []) few = refl
needs_list-needs_of (a ∷ b ∷ c ∷ d ∷ e ∷ rest) few = absurd (omega arith)

pub length-needs_list-le : (needs : Needs) → length (needs_list needs) ≤ 4
length-needs_list-le needs = length-form_list-le needs.0
