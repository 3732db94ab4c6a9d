-- The needs of an operation as a list, and the needs that have a list.
use Rattle.std.specs.Prelude.{List, [], ◌∷◌}
use Rattle.txn_model.specs.declared.op.Form.{Form}
use Rattle.txn_model.specs.declared.op.Form.TheVariants.{Zero, One, Two, Three, Four}
use Rattle.txn_model.specs.declared.op.Need.{Need}
use Rattle.txn_model.specs.declared.op.Needs.{Needs}

abbrev pub form_list : Form → List Need
form_list Zero = []
form_list (One a) = a ∷ []
form_list (Two a b) = a ∷ b ∷ []
form_list (Three a b c) = a ∷ b ∷ c ∷ []
form_list (Four a b c d) = a ∷ b ∷ c ∷ d ∷ []

abbrev pub needs_list : Needs → List Need
needs_list needs = form_list needs.0

abbrev pub form_of : List Need → Form
form_of [] = Zero
form_of (a ∷ []) = One a
form_of (a ∷ b ∷ []) = Two a b
form_of (a ∷ b ∷ c ∷ []) = Three a b c
form_of (a ∷ b ∷ c ∷ d ∷ _) = Four a b c d

-- the needs with this list; of a longer one with its first four
abbrev pub needs_of : List Need → Needs
needs_of list = record { 0 = form_of list }
