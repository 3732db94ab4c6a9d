-- A history that is run entry by entry is legal exactly where each entry agrees.
use Rattle.std.proofs.Common.{◌≡◌, ◌↔◌, ℕ, List, [], ◌∷◌, Option, Some, None, IsSome, All, unwrap_or, refl, sym, ap, subst}
use Rattle.std.specs.List.{AllByRecursion}
use Rattle.std.specs.FinMap as fin
use Rattle.std.proofs.lemmas.List.Elements.{recursion_from_All, All-from_recursion}
use Rattle.txn_model.specs.Serial.{serial, serial_from, serial_run}
use Rattle.txn_model.specs.Tuples.{Tuples}
use Rattle.txn_model.specs.declared.op.Op.{Op}
use Rattle.txn_model.specs.declared.pairs.Pair.{Pair}
use Rattle.txn_model.proofs.SerialLaws.{there-serial_from}
use Rattle.catalogue.specs.Plan.{Plan, script_of, script_at}
use Rattle.catalogue.specs.Sound.{IsSound}
use Rattle.catalogue.proofs.SoundLaws.{sound_script}
use Rattle.history_model.specs.History.{HistoryEntry, History}
use Rattle.history_model.specs.Legal.{HasReply, IsLegal}

-- the tuples of the operations are there
abbrev pub AreThere : Tuples → List Op → Type 0
AreThere m ops = AllByRecursion (λ op. IsSome (fin.get m op.tuple)) ops

module _ (script : ℕ → ℕ → List Op) (e : HistoryEntry) (h : History) (m : Tuples) where
  pub legal-next : HasReply e.pairs (serial (script e.entry.client e.entry.seq) m).reply → IsLegal script m (e ∷ h) ↔ IsLegal script (serial (script e.entry.client e.entry.seq) m).after h
  unfolding serial_run
  legal-next agrees = (λ legal. legal.1, λ rest. (agrees, rest))

  pub first-agrees : IsLegal script m (e ∷ h) → HasReply e.pairs (serial (script e.entry.client e.entry.seq) m).reply
  unfolding serial_run
  first-agrees legal = legal.0

pub legal-nil : (script : ℕ → ℕ → List Op) (m : Tuples) → IsLegal script m []
unfolding serial_run
legal-nil script m = tt

-- the script of each item of a sound session finds its tuples
pub there_at : (plan : Plan) (client seq : ℕ) → IsSound plan → AreThere plan.tuples (script_at plan client seq)
there_at plan client seq sound = by (script_of plan client seq) refl
  where
    by : (o : Option (List Op)) → script_of plan client seq ≡ o → AreThere plan.tuples (unwrap_or o [])
    by None e = tt
    by (Some ops) e = recursion_from_All (λ op. IsSome (fin.get plan.tuples op.tuple)) ops (sound_script plan client seq ops sound e).tuples

pub all_there : (m : Tuples) (ops : List Op) → AreThere m ops → All (λ op. IsSome (fin.get m op.tuple)) ops
all_there m ops there = All-from_recursion (λ op. IsSome (fin.get m op.tuple)) ops there

pub there_after : (script : List Op) (m after : Tuples) (ops : List Op) → after ≡ (serial script m).after → AreThere m ops → AreThere after ops
there_after script m after ops is there = subst (λ (n : Tuples). AreThere n ops) (sym is) (there-serial_from script [] m ops there)

-- an empty script is answered by nothing, and leaves the tuples
pub empty_reply : (script : List Op) (m : Tuples) → script ≡ [] → [] ≡ (serial script m).reply
unfolding serial_from
empty_reply script m e = ap (λ (ops : List Op). (serial ops m).reply) (sym e)

pub empty_after : (script : List Op) (m : Tuples) → script ≡ [] → m ≡ (serial script m).after
unfolding serial_from
empty_after script m e = ap (λ (ops : List Op). (serial ops m).after) (sym e)

-- what is left is legal from here on exactly where the whole is
module _ (plan : Plan) (m : Tuples) (whole : Type 0) where
  pub ended : (left : History) → left ≡ [] → IsLegal (script_at plan) m left ↔ whole → whole
  ended left is rest = rest.0 (subst (IsLegal (script_at plan) m) (sym is) (legal-nil (script_at plan) m))

  module _ (left later : History) (e : HistoryEntry) (is : left ≡ e ∷ later) (rest : IsLegal (script_at plan) m left ↔ whole)
      (reply : List Pair) (ran : reply ≡ (serial (script_at plan e.entry.client e.entry.seq) m).reply) where
    pub goes_on : (after : Tuples) → after ≡ (serial (script_at plan e.entry.client e.entry.seq) m).after → HasReply e.pairs reply → IsLegal (script_at plan) after later ↔ whole
    goes_on after becomes agrees =
        let one = legal-next (script_at plan) e later m (subst (HasReply e.pairs) ran agrees) in (
          λ legal. rest.0 (subst (IsLegal (script_at plan) m) (sym is) (one.1 (subst (λ (n : Tuples). IsLegal (script_at plan) n later) becomes legal))),
          λ w. subst (λ (n : Tuples). IsLegal (script_at plan) n later) (sym becomes) (one.0 (subst (IsLegal (script_at plan) m) is (rest.1 w))),
        )

    pub agreed : whole → HasReply e.pairs reply
    agreed w = subst (HasReply e.pairs) (sym ran) (first-agrees (script_at plan) e later m (subst (IsLegal (script_at plan) m) is (rest.1 w)))
