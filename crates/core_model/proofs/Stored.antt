-- What moves make of the store: a tuple of the session gets a value, or nothing changes.
use Rattle.std.proofs.Common.{◌≡◌, ℕ, List, [], slice_get, unwrap_or, Option, Some, None, IsSome, refl, subst}
use Rattle.std.specs.FinMap as fin
use Rattle.std.proofs.lemmas.Option.{slice_get_within, get_or_from_slice_get}
use Rattle.txn_model.specs.declared.op.Op.{Op}
use Rattle.catalogue.specs.Plan.{Plan, script_of, script_at}
use Rattle.catalogue.specs.Sound.{IsSound}
use Rattle.catalogue.proofs.SoundLaws.{sound_script}

-- each operation of a sound session's scripts is on a tuple of the session
pub tuple_is_there : (plan : Plan) (c seq k : ℕ) (op : Op) → IsSound plan → slice_get (script_at plan c seq) k ≡ Some op → IsSome (fin.get plan.tuples op.tuple)
tuple_is_there plan c seq k op sound is = by (script_of plan c seq) refl is
  where
    by : (o : Option (List Op)) → script_of plan c seq ≡ o → slice_get (unwrap_or o []) k ≡ Some op → IsSome (fin.get plan.tuples op.tuple)
    by None here at = cc
    by (Some ops) here at =
        subst (λ (o : Op). IsSome (fin.get plan.tuples o.tuple)) (get_or_from_slice_get ops k op op at)
        ((sound_script plan c seq ops sound here).tuples k op (slice_get_within ops k op at))
